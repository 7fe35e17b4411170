use Rattle.std.proofs.Common.{◌++◌, ◌∙◌, ap, sym, take, drop, append_assoc}
use Rattle.std.proofs.lemmas.List.{take_rest, take-append-drop}
use Rattle.lam_report.proofs.Handing.{Hands-then}
use Rattle.lam_report.proofs.pieces.Pieces.text.Goals as goal

pub loop-rest-preserved : goal.loop-rest-preserved
loop-rest-preserved g c =
    let so_far = c.loop-rest.invariant.passed in
    let done = so_far.0 in
    let rest = c.loop-rest.rest.now in
    let size = c.min-size.result in
    let text =
    so_far.1 ∙ ap (λ t. done ++ t) (sym (take-append-drop size rest)) ∙ sym (append_assoc done (take size rest) (drop size rest))
    ∙ ap (λ t. done ++ take size rest ++ t) (sym (take_rest rest size)) in
    record { passed = (done ++ take size rest, text, Hands-then so_far.2 c.part.ensures) }
