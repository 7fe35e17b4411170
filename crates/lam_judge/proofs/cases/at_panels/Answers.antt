use Rattle.std.proofs.Common.{◌≡◌, refl, sym, ◌∙◌, ap, length, FitsSigned, w64, arith}
use Rattle.std.proofs.lemmas.Int.{ints, to_z-of_z}
use Rattle.std.proofs.lemmas.Option.{slice_get_read}
use Rattle.lam_job.specs.JobData.{PanelData}
use Rattle.lam_job.specs.Ranges.{IsFactor}
use Rattle.lam_plate.specs.inside.Formulas as plate
use Rattle.lam_judge.specs.inside.Findings.{at_panels, found}
use Rattle.lam_judge.specs.inside.Judged.{panel_over}
use Rattle.lam_judge.specs.inside.Scales.{fine}
use Rattle.lam_judge.proofs.PlacesWalked.{panels-none, panels-one}
use Rattle.lam_judge.proofs.Walked.{all, more, settled}
use Rattle.lam_judge.proofs.cases.at_panels.Goals as goal

pub loop-number-init : goal.loop-number-init
loop-number-init c = refl

pub panel_verdict-verdict-requires : goal.panel_verdict-verdict-requires
panel_verdict-verdict-requires c =
    let asked : IsFactor c.panel.inside.factor = c.panel.invariant.factor in
    let fits : FitsSigned w64 c.panel.inside.factor = omega (arith, ints, asked.least, asked.greatest) in
    let factor = to_z-of_z w64 c.panel.inside.factor fits in
    record {
      wall = c.requires.wall (omega (arith, c.loop-number-test.true));
      factor = record { least = omega (arith, ints, factor, asked.least); greatest = omega (arith, ints, factor, asked.greatest) };
    }

pub returns-then-is_settled : goal.returns-then-is_settled
unfolding panel_over
returns-then-is_settled c =
    let V = panel_over fine c.args.scale.now.q0 c.args.wall.now in
    let d = c.index-panels-number in
    let k = c.loop-number.number in
    let at = slice_get_read c.args.panels.now (length c.args.panels.now) k d.result refl c.loop-number-test.true d.is in
    let asked : IsFactor c.panel.inside.factor = c.panel.invariant.factor in
    let fits : FitsSigned w64 c.panel.inside.factor = omega (arith, ints, asked.least, asked.greatest) in
    let factor = to_z-of_z w64 c.panel.inside.factor fits ∙ ap (λ (p : PanelData). p.factor) c.panel.view_is in
    let verdict : c.panel_verdict-verdict.result ≡ V d.result = c.panel_verdict-verdict.ensures.value ∙ ap (plate.panel_verdict fine c.args.scale.now.q0 c.args.wall.now d.result) factor in
    settled (at_panels V) (λ k p. found (V p) k) (panels-none V) (panels-one V) c.args.panels.now
    _ c.loop-number.found c.then-found.result k d.result c.of.result at (c.of.ensures ∙ ap (λ v. found v k) verdict) c.loop-number.invariant c.then-found.ensures (sym c.is_settled.ensures ∙ c.if-is_settled.true)

pub loop-number-preserved : goal.loop-number-preserved
unfolding panel_over
loop-number-preserved c =
    let V = panel_over fine c.args.scale.now.q0 c.args.wall.now in
    let d = c.index-panels-number in
    let k = c.loop-number.number in
    let at = slice_get_read c.args.panels.now (length c.args.panels.now) k d.result refl c.loop-number-test.true d.is in
    let asked : IsFactor c.panel.inside.factor = c.panel.invariant.factor in
    let fits : FitsSigned w64 c.panel.inside.factor = omega (arith, ints, asked.least, asked.greatest) in
    let factor = to_z-of_z w64 c.panel.inside.factor fits ∙ ap (λ (p : PanelData). p.factor) c.panel.view_is in
    let verdict : c.panel_verdict-verdict.result ≡ V d.result = c.panel_verdict-verdict.ensures.value ∙ ap (plate.panel_verdict fine c.args.scale.now.q0 c.args.wall.now d.result) factor in
    more (at_panels V) (λ k p. found (V p) k) (panels-none V) (panels-one V) c.args.panels.now
    _ c.loop-number.found c.then-found.result k d.result c.of.result at (c.of.ensures ∙ ap (λ v. found v k) verdict) c.loop-number.invariant c.then-found.ensures

pub returns : goal.returns
returns c = all (at_panels (panel_over fine c.args.scale.now.q0 c.args.wall.now)) (λ k p. found (panel_over fine c.args.scale.now.q0 c.args.wall.now p) k) (panels-none _) (panels-one _) c.args.panels.now _ c.loop-number.found c.loop-number.number c.loop-number-test.false c.loop-number.invariant
