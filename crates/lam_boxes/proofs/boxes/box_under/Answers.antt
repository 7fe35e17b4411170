use Rattle.std.proofs.Common.{◌≡◌, sym, ◌∙◌, ap, subst, true, false, None, SFits, w64, rules, arith}
use Rattle.std.proofs.lemmas.Int.{ints, to_z-of_z}
use Rattle.lam_solve.specs.inside.Parts.{IsPosed}
use Rattle.lam_solve.proofs.Radius.{chosen}
use Rattle.lam_boxes.specs.inside.Boxes.{bears, box_at, box_under}
use Rattle.lam_boxes.specs.inside.Centres.{guess}
use Rattle.lam_boxes.specs.inside.Residuals.{forces}
use Rattle.lam_boxes.proofs.Truth.{in-range, unchosen}
use Rattle.lam_boxes.proofs.boxes.box_under.Goals as goal

pub returns-then-not-bears-clause-value : goal.returns-then-not-bears-clause-value
unfolding box_under
returns-then-not-bears-clause-value g c =
    let f-floor : SFits w64 c.args.scale.now.floor = search rules in
    let f-most : SFits w64 c.args.shape.now.most = search rules in
    let floor = to_z-of_z w64 c.args.scale.now.floor f-floor in
    let most = to_z-of_z w64 c.args.shape.now.most f-most in
    let bears-is = c.bears.ensures ∙ (λ i. bears (floor i) (most i) c.args.load.now) in
    let e : c.bears.result ≡ false = cc in
    unchosen _ _ None (sym bears-is ∙ e)

pub forces-loads-requires : goal.forces-loads-requires
forces-loads-requires g c =
    let f-floor : SFits w64 c.args.scale.now.floor = search rules in
    let f-most : SFits w64 c.args.shape.now.most = search rules in
    let floor = to_z-of_z w64 c.args.scale.now.floor f-floor in
    let most = to_z-of_z w64 c.args.shape.now.most f-most in
    let bears-is = c.bears.ensures ∙ (λ i. bears (floor i) (most i) c.args.load.now) in
    let e : c.bears.result ≡ true = cc in
    let is = c.requires.scale in
    let thick = c.requires.shape.most in
    subst (λ h. IsPosed c.args.scale.now h c.args.load.now) (sym most) (record {
      scaled = is;
      thick = thick.least;
      thin = thick.greatest;
      range = in-range c.args.scale.now.floor c.args.shape.now.most c.args.load.now (omega (arith, ints, is.floor)) (omega (arith, ints, thick.least)) c.requires.membrane (sym bears-is ∙ e);
    })

pub returns-clause-value : goal.returns-clause-value
unfolding box_under
returns-clause-value g c =
    let n = g.N.Enclosure.numbers in
    let f-floor : SFits w64 c.args.scale.now.floor = search rules in
    let f-most : SFits w64 c.args.shape.now.most = search rules in
    let floor = to_z-of_z w64 c.args.scale.now.floor f-floor in
    let most = to_z-of_z w64 c.args.shape.now.most f-most in
    let bears-is = c.bears.ensures ∙ (λ i. bears (floor i) (most i) c.args.load.now) in
    let e : c.bears.result ≡ true = cc in
    let shape = c.args.shape.now in
    let scale = c.args.scale.now in
    let loads = c.forces-loads.ensures.value ∙ ap (λ h. forces n.calc scale.q0 h c.args.load.now) most in
    let centre = c.guess-centre.ensures ∙ ap (guess n shape.extension) loads in
    c.box_at.ensures.value ∙ (λ i. box_at n scale shape (loads i) (centre i)) ∙ chosen _ _ None (sym bears-is ∙ e)
