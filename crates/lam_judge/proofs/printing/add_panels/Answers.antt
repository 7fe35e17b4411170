use Rattle.std.proofs.Common.{◌≡◌, sym, ◌∙◌, ap, subst, ◌<◌, ℕ, List, map, take, length, Some, IsSomeAnd, ◌++◌, [], ◌∷◌, arith}
use Rattle.std.specs.declared.option.Option.{Option}
use Rattle.std.proofs.lemmas.List.{length-map, length-take, map_more, take_all}
use Rattle.lam_judge.specs.Printed.{Printed}
use Rattle.lam_judge.specs.inside.Ratios.{panel_ratio}
use Rattle.lam_judge.specs.inside.Scales.{fine}
use Rattle.lam_judge.proofs.printing.add_panels.Goals as goal

abbrev with_panels : Printed → Option (List ℕ) → Printed
with_panels p ratios = record p { panels = ratios }

pub loop-panel-init : goal.loop-panel-init
loop-panel-init c = ap (with_panels c.args.room.now) c.requires.none

pub add_panel-requires : goal.add_panel-requires
add_panel-requires c =
    let f = panel_ratio fine c.args.scale.now.q0 c.args.wall.now in
    let front = take c.loop-panel.panel-index c.args.panels.now in
    let a = length-map front f in
    let b = length-take c.loop-panel.panel-index c.args.panels.now in
    subst (λ o. IsSomeAnd o (λ ratios. length ratios < 8)) (sym (ap (λ (p : Printed). p.panels) c.loop-panel.invariant)) (omega (arith, a, b, c.loop-panel-test.true, c.requires.few))

pub loop-panel-preserved : goal.loop-panel-preserved
unfolding panel_ratio
loop-panel-preserved c =
    let f = panel_ratio fine c.args.scale.now.q0 c.args.wall.now in
    let k = c.loop-panel.panel-index in
    let d = c.panel-item in
    let so_far = map f (take k c.args.panels.now) in
    let was : c.loop-panel.room.panels ≡ Some so_far = ap (λ (p : Printed). p.panels) c.loop-panel.invariant in
    let ratio : c.printed_panel.result ≡ f d.result = c.printed_panel.ensures.value in
    let more = map_more f c.args.panels.now k d.result c.loop-panel-test.true in
    c.add_panel.ensures so_far was
    ∙ (λ i. with_panels (c.loop-panel.invariant i) (Some (so_far ++ ratio i ∷ [])))
    ∙ ap (λ x. with_panels c.args.room.now (Some (so_far ++ f x ∷ []))) d.is
    ∙ ap (λ ratios. with_panels c.args.room.now (Some ratios)) (sym more)

pub returns : goal.returns
returns c =
    let f = panel_ratio fine c.args.scale.now.q0 c.args.wall.now in
    c.loop-panel.invariant ∙ ap (λ xs. with_panels c.args.room.now (Some (map f xs))) (take_all c.loop-panel.panel-index c.args.panels.now c.loop-panel-test.false)
