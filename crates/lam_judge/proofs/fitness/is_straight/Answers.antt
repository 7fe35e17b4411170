use Rattle.std.proofs.Common.{◌≡◌, refl, sym, ◌∙◌, ap, subst, get_or, true, false, All}
use Rattle.std.proofs.lemmas.List.{take_all}
use Rattle.lam_job.specs.Rules.{IsSlanted}
use Rattle.lam_job.specs.Schedule.{items_of}
use Rattle.lam_rules.proofs.Among.{none_among}
use Rattle.lam_rules.proofs.SlantedPlies.{slanted_at, straight_more}
use Rattle.lam_judge.proofs.fitness.is_straight.Goals as goal

pub returns-then-is_slanted : goal.returns-then-is_slanted
returns-then-is_slanted c =
    let k = c.loop-ply.ply-index in
    let i = c.index-items-ply.result in
    let here : i ≡ get_or c.args.stock.now (get_or c.args.plies.now k (record { 0 = 0 })).0 i
    = c.index-items-ply.is ∙ ap (λ items. get_or items (get_or c.args.plies.now k (record { 0 = 0 })).0 i) c.items.ensures.items in (
      (λ t. absurd (let e : false ≡ true = t in cc)),
      (λ all. absurd (none_among IsSlanted (items_of c.args.stock.now c.args.plies.now) all
          (slanted_at c.args.stock.now c.args.plies.now k (record { 0 = 0 }) i c.requires.known c.loop-ply-test.true
          (subst IsSlanted here (c.is_slanted.ensures.0 c.if-is_slanted.true))))),
    )

pub loop-ply-preserved : goal.loop-ply-preserved
loop-ply-preserved c =
    let k = c.loop-ply.ply-index in
    let i = c.index-items-ply.result in
    let here : i ≡ get_or c.args.stock.now (get_or c.args.plies.now k (record { 0 = 0 })).0 i
    = c.index-items-ply.is ∙ ap (λ items. get_or items (get_or c.args.plies.now k (record { 0 = 0 })).0 i) c.items.ensures.items in
    straight_more c.args.stock.now c.args.plies.now k (record { 0 = 0 }) i c.requires.known c.loop-ply-test.true c.loop-ply.invariant
    (λ s. let e : false ≡ true = sym c.if-is_slanted.false ∙ c.is_slanted.ensures.1 (subst IsSlanted (sym here) s) in cc)

pub returns : goal.returns
returns c = (
  (λ t. subst (λ plies. All (λ i. ¬ IsSlanted i) (items_of c.args.stock.now plies)) (take_all c.loop-ply.ply-index c.args.plies.now c.loop-ply-test.false) c.loop-ply.invariant),
  (λ all. refl),
)
