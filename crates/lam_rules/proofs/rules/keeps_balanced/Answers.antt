use Rattle.std.proofs.Common.{◌≡◌, refl, sym, ◌∙◌, ap, subst, get_or, true, false, All, Some, slice_get, IsSomeAnd}
use Rattle.std.proofs.lemmas.List.{take_all}
use Rattle.std.proofs.lemmas.List.Elements.{All-more}
use Rattle.lam_stock.specs.declared.item.ItemNo.{ItemNo}
use Rattle.lam_job.specs.Rules.{IsSlanted, IsBalanced}
use Rattle.lam_job.proofs.Listed.{known-item}
use Rattle.lam_rules.proofs.rules.keeps_balanced.Goals as goal
use Rattle.lam_rules.proofs.rules.keeps_balanced.Goals.{else-is_slanted-via-then-is_slanted+else-not-is_balanced, else-is_slanted-via-else-is_slanted}

pub loop-ply-preserved : goal.loop-ply-preserved
loop-ply-preserved c =
    let stock = c.args.stock.now in
    let plies = c.args.plies.now in
    let k = c.loop-ply.ply-index in
    let i = c.index-items-ply.result in
    let here : i ≡ get_or stock (get_or plies k (record { 0 = 0 })).0 i
    = c.index-items-ply.is ∙ ap (λ items. get_or items (get_or plies k (record { 0 = 0 })).0 i) c.items.ensures.items in
    let found : slice_get stock (get_or plies k (record { 0 = 0 })).0 ≡ Some i
    = known-item stock plies k (record { 0 = 0 }) i c.loop-ply-test.true c.requires.known ∙ ap Some (sym here) in
    All-more (λ (ply : ItemNo). IsSomeAnd (slice_get stock ply.0) IsSlanted → IsBalanced stock plies ply) plies k (record { 0 = 0 }) c.loop-ply-test.true c.loop-ply.invariant
    (λ s. elim c.else-is_slanted.branch [
      | else-is_slanted-via-then-is_slanted+else-not-is_balanced w ↦ w.is_balanced.ensures.0 w.if-not-is_balanced.false
      | else-is_slanted-via-else-is_slanted w ↦ absurd (let e : false ≡ true = sym w.if-is_slanted.false ∙ c.is_slanted.ensures.1 (subst (λ o. IsSomeAnd o IsSlanted) found s) in cc)
    ])

pub returns : goal.returns
returns c = (
  (λ t asked. subst (All (λ (ply : ItemNo). IsSomeAnd (slice_get c.args.stock.now ply.0) IsSlanted → IsBalanced c.args.stock.now c.args.plies.now ply))
      (take_all c.loop-ply.ply-index c.args.plies.now c.loop-ply-test.false) c.loop-ply.invariant),
  (λ kept. refl),
)
