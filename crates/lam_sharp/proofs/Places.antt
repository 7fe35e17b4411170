-- Values near 1 at the places of a wall.
use Rattle.std.proofs.Common.{◌≡◌, refl, ap, subst, ℕ, zero, suc, ℤ, pos, ◌+ℤ◌, ◌*ℤ◌, List, [], ◌∷◌, Option, Some, None, slice_get, get_or, All, IsSomeAnd}
use Rattle.std.proofs.lemmas.Option.{get_or_from_slice_get, same_Some, slice_get_within}
use Rattle.lam_fraction.specs.Fraction.{ℚ, whole, ◌≤ℚ◌, ◌<ℚ◌}
use Rattle.lam_fraction.proofs.FractionOrder.{ordered_rationals}
use Rattle.lam_fraction.proofs.Order as Order
use Rattle.lam_fraction.proofs.Rationals.{below_then_at_most}
use Rattle.lam_stock.specs.declared.item.Item.{Item}
use Rattle.lam_stock.specs.PlyLaw.{Side}
use Rattle.lam_stock.specs.Stock.{WithinLimits}
use Rattle.lam_stock.proofs.StrengthBounds.{strengths_kept}
use Rattle.lam_job.specs.declared.load.Load.{Load}
use Rattle.lam_job.specs.LoadOf.{load_of}
use Rattle.lam_job.specs.Schedule.{wall_of}
use Rattle.lam_job.specs.Wall.{Placed, placed_from, placed_plies, wall_thickness}
use Rattle.lam_job.specs.Strength.{Face, stress_at}
use Rattle.lam_job.specs.Near.{NearRatio}
use Rattle.lam_sharp.specs.NearPlaces.{NearOneThere, NearOnePlaces, HardlyAboveStands, HangsWhereNear, RatioEnds, CaseRatioEnds}
use Rattle.lam_sharp.proofs.NearValues.{stands_below, near_one_is_near, nearly_one_bounds}

-- ---- the items of placed plies

placed_item : (z : ℤ) (wall : List Item) (k : ℕ) (p : Placed) → slice_get (placed_from z wall) k ≡ Some p → slice_get wall k ≡ Some p.item
placed_item z [] k p e = absurd (let n : None ≡ Some p = e in cc)
placed_item z (j ∷ rest) zero p e = ap (λ (q : Placed). Some q.item) (same_Some _ p e)
placed_item z (j ∷ rest) (suc k) p e = placed_item (z +ℤ pos 2 *ℤ j.lamina.t) rest k p e

-- what holds of all items of a list holds of one that is listed
of_listed : (P : Item → Type 0) (wall : List Item) → All P wall → (k : ℕ) (i : Item) → slice_get wall k ≡ Some i → P i
of_listed P wall all k i e = subst P (get_or_from_slice_get wall k i i e) (all k i (slice_get_within wall k i e))

within : (wall : List Item) → All WithinLimits wall → (k : ℕ) (p : Placed) → slice_get (placed_plies wall) k ≡ Some p → WithinLimits p.item
within wall all k p e = of_listed WithinLimits wall all k p.item (placed_item _ wall k p e)

-- what follows of a value that is there
some_and : {A : Type 0} (P Q : A → Type 0) (o : Option A) → ((x : A) → o ≡ Some x → P x → Q x) → IsSomeAnd o P → IsSomeAnd o Q
some_and P Q None f h = h
some_and P Q (Some x) f h = f x refl h

-- ---- the laws

near_there : (wall : List Item) (load : Load) (p : Placed) (face : Face) (side : Side) (factor : ℤ) → WithinLimits p.item → NearOneThere wall load p face side factor → NearRatio wall load p face side factor
near_there wall load p face side factor is near f solves =
    let n = near_one_is_near p.item (stress_at f p face side) factor is (near f solves) in
    (n.stands, n.fails)

pub near_one_places : NearOnePlaces
near_one_places stock job listed at all near =
    some_and _ _ (slice_get job.cases at.case) (λ case asked h.
    some_and _ _ (slice_get (placed_plies (wall_of stock job listed)) at.ply) (λ p found k.
    (k.0, near_there (wall_of stock job listed) (load_of case.kind) p at.face at.side case.factor (within (wall_of stock job listed) all at.ply p found) k.1)) h) near

pub hardly_above_stands : HardlyAboveStands
hardly_above_stands wall load factor all hardly ply p found face side has f solves =
    stands_below (strengths_kept (within wall all ply p found).limits) (stress_at f p face side) factor (hardly ply p found face side has f solves)

pub hangs_where_near : HangsWhereNear
hangs_where_near stock job listed at all keeps range near hardly panels = record {
  rules = keeps;
  range = range;
  near = near_one_places stock job listed at all near;
  factors = record {
    cases = λ k d short. hardly_above_stands (wall_of stock job listed) (load_of (get_or job.cases k d).kind) (get_or job.cases k d).factor all (hardly k d short);
    panels = panels;
  };
}

not_both : {v : ℚ} → whole (pos 1) <ℚ v → ¬ (v ≤ℚ whole (pos 1))
not_both h k = Order.irreflexive ordered_rationals (whole (pos 1)) (below_then_at_most h k)

pub ratio_ends : RatioEnds
ratio_ends wall load ply p face side f r all found has solves least value ratio =
    not_both (nearly_one_bounds p.item (stress_at f p face side) r (within wall all ply p found) least value) (ratio p found face side has f solves)

pub case_ratio_ends : CaseRatioEnds
case_ratio_ends stock job listed case ply c p face side f r all asked found has solves least value ratio =
    ratio_ends (wall_of stock job listed) (load_of c.kind) ply p face side f r all found has solves least value (ratio c asked)
