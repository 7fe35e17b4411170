-- The first place that fails in a box, and where it lies in a wall that begins with the plies that were asked.
use Rattle.std.proofs.Common.{◌≡◌, refl, sym, ◌∙◌, ap, subst, ℕ, zero, suc, ◌+◌, ℤ, pos, ◌+ℤ◌, ◌*ℤ◌, Bool, true, false, List, [], ◌∷◌, ◌++◌, slice_get, Option, Some, None, arith}
use Rattle.std.specs.Prelude.{if◌then◌else◌}
use Rattle.std.proofs.lemmas.Option.{same_Some}
use Rattle.lam_fraction.specs.numbers.Numbers.{Numbers}
use Rattle.lam_number.specs.declared.strength.FaceStrain.{FaceStrain}
use Rattle.lam_number.specs.declared.strength.Verdict.{Verdict}
use Rattle.lam_number.specs.declared.strength.Verdict.TheVariants.{Meets, Fails, Straddles}
use Rattle.lam_stock.specs.declared.item.Item.{Item}
use Rattle.lam_stock.specs.declared.item.Kind.{Kind}
use Rattle.lam_stock.specs.declared.item.Kind.TheVariants.{Ply, Pair}
use Rattle.lam_job.specs.Strength.{HasSide}
use Rattle.lam_job.specs.Wall.{Placed, placed_from}
use Rattle.lam_tsai.specs.Levels.{side_of, verdict_of}
use Rattle.lam_tsai.specs.declared.criterion.Criterion.{Criterion}
use Rattle.lam_tsai.specs.declared.place.FaceSide.TheVariants.{Inner}
use Rattle.lam_tsai.specs.declared.place.Place.{Place}
use Rattle.lam_tsai.specs.declared.place.Side.{Side}
use Rattle.lam_tsai.specs.declared.place.Side.TheVariants.{Plus, Minus}
use Rattle.lam_tsai.specs.inside.Values.{level_by}
use Rattle.lam_boxes.specs.inside.Boxes.{failing_side, fails, first_failing, is_failed, minus_side}

-- ---- a side that fails

failed-verdict : (v : Verdict) → is_failed v ≡ true → v ≡ Fails
failed-verdict Meets e = absurd (cc)
failed-verdict Fails e = refl
failed-verdict Straddles e = absurd (cc)

has-plus : (k : Kind) → HasSide k (side_of Plus)
has-plus Ply = tt
has-plus Pair = tt

module _ {A : Type 0} (n : Numbers A) (c : Criterion A) (at : FaceStrain A) (factor : ℤ) where
  pub record SideFails (side : Side) : Type 0 where
    pub has : HasSide c.kind (side_of side)
    pub fails : verdict_of n (level_by n c side at factor) ≡ Fails

  minus-fails : (k : Kind) (failed : Bool) (side : Side) → minus_side k failed ≡ Some side → HasSide k (side_of side) × (failed ≡ true) × (side ≡ Minus)
  minus-fails Ply failed side e = absurd (cc)
  minus-fails Pair true side e = (tt, refl, sym (same_Some Minus side e))
  minus-fails Pair false side e = absurd (cc)

  pub side-fails : (side : Side) → failing_side n c at factor ≡ Some side → SideFails side
  side-fails side e = by (fails n c at factor Plus) refl e
    where
      by : (b : Bool) → fails n c at factor Plus ≡ b → (if b then Some Plus else minus_side c.kind (fails n c at factor Minus)) ≡ Some side → SideFails side
      by true d h = subst SideFails (same_Some Plus side h) (record { has = has-plus c.kind; fails = failed-verdict _ d })
      by false d h =
          let m = minus-fails c.kind (fails n c at factor Minus) side h in
          record { has = m.0; fails = subst (λ s. verdict_of n (level_by n c s at factor) ≡ Fails) (sym m.2) (failed-verdict _ m.1) }

-- ---- the first ply

pub record FoundAt (case k : ℕ) (of : Item → Option Side) (items : List Item) (at : Place) : Type 0 where
  pub place : ℕ
  pub item : Item
  pub listed : slice_get items place ≡ Some item
  pub fails : of item ≡ Some at.side
  pub case_is : at.case ≡ case
  pub ply_is : at.ply ≡ k + place
  pub face_is : at.face ≡ Inner

pub found-at : (case : ℕ) (of : Item → Option Side) (k : ℕ) (items : List Item) (at : Place) → first_failing case of k items ≡ Some at → FoundAt case k of items at
unfolding first_failing
found-at case of k [] at e = absurd (cc)
found-at case of k (i ∷ rest) at e = by (of i) refl e (found-at case of (suc k) rest at)
  where
    by : (o : Option Side) → of i ≡ o
        → elim o [ Some side ↦ Some (record { case = case; ply = k; face = Inner; side = side }) | None ↦ first_failing case of (suc k) rest ] ≡ Some at
        → (first_failing case of (suc k) rest ≡ Some at → FoundAt case (suc k) of rest at)
        → FoundAt case k of (i ∷ rest) at
    by (Some side) d h later =
        let s = same_Some _ at h in
        record {
          place = zero;
          item = i;
          listed = refl;
          fails = d ∙ ap (λ (a : Place). Some a.side) s;
          case_is = sym (ap (λ (a : Place). a.case) s);
          ply_is = sym (ap (λ (a : Place). a.ply) s) ∙ omega arith;
          face_is = sym (ap (λ (a : Place). a.face) s);
        }
    by None d h later =
        let r = later h in
        record {
          place = suc r.place;
          item = r.item;
          listed = r.listed;
          fails = r.fails;
          case_is = r.case_is;
          ply_is = r.ply_is ∙ omega arith;
          face_is = r.face_is;
        }

-- ---- in a wall

-- what stands first stands so in a longer list
pub get-first : (xs ys : List Item) (k : ℕ) (i : Item) → slice_get xs k ≡ Some i → slice_get (xs ++ ys) k ≡ Some i
get-first [] ys k i e = absurd (cc)
get-first (x ∷ xs) ys zero i e = e
get-first (x ∷ xs) ys (suc k) i e = get-first xs ys k i e

-- its ply, in its place
pub placed-at : (z : ℤ) (wall : List Item) (k : ℕ) (i : Item) → slice_get wall k ≡ Some i → (p : Placed) × (slice_get (placed_from z wall) k ≡ Some p) × (p.item ≡ i)
placed-at z [] k i e = absurd (cc)
placed-at z (x ∷ wall) zero i e = (record { item = x; inner = z; outer = z +ℤ pos 2 *ℤ x.lamina.t }, refl, same_Some x i e)
placed-at z (x ∷ wall) (suc k) i e = placed-at (z +ℤ pos 2 *ℤ x.lamina.t) wall k i e
