-- The first place that fails, ply by ply.
use Rattle.std.proofs.Common.{◌≡◌, refl, sym, ◌∙◌, ap, ℕ, zero, suc, ◌+◌, ◌<◌, ◌≤◌, ℤ, Bool, true, false, List, [], ◌∷◌, length, drop, get_or, set, replicate, slice_get, Option, Some, None, arith}
use Rattle.std.specs.Bool.{then_some}
use Rattle.std.specs.Prelude.{if◌then◌else◌}
use Rattle.std.proofs.Common.{inl, inr}
use Rattle.std.proofs.lemmas.Bool.{cases_eq}
use Rattle.std.proofs.lemmas.List.{get_or-set_other}
use Rattle.std.proofs.lemmas.Option.{same_Some}
use Rattle.lam_fraction.specs.numbers.Numbers.{Numbers}
use Rattle.lam_number.specs.declared.strength.FaceStrain.{FaceStrain}
use Rattle.lam_stock.specs.declared.item.Item.{Item}
use Rattle.lam_stock.specs.declared.item.Kind.{Kind}
use Rattle.lam_stock.specs.declared.item.Kind.TheVariants.{Ply, Pair}
use Rattle.lam_tsai.specs.declared.criterion.Criterion.{Criterion}
use Rattle.lam_tsai.specs.declared.place.FaceSide.TheVariants.{Inner}
use Rattle.lam_tsai.specs.declared.place.Side.{Side}
use Rattle.lam_tsai.specs.declared.place.Side.TheVariants.{Plus, Minus}
use Rattle.lam_boxes.specs.inside.Boxes.{failing_side, fails, first_failing, minus_side}

-- ---- of an item

chosen-side : (b : Bool) (s : Side) → then_some b s ≡ (if b then Some s else None)
chosen-side true s = refl
chosen-side false s = refl

module _ {A : Type 0} (n : Numbers A) (c : Criterion A) (at : FaceStrain A) (factor : ℤ) where
  abbrev by : Bool → Kind → Bool → Option Side
  by plus kind minus = if plus then Some Plus else minus_side kind minus

  pub side-plus : fails n c at factor Plus ≡ true → Some Plus ≡ failing_side n c at factor
  side-plus e = sym (ap (λ b. by b c.kind (fails n c at factor Minus)) e)

  pub side-ply : fails n c at factor Plus ≡ false → c.kind ≡ Ply → None ≡ failing_side n c at factor
  side-ply e k = sym (λ j. by (e j) (k j) (fails n c at factor Minus))

  pub side-pair : (minus : Bool) (o : Option Side) → fails n c at factor Plus ≡ false → c.kind ≡ Pair → minus ≡ fails n c at factor Minus → o ≡ then_some minus Minus → o ≡ failing_side n c at factor
  side-pair minus o e k m is = is ∙ chosen-side minus Minus ∙ sym (λ j. by (e j) (k j) (sym m j))

-- ---- of a list

split : (items : List Item) (k : ℕ) (i : Item) → slice_get items k ≡ Some i → drop k items ≡ i ∷ drop (suc k) items
split [] k i e = absurd (cc)
split (x ∷ items) zero i e = ap (λ y. y ∷ items) (same_Some x i e)
split (x ∷ items) (suc k) i e = split items k i e

past : (items : List Item) (k : ℕ) → length items ≤ k → drop k items ≡ []
past [] zero h = refl
past [] (suc k) h = refl
past (x ∷ items) zero h = absurd (omega (arith, h))
past (x ∷ items) (suc k) h = past items k (omega (arith, h))

module _ (case : ℕ) (of : Item → Option Side) where
  step-none : (k : ℕ) (i : Item) (rest : List Item) → of i ≡ None → first_failing case of k (i ∷ rest) ≡ first_failing case of (suc k) rest
  unfolding first_failing
  step-none k i rest e = ap (λ (o : Option Side). elim o [ Some side ↦ Some (record { case = case; ply = k; face = Inner; side = side }) | None ↦ first_failing case of (suc k) rest ]) e

  step-some : (k : ℕ) (i : Item) (rest : List Item) (side : Side) → of i ≡ Some side → first_failing case of k (i ∷ rest) ≡ Some (record { case = case; ply = k; face = Inner; side = side })
  unfolding first_failing
  step-some k i rest side e = ap (λ (o : Option Side). elim o [ Some side ↦ Some (record { case = case; ply = k; face = Inner; side = side }) | None ↦ first_failing case of (suc k) rest ]) e

  step-end : (k : ℕ) → first_failing case of k [] ≡ None
  unfolding first_failing
  step-end k = refl

  pub first-next : (items : List Item) (k : ℕ) (i : Item) → slice_get items k ≡ Some i → of i ≡ None → first_failing case of (k + 1) (drop (k + 1) items) ≡ first_failing case of k (drop k items)
  first-next items k i there e =
      let next : k + 1 ≡ suc k = omega arith in
      ap (λ j. first_failing case of j (drop j items)) next ∙ sym (ap (first_failing case of k) (split items k i there) ∙ step-none k i (drop (suc k) items) e)

  pub first-found : (items : List Item) (k : ℕ) (i : Item) (side : Side) → slice_get items k ≡ Some i → of i ≡ Some side
      → Some (record { case = case; ply = k; face = Inner; side = side }) ≡ first_failing case of k (drop k items)
  first-found items k i side there e = sym (ap (first_failing case of k) (split items k i there) ∙ step-some k i (drop (suc k) items) side e)

  pub first-none : (items : List Item) (k : ℕ) → length items ≤ k → None ≡ first_failing case of k (drop k items)
  first-none items k h = sym (ap (first_failing case of k) (past items k h) ∙ step-end k)

-- ---- which items are known not to fail

module _ (stock : List Item) (of : Item → Option Side) where
  -- the items that a table has passed do not fail
  abbrev pub DoNotFail : List Bool → Type 0
  DoNotFail passed = (m : ℕ) (i : Item) → slice_get stock m ≡ Some i → get_or passed m false ≡ true → of i ≡ None

  pub none-passed : (n : ℕ) → DoNotFail (replicate n false)
  none-passed n m i there is = absurd (let no : false ≡ true = sym (none n m) ∙ is in cc) where
    none : (n m : ℕ) → get_or (replicate n false) m false ≡ false
    none zero m = refl
    none (suc n) zero = refl
    none (suc n) (suc m) = none n m

  pub one-passed : (passed : List Bool) (k : ℕ) (i : Item) → k < length passed → slice_get stock k ≡ Some i → of i ≡ None → DoNotFail passed → DoNotFail (set passed k true)
  one-passed passed k i within there none before m j at is = elim (cases_eq m k) [
    | inl same ↦ ap of (same_Some j i (sym at ∙ ap (slice_get stock) same ∙ there)) ∙ none
    | inr other ↦ before m j at (sym (get_or-set_other passed k m true false other) ∙ is)
  ]
