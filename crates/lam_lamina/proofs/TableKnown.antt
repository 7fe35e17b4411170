-- A table of eight rows of eight, place by place.
use Rattle.std.proofs.Common.{◌≡◌, refl, sym, ◌∙◌, ap, subst, ℕ, zero, suc, ◌+◌, ◌*◌, ◌/◌, ◌%◌, ◌<◌, List, Some, slice_get, All, arith}
use Rattle.std.proofs.lemmas.Option.{get_or_from_slice_get, slice_get_within}
use Rattle.lam_fraction.specs.numbers.Numbers.{Numbers, Lawful}
use Rattle.lam_direction.specs.Circle.{IsDirection}
use Rattle.lam_stock.specs.Scale.{IsScaleOf, scale_of}
use Rattle.lam_stock.specs.Stock.{WithinLimits}
use Rattle.lam_stock.specs.declared.item.Item.{Item}
use Rattle.lam_lamina.specs.Covered.{IsCovered}
use Rattle.lam_lamina.specs.Held.{HoldsMatrix, NarrowMatrix}
use Rattle.lam_lamina.specs.Stiffness.{stiffness_over, IsBounded}
use Rattle.lam_lamina.specs.declared.table.Stiffnesses.{Stiffnesses}
use Rattle.lam_lamina.specs.inside.Table.{IsTableOf, entry_at}
use Rattle.lam_lamina.proofs.Catalogue.{catalogue-covered}
use Rattle.lam_lamina.proofs.Entries.{entries-bounded}
use Rattle.lam_lamina.proofs.StiffnessKnown.{held-item, narrow-item}
use Rattle.lam_lamina.specs.declared.eight.Eight.{Eight}
use Rattle.lam_lamina.specs.inside.Eighths.{at, eight_of}

pub at-eight_of : {T : Type 0} (f : ℕ → T) (k : ℕ) → k < 8 → at (eight_of f) k ≡ f k
at-eight_of f zero h = refl
at-eight_of f (suc zero) h = refl
at-eight_of f (suc (suc zero)) h = refl
at-eight_of f (suc (suc (suc zero))) h = refl
at-eight_of f (suc (suc (suc (suc zero)))) h = refl
at-eight_of f (suc (suc (suc (suc (suc zero))))) h = refl
at-eight_of f (suc (suc (suc (suc (suc (suc zero)))))) h = refl
at-eight_of f (suc (suc (suc (suc (suc (suc (suc zero))))))) h = refl
at-eight_of f (suc (suc (suc (suc (suc (suc (suc (suc k)))))))) h = absurd (omega (arith, h))

-- rows of eight, one after the other
pub at-rows : {T : Type 0} (f : ℕ → T) (k : ℕ) → k < 64 → at (at (eight_of (λ r. eight_of (λ c. f (8 * r + c)))) (k / 8)) (k % 8) ≡ f k
at-rows {T} f k h =
    let row : k / 8 < 8 = omega (arith, h) in
    let column : k % 8 < 8 = omega arith in
    let place : 8 * (k / 8) + k % 8 ≡ k = omega arith in
    ap (λ (v : Eight T). at v (k % 8)) (at-eight_of (λ r. eight_of (λ c. f (8 * r + c))) (k / 8) row)
    ∙ at-eight_of (λ c. f (8 * (k / 8) + c)) (k % 8) column
    ∙ ap f place

-- what the entry of an item holds, and how narrow it is
module _ {A : Type 0} {n : Numbers A} (laws : Lawful n) {items : List Item} {table : Stiffnesses A} (is_table : IsTableOf n items table)
    (limits : All WithinLimits items) (is_scale : IsScaleOf items (scale_of items)) (k : ℕ) (i : Item) (is : slice_get items k ≡ Some i) where
  kept : (P : Item → Type 0) → All P items → P i
  kept P all = subst P (get_or_from_slice_get items k i i is) (all k i (slice_get_within items k i is))

  covered : IsCovered (scale_of items).q0 i.lamina
  covered = kept (λ x. IsCovered (scale_of items).q0 x.lamina) (catalogue-covered items (scale_of items) limits is_scale)

  direction : IsDirection i.dir
  direction = (kept WithinLimits limits).direction

  pub held-entry : HoldsMatrix n (entry_at table k) (stiffness_over (scale_of items).q0 i.kind i.lamina i.dir)
  held-entry = subst (λ m. HoldsMatrix n m (stiffness_over (scale_of items).q0 i.kind i.lamina i.dir)) (sym (is_table.entries k i is)) (held-item laws direction covered i.kind)

  pub narrow-entry : NarrowMatrix 32 n (entry_at table k)
  narrow-entry = subst (NarrowMatrix 32 n) (sym (is_table.entries k i is)) (narrow-item laws direction covered i.kind)

  pub bounded-entry : IsBounded (stiffness_over (scale_of items).q0 i.kind i.lamina i.dir)
  bounded-entry = entries-bounded i.kind covered direction
