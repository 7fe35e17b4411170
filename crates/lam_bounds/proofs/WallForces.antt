-- The plies of a wall that keep the factor of a case carry what it demands: no more than the sum of their capacities.
use Rattle.std.proofs.Common.{◌≡◌, refl, sym, ◌∙◌, ap, ap₂, subst, subst₂, ℕ, zero, suc, ◌+◌, ◌*◌, ℤ, pos, ◌+ℤ◌, ◌*ℤ◌, ◌≤ℤ◌, neg_ℤ, List, [], ◌∷◌, sum_by, slice_get, Some, All, arith}
use Rattle.std.proofs.lemmas.Int.{ints}
use Rattle.std.proofs.lemmas.List.Elements.{All-head, All-tail}
use Rattle.std.proofs.lemmas.List.Sums.{sum_by-cons}
use Rattle.lam_fraction.specs.Fraction.{ℚ, whole, ◌+ℚ◌, ◌-ℚ◌, ◌*ℚ◌, ◌≤ℚ◌}
use Rattle.lam_fraction.specs.Sums.{sum_over}
use Rattle.lam_fraction.proofs.Expression.{int, ◌⊕◌, ◌⊖◌, ◌⊗◌}
use Rattle.lam_fraction.proofs.FractionPairs.{whole-le}
use Rattle.lam_fraction.proofs.FractionRing.{whole-sum, whole-product}
use Rattle.lam_fraction.proofs.Rationals.{solve, above, at_most, number, ◌+ₙ◌, ◌*ₙ◌}
use Rattle.lam_fraction.proofs.Solver.{◌≐◌}
use Rattle.lam_stock.specs.declared.item.Item.{Item}
use Rattle.lam_job.specs.declared.load.Load.{Load}
use Rattle.lam_job.specs.Equilibrium.{ply_force, inner_stress, outer_stress, Solves}
use Rattle.lam_job.specs.LaminateStrain.{LaminateStrain, strain_at}
use Rattle.lam_job.specs.Strength.{PlyRatio, InnerFace, OuterFace}
use Rattle.lam_job.specs.Wall.{Placed, placed_from, placed_plies, wall_thickness}
use Rattle.lam_support.specs.declared.weight.Weight.{Weight}
use Rattle.lam_support.specs.Carried.{weighted, CarriesAtMost}
use Rattle.lam_bounds.proofs.LayerForces.{HaveRatio, layer_carries}

-- each item carries at most its capacity
abbrev pub AreCapacities : Weight → (Item → ℕ) → Item → Type 0
AreCapacities w capacity i = CarriesAtMost i.kind i.lamina i.dir w (whole (pos (capacity i)))

module _ (w : Weight) (capacity : Item → ℕ) (factor : ℤ) (f : LaminateStrain) where
  abbrev cap : Placed → ℚ
  cap p = whole (pos (capacity p.item))

  -- ---- one ply

  abbrev force : Placed → ℚ
  force p = whole w.x *ℚ ply_force (λ t. t.x) f p +ℚ whole w.y *ℚ ply_force (λ t. t.y) f p +ℚ whole w.s *ℚ ply_force (λ t. t.s) f p

  -- the sides of a ply keep the ratio at both faces
  pub record KeepsRatio (p : Placed) : Type 0 where
    pub bound : AreCapacities w capacity p.item
    pub inner : HaveRatio w p.item.kind p.item.lamina p.item.dir factor (strain_at f p.inner)
    pub outer : HaveRatio w p.item.kind p.item.lamina p.item.dir factor (strain_at f p.outer)

  force-is : (p : Placed) → force p ≡ whole (pos 2) *ℚ (whole p.item.lamina.t *ℚ weighted w (inner_stress f p) +ℚ whole p.item.lamina.t *ℚ weighted w (outer_stress f p))
  force-is p =
      let a = inner_stress f p in
      let b = outer_stress f p in
      ap (λ t. whole w.x *ℚ (t *ℚ (a.x +ℚ b.x)) +ℚ whole w.y *ℚ (t *ℚ (a.y +ℚ b.y)) +ℚ whole w.s *ℚ (t *ℚ (a.s +ℚ b.s))) (whole-product (pos 2) p.item.lamina.t)
      ∙ solve 10 (λ x y z t a b c p q r. x ⊗ (int (pos 2) ⊗ t ⊗ (a ⊕ p)) ⊕ y ⊗ (int (pos 2) ⊗ t ⊗ (b ⊕ q)) ⊕ z ⊗ (int (pos 2) ⊗ t ⊗ (c ⊕ r))
      ≐ int (pos 2) ⊗ (t ⊗ (x ⊗ a ⊕ y ⊗ b ⊕ z ⊗ c) ⊕ t ⊗ (x ⊗ p ⊕ y ⊗ q ⊕ z ⊗ r))) refl
      (whole w.x) (whole w.y) (whole w.s) (whole p.item.lamina.t) a.x a.y a.s b.x b.y b.s

  ply_carries : (p : Placed) → KeepsRatio p → whole factor *ℚ force p ≤ℚ whole (pos 4000) *ℚ cap p
  unfolding ◌-ℚ◌
  ply_carries p h =
      let i = p.item in
      let a = whole i.lamina.t *ℚ weighted w (inner_stress f p) in
      let b = whole i.lamina.t *ℚ weighted w (outer_stress f p) in
      let one = layer_carries w i.kind i.lamina i.dir factor (strain_at f p.inner) (cap p) h.bound h.inner in
      let other = layer_carries w i.kind i.lamina i.dir factor (strain_at f p.outer) (cap p) h.bound h.outer in
      subst (λ z. whole factor *ℚ z ≤ℚ whole (pos 4000) *ℚ cap p) (sym (force-is p))
      (at_most (number 2 *ₙ (above one +ₙ above other))
      (solve 4 (λ f a b v. int (pos 4000) ⊗ v ⊖ f ⊗ (int (pos 2) ⊗ (a ⊕ b)) ≐ int (pos 2) ⊗ ((int (pos 1000) ⊗ v ⊖ f ⊗ a) ⊕ (int (pos 1000) ⊗ v ⊖ f ⊗ b))) refl (whole factor) a b (cap p)))

  -- ---- all plies

  abbrev forces : List Placed → ℚ
  forces ps =
      whole w.x *ℚ sum_over (ply_force (λ t. t.x) f) ps +ℚ whole w.y *ℚ sum_over (ply_force (λ t. t.y) f) ps +ℚ whole w.s *ℚ sum_over (ply_force (λ t. t.s) f) ps

  plies_carry : (ps : List Placed) → ((k : ℕ) (p : Placed) → slice_get ps k ≡ Some p → KeepsRatio p)
      → whole factor *ℚ forces ps ≤ℚ whole (pos 4000) *ℚ sum_over cap ps
  unfolding ◌-ℚ◌
  plies_carry [] each =
      at_most (number 0) (solve 4 (λ f x y z. int (pos 4000) ⊗ int (pos 0) ⊖ f ⊗ (x ⊗ int (pos 0) ⊕ y ⊗ int (pos 0) ⊕ z ⊗ int (pos 0)) ≐ int (pos 0)) refl (whole factor) (whole w.x) (whole w.y) (whole w.s))
  plies_carry (p ∷ ps) each =
      let one = ply_carries p (each 0 p refl) in
      let rest = plies_carry ps (λ k q e. each (suc k) q e) in
      at_most (above one +ₙ above rest)
      (solve 12 (λ f x y z a b c p q r v s. int (pos 4000) ⊗ (v ⊕ s) ⊖ f ⊗ (x ⊗ (a ⊕ p) ⊕ y ⊗ (b ⊕ q) ⊕ z ⊗ (c ⊕ r))
      ≐ (int (pos 4000) ⊗ v ⊖ f ⊗ (x ⊗ a ⊕ y ⊗ b ⊕ z ⊗ c)) ⊕ (int (pos 4000) ⊗ s ⊖ f ⊗ (x ⊗ p ⊕ y ⊗ q ⊕ z ⊗ r))) refl
      (whole factor) (whole w.x) (whole w.y) (whole w.s)
      (ply_force (λ t. t.x) f p) (ply_force (λ t. t.y) f p) (ply_force (λ t. t.s) f p)
      (sum_over (ply_force (λ t. t.x) f) ps) (sum_over (ply_force (λ t. t.y) f) ps) (sum_over (ply_force (λ t. t.s) f) ps) (cap p) (sum_over cap ps))

  -- the capacities of the placed plies are those of the wall's items
  caps-are : (z : ℤ) (wall : List Item) → sum_over cap (placed_from z wall) ≡ whole (pos (sum_by capacity wall))
  caps-are z [] = refl
  caps-are z (i ∷ wall) =
      let e : capacity i + sum_by capacity wall ≡ sum_by capacity (i ∷ wall) = sym (sum_by-cons capacity i wall) in
      ap (λ s. whole (pos (capacity i)) +ℚ s) (caps-are (z +ℤ pos 2 *ℤ i.lamina.t) wall)
      ∙ sym (whole-sum (pos (capacity i)) (pos (sum_by capacity wall))) ∙ ap (λ n. whole (pos n)) e

  -- ---- the plies of a wall are its items
  kept : (P : Item → Type 0) (z : ℤ) (wall : List Item) → All P wall → (k : ℕ) (p : Placed) → slice_get (placed_from z wall) k ≡ Some p → P p.item
  kept P z [] all k p e = absurd (cc)
  kept P z (i ∷ wall) all zero p e =
      let same : record { item = i; inner = z; outer = z +ℤ pos 2 *ℤ i.lamina.t } ≡ p = cc in
      subst (λ (q : Placed). P q.item) same (All-head P i wall all)
  kept P z (i ∷ wall) all (suc k) p e = kept P (z +ℤ pos 2 *ℤ i.lamina.t) wall (All-tail P i wall all) k p e

  module _ (wall : List Item) (load : Load) (solves : Solves wall load f) where
    demanded : whole w.x *ℚ whole load.nx +ℚ whole w.y *ℚ whole load.ny +ℚ whole w.s *ℚ whole load.nxy ≡ whole (w.x *ℤ load.nx +ℤ w.y *ℤ load.ny +ℤ w.s *ℤ load.nxy)
    demanded =
        sym (whole-sum (w.x *ℤ load.nx +ℤ w.y *ℤ load.ny) (w.s *ℤ load.nxy)
        ∙ ap₂ ◌+ℚ◌ (whole-sum (w.x *ℤ load.nx) (w.y *ℤ load.ny) ∙ ap₂ ◌+ℚ◌ (whole-product w.x load.nx) (whole-product w.y load.ny)) (whole-product w.s load.nxy))

    -- so the weighted load, times the factor, is at most the sum of the capacities
    pub wall_carries : All (AreCapacities w capacity) wall → ((ply : ℕ) → PlyRatio wall load ply (whole factor))
        → (factor *ℤ (w.x *ℤ load.nx +ℤ w.y *ℤ load.ny +ℤ w.s *ℤ load.nxy)) ≤ℤ pos (4000 * sum_by capacity wall)
    wall_carries bounds ratio =
        let ps = placed_plies wall in
        let each : (k : ℕ) (p : Placed) → slice_get ps k ≡ Some p → KeepsRatio p = λ k p e. record {
          bound = kept (AreCapacities w capacity) (neg_ℤ (wall_thickness wall)) wall bounds k p e;
          inner = λ side has. ratio k p e InnerFace side has f solves;
          outer = λ side has. ratio k p e OuterFace side has f solves;
        } in
        let carried = plies_carry ps each in
        let sums : forces ps ≡ whole (w.x *ℤ load.nx +ℤ w.y *ℤ load.ny +ℤ w.s *ℤ load.nxy) =
        (λ i. whole w.x *ℚ solves.nx i +ℚ whole w.y *ℚ solves.ny i +ℚ whole w.s *ℚ solves.nxy i) ∙ demanded in
        let left : whole factor *ℚ forces ps ≡ whole (factor *ℤ (w.x *ℤ load.nx +ℤ w.y *ℤ load.ny +ℤ w.s *ℤ load.nxy)) =
        ap (λ z. whole factor *ℚ z) sums ∙ sym (whole-product factor (w.x *ℤ load.nx +ℤ w.y *ℤ load.ny +ℤ w.s *ℤ load.nxy)) in
        let right : whole (pos 4000) *ℚ sum_over cap ps ≡ whole (pos (4000 * sum_by capacity wall)) =
        ap (λ z. whole (pos 4000) *ℚ z) (caps-are (neg_ℤ (wall_thickness wall)) wall) ∙ sym (whole-product (pos 4000) (pos (sum_by capacity wall))) ∙ ap whole (omega (arith, ints)) in
        (whole-le _ _).0 (subst₂ ◌≤ℚ◌ left right carried)
