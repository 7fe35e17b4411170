-- From the reaches of both sides to the capacity, in fractions: it is at least every weighted force, and near the greatest.
use Rattle.std.proofs.Common.{◌≡◌, refl, ◌∙◌, ap, [], ◌∷◌, ◌+◌, ◌-◌, ◌*◌, ◌^◌, pos, arith}
use Rattle.std.proofs.lemmas.Int.{ints}
use Rattle.lam_fraction.specs.Fraction.{ℚ, whole, fraction, ◌+ℚ◌, ◌-ℚ◌, ◌*ℚ◌, opposite, ◌≤ℚ◌, ◌<ℚ◌}
use Rattle.lam_fraction.proofs.Expression.{int, ◌⊕◌, ◌⊖◌, ◌⊗◌}
use Rattle.lam_fraction.proofs.Rationals.{solve, by_ring, from₁, above, at_most, at_most_over, weaken, decide, number, positive_number, transitive, fraction_times, ◌+ₙ◌, ◌*ₙ◌, ◌*ₚ◌}
use Rattle.lam_fraction.proofs.Solver.{quotes, ◌≐◌}

-- g and k: g/16 in units, and in 2^10 units rounded down; h the size of the direction; t the thickness; c the capacity;
-- for each side its weighted stress o times h, the steepest slope m, its reach e, and that in 2^10 units, f, rounded up
module _ (g k h t c : ℚ) (g-positive : whole (pos 0) <ℚ g) (k-positive : whole (pos 0) <ℚ k) (h-positive : whole (pos 0) <ℚ h) (t-sign : whole (pos 0) ≤ℚ t)
    (below : whole (pos 1024) *ℚ k ≤ℚ g) where
  -- ---- at least every weighted force

  pub at_least : (m₁ e₁ f₁ o₁ m₂ e₂ f₂ o₂ v : ℚ) → whole (pos 0) ≤ℚ m₁ → whole (pos 0) ≤ℚ m₂ → whole (pos 0) ≤ℚ c
      → g *ℚ (whole (pos 1000) *ℚ o₁) ≤ℚ whole (pos 2) *ℚ (m₁ *ℚ e₁) → g *ℚ (whole (pos 1000) *ℚ o₂) ≤ℚ whole (pos 2) *ℚ (m₂ *ℚ e₂)
      → e₁ ≤ℚ whole (pos 1024) *ℚ f₁ → e₂ ≤ℚ whole (pos 1024) *ℚ f₂
      → t *ℚ (m₁ *ℚ f₁ +ℚ m₂ *ℚ f₂) ≤ℚ c *ℚ (whole (pos 1000) *ℚ h *ℚ k)
      → whole (pos 2) *ℚ (h *ℚ v) ≡ t *ℚ (o₁ +ℚ o₂) → v ≤ℚ c
  unfolding ◌-ℚ◌
  at_least m₁ e₁ f₁ o₁ m₂ e₂ f₂ o₂ v m₁-sign m₂-sign c-sign p q r s most is = decide (o₁ +ℚ o₂) (whole (pos 0)) low high
    where
      twice : whole (pos 0) <ℚ whole (pos 2) *ℚ h
      twice = positive_number 1 *ₚ h-positive

      low : o₁ +ℚ o₂ ≤ℚ whole (pos 0) → v ≤ℚ c
      low n =
          at_most_over {k = whole (pos 2) *ℚ h} twice (weaken twice *ₙ c-sign +ₙ t-sign *ₙ above n)
          (solve 3 (λ h c v. int (pos 2) ⊗ h ⊗ (c ⊖ v) ≐ int (pos 2) ⊗ h ⊗ c ⊖ int (pos 2) ⊗ (h ⊗ v)) refl h c v ∙ ap (λ x. whole (pos 2) *ℚ h *ℚ c -ℚ x) is
          ∙ solve 4 (λ h c t o. int (pos 2) ⊗ h ⊗ c ⊖ t ⊗ o ≐ int (pos 2) ⊗ h ⊗ c ⊕ t ⊗ (int (pos 0) ⊖ o)) refl h c t (o₁ +ℚ o₂))

      -- 2000 times the weighted stresses
      enough : whole (pos 0) <ℚ o₁ +ℚ o₂ → whole (pos 1024) *ℚ k *ℚ (whole (pos 1000) *ℚ (o₁ +ℚ o₂)) ≤ℚ whole (pos 2048) *ℚ (m₁ *ℚ f₁ +ℚ m₂ *ℚ f₂)
      enough n =
          at_most (above p +ₙ above q +ₙ number 2 *ₙ (m₁-sign *ₙ above r) +ₙ number 2 *ₙ (m₂-sign *ₙ above s) +ₙ number 1000 *ₙ (above below *ₙ weaken n))
          (by_ring (g ∷ k ∷ m₁ ∷ e₁ ∷ f₁ ∷ o₁ ∷ m₂ ∷ e₂ ∷ f₂ ∷ o₂ ∷ []) (search quotes depth 40 fits 9000) refl)

      high : whole (pos 0) <ℚ o₁ +ℚ o₂ → v ≤ℚ c
      high n =
          at_most_over {k = whole (pos 2048) *ℚ (whole (pos 1000) *ℚ h *ℚ k)} (positive_number 2047 *ₚ (positive_number 999 *ₚ h-positive *ₚ k-positive))
          (t-sign *ₙ above (enough n) +ₙ number 2048 *ₙ above most)
          (from₁ (opposite (whole (pos 1024000) *ℚ k)) is (by_ring (k ∷ h ∷ t ∷ c ∷ m₁ ∷ f₁ ∷ o₁ ∷ m₂ ∷ f₂ ∷ o₂ ∷ v ∷ []) (search quotes depth 40 fits 9000) refl))

  -- ---- near the greatest

  -- from stresses that come near the reaches, and from those on the axes
  pub near : (m₁ e₁ f₁ o₁ a₁ m₂ e₂ f₂ o₂ a₂ v x y : ℚ) → whole (pos 0) ≤ℚ m₁ → whole (pos 0) ≤ℚ m₂
      → whole (pos 2) *ℚ (m₁ *ℚ e₁) ≤ℚ g *ℚ (whole (pos 1000) *ℚ o₁) +ℚ m₁ *ℚ whole (pos (2 ^ 39)) → whole (pos 2) *ℚ (m₂ *ℚ e₂) ≤ℚ g *ℚ (whole (pos 1000) *ℚ o₂) +ℚ m₂ *ℚ whole (pos (2 ^ 39))
      → whole (pos 1024) *ℚ f₁ ≤ℚ e₁ +ℚ whole (pos 1024) → whole (pos 1024) *ℚ f₂ ≤ℚ e₂ +ℚ whole (pos 1024)
      → m₁ ≤ℚ whole (pos 1000) *ℚ a₁ → m₂ ≤ℚ whole (pos 1000) *ℚ a₂
      → c *ℚ (whole (pos 1000) *ℚ h *ℚ k) ≤ℚ t *ℚ (m₁ *ℚ f₁ +ℚ m₂ *ℚ f₂) +ℚ whole (pos 1000) *ℚ h *ℚ k
      → whole (pos 2) *ℚ (h *ℚ x) ≡ t *ℚ (o₁ +ℚ o₂) → x ≤ℚ v → whole (pos 2) *ℚ (h *ℚ y) ≡ t *ℚ (a₁ +ℚ a₂) → y ≤ℚ v
      → g ≤ℚ whole (pos 1024) *ℚ k +ℚ whole (pos 4096) → whole (pos (2 ^ 43)) ≤ℚ k
      → c ≤ℚ fraction (pos 1001) (pos 1000) *ℚ v +ℚ whole (pos 2)
  unfolding ◌-ℚ◌
  near m₁ e₁ f₁ o₁ a₁ m₂ e₂ f₂ o₂ a₂ v x y m₁-sign m₂-sign p q r s i j most is l is' l' close large =
      transitive step last
    where
      w : ℚ
      w = whole (pos (2 ^ 39))

      -- the steepest slopes are carried on the axes
      axes : t *ℚ (m₁ +ℚ m₂) ≤ℚ whole (pos 2000) *ℚ (h *ℚ v)
      axes =
          at_most (t-sign *ₙ (above i +ₙ above j) +ₙ number 2000 *ₙ (weaken h-positive *ₙ above l'))
          (from₁ (whole (pos 1000)) is' (by_ring (t ∷ h ∷ v ∷ y ∷ m₁ ∷ a₁ ∷ m₂ ∷ a₂ ∷ []) (search quotes depth 40 fits 9000) refl))

      v-sign : whole (pos 0) ≤ℚ v
      v-sign =
          at_most_over {k = whole (pos 2000) *ℚ h} (positive_number 1999 *ₚ h-positive) (t-sign *ₙ (m₁-sign +ₙ m₂-sign) +ₙ above axes)
          (by_ring (t ∷ h ∷ v ∷ m₁ ∷ m₂ ∷ []) (search quotes depth 40 fits 9000) refl)

      -- the numerator, in parts
      numerator : whole (pos 2048) *ℚ (t *ℚ (m₁ *ℚ f₁ +ℚ m₂ *ℚ f₂)) ≤ℚ (g +ℚ whole (pos (2 ^ 39 + 2048))) *ℚ (whole (pos 2000) *ℚ (h *ℚ v))
      numerator =
          at_most
          (t-sign *ₙ (above p +ₙ above q +ₙ number 2 *ₙ (m₁-sign *ₙ above r) +ₙ number 2 *ₙ (m₂-sign *ₙ above s))
          +ₙ number (2 ^ 39 + 2048) *ₙ above axes +ₙ weaken g-positive *ₙ (number 2000 *ₙ (weaken h-positive *ₙ above l)))
          (from₁ (whole (pos 1000) *ℚ g) is
          (by_ring (g ∷ h ∷ t ∷ m₁ ∷ e₁ ∷ f₁ ∷ o₁ ∷ m₂ ∷ e₂ ∷ f₂ ∷ o₂ ∷ v ∷ x ∷ []) (search quotes depth 40 fits 20000) refl))

      -- 1001/1000 of k has room for what is left over
      room : whole (pos 1000) *ℚ (g +ℚ whole (pos (2 ^ 39 + 2048))) ≤ℚ whole (pos 1001) *ℚ (whole (pos 1024) *ℚ k)
      room =
          at_most (number 1000 *ₙ above close +ₙ number 1024 *ₙ above large +ₙ number (1024 * 2 ^ 43 - 1000 * (2 ^ 39 + 6144)))
          (by_ring (g ∷ k ∷ []) (search quotes depth 40 fits 9000) refl)

      step : c ≤ℚ fraction (pos 1001) (pos 1000) *ℚ v +ℚ whole (pos 1)
      step =
          at_most_over {k = whole (pos 1000) *ℚ (whole (pos 2048) *ℚ (whole (pos 1000) *ℚ h *ℚ k))} (positive_number 999 *ₚ (positive_number 2047 *ₚ (positive_number 999 *ₚ h-positive *ₚ k-positive)))
          (number (1000 * 2048) *ₙ above most +ₙ number 1000 *ₙ above numerator +ₙ above room *ₙ (number 2000 *ₙ (weaken h-positive *ₙ v-sign)))
          (from₁ (whole (pos 2048) *ℚ (whole (pos 1000) *ℚ h *ℚ k) *ℚ v) (fraction_times (pos 1001) (pos 1000) (omega (arith, ints)))
          (by_ring (g ∷ h ∷ k ∷ t ∷ c ∷ m₁ ∷ f₁ ∷ m₂ ∷ f₂ ∷ v ∷ fraction (pos 1001) (pos 1000) ∷ []) (search quotes depth 40 fits 20000) refl))

      last : fraction (pos 1001) (pos 1000) *ℚ v +ℚ whole (pos 1) ≤ℚ fraction (pos 1001) (pos 1000) *ℚ v +ℚ whole (pos 2)
      last = at_most (number 1) (by_ring (fraction (pos 1001) (pos 1000) ∷ v ∷ []) (search quotes depth 20) refl)
