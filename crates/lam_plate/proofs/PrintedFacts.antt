-- What the printed ratio of a panel is: the greatest factor that each number of half waves meets.
use Rattle.std.proofs.Common.{◌≡◌, refl, sym, ◌∙◌, ap, subst, ℕ, zero, suc, ◌+◌, ◌<◌, ◌≤◌, ◌⊎◌, inl, inr, Bool, true, false, ℤ, pos, ◌+ℤ◌, ◌*ℤ◌, ◌≤ℤ◌, ◌<ℤ◌, List, arith}
use Rattle.std.proofs.lemmas.Int.{ints}
use Rattle.std.proofs.lemmas.Bool.{cases_lt}
use Rattle.lam_fraction.specs.Fraction.{ℚ, whole, fraction, ◌*ℚ◌, ◌≤ℚ◌, ◌-ℚ◌}
use Rattle.lam_fraction.specs.numbers.Numbers.{Numbers, Lawful}
use Rattle.lam_fraction.proofs.Expression.{int, ◌⊕◌, ◌⊖◌, ◌⊗◌}
use Rattle.lam_fraction.proofs.Solver.{◌≐◌}
use Rattle.lam_fraction.proofs.Integers as Z
use Rattle.lam_fraction.proofs.Rationals.{solve, weaken}
use Rattle.lam_number.specs.declared.strength.Verdict.TheVariants.{Meets}
use Rattle.lam_stock.specs.declared.item.Item.{Item}
use Rattle.lam_stock.specs.declared.item.ItemNo.{ItemNo}
use Rattle.lam_stock.specs.declared.scale.Scale.{Scale}
use Rattle.lam_job.specs.JobData.{PanelData}
use Rattle.lam_job.specs.Ranges.{IsPanel}
use Rattle.lam_job.specs.Plate.{PanelAtLeast, buckling_load}
use Rattle.lam_job.specs.Schedule.{items_of}
use Rattle.lam_wall.specs.declared.wall.Wall.{Wall}
use Rattle.lam_wall.specs.Assembled.{StandsFor}
use Rattle.lam_plate.specs.declared.plate.Plate.{Plate}
use Rattle.lam_plate.specs.inside.Formulas as by
use Rattle.lam_plate.proofs.CrossProducts.{below-of_test, test-of_below, shifted-order}
use Rattle.lam_plate.proofs.Halving.{IsLowered, lowered-facts}
use Rattle.lam_plate.proofs.PanelFacts.{high-above, unloaded-every, verdict-stands, waves-few}
use Rattle.lam_plate.proofs.PanelSteps.{lowest-none, lowest-more, all-meet, each-meets, meets-wave, wave-meets}
use Rattle.lam_plate.proofs.ShiftedUnits.{load-least}

zero-times : (x : ℚ) → whole (pos 0) *ℚ x ≡ whole (pos 0)
unfolding ◌-ℚ◌
zero-times x = solve 1 (λ x. int (pos 0) ⊗ x ≐ int (pos 0)) refl x

-- of the first k of some tests, which a lower number passes where a higher one does
pub record IsLowest (test : ℕ → ℕ → Bool) (k r : ℕ) : Type 0 where
  pub bound : r ≤ 20000
  pub met : (r ≡ 0) ⊎ ((i : ℕ) → 1 ≤ i → i ≤ k → test i r ≡ true)
  pub next : r < 20000 → (i : ℕ) × (1 ≤ i) × (i ≤ k) × (test i (r + 1) ≡ false)

lowest-step : (test : ℕ → ℕ → Bool) → ((i r s : ℕ) → 1 ≤ i → i ≤ 1903 → r ≤ s → test i s ≡ true → test i r ≡ true)
    → (k r s : ℕ) → k + 1 ≤ 1903 → IsLowest test k r → IsLowered (test (k + 1)) r s → IsLowest test (k + 1) s
lowest-step test order k r s few before here = record {
  bound = omega (arith, before.bound, here.within);
  met = met-both here.met before.met;
  next = λ h. elim (cases_lt s r) [
    | inl less ↦ (k + 1, omega arith, omega arith, here.next less)
    | inr same ↦ (
        let e : r ≡ s = omega (arith, same, here.within) in
        let one = before.next (omega (arith, e, h)) in
        (one.0, one.1, omega (arith, one.2), subst (λ (j : ℕ). test one.0 (j + 1) ≡ false) e one.3))
  ];
}
  where
    in-order : (i : ℕ) → 1 ≤ i → i ≤ k + 1 → test (k + 1) s ≡ true → ((i : ℕ) → 1 ≤ i → i ≤ k → test i r ≡ true) → test i s ≡ true
    in-order i some within last each = elim (cases_lt k i) [
      | inl more ↦ (let e : k + 1 ≡ i = omega (arith, more, within) in subst (λ (j : ℕ). test j s ≡ true) e last)
      | inr earlier ↦ order i s r some (omega (arith, within, few)) here.within (each i some earlier)
    ]

    met-both : (s ≡ 0) ⊎ (test (k + 1) s ≡ true) → (r ≡ 0) ⊎ ((i : ℕ) → 1 ≤ i → i ≤ k → test i r ≡ true) → (s ≡ 0) ⊎ ((i : ℕ) → 1 ≤ i → i ≤ k + 1 → test i s ≡ true)
    met-both (inl none) all = inl none
    met-both (inr last) (inl none) = inl (omega (arith, none, here.within))
    met-both (inr last) (inr each) = inr (λ i some within. in-order i some within last each)

module _ {A : Type 0} {n : Numbers A} (laws : Lawful n) {w : Wall A} {scale : Scale} {stock : List Item} {numbers : List ItemNo} (k : StandsFor n w scale stock numbers) (p : PanelData) (panel : IsPanel p) where
  abbrev at : Plate A
  at = by.plate n scale.q0 w p

  abbrev test : ℕ → ℕ → Bool
  test i r = by.meets_at n at (by.in_waves n.calc at i) r

  more-load : (r s : ℕ) → r ≤ s → (pos r *ℤ by.load_units p) ≤ℤ (pos s *ℤ by.load_units p)
  more-load r s h =
      let more : pos r ≤ℤ pos s = omega (arith, ints, h) in
      Z.at_most (Z.◌*ₙ◌ (Z.above more) (load-least p panel)) (Z.solve 3 (λ r s l. s ⊗ l ⊖ r ⊗ l ≐ (s ⊖ r) ⊗ l) refl (pos r) (pos s) (by.load_units p))

  -- what meets a factor meets a lower one
  test-order : (i r s : ℕ) → 1 ≤ i → i ≤ 1903 → r ≤ s → test i s ≡ true → test i r ≡ true
  test-order i r s some few h e =
      let high = n.high (by.in_waves n.calc at i).shares in
      let cross = below-of_test _ _ e in
      let order = shifted-order (pos r *ℤ by.load_units p) (pos s *ℤ by.load_units p) at.shift (more-load r s h) in
      let less : ((by.load_at at (pos r) +ℤ pos 1) *ℤ high) ≤ℤ ((by.load_at at (pos s) +ℤ pos 1) *ℤ high) =
      Z.at_most (Z.◌*ₙ◌ (Z.above order) (Z.weaken (high-above laws k p panel i some few))) (Z.solve 3 (λ a b h. (b ⊕ int (pos 1)) ⊗ h ⊖ (a ⊕ int (pos 1)) ⊗ h ≐ (b ⊖ a) ⊗ h) refl (by.load_at at (pos r)) (by.load_at at (pos s)) high) in
      test-of_below _ _ (chained less cross)
    where
      chained : {x y z : ℤ} → x ≤ℤ y → y <ℤ z → x <ℤ z
      chained {x} {y} {z} a b = omega (arith, ints, a, b)

  lowest-facts : (m : ℕ) → m ≤ 1903 → IsLowest test m (by.lowest_up_to n at m)
  lowest-facts zero few = subst (IsLowest test 0) (sym (lowest-none n at)) (record { bound = omega arith; met = inr (λ i some none. absurd (omega (arith, some, none))); next = λ h. absurd (omega (arith, h)) })
  lowest-facts (suc m) few =
      let next : suc m ≡ m + 1 = omega arith in
      let before = lowest-facts m (omega (arith, few)) in
      subst (λ (j : ℕ). IsLowest test j (by.lowest_up_to n at j)) (sym next)
      (subst (IsLowest test (m + 1)) (sym (lowest-more n at m))
      (lowest-step test test-order m (by.lowest_up_to n at m) (by.lowered (test (m + 1)) (by.lowest_up_to n at m)) (omega (arith, few)) before (lowered-facts (test (m + 1)) (by.lowest_up_to n at m) before.bound)))

  abbrev printed : ℕ
  printed = by.printed_panel n scale.q0 w p

  facts : IsLowest test at.waves printed
  facts = lowest-facts at.waves (waves-few laws k p panel)

  pub printed-bound : printed ≤ 20000
  printed-bound = facts.bound

  pub printed-met : (printed ≡ 0) ⊎ (by.panel_verdict n scale.q0 w p (pos printed) ≡ Meets)
  printed-met = elim facts.met [
    | inl none ↦ inl none
    | inr each ↦ inr (all-meet n at (by.load_at at (pos printed)) at.waves (λ i some few. meets-wave n at (by.load_at at (pos printed)) i (each i some few)))
  ]

  pub printed-next : printed < 20000 → ¬ (by.panel_verdict n scale.q0 w p (pos (printed + 1)) ≡ Meets)
  printed-next h e =
      let one = facts.next h in
      let meets : test one.0 (printed + 1) ≡ true = wave-meets n at (by.load_at at (pos (printed + 1))) one.0 (each-meets n at (by.load_at at (pos (printed + 1))) at.waves e one.0 one.1 one.2) in
      let fails : test one.0 (printed + 1) ≡ false = one.3 in
      cc

  no-load : (l : ℤ) (r : ℕ) → r ≡ 0 → whole (pos r) *ℚ fraction l (pos 1000) ≡ whole (pos 0)
  no-load l r e = ap (λ (j : ℕ). whole (pos j) *ℚ fraction l (pos 1000)) e ∙ zero-times (fraction l (pos 1000))

  pub printed-stands : PanelAtLeast (items_of stock numbers) p (whole (pos printed))
  printed-stands i some = elim printed-met [
    | inl none ↦ subst (λ l. l ≤ℚ buckling_load (items_of stock numbers) p i) (sym (no-load p.load printed none)) (unloaded-every laws k p panel i some)
    | inr met ↦ weaken (verdict-stands laws k p panel (pos printed) (omega (arith, ints)) met i some)
  ]
