-- The verdict and the printed ratio of a panel, from one number of half waves to the next; and what they say of each.
use Rattle.std.proofs.Common.{◌≡◌, refl, sym, ◌∙◌, ap, ℕ, zero, suc, ◌+◌, ◌-◌, ◌<◌, ◌≤◌, ◌⊎◌, inl, inr, Bool, true, false, ℤ, pos, ◌≤ℤ◌, ◌<ℤ◌, arith, w64}
use Rattle.std.specs.Prelude.{if◌then◌else◌}
use Rattle.std.proofs.lemmas.Int.{to_z-of_z}
use Rattle.lam_fraction.specs.numbers.Numbers.{Numbers}
use Rattle.lam_fraction.proofs.numbers.Machine.{stored-64}
use Rattle.lam_number.specs.declared.strength.Verdict.{Verdict}
use Rattle.lam_number.specs.declared.strength.Verdict.TheVariants.{Meets, Fails, Straddles}
use Rattle.lam_plate.specs.declared.wave.Bending.{Bending}
use Rattle.lam_plate.specs.declared.plate.Plate.{Plate}
use Rattle.lam_plate.specs.inside.Formulas.{in_waves, joined, verdict_up_to, wave_verdict, meets, fails, meets_at, lowest_up_to, lowered}
use Rattle.lam_plate.proofs.ShiftedUnits.{small-fits}

pub stored-below : (z : ℤ) → pos 0 ≤ℤ z → z <ℤ pos 4611686018427387904 → stored-64 z ≡ z
stored-below z h k = to_z-of_z w64 z (small-fits z h k)

pub same_plate : {A : Type 0} {b b' : Bending A} {l l' w w' : ℤ} {m m' : ℕ} {u u' s s' : ℤ} {k k' : ℕ}
    → b ≡ b' → l ≡ l' → w ≡ w' → m ≡ m' → u ≡ u' → s ≡ s' → k ≡ k'
    → ◌≡◌ {A = Plate A}
    (record { bending = b; length_square = l; width_square = w; waves = m; load = u; stiffness = s; shift = k })
    (record { bending = b'; length_square = l'; width_square = w'; waves = m'; load = u'; stiffness = s'; shift = k' })
same_plate e f g h i j k = λ t. record { bending = e t; length_square = f t; width_square = g t; waves = h t; load = i t; stiffness = j t; shift = k t }

module _ {A : Type 0} (n : Numbers A) (p : Plate A) where
  -- ---- the verdict

  pub verdict-none : (load : ℤ) → verdict_up_to n p load 0 ≡ Meets
  unfolding verdict_up_to
  verdict-none load = refl

  verdict-suc : (load : ℤ) (m : ℕ) → verdict_up_to n p load (suc m) ≡ joined (verdict_up_to n p load m) (wave_verdict n (in_waves n.calc p (suc m)) load p.stiffness)
  unfolding verdict_up_to
  verdict-suc load m = refl

  pub verdict-more : (load : ℤ) (m : ℕ) → verdict_up_to n p load (m + 1) ≡ joined (verdict_up_to n p load m) (wave_verdict n (in_waves n.calc p (m + 1)) load p.stiffness)
  verdict-more load m =
      let next : m + 1 ≡ suc m = omega arith in
      ap (verdict_up_to n p load) next ∙ verdict-suc load m
      ∙ ap (λ (k : ℕ). joined (verdict_up_to n p load m) (wave_verdict n (in_waves n.calc p k) load p.stiffness)) (sym next)

  -- of one number of half waves
  abbrev pub At : ℤ → ℕ → Verdict
  At load m = wave_verdict n (in_waves n.calc p m) load p.stiffness

  joined-fails : (v : Verdict) → joined v Fails ≡ Fails
  joined-fails Meets = refl
  joined-fails Fails = refl
  joined-fails Straddles = refl

  fails-more : (load : ℤ) (m more : ℕ) → verdict_up_to n p load m ≡ Fails → verdict_up_to n p load (m + more) ≡ Fails
  fails-more load m zero e = ap (verdict_up_to n p load) (let same : m + 0 ≡ m = omega arith in same) ∙ e
  fails-more load m (suc more) e =
      let same : m + suc more ≡ (m + more) + 1 = omega arith in
      ap (verdict_up_to n p load) same ∙ verdict-more load (m + more)
      ∙ ap (λ v. joined v (At load ((m + more) + 1))) (fails-more load m more e)

  -- where one fails, all together fail
  pub fails-together : (load : ℤ) (m all : ℕ) → m < all → At load (m + 1) ≡ Fails → verdict_up_to n p load all ≡ Fails
  fails-together load m all h e =
      let here : verdict_up_to n p load (m + 1) ≡ Fails = verdict-more load m ∙ ap (joined (verdict_up_to n p load m)) e ∙ joined-fails (verdict_up_to n p load m) in
      let rest : (more : ℕ) × ((m + 1) + more ≡ all) = split (m + 1) all (omega (arith, h)) in
      ap (verdict_up_to n p load) (sym rest.1) ∙ fails-more load (m + 1) rest.0 here
    where
      split : (i k : ℕ) → i ≤ k → (more : ℕ) × (i + more ≡ k)
      split i k h = (k - i, omega (arith, h))

  meets-both : (v w : Verdict) → joined v w ≡ Meets → (v ≡ Meets) × (w ≡ Meets)
  meets-both Meets w e = (refl, e)
  meets-both Fails w e = absurd (cc)
  meets-both Straddles Meets e = absurd (cc)
  meets-both Straddles Fails e = absurd (cc)
  meets-both Straddles Straddles e = absurd (cc)

  -- where all together meet, each does
  pub each-meets : (load : ℤ) (all : ℕ) → verdict_up_to n p load all ≡ Meets → (m : ℕ) → 1 ≤ m → m ≤ all → At load m ≡ Meets
  each-meets load zero e m some few = absurd (omega (arith, some, few))
  each-meets load (suc all) e m some few =
      let both = meets-both (verdict_up_to n p load all) (At load (suc all)) (sym (verdict-suc load all) ∙ e) in
      last-or-earlier both.1 (λ less. each-meets load all both.0 m some less) (earlier m (suc all) few)
    where
      earlier : (i k : ℕ) → i ≤ k → (i ≡ k) ⊎ (i < k)
      earlier i k h = grind (arith, h)

      last-or-earlier : At load (suc all) ≡ Meets → (m ≤ all → At load m ≡ Meets) → (m ≡ suc all) ⊎ (m < suc all) → At load m ≡ Meets
      last-or-earlier last rest (inl same) = ap (At load) same ∙ last
      last-or-earlier last rest (inr less) = rest (omega (arith, less))

  pub all-meet : (load : ℤ) (all : ℕ) → ((m : ℕ) → 1 ≤ m → m ≤ all → At load m ≡ Meets) → verdict_up_to n p load all ≡ Meets
  all-meet load zero each = verdict-none load
  all-meet load (suc all) each =
      verdict-suc load all ∙ ap (λ v. joined v (At load (suc all))) (all-meet load all (λ m some few. each m some (omega (arith, few))))
      ∙ each (suc all) (omega arith) (omega arith)

  fails-one : (v w : Verdict) → joined v w ≡ Fails → (v ≡ Fails) ⊎ (w ≡ Fails)
  fails-one Meets w e = inr e
  fails-one Fails w e = inl refl
  fails-one Straddles Meets e = absurd (cc)
  fails-one Straddles Fails e = inr refl
  fails-one Straddles Straddles e = absurd (cc)

  pub one-fails : (load : ℤ) (all : ℕ) → verdict_up_to n p load all ≡ Fails → (m : ℕ) × (1 ≤ m) × (m ≤ all) × (At load m ≡ Fails)
  one-fails load zero e = let none = verdict-none load in absurd (cc)
  one-fails load (suc all) e = from (λ earlier. one-fails load all earlier) (fails-one (verdict_up_to n p load all) (At load (suc all)) (sym (verdict-suc load all) ∙ e))
    where
      from : (verdict_up_to n p load all ≡ Fails → (m : ℕ) × (1 ≤ m) × (m ≤ all) × (At load m ≡ Fails)) → (verdict_up_to n p load all ≡ Fails) ⊎ (At load (suc all) ≡ Fails)
          → (m : ℕ) × (1 ≤ m) × (m ≤ suc all) × (At load m ≡ Fails)
      from earlier (inl before) = let w = earlier before in (w.0, w.1, omega (arith, w.2), w.3)
      from earlier (inr last) = (suc all, omega arith, omega arith, last)

  -- ---- the comparisons

  meets-of : (m f : Bool) → (if m then Meets else (if f then Fails else Straddles)) ≡ Meets → m ≡ true
  meets-of true f e = refl
  meets-of false true e = absurd (cc)
  meets-of false false e = absurd (cc)

  fails-of : (m f : Bool) → (if m then Meets else (if f then Fails else Straddles)) ≡ Fails → f ≡ true
  fails-of true f e = absurd (cc)
  fails-of false true e = refl
  fails-of false false e = absurd (cc)

  pub wave-meets : (load : ℤ) (m : ℕ) → At load m ≡ Meets → meets n (in_waves n.calc p m) load p.stiffness ≡ true
  wave-meets load m e = meets-of (meets n (in_waves n.calc p m) load p.stiffness) (fails n (in_waves n.calc p m) load p.stiffness) e

  pub wave-fails : (load : ℤ) (m : ℕ) → At load m ≡ Fails → fails n (in_waves n.calc p m) load p.stiffness ≡ true
  wave-fails load m e = fails-of (meets n (in_waves n.calc p m) load p.stiffness) (fails n (in_waves n.calc p m) load p.stiffness) e

  pub meets-wave : (load : ℤ) (m : ℕ) → meets n (in_waves n.calc p m) load p.stiffness ≡ true → At load m ≡ Meets
  meets-wave load m e = ap (λ (t : Bool). if t then Meets else (if fails n (in_waves n.calc p m) load p.stiffness then Fails else Straddles)) e

  -- where not all together meet, one is not seen to meet
  joined-meets : (v : Verdict) → joined v Meets ≡ v
  joined-meets Meets = refl
  joined-meets Fails = refl
  joined-meets Straddles = refl

  pub one-not_met : (load : ℤ) (all : ℕ) → ¬ (verdict_up_to n p load all ≡ Meets) → (m : ℕ) × (1 ≤ m) × (m ≤ all) × (meets n (in_waves n.calc p m) load p.stiffness ≡ false)
  one-not_met load zero h = absurd (h (verdict-none load))
  one-not_met load (suc all) h = last-or-earlier (meets n (in_waves n.calc p (suc all)) load p.stiffness) refl (λ earlier. one-not_met load all earlier)
    where
      last-or-earlier : (b : Bool) → meets n (in_waves n.calc p (suc all)) load p.stiffness ≡ b
          → (¬ (verdict_up_to n p load all ≡ Meets) → (m : ℕ) × (1 ≤ m) × (m ≤ all) × (meets n (in_waves n.calc p m) load p.stiffness ≡ false))
          → (m : ℕ) × (1 ≤ m) × (m ≤ suc all) × (meets n (in_waves n.calc p m) load p.stiffness ≡ false)
      last-or-earlier false e rest = (suc all, omega arith, omega arith, e)
      last-or-earlier true e rest =
          let same : verdict_up_to n p load (suc all) ≡ verdict_up_to n p load all = verdict-suc load all ∙ ap (joined (verdict_up_to n p load all)) (meets-wave load (suc all) e) ∙ joined-meets (verdict_up_to n p load all) in
          let one = rest (λ f. h (same ∙ f)) in
          (one.0, one.1, omega (arith, one.2), one.3)

  -- where all together do not fail, each is seen to meet or is not seen to fail
  pub each-not_failed : (load : ℤ) (all : ℕ) → ¬ (verdict_up_to n p load all ≡ Fails) → (m : ℕ) → 1 ≤ m → m ≤ all
      → (meets n (in_waves n.calc p m) load p.stiffness ≡ true) ⊎ (fails n (in_waves n.calc p m) load p.stiffness ≡ false)
  each-not_failed load all h m some few =
      by_tests (meets n (in_waves n.calc p m) load p.stiffness) (fails n (in_waves n.calc p m) load p.stiffness) (λ e. h (fails-together load (m - 1) all (omega (arith, some, few)) (ap (At load) before ∙ e)))
    where
      before : (m - 1) + 1 ≡ m
      before = omega (arith, some)

      by_tests : (t f : Bool) → ¬ ((if t then Meets else (if f then Fails else Straddles)) ≡ Fails) → (t ≡ true) ⊎ (f ≡ false)
      by_tests true f none = inl refl
      by_tests false true none = absurd (none refl)
      by_tests false false none = inr refl

  -- ---- the printed ratio

  pub lowest-none : lowest_up_to n p 0 ≡ 20000
  unfolding lowest_up_to
  lowest-none = refl

  lowest-suc : (m : ℕ) → lowest_up_to n p (suc m) ≡ lowered (meets_at n p (in_waves n.calc p (suc m))) (lowest_up_to n p m)
  unfolding lowest_up_to
  lowest-suc m = refl

  pub lowest-more : (m : ℕ) → lowest_up_to n p (m + 1) ≡ lowered (meets_at n p (in_waves n.calc p (m + 1))) (lowest_up_to n p m)
  lowest-more m =
      let next : m + 1 ≡ suc m = omega arith in
      ap (lowest_up_to n p) next ∙ lowest-suc m ∙ ap (λ (k : ℕ). lowered (meets_at n p (in_waves n.calc p k)) (lowest_up_to n p m)) (sym next)
