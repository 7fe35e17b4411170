-- Turns of refinement: what is left of them after one.
use Rattle.std.proofs.Common.{◌≡◌, refl, sym, ◌∙◌, ap, subst, ℕ, zero, suc, ◌-◌, ◌/◌, ◌<◌, ◌≤◌, Bool, true, false, cond, ℤ, unsigned_abs, arith}
use Rattle.lam_fraction.specs.numbers.Numbers.{Numbers, unit}
use Rattle.lam_fraction.specs.numbers.Rounding.{floor_over}
use Rattle.lam_fraction.specs.inside.Size.{AtMost}
use Rattle.lam_wall.specs.declared.wall.Wall.{Wall}
use Rattle.lam_solve.specs.declared.six.Six.{Six}
use Rattle.lam_solve.specs.declared.six.Ends.{Ends}
use Rattle.lam_solve.specs.declared.strains.Guess.{Guess}
use Rattle.lam_solve.specs.inside.Narrow.{is_narrow}
use Rattle.lam_solve.specs.inside.Residual.{residual}
use Rattle.lam_solve.specs.inside.Solution.{centre, first_settled, is_settled, no_strains, refined, start, turned}
use Rattle.lam_solve.proofs.Eliminated.{floor-small}

pub shifted-within : (r z : ℤ) (k m : ℕ) → r ≡ floor_over z k → unsigned_abs z ≤ m → AtMost m r
shifted-within r z k m e h = record { size = subst (λ t. unsigned_abs t ≤ m) (sym e) (let s = floor-small z k in omega (arith, h, s)) }

-- ---- where the rule holds, the centre stands; where not, a turn follows

settled_cond : {X : Type 0} (b : Bool) (x y : X) → b ≡ true → cond b x y ≡ x
settled_cond true x y e = refl
settled_cond false x y e = absurd (cc)

unsettled_cond : {X : Type 0} (b : Bool) (x y : X) → b ≡ false → cond b x y ≡ y
unsettled_cond true x y e = absurd (cc)
unsettled_cond false x y e = refl

module _ {A : Type 0} (n : Numbers A) (most : ℕ) (w : Wall A) (loads : Six A) where
  pub refined-none : (c : Guess) → refined n most w loads 0 c ≡ c
  unfolding refined
  refined-none c = refl

  pub refined-ends : (left : ℕ) (c : Guess) (r : Six Ends) → r ≡ residual n w loads c → is_settled n most r ≡ true → refined n most w loads left c ≡ c
  unfolding refined
  refined-ends zero c r e h = refl
  refined-ends (suc k) c r e h = settled_cond (is_settled n most (residual n w loads c)) _ _ (subst (λ t. is_settled n most t ≡ true) e h)

  pub step : (k : ℕ) (c : Guess) (r : Six Ends) → r ≡ residual n w loads c → is_settled n most r ≡ false → refined n most w loads (suc k) c ≡ refined n most w loads k (turned n c r)
  unfolding refined
  step k c r e h =
      unsettled_cond (is_settled n most (residual n w loads c)) _ _ (subst (λ t. is_settled n most t ≡ false) e h)
      ∙ ap (λ t. refined n most w loads k (turned n c t)) (sym e)

  pub refined-step : (left : ℕ) (c : Guess) (r : Six Ends) → 0 < left → r ≡ residual n w loads c → is_settled n most r ≡ false → refined n most w loads left c ≡ refined n most w loads (left - 1) (turned n c r)
  refined-step zero c r some e h = absurd (omega arith)
  refined-step (suc k) c r some e h = step k c r e h ∙ ap (λ j. refined n most w loads j (turned n c r)) (omega arith)

-- ---- where turns over a narrow wall start

module _ {A : Type 0} (n : Numbers A) (w : Wall A) (loads : Six A) (c : Guess) (r : Six Ends) (one : ℕ) (e : r ≡ residual n w loads c) (is : one ≡ unit n) where
  close-as : (b : Bool) → is_settled n (one / 8192) r ≡ b → is_settled n (unit n / 8192) (residual n w loads c) ≡ b
  close-as b h = subst (λ u. is_settled n (u / 8192) (residual n w loads c) ≡ b) is (subst (λ t. is_settled n (one / 8192) t ≡ b) e h)

  pub starts-close : is_settled n (one / 8192) r ≡ true → start n w loads c ≡ c
  unfolding start
  starts-close h = settled_cond _ c no_strains (close-as true h)

  pub starts-far : is_settled n (one / 8192) r ≡ false → start n w loads c ≡ no_strains
  unfolding start
  starts-far h = unsettled_cond _ c no_strains (close-as false h)

-- ---- the centre, over a narrow wall and over another

module _ {A : Type 0} (n : Numbers A) (w : Wall A) (loads : Six A) (c : Guess) where
  pub centre-narrow : is_narrow n w ≡ true → centre n w loads c ≡ first_settled n w loads (start n w loads c)
  unfolding centre
  centre-narrow h = settled_cond (is_narrow n w) (first_settled n w loads (start n w loads c)) (refined n 64 w loads 64 c) h

  pub centre-wide : is_narrow n w ≡ false → centre n w loads c ≡ refined n 64 w loads 64 c
  unfolding centre
  centre-wide h = unsettled_cond (is_narrow n w) (first_settled n w loads (start n w loads c)) (refined n 64 w loads 64 c) h
