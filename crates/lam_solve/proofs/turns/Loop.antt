-- The loop of the turns over a narrow wall: where it leads, and that it ends.
use Rattle.std.proofs.Common.{◌≡◌, refl, sym, ◌∙◌, ap, subst, ℕ, zero, suc, ◌-◌, ◌*◌, ◌<◌, ◌≤◌, Bool, true, false, ◌&&◌, nat_eq, nat_le, List, ◌≤ℤ◌, arith}
use Rattle.std.proofs.lemmas.Bool.Decides.{nat_tests}
use Rattle.std.proofs.lemmas.Int.{ints}
use Rattle.lam_fraction.specs.numbers.Numbers.{Numbers, Lawful}
use Rattle.lam_fraction.proofs.numbers.Tests.{both-left, both-right}
use Rattle.lam_stock.specs.declared.item.Item.{Item}
use Rattle.lam_stock.specs.declared.item.ItemNo.{ItemNo}
use Rattle.lam_stock.specs.declared.scale.Scale.{Scale}
use Rattle.lam_lamina.specs.declared.stiffness.Sym3.{Sym3}
use Rattle.lam_lamina.specs.Held.{NarrowMatrix}
use Rattle.lam_job.specs.declared.load.Load.{Load}
use Rattle.lam_job.specs.LoadRange.{LoadInRange}
use Rattle.lam_wall.specs.declared.wall.Wall.{Wall}
use Rattle.lam_wall.specs.Assembled.{NarrowWall, StandsFor}
use Rattle.lam_solve.specs.declared.six.Six.{Six}
use Rattle.lam_solve.specs.declared.six.Ends.{Ends}
use Rattle.lam_solve.specs.declared.strains.Guess.{Guess}
use Rattle.lam_solve.specs.inside.Formulas as formulas
use Rattle.lam_solve.specs.inside.Narrow.{is_narrow, is_narrow_entry, is_narrow_matrix}
use Rattle.lam_solve.specs.inside.Parts.{AreLoadsOn}
use Rattle.lam_solve.specs.inside.Residual.{residual, greatest_middle}
use Rattle.lam_solve.specs.inside.Settled.{Settled}
use Rattle.lam_solve.specs.inside.Solution.{IsFirst, after, centre, first_settled, is_settled, refined, start, turned}
use Rattle.lam_solve.specs.inside.Turns.{strains, potential, matrix_sums, load_sums, wall_potential, height}
use Rattle.lam_solve.proofs.Refined.{refined-ends, refined-step, step, centre-narrow}
use Rattle.lam_solve.proofs.turns.Starts.{one}
use Rattle.lam_solve.proofs.turns.WallBounds as bounds
use Rattle.lam_solve.proofs.turns.WallTurns as walls

-- ---- a narrow wall, by the test

passed : (m k : ℕ) → nat_le m k ≡ true → m ≤ k
passed m k h = grind (arith, nat_tests)

same_number : (m k : ℕ) → nat_eq m k ≡ true → m ≡ k
same_number m k h = grind (arith, nat_tests)

all_six : (a b c d e f : Bool) → (a && b && c && d && e && f) ≡ true → (a ≡ true) × (b ≡ true) × (c ≡ true) × (d ≡ true) × (e ≡ true) × (f ≡ true)
all_six a b c d e f h =
    let five = both-left (a && b && c && d && e) f h in
    let four = both-left (a && b && c && d) e five in
    let three = both-left (a && b && c) d four in
    let two = both-left (a && b) c three in
    (both-left a b two, both-right a b two, both-right (a && b) c three, both-right (a && b && c) d four, both-right (a && b && c && d) e five, both-right (a && b && c && d && e) f h)

all_four : (a b c d : Bool) → (a && b && c && d) ≡ true → (a ≡ true) × (b ≡ true) × (c ≡ true) × (d ≡ true)
all_four a b c d h =
    let three = both-left (a && b && c) d h in
    let two = both-left (a && b) c three in
    (both-left a b two, both-right a b two, both-right (a && b) c three, both-right (a && b && c) d h)

module _ {A : Type 0} (n : Numbers A) where
  matrix : (m : Sym3 A) → is_narrow_matrix n m ≡ true → NarrowMatrix 512 n m
  unfolding is_narrow_matrix
  matrix m h =
      let each = all_six (is_narrow_entry n m.xx) (is_narrow_entry n m.xy) (is_narrow_entry n m.yy) (is_narrow_entry n m.xs) (is_narrow_entry n m.ys) (is_narrow_entry n m.ss) h in
      record {
        xx = passed _ _ each.0;
        xy = passed _ _ each.1;
        yy = passed _ _ each.2;
        xs = passed _ _ each.3;
        ys = passed _ _ each.4;
        ss = passed _ _ each.5;
      }

  pub narrow-wall : (w : Wall A) → is_narrow n w ≡ true → NarrowWall 512 n w
  unfolding is_narrow
  narrow-wall w h =
      let each = all_four (nat_eq n.scale 60) (is_narrow_matrix n w.a) (is_narrow_matrix n w.b) (is_narrow_matrix n w.d) h in
      record { a = matrix w.a each.1; b = matrix w.b each.2; d = matrix w.d each.3 }

  pub narrow-sixty : (w : Wall A) → is_narrow n w ≡ true → n.scale ≡ 60
  unfolding is_narrow
  narrow-sixty w h = same_number n.scale 60 (all_four (nat_eq n.scale 60) (is_narrow_matrix n w.a) (is_narrow_matrix n w.b) (is_narrow_matrix n w.d) h).0

-- ---- where a centre leads: to where the turns lead that the height of the start allows

pub record Leads {A : Type 0} (n : Numbers A) (w : Wall A) (loads : Six A) (s c : Guess) : Type 0 where
  pub turns : ℕ
  pub enough : height n w loads c ≤ turns
  pub same : refined n (4096 * n.slop) w loads turns c ≡ refined n (4096 * n.slop) w loads (height n w loads s) s
  pub lower : wall_potential n w loads (strains c) ≤ℤ wall_potential n w loads (strains s)

module _ {A : Type 0} {n : Numbers A} {w : Wall A} {loads : Six A} where
  pub leads-first : (s : Guess) → Leads n w loads s s
  leads-first s = record { turns = height n w loads s; enough = omega arith; same = refl; lower = omega (arith, ints) }

  pub leads-end : (s c : Guess) (r : Six Ends) → Leads n w loads s c → r ≡ residual n w loads c → is_settled n (4096 * n.slop) r ≡ true
      → c ≡ refined n (4096 * n.slop) w loads (height n w loads s) s
  leads-end s c r l e h = sym (refined-ends n (4096 * n.slop) w loads l.turns c r e h) ∙ l.same

-- a turn that is not the last leads there too, from less high
pub record Turns {A : Type 0} (n : Numbers A) (w : Wall A) (loads : Six A) (s c : Guess) : Type 0 where
  pub leads : Leads n w loads s (turned n c (residual n w loads c))
  pub smaller : height n w loads (turned n c (residual n w loads c)) < height n w loads c

abbrev EachTurn : {A : Type 0} → Numbers A → Wall A → Guess → Six A → Type 0
EachTurn n w g loads = (c : Guess) → Leads n w loads (start n w loads g) c → is_settled n (4096 * n.slop) (residual n w loads c) ≡ false → Turns n w loads (start n w loads g) c

abbrev EachEnd : {A : Type 0} → Numbers A → Wall A → Guess → Six A → Type 0
EachEnd n w g loads = (c : Guess) → Leads n w loads (start n w loads g) c → greatest_middle n (residual n w loads c) ≤ 4096 * n.slop → Settled n c (residual n w loads c)

module _ {A : Type 0} {n : Numbers A} (laws : Lawful n) {w : Wall A} (narrow : is_narrow n w ≡ true) (g : Guess) where
  module _ {scale : Scale} {stock : List Item} {numbers : List ItemNo} (stands : StandsFor n w scale stock numbers) (load : Load) (range : LoadInRange scale.floor w.h load) where
    abbrev at_load : Six A
    at_load = formulas.loads n.calc scale.q0 w.h load

    sixty : n.scale ≡ 60
    sixty = narrow-sixty n w narrow

    -- with one as it is, and in units
    lower-as : (c s : Guess) → wall_potential n w at_load (strains c) ≤ℤ wall_potential n w at_load (strains s)
        → potential (matrix_sums n w.a) (matrix_sums n w.b) (matrix_sums n w.d) (load_sums n at_load) one (strains c) ≤ℤ potential (matrix_sums n w.a) (matrix_sums n w.b) (matrix_sums n w.d) (load_sums n at_load) one (strains s)
    lower-as c s h = subst (λ u. potential (matrix_sums n w.a) (matrix_sums n w.b) (matrix_sums n w.d) (load_sums n at_load) u (strains c) ≤ℤ potential (matrix_sums n w.a) (matrix_sums n w.b) (matrix_sums n w.d) (load_sums n at_load) u (strains s)) (bounds.one-is laws sixty) h

    lower-back : (c s : Guess) → potential (matrix_sums n w.a) (matrix_sums n w.b) (matrix_sums n w.d) (load_sums n at_load) one (strains c) ≤ℤ potential (matrix_sums n w.a) (matrix_sums n w.b) (matrix_sums n w.d) (load_sums n at_load) one (strains s)
        → wall_potential n w at_load (strains c) ≤ℤ wall_potential n w at_load (strains s)
    lower-back c s h = subst (λ u. potential (matrix_sums n w.a) (matrix_sums n w.b) (matrix_sums n w.d) (load_sums n at_load) u (strains c) ≤ℤ potential (matrix_sums n w.a) (matrix_sums n w.b) (matrix_sums n w.d) (load_sums n at_load) u (strains s)) (sym (bounds.one-is laws sixty)) h

    turn-at : EachTurn n w g at_load
    turn-at c l more =
        let s = start n w at_load g in
        let is = walls.start-starts laws sixty stands (narrow-wall n w narrow) range g in
        let lower = lower-as c s l.lower in
        let smaller = walls.turn-height laws sixty stands (narrow-wall n w narrow) range s is c lower more in
        record {
          leads = record {
            turns = l.turns - 1;
            enough = omega (arith, l.enough, smaller);
            same = sym (refined-step n (4096 * n.slop) w at_load l.turns c (residual n w at_load c) (omega (arith, l.enough, smaller)) refl more) ∙ l.same;
            lower = lower-back (turned n c (residual n w at_load c)) s (walls.turn-lower laws sixty stands (narrow-wall n w narrow) range s is c lower more);
          };
          smaller = smaller;
        }

    end-at : EachEnd n w g at_load
    end-at c l h =
        let s = start n w at_load g in
        walls.centre-settled laws sixty stands (narrow-wall n w narrow) range s (walls.start-starts laws sixty stands (narrow-wall n w narrow) range g) c (lower-as c s l.lower) h

  module _ {loads : Six A} (on : AreLoadsOn n w loads) where
    pub each-turn : EachTurn n w g loads
    each-turn = subst (EachTurn n w g) (sym on.are) (turn-at on.wall.2 on.load on.range)

    pub each-end : EachEnd n w g loads
    each-end = subst (EachEnd n w g) (sym on.are) (end-at on.wall.2 on.load on.range)

-- ---- as it is computed

module _ {A : Type 0} (n : Numbers A) (w : Wall A) (loads : Six A) (c : Guess) (r : Six Ends) (is : r ≡ residual n w loads c) where
  pub tested : (b : Bool) (most : ℕ) → most ≡ 4096 * n.slop → is_settled n most r ≡ b → is_settled n (4096 * n.slop) (residual n w loads c) ≡ b
  tested b most e h = subst (λ t. is_settled n (4096 * n.slop) t ≡ b) is (subst (λ m. is_settled n m r ≡ b) e h)

  pub next-leads : (s next : Guess) → next ≡ turned n c r → Turns n w loads s c → Leads n w loads s next
  next-leads s next e t = subst (Leads n w loads s) (sym (e ∙ ap (turned n c) is)) t.leads

  pub next-smaller : (s next : Guess) → next ≡ turned n c r → Turns n w loads s c → height n w loads next < height n w loads c
  next-smaller s next e t = subst (λ x. height n w loads x < height n w loads c) (sym (e ∙ ap (turned n c) is)) t.smaller

pub settled-middles : {A : Type 0} (n : Numbers A) (r : Six Ends) → is_settled n (4096 * n.slop) r ≡ true → greatest_middle n r ≤ 4096 * n.slop
unfolding is_settled
settled-middles n r h = passed (greatest_middle n r) (4096 * n.slop) h

-- ---- where they end, by the definition

by_test : {X : Type 0} (b : Bool) → (b ≡ true → X) → (b ≡ false → X) → X
by_test true f g = f refl
by_test false f g = g refl

module _ {A : Type 0} {n : Numbers A} (laws : Lawful n) {w : Wall A} {loads : Six A} (on : AreLoadsOn n w loads) (narrow : is_narrow n w ≡ true) (g : Guess) where
  abbrev end : ℕ → Guess → Guess
  end k c = refined n (4096 * n.slop) w loads k c

  abbrev settled : Guess → Bool
  settled c = is_settled n (4096 * n.slop) (residual n w loads c)

  abbrev IsEnd : Guess → Type 0
  IsEnd c = Settled n c (residual n w loads c)

  ended : (k : ℕ) (c : Guess) → Leads n w loads (start n w loads g) c → settled c ≡ true → IsEnd (end k c)
  ended k c l e = subst IsEnd (sym (refined-ends n (4096 * n.slop) w loads k c (residual n w loads c) refl e))
      (each-end laws narrow g on c l (settled-middles n (residual n w loads c) e))

  settles : (k : ℕ) (c : Guess) → Leads n w loads (start n w loads g) c → height n w loads c ≤ k → IsEnd (end k c)
  settles zero c l h = by_test (settled c) (ended zero c l) (λ e. let t = (each-turn laws narrow g on c l e).smaller in absurd (omega (arith, h, t)))
  settles (suc k) c l h = by_test (settled c) (ended (suc k) c l)
      (λ e. let t = each-turn laws narrow g on c l e in
      let few : height n w loads (turned n c (residual n w loads c)) ≤ k = omega (arith, h, t.smaller) in
      subst IsEnd (sym (step n (4096 * n.slop) w loads k c (residual n w loads c) refl e)) (settles k (turned n c (residual n w loads c)) t.leads few))

  abbrev FirstFrom : Guess → Guess → Type 0
  FirstFrom c e = IsFirst n (4096 * n.slop) w loads c e

  at-once : (k : ℕ) (c : Guess) → settled c ≡ true → FirstFrom c (end k c)
  unfolding after
  at-once k c e = subst (FirstFrom c) (sym (refined-ends n (4096 * n.slop) w loads k c (residual n w loads c) refl e))
      (record { turns = 0; follows = refl; ends = e; earlier = λ j h. absurd (omega (arith, h)) })

  later : (c x : Guess) → settled c ≡ false → FirstFrom (turned n c (residual n w loads c)) x → FirstFrom c x
  unfolding after
  later c x e f = record { turns = suc f.turns; follows = f.follows; ends = f.ends; earlier = each }
    where
      each : (j : ℕ) → j < suc f.turns → settled (after n w loads j c) ≡ false
      each zero h = e
      each (suc j) h = f.earlier j (omega (arith, h))

  first-of : (k : ℕ) (c : Guess) → Leads n w loads (start n w loads g) c → height n w loads c ≤ k → FirstFrom c (end k c)
  first-of zero c l h = by_test (settled c) (at-once zero c) (λ e. let t = (each-turn laws narrow g on c l e).smaller in absurd (omega (arith, h, t)))
  first-of (suc k) c l h = by_test (settled c) (at-once (suc k) c)
      (λ e. let t = each-turn laws narrow g on c l e in
      let few : height n w loads (turned n c (residual n w loads c)) ≤ k = omega (arith, h, t.smaller) in
      later c (end (suc k) c) e (subst (FirstFrom (turned n c (residual n w loads c))) (sym (step n (4096 * n.slop) w loads k c (residual n w loads c) refl e)) (first-of k (turned n c (residual n w loads c)) t.leads few)))

  -- what the number of turns that is allowed leads to is the first centre at which they end
  pub first-settles : FirstFrom (start n w loads g) (first_settled n w loads (start n w loads g))
  first-settles = first-of (height n w loads (start n w loads g)) (start n w loads g) (leads-first (start n w loads g)) (omega arith)

  -- the centre that a guess leads to over a narrow wall
  pub centre-settles : Settled n (centre n w loads g) (residual n w loads (centre n w loads g))
  centre-settles = subst IsEnd (sym (centre-narrow n w loads g narrow))
      (settles (height n w loads (start n w loads g)) (start n w loads g) (leads-first (start n w loads g)) (omega arith))
