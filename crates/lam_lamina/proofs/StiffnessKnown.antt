-- What is known of the stiffness of a ply and of an item, as it is computed: what it holds, and how wide it is.
use Rattle.std.proofs.Common.{refl, sym, ◌∙◌, ap, subst, ℕ, ◌*◌, ◌≤◌, ℤ, pos, arith}
use Rattle.std.proofs.lemmas.Int.{ints}
use Rattle.lam_fraction.specs.Fraction.{ℚ, whole}
use Rattle.lam_fraction.specs.numbers.Arithmetic.{exact}
use Rattle.lam_fraction.specs.numbers.Numbers.{Numbers, Holds, Lawful, IsRatio}
use Rattle.lam_fraction.specs.inside.Known.{Bounds}
use Rattle.lam_fraction.proofs.numbers.Tracks.{Ruled, given, tracked, bounded}
use Rattle.lam_fraction.proofs.numbers.Held.{held, holding}
use Rattle.lam_fraction.proofs.numbers.Rooms.{known_reaches}
use Rattle.lam_direction.specs.Circle.{CirclePoint, IsDirection}
use Rattle.lam_stock.specs.declared.item.Kind.{Kind}
use Rattle.lam_stock.specs.declared.item.Kind.TheVariants.{Ply, Pair}
use Rattle.lam_stock.specs.declared.item.Lamina.{Lamina}
use Rattle.lam_lamina.specs.Covered.{IsCovered}
use Rattle.lam_lamina.specs.Held.{HoldsModuli, HoldsMatrix, NarrowModuli, NarrowMatrix, IsNarrow}
use Rattle.lam_lamina.specs.Stiffness.{stiffness_over, moduli_over}
use Rattle.lam_lamina.specs.inside.Formulas as by
use Rattle.lam_lamina.specs.inside.Known.{KnownModuli, KnownPowers, KnownMatrix, ReachModuli, ReachPowers, quarters}
use Rattle.lam_direction.specs.Squares.{squares_of}
use Rattle.lam_lamina.specs.declared.powers.Powers.{Powers}
use Rattle.lam_lamina.specs.declared.stiffness.Reduced.{Reduced}
use Rattle.lam_lamina.specs.declared.stiffness.Sym3.{Sym3}
use Rattle.lam_lamina.proofs.Bounds.{zero-fraction}
use Rattle.lam_lamina.proofs.Identities.{uncoupled_stiffness, ply-stiffness, pair-stiffness}
use Rattle.lam_lamina.proofs.PowersKnown.{known-powers}
use Rattle.lam_lamina.proofs.ReducedKnown.{ratio-is, known-held, held-reduced, narrow-reduced, known-reduced}

module _ {A : Type 0} {n : Numbers A} (laws : Lawful n) where
  -- in quarters
  abbrev rules : Ruled n
  rules = record { laws = laws; d = 4; some = omega arith }

  -- the formulas, read with what is known of their numbers
  pub known-by_powers : {r : Reduced A} {m : Reduced ℚ} {p : Powers A} {q : Powers ℚ} → KnownModuli n r m → KnownPowers n p q
      → KnownMatrix n (quarters 11 18) (by.by_powers n.calc r p) (by.by_powers exact m q)
  known-by_powers h k =
      let t = by.by_powers (tracked rules) (record { q11 = given h.q11; q12 = given h.q12; q22 = given h.q22; q66 = given h.q66 })
      (record { cosine_fourth = given k.cosine_fourth; sine_fourth = given k.sine_fourth; squares = given k.squares; cosine_third = given k.cosine_third; sine_third = given k.sine_third }) in
      record {
        xx = bounded rules t.xx _ refl;
        xy = bounded rules t.xy _ refl;
        yy = bounded rules t.yy _ refl;
        xs = bounded rules t.xs _ refl;
        ys = bounded rules t.ys _ refl;
        ss = bounded rules t.ss _ refl;
      }

  pub held-matrix : {b : Bounds} {r : Sym3 A} {m : Sym3 ℚ} → KnownMatrix n b r m → HoldsMatrix n r m
  held-matrix k = record { xx = k.xx.held; xy = k.xy.held; yy = k.yy.held; xs = k.xs.held; ys = k.ys.held; ss = k.ss.held }

  pub narrow-matrix : {r : Sym3 A} {m : Sym3 ℚ} → KnownMatrix n (quarters 11 18) r m → NarrowMatrix 32 n r
  narrow-matrix k =
      let wide : (w : ℕ) → w * 4 ≤ (4 * 18) * n.slop → w ≤ 32 * n.slop = λ w h. omega (arith, h) in
      record { xx = wide _ k.xx.narrow; xy = wide _ k.xy.narrow; yy = wide _ k.yy.narrow; xs = wide _ k.xs.narrow; ys = wide _ k.ys.narrow; ss = wide _ k.ss.narrow }

  -- what the formulas hold, however wide their numbers are
  pub held-by_powers : {r : Reduced A} {m : Reduced ℚ} {p : Powers A} {q : Powers ℚ} → ReachModuli n r → ReachPowers n p → HoldsModuli n r m → KnownPowers n p q
      → HoldsMatrix n (by.by_powers n.calc r p) (by.by_powers exact m q)
  held-by_powers i j h k =
      let t = by.by_powers (held laws) (record { q11 = holding i.q11 h.q11; q12 = holding i.q12 h.q12; q22 = holding i.q22 h.q22; q66 = holding i.q66 h.q66 })
      (record {
        cosine_fourth = holding j.cosine_fourth k.cosine_fourth.held;
        sine_fourth = holding j.sine_fourth k.sine_fourth.held;
        squares = holding j.squares k.squares.held;
        cosine_third = holding j.cosine_third k.cosine_third.held;
        sine_third = holding j.sine_third k.sine_third.held;
      }) in
      record { xx = t.xx.holds refl; xy = t.xy.holds refl; yy = t.yy.holds refl; xs = t.xs.holds refl; ys = t.ys.holds refl; ss = t.ss.holds refl }

  -- ---- their reach
  pub reach-reduced : {q0 : ℤ} {l : Lamina} → IsCovered q0 l → ReachModuli n (by.reduced n.calc q0 l)
  reach-reduced covered =
      let k = known-reduced covered laws in
      record { q11 = known_reaches laws 4 _ (omega arith) k.q11 (omega arith); q12 = known_reaches laws 4 _ (omega arith) k.q12 (omega arith); q22 = known_reaches laws 4 _ (omega arith) k.q22 (omega arith); q66 = known_reaches laws 4 _ (omega arith) k.q66 (omega arith) }

  pub reach-powers : {d : CirclePoint} → IsDirection d → ReachPowers n (by.powers n.calc (squares_of d))
  reach-powers direction =
      let k = known-powers laws direction in
      record {
        cosine_fourth = known_reaches laws 4 _ (omega arith) k.cosine_fourth (omega arith);
        sine_fourth = known_reaches laws 4 _ (omega arith) k.sine_fourth (omega arith);
        squares = known_reaches laws 4 _ (omega arith) k.squares (omega arith);
        cosine_third = known_reaches laws 4 _ (omega arith) k.cosine_third (omega arith);
        sine_third = known_reaches laws 4 _ (omega arith) k.sine_third (omega arith);
      }

  -- ---- of a ply, from any numbers that hold its reduced stiffness
  module _ {d : CirclePoint} (direction : IsDirection d) {r : Reduced A} (q0 : ℤ) (l : Lamina) where
    pub held-transformed : ReachModuli n r → HoldsModuli n r (moduli_over q0 l) → HoldsMatrix n (by.transformed n.calc r d) (stiffness_over q0 Ply l d)
    held-transformed reach holds = subst (HoldsMatrix n _) (ply-stiffness q0 l d) (held-by_powers reach (reach-powers direction) holds (known-powers laws direction))

    pub narrow-transformed : IsCovered q0 l → HoldsModuli n r (moduli_over q0 l) → NarrowModuli 1 n r → NarrowMatrix 32 n (by.transformed n.calc r d)
    narrow-transformed covered holds narrow = narrow-matrix (known-by_powers (known-held covered holds narrow) (known-powers laws direction))

  -- ---- of an item
  module _ {d : CirclePoint} (direction : IsDirection d) {q0 : ℤ} {l : Lamina} (covered : IsCovered q0 l) where
    ply-held : HoldsMatrix n (by.transformed n.calc (by.reduced n.calc q0 l) d) (stiffness_over q0 Ply l d)
    ply-held = held-transformed direction q0 l (reach-reduced covered) (held-reduced covered laws)

    ply-narrow : NarrowMatrix 32 n (by.transformed n.calc (by.reduced n.calc q0 l) d)
    ply-narrow = narrow-transformed direction q0 l covered (held-reduced covered laws) (narrow-reduced covered laws)

    zero-is : IsRatio n (pos 0) (pos 1) (n.calc.ratio (pos 0) (pos 1))
    zero-is = ratio-is laws (pos 0) (pos 1) (omega (arith, ints)) (omega arith) (omega arith)

    zero-held : Holds n (n.calc.ratio (pos 0) (pos 1)) (whole (pos 0))
    zero-held = subst (Holds n _) zero-fraction zero-is.held

    pub held-item : (kind : Kind) → HoldsMatrix n (by.item n.calc q0 kind l d) (stiffness_over q0 kind l d)
    held-item Ply = ply-held
    held-item Pair = subst (HoldsMatrix n _) (ap uncoupled_stiffness (sym (ply-stiffness q0 l d)) ∙ pair-stiffness q0 l d)
        (record { xx = ply-held.xx; xy = ply-held.xy; yy = ply-held.yy; xs = zero-held; ys = zero-held; ss = ply-held.ss })

    pub narrow-item : (kind : Kind) → NarrowMatrix 32 n (by.item n.calc q0 kind l d)
    narrow-item Ply = ply-narrow
    narrow-item Pair =
        let few : IsNarrow 32 n (n.calc.ratio (pos 0) (pos 1)) = omega (arith, zero-is.narrow) in
        record { xx = ply-narrow.xx; xy = ply-narrow.xy; yy = ply-narrow.yy; xs = few; ys = few; ss = ply-narrow.ss }
