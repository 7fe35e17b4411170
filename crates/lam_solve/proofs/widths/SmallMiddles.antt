-- Where the middles of a residual are at most 4096 slops, over a narrow wall and round a centre that is not far from 0, its
-- ends are at most 6402 slops in size.
use Rattle.std.proofs.Common.{◌≡◌, ◌∙◌, ap, ℕ, suc, ◌+◌, ◌*◌, ◌^◌, ◌≤◌, ◌<◌, unsigned_abs, arith}
use Rattle.std.proofs.lemmas.Int.{ints}
use Rattle.std.proofs.Math.Nat.{mul-le-mul_right, pow-suc}
use Rattle.lam_fraction.specs.numbers.Numbers.{Numbers, Lawful, unit, width}
use Rattle.lam_fraction.proofs.numbers.Steps.{one_unit, width-is}
use Rattle.lam_lamina.specs.declared.stiffness.Sym3.{Sym3}
use Rattle.lam_lamina.specs.Held.{IsNarrow, NarrowMatrix}
use Rattle.lam_wall.specs.declared.wall.Wall.{Wall}
use Rattle.lam_wall.specs.Assembled.{NarrowWall}
use Rattle.lam_solve.specs.declared.six.Six.{Six}
use Rattle.lam_solve.specs.declared.strains.Guess.{Guess}
use Rattle.lam_solve.specs.Widths.{residual_slops}
use Rattle.lam_solve.specs.inside.Enclosed.{end_reach, greatest_size}
use Rattle.lam_solve.specs.inside.Residual.{greatest, greatest_middle, least, residual, row_residual, row_x, row_y, row_s, size}
use Rattle.lam_solve.specs.inside.Settled.{guess_sum}
use Rattle.lam_solve.proofs.widths.Apart.{Apart, share-apart, sum-apart, parts-apart, left-apart, near-middle}

module _ {A : Type 0} (n : Numbers A) where
  -- each of six is at most so many slops wide
  pub record NarrowSix (slops : ℕ) (row : Six A) : Type 0 where
    pub ex : IsNarrow slops n row.ex
    pub ey : IsNarrow slops n row.ey
    pub g : IsNarrow slops n row.g
    pub kx : IsNarrow slops n row.kx
    pub ky : IsNarrow slops n row.ky
    pub kg : IsNarrow slops n row.kg

module _ {A : Type 0} {n : Numbers A} (slops : ℕ) where
  narrow-x : {a b : Sym3 A} → NarrowMatrix slops n a → NarrowMatrix slops n b → NarrowSix n slops (row_x a b)
  narrow-x p q = record { ex = p.xx; ey = p.xy; g = p.xs; kx = q.xx; ky = q.xy; kg = q.xs }

  narrow-y : {a b : Sym3 A} → NarrowMatrix slops n a → NarrowMatrix slops n b → NarrowSix n slops (row_y a b)
  narrow-y p q = record { ex = p.xy; ey = p.yy; g = p.ys; kx = q.xy; ky = q.yy; kg = q.ys }

  narrow-s : {a b : Sym3 A} → NarrowMatrix slops n a → NarrowMatrix slops n b → NarrowSix n slops (row_s a b)
  narrow-s p q = record { ex = p.xs; ey = p.ys; g = p.ss; kx = q.xs; ky = q.ys; kg = q.ss }

-- half the sum of what a middle, entries and a load can add
half_sum : (u s r k : ℕ) → 1 ≤ s → k ≡ 2 * u → 2 * r ≤ (4096 * s + 1) * k + (s * u + 512 * s * (9 * u)) → r ≤ residual_slops * s * u
half_sum u s r k some e h =
    let times : 1 * u ≤ s * u = mul-le-mul_right u some in
    let same : (4096 * s + 1) * k ≡ (4096 * s + 1) * (2 * u) = ap (λ t. (4096 * s + 1) * t) e in
    omega (arith, h, times, same)

module _ {A : Type 0} {n : Numbers A} (laws : Lawful n) (c : Guess) (few : guess_sum c < 9 * unit n) where
  row-apart : (row : Six A) → NarrowSix n 512 row → Apart (512 * n.slop * (9 * unit n)) (least n row c) (greatest n row c)
  row-apart row h =
      parts-apart (512 * n.slop) (unsigned_abs c.ex) (unsigned_abs c.ey) (unsigned_abs c.g) (unsigned_abs c.kx) (unsigned_abs c.ky) (unsigned_abs c.kg) (9 * unit n)
      (sum-apart
      (share-apart (n.low row.ex) (n.high row.ex) c.ex (512 * n.slop) h.ex)
      (share-apart (n.low row.ey) (n.high row.ey) c.ey (512 * n.slop) h.ey)
      (share-apart (n.low row.g) (n.high row.g) c.g (512 * n.slop) h.g)
      (share-apart (n.low row.kx) (n.high row.kx) c.kx (512 * n.slop) h.kx)
      (share-apart (n.low row.ky) (n.high row.ky) c.ky (512 * n.slop) h.ky)
      (share-apart (n.low row.kg) (n.high row.kg) c.kg (512 * n.slop) h.kg))
      (omega (arith, few))

  load-apart : (load : A) → width n load ≤ n.slop → Apart n.slop (n.low load) (n.high load)
  load-apart load h =
      let order = laws.ordered load in
      let is = width-is (n.low load) (n.high load) order in
      record { order = order; near = omega (arith, ints, is, h) }

  two : 2 ^ (n.scale + 1) ≡ 2 * unit n
  two = let e : n.scale + 1 ≡ suc n.scale = omega arith in ap (λ k. 2 ^ k) e ∙ pow-suc 2 n.scale ∙ omega arith

  row-small : (row : Six A) (load : A) → NarrowSix n 512 row → width n load ≤ n.slop → size n (row_residual n load row c) ≤ 4096 * n.slop → end_reach (row_residual n load row c) ≤ residual_slops * n.slop * unit n
  row-small row load h l small =
      let some : 0 < 2 ^ (n.scale + 1) = omega (arith, two, one_unit laws) in
      half_sum (unit n) n.slop _ (2 ^ (n.scale + 1)) laws.wide two
      (near-middle (2 ^ (n.scale + 1)) (4096 * n.slop) some (left-apart (unit n) (load-apart load l) (row-apart row h)) small)

  -- each of the six equations
  pub residual-small : {w : Wall A} {loads : Six A} → NarrowWall 512 n w → NarrowSix n 1 loads → greatest_middle n (residual n w loads c) ≤ 4096 * n.slop
      → greatest_size (residual n w loads c) ≤ residual_slops * n.slop * unit n
  residual-small {w} {loads} h l small =
      let ex = row-small _ loads.ex (narrow-x 512 h.a h.b) (one_slop loads.ex l.ex) (omega (arith, small)) in
      let ey = row-small _ loads.ey (narrow-y 512 h.a h.b) (one_slop loads.ey l.ey) (omega (arith, small)) in
      let g = row-small _ loads.g (narrow-s 512 h.a h.b) (one_slop loads.g l.g) (omega (arith, small)) in
      let kx = row-small _ loads.kx (narrow-x 512 h.b h.d) (one_slop loads.kx l.kx) (omega (arith, small)) in
      let ky = row-small _ loads.ky (narrow-y 512 h.b h.d) (one_slop loads.ky l.ky) (omega (arith, small)) in
      let kg = row-small _ loads.kg (narrow-s 512 h.b h.d) (one_slop loads.kg l.kg) (omega (arith, small)) in
      omega (arith, ex, ey, g, kx, ky, kg)
    where
      one_slop : (z : A) → IsNarrow 1 n z → width n z ≤ n.slop
      one_slop z h = omega (arith, h)
