-- What is known of the shares of a ply: each is at most that of its thickness in the wall's.
use Rattle.std.proofs.Common.{◌≡◌, sym, ◌∙◌, ap, subst, subst₂, ℕ, ◌*◌, ◌^◌, ◌≤◌, ℤ, pos, ◌+ℤ◌, ◌*ℤ◌, ◌<ℤ◌, arith}
use Rattle.std.specs.Prelude.{unsigned_abs}
use Rattle.std.proofs.Math.Nat.{mul-le-mul, mul-le-mul_left, mul-le-mul_right, le_of_mul-le-mul_right}
use Rattle.std.proofs.lemmas.Int.{ints, unsigned_abs-mul}
use Rattle.lam_fraction.specs.Fraction.{fraction}
use Rattle.lam_fraction.specs.inside.Known.{Bounds, Known}
use Rattle.lam_fraction.specs.numbers.Numbers.{Numbers, Lawful, RatioRoom}
use Rattle.lam_fraction.proofs.numbers.Rooms.{reaches_ratio_at, reaches_more}
use Rattle.lam_fraction.proofs.numbers.Steps.{known_ratio_at}
use Rattle.lam_job.specs.Wall.{Placed}
use Rattle.lam_wall.specs.inside.Parts.{IsPlaced, IsShort}
use Rattle.lam_wall.proofs.Wholes.{twice_square, three_cubes}

-- ---- a fraction of at most t / h in size
pub record IsShare (h t num den : ℤ) : Type 0 where
  pub positive : pos 0 <ℤ den
  pub size : unsigned_abs den ≤ 2 ^ 66
  pub part : unsigned_abs num * unsigned_abs h ≤ unsigned_abs t * unsigned_abs den
  pub small : unsigned_abs num ≤ unsigned_abs den

pub share-room : {h t num den : ℤ} → IsShare h t num den → RatioRoom num den
share-room k = record { positive = k.positive; den = k.size; num = omega (arith, k.small, k.size); room = omega (arith, k.small) }

pub share-room-at : {h t num den num' den' : ℤ} → IsShare h t num den → num' ≡ num → den' ≡ den → RatioRoom num' den'
share-room-at k e f = subst₂ RatioRoom (sym e) (sym f) (share-room k)

-- in d-ths of one
abbrev pub share_of : ℕ → ℕ → Bounds
share_of d u = record { size = u; wide = d }

module _ {A : Type 0} {n : Numbers A} (laws : Lawful n) {h t num den : ℤ} (k : IsShare h t num den) where
  pub known-share : 1 ≤ unsigned_abs h → Known n (unsigned_abs h) (share_of (unsigned_abs h) (unsigned_abs t)) (n.calc.ratio num den) (fraction num den)
  known-share some = known_ratio_at laws (unsigned_abs h) some (share_of (unsigned_abs h) (unsigned_abs t)) num den (share-room k) k.part (omega arith)

  pub short-share : IsShort n (n.calc.ratio num den)
  short-share = reaches_more laws (reaches_ratio_at laws (2 ^ 28) num den (share-room k) (omega (arith, k.small))) (omega arith)

-- ---- the three of a ply
module _ {h : ℤ} {p : Placed} (k : IsPlaced h p) where
  pub thick-size : unsigned_abs p.item.lamina.t ≤ 1280000
  thick-size = omega (arith, ints, k.thick, k.within, k.greatest)

  pub inner-size : unsigned_abs p.inner ≤ 1280000
  inner-size = omega (arith, ints, k.inner, k.order, k.outer, k.greatest)

  pub outer-size : unsigned_abs p.outer ≤ 1280000
  outer-size = omega (arith, ints, k.inner, k.order, k.outer, k.greatest)

  pub wall-size : unsigned_abs h ≤ 1280000
  wall-size = omega (arith, ints, k.least, k.greatest)

  above : pos 0 <ℤ h
  above = omega (arith, ints, k.least)

  thin : unsigned_abs p.item.lamina.t ≤ unsigned_abs h
  thin = omega (arith, ints, k.thick, k.within)

  inner_within : unsigned_abs p.inner ≤ unsigned_abs h
  inner_within = omega (arith, ints, k.inner, k.order, k.outer)

  outer_within : unsigned_abs p.outer ≤ unsigned_abs h
  outer_within = omega (arith, ints, k.inner, k.order, k.outer)

  -- the thickness times a factor f, over a denominator of at least |f| h
  share : (f den : ℤ) → pos 0 <ℤ den → unsigned_abs den ≤ 2 ^ 66 → unsigned_abs f * unsigned_abs h ≤ unsigned_abs den → IsShare h p.item.lamina.t (p.item.lamina.t *ℤ f) den
  share f den positive size room =
      let product = unsigned_abs-mul p.item.lamina.t f in
      let times : unsigned_abs p.item.lamina.t * (unsigned_abs f * unsigned_abs h) ≤ unsigned_abs p.item.lamina.t * unsigned_abs den = mul-le-mul_left (unsigned_abs p.item.lamina.t) room in
      let most : unsigned_abs p.item.lamina.t * unsigned_abs den ≤ unsigned_abs h * unsigned_abs den = mul-le-mul_right (unsigned_abs den) thin in
      let part : unsigned_abs (p.item.lamina.t *ℤ f) * unsigned_abs h ≤ unsigned_abs p.item.lamina.t * unsigned_abs den
      = subst (λ s. s * unsigned_abs h ≤ unsigned_abs p.item.lamina.t * unsigned_abs den) (sym product) (omega (arith, times)) in
      record { positive = positive; size = size; part = part; small = le_of_mul-le-mul_right {k = unsigned_abs h} (omega (arith, part, most)) (omega (arith, ints, k.least)) }

  size : (a b : ℤ) → unsigned_abs a ≤ unsigned_abs h → unsigned_abs b ≤ unsigned_abs h → unsigned_abs (a *ℤ b) ≤ unsigned_abs h * unsigned_abs h
  size a b m n = subst (λ x. x ≤ unsigned_abs h * unsigned_abs h) (sym (unsigned_abs-mul a b)) (mul-le-mul m n)

  square-size : unsigned_abs h * unsigned_abs h ≤ 1280000 * 1280000
  square-size = mul-le-mul wall-size wall-size

  cube-size : unsigned_abs h * (unsigned_abs h * unsigned_abs h) ≤ 1280000 * (1280000 * 1280000)
  cube-size = mul-le-mul wall-size square-size

  pub extension-share : IsShare h p.item.lamina.t p.item.lamina.t h
  extension-share = record { positive = above; size = omega (arith, wall-size); part = omega arith; small = thin }

  pub coupling-share : IsShare h p.item.lamina.t (p.item.lamina.t *ℤ (p.inner +ℤ p.outer)) (pos 2 *ℤ (h *ℤ h))
  coupling-share =
      let den : unsigned_abs (pos 2 *ℤ (h *ℤ h)) ≡ 2 * (unsigned_abs h * unsigned_abs h) = unsigned_abs-mul (pos 2) (h *ℤ h) ∙ ap (λ n. 2 * n) (unsigned_abs-mul h h) in
      let both : unsigned_abs (p.inner +ℤ p.outer) ≤ 2 * unsigned_abs h = omega (arith, ints, inner_within, outer_within) in
      let times : unsigned_abs (p.inner +ℤ p.outer) * unsigned_abs h ≤ (2 * unsigned_abs h) * unsigned_abs h = mul-le-mul_right (unsigned_abs h) both in
      share (p.inner +ℤ p.outer) (pos 2 *ℤ (h *ℤ h)) (twice_square h above) (omega (arith, den, square-size)) (omega (arith, den, times))

  pub bending-share : IsShare h p.item.lamina.t (p.item.lamina.t *ℤ (p.inner *ℤ p.inner +ℤ p.inner *ℤ p.outer +ℤ p.outer *ℤ p.outer)) (pos 3 *ℤ (h *ℤ (h *ℤ h)))
  bending-share =
      let den : unsigned_abs (pos 3 *ℤ (h *ℤ (h *ℤ h))) ≡ 3 * (unsigned_abs h * (unsigned_abs h * unsigned_abs h))
      = unsigned_abs-mul (pos 3) (h *ℤ (h *ℤ h)) ∙ ap (λ n. 3 * n) (unsigned_abs-mul h (h *ℤ h) ∙ ap (λ n. unsigned_abs h * n) (unsigned_abs-mul h h)) in
      let squares : unsigned_abs (p.inner *ℤ p.inner +ℤ p.inner *ℤ p.outer +ℤ p.outer *ℤ p.outer) ≤ 3 * (unsigned_abs h * unsigned_abs h) =
      three (p.inner *ℤ p.inner) (p.inner *ℤ p.outer) (p.outer *ℤ p.outer) (unsigned_abs h * unsigned_abs h)
      (size p.inner p.inner inner_within inner_within) (size p.inner p.outer inner_within outer_within) (size p.outer p.outer outer_within outer_within) in
      let times : unsigned_abs (p.inner *ℤ p.inner +ℤ p.inner *ℤ p.outer +ℤ p.outer *ℤ p.outer) * unsigned_abs h ≤ (3 * (unsigned_abs h * unsigned_abs h)) * unsigned_abs h
      = mul-le-mul_right (unsigned_abs h) squares in
      share (p.inner *ℤ p.inner +ℤ p.inner *ℤ p.outer +ℤ p.outer *ℤ p.outer) (pos 3 *ℤ (h *ℤ (h *ℤ h))) (three_cubes h above) (omega (arith, den, cube-size)) (omega (arith, den, times))
    where
      three : (x y z : ℤ) (n : ℕ) → unsigned_abs x ≤ n → unsigned_abs y ≤ n → unsigned_abs z ≤ n → unsigned_abs (x +ℤ y +ℤ z) ≤ 3 * n
      three x y z n a b c = omega (arith, ints)
