-- A formula of ten operations, read in every way that formulas are read.
use Rattle.std.proofs.Common.{◌≡◌, refl, ℕ, false, ◌&&◌, leb, true, pos, negsuc, lit≤, ◌≤◌, ◌+◌, ◌*◌, ◌^◌, ℤ, ◌+ℤ◌, ◌-ℤ◌, ◌*ℤ◌, ◌≤ℤ◌, FitsSigned, unsigned_abs, to_z, arith}
use Rattle.lam_fraction.specs.Fraction.{ℚ, ◌+ℚ◌, ◌*ℚ◌}
use Rattle.lam_fraction.specs.numbers.Arithmetic.{Arithmetic, exact}
use Rattle.lam_fraction.specs.inside.Known.{Bounds, Known}
use Rattle.lam_fraction.specs.numbers.Numbers.{Numbers, Lawful, Holds, reach, unit, RatioRoom, HullRoom, RootRoom}
use Rattle.lam_fraction.specs.inside.Size.{AtMost}
use Rattle.std.specs.Int.{w128}
use Rattle.std.proofs.lemmas.Int.{ints}
use Rattle.std.proofs.Math.Nat.{mul-le-mul_right}
use Rattle.lam_fraction.specs.inside.Reaches.{Reaches, sixteenths}
use Rattle.lam_fraction.proofs.numbers.Held.{held, holding}
use Rattle.lam_fraction.proofs.numbers.Machine.{stored-64, stored-128, sizes, fits_in_128, is_exact, at_most, ratio_in_room}
use Rattle.lam_fraction.proofs.numbers.Rooms.{rooms, sum_room, product_room, multiple_room, square_room, hull_room, root_room, reaches_here}
use Rattle.lam_fraction.proofs.numbers.Steps.{known_product_at, known_more, known_sum}
use Rattle.lam_fraction.proofs.numbers.Tracks.{Ruled, Tracked, tracked, given, bounded}

-- (a b - 2 c²) - (a + e)/4 (a - e) 1/3
abbrev formula : {A : Type 0} → Arithmetic A → A → A → A → A → A
formula v a b c e =
    v.difference (v.difference (v.product a b) (v.multiple (v.square c) (pos 2)))
    (v.product (v.product (v.quotient (v.sum a e) (pos 4)) (v.difference a e)) (v.ratio (pos 1) (pos 3)))

abbrev quarters : ℕ → ℕ → Bounds
quarters size wide = record { size = size; wide = 4 * wide }

module _ {A : Type 0} {n : Numbers A} (laws : Lawful n) where
  abbrev ruled : Ruled n
  ruled = record { laws = laws; d = 4; some = lit≤ tt }

  abbrev read : {a b c e : A} {x y z w : ℚ} → Known n 4 (quarters 4 1) a x → Known n 4 (quarters 2 1) b y → Known n 4 (quarters 3 1) c z → Known n 4 (quarters 4 3) e w → Tracked ruled
  read h i j k = formula (tracked ruled) (given h) (given i) (given j) (given k)

  -- what is held, how large it is and how wide
  known_formula : {a b c e : A} {x y z w : ℚ} → Known n 4 (quarters 4 1) a x → Known n 4 (quarters 2 1) b y → Known n 4 (quarters 3 1) c z → Known n 4 (quarters 4 3) e w
      → Known n 4 (record { size = 10; wide = 70 }) (formula n.calc a b c e) (formula exact x y z w)
  known_formula h i j k = bounded ruled (read h i j k) _ refl

  -- a bound that is one less does not hold
  too_narrow : {a b c e : A} {x y z w : ℚ} (h : Known n 4 (quarters 4 1) a x) (i : Known n 4 (quarters 2 1) b y) (j : Known n 4 (quarters 3 1) c z) (k : Known n 4 (quarters 4 3) e w)
      → (read h i j k).fits && leb (read h i j k).bounds.wide 69 ≡ false
  too_narrow h i j k = refl

  too_small : {a b c e : A} {x y z w : ℚ} (h : Known n 4 (quarters 4 1) a x) (i : Known n 4 (quarters 2 1) b y) (j : Known n 4 (quarters 3 1) c z) (k : Known n 4 (quarters 4 3) e w)
      → (read h i j k).fits && leb (read h i j k).bounds.size 9 ≡ false
  too_small h i j k = refl

  -- 4 and 2, each a slop wide, leave no room for their sum
  no_room : {a b : A} {x y : ℚ} (h : Known n 4 (quarters 16 1) a x) (i : Known n 4 (quarters 8 1) b y) → ((tracked ruled).sum (given h) (given i)).fits ≡ false
  no_room h i = refl

  room_below : {a b : A} {x y : ℚ} (h : Known n 4 (quarters 16 1) a x) (i : Known n 4 (quarters 7 1) b y) → ((tracked ruled).sum (given h) (given i)).fits ≡ true
  room_below h i = refl

-- a share of u parts in h, a slop wide, of an entry of at most 1 that is 32 slops wide: where bounds are no numerals
module _ {A : Type 0} {n : Numbers A} (laws : Lawful n) (h : ℕ) (some : 1 ≤ h) (u : ℕ) (part : u ≤ h) where
  known_share : {share entry : A} {x y : ℚ} → Known n h (record { size = u; wide = h }) share x → Known n h (record { size = h; wide = 32 * h }) entry y
      → Known n h (record { size = u; wide = 32 * u + 3 * h }) (n.calc.product share entry) (x *ℚ y)
  known_share i j = let thin : u * h ≤ h * h = mul-le-mul_right h part in known_product_at laws h some _ i j (omega (arith, thin)) (omega arith) (omega arith)

  -- and a sum with another, of v parts
  known_shares : (v : ℕ) → u + v ≤ h → {z w : A} {x y : ℚ} → Known n h (record { size = v; wide = 32 * v + 4 * h * h }) z x → Known n h (record { size = u; wide = 32 * u + 3 * h }) w y → h ≤ 1000
      → Known n h (record { size = v + u; wide = 32 * (v + u) + 4 * h * (h + 1) }) (n.calc.sum z w) (x +ℚ y)
  known_shares v room i j few =
      let square : h * h ≤ 1000 * h = mul-le-mul_right h few in
      known_more laws h some (known_sum laws h some i j (omega (arith, square))) (omega arith) (omega arith)

-- what the calls that compute it answer, one after another
record Answers (A : Type 0) : Type 0 where
  a : A
  b : A
  c : A
  e : A
  first : A
  square : A
  twice : A
  gap : A
  sum : A
  quarter : A
  rest : A
  part : A
  third : A
  last : A
  answer : A

-- .. from numbers of at most 1, 1/2, 3/4 and 1, and a slop
record Calls {A : Type 0} (n : Numbers A) (r : Answers A) : Type 0 where
  a : Reaches n (sixteenths 16 + 4) r.a
  b : Reaches n (sixteenths 8 + 4) r.b
  c : Reaches n (sixteenths 12 + 4) r.c
  e : Reaches n (sixteenths 16 + 4) r.e
  first : r.first ≡ n.calc.product r.a r.b
  square : r.square ≡ n.calc.square r.c
  twice : r.twice ≡ n.calc.multiple r.square (pos 2)
  gap : r.gap ≡ n.calc.difference r.first r.twice
  sum : r.sum ≡ n.calc.sum r.a r.e
  quarter : r.quarter ≡ n.calc.quotient r.sum (pos 4)
  rest : r.rest ≡ n.calc.difference r.a r.e
  part : r.part ≡ n.calc.product r.quarter r.rest
  third : r.third ≡ n.calc.ratio (pos 1) (pos 3)
  last : r.last ≡ n.calc.product r.part r.third
  answer : r.answer ≡ n.calc.difference r.gap r.last

module _ {A : Type 0} {n : Numbers A} (laws : Lawful n) (r : Answers A) (calls : Calls n r) where
  -- 13/8 and 1/3, however wide each is
  difference_in_room : reach n r.gap + reach n r.last ≤ 6 * unit n
  difference_in_room = sum_room laws (search (rooms, calls) depth 20 fits 9000) refl

  product_in_room : reach n r.part * reach n r.third ≤ 6 * (unit n * unit n)
  product_in_room = product_room laws (search (rooms, calls) depth 20 fits 9000) refl

  square_in_room : reach n r.c ≤ 2 * unit n
  square_in_room = square_room laws (search (rooms, calls) depth 20 fits 9000) refl

  multiple_in_room : reach n r.square * 2 ≤ 6 * unit n
  multiple_in_room = multiple_room laws (pos 2) (search (rooms, calls) depth 20 fits 9000) refl

  answer_reaches : Reaches n (sixteenths 32) r.answer
  answer_reaches = reaches_here laws (search (rooms, calls) depth 20 fits 9000) refl

  -- what is held, however wide
  held_formula : {x y z w : ℚ} → Holds n r.a x → Holds n r.b y → Holds n r.c z → Holds n r.e w → Holds n (formula n.calc r.a r.b r.c r.e) (formula exact x y z w)
  held_formula h i j k = (formula (held laws) (holding calls.a h) (holding calls.b i) (holding calls.c j) (holding calls.e k)).holds refl

-- a hull of two ratios, as far as the greater and a slop more
module _ {A : Type 0} {n : Numbers A} (laws : Lawful n) (a b low high both answer : A) (one : Reaches n (sixteenths 16) a)
    (first : low ≡ n.calc.ratio (negsuc 4) (pos 2)) (second : high ≡ n.calc.ratio (pos 1) (pos 2)) (hull : both ≡ n.hull low high) (sum : answer ≡ n.calc.sum both a) where
  hull_in_room : HullRoom n low high
  hull_in_room = hull_room laws (search (rooms, first, second) depth 20 fits 9000) refl

  sum_in_room : reach n both + reach n a ≤ 6 * unit n
  sum_in_room = sum_room laws (search (rooms, one, first, second, hull) depth 20 fits 9000) refl

  -- 5/2 and 1, and a slop of the ratio, of the hull and of the sum
  answer_reaches_so_far : Reaches n (sixteenths 56 + 12) answer
  answer_reaches_so_far = reaches_here laws (search (rooms, one, first, second, hull, sum) depth 20 fits 9000) refl

  root_in_room : pos 0 ≤ℤ n.high answer → RootRoom n answer
  root_in_room sign = root_room laws (search (rooms, one, first, second, hull, sum) depth 20 fits 9000) sign refl

-- ---- a row of two products less a third, as a machine computes it
module _ (a b c n : ℤ) (k : ℕ) (small : AtMost (2 ^ 61) a) (other : AtMost (2 ^ 62) b) (least : pos 1 ≤ℤ c) (most : c ≤ℤ pos 400000) (few : k ≤ 1000) (result : n ≡ (stored-128 (stored-64 a) *ℤ stored-128 (stored-64 b))) where
  abbrev row : ℤ
  row = stored-128 (stored-128 n +ℤ stored-128 (stored-128 (stored-64 c) *ℤ to_z w128 k)) -ℤ stored-128 (pos 5 *ℤ stored-128 (stored-64 b))

  row_fits : FitsSigned w128 row
  row_fits = fits_in_128 (search (sizes, small, other, least, most, few, result) depth 30 fits 9000) refl

  row_is : row ≡ (a *ℤ b +ℤ c *ℤ pos k) -ℤ pos 5 *ℤ b
  row_is = is_exact (search (sizes, small, other, least, most, few, result) depth 30 fits 9000) refl

  row_small : AtMost (2 ^ 124) row
  row_small = at_most (search (sizes, small, other, least, most, few, result) depth 30 fits 9000) refl

  -- 2 b over 5 times a number of at least 1
  ratio_room_of_row : (unsigned_abs (pos 2 *ℤ b) ≤ 6 * unsigned_abs (pos 5 *ℤ c)) → RatioRoom (stored-128 (pos 2 *ℤ stored-128 (stored-64 b))) (stored-128 (pos 5 *ℤ stored-128 (stored-64 c)))
  ratio_room_of_row room = ratio_in_room (search (sizes, other) depth 30) (search (sizes, least, most) depth 30) refl (omega (arith, ints, least)) room
