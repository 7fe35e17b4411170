-- A stress at a factor, whose share of a strength is so narrow that it is rounded, and how wide it then is.
use Rattle.std.proofs.Common.{◌≡◌, refl, sym, ◌∙◌, ap, subst, ℕ, zero, suc, ◌+◌, ◌-◌, ◌*◌, ◌^◌, ◌≤◌, Bool, true, false, ◌||◌, ◌⊎◌, inl, inr, Some, ℤ, pos, neg_ℤ, ◌+ℤ◌, ◌*ℤ◌, ◌≤ℤ◌, ◌<ℤ◌, int_lt, int_le, unsigned_abs, arith}
use Rattle.std.proofs.Math.Nat.{mul-le-mul_right, le_of_mul-le-mul_right}
use Rattle.std.proofs.lemmas.Int.{ints, unsigned_abs-mul}
use Rattle.std.proofs.lemmas.Nat.{pow-add, pow_pos}
use Rattle.lam_fraction.specs.inside.Reaches.{Reaches, sixteenths}
use Rattle.lam_fraction.specs.numbers.Ends as ends
use Rattle.lam_fraction.specs.numbers.Numbers.{Numbers, Lawful, RatioRoom, reach, unit, width}
use Rattle.lam_fraction.proofs.Expression.{int, ◌⊗◌}
use Rattle.lam_fraction.proofs.Integers as Z
use Rattle.lam_fraction.proofs.Solver.{◌≐◌}
use Rattle.lam_fraction.proofs.numbers.Rooms.{reaches_ratio_at}
use Rattle.lam_fraction.proofs.numbers.EndFacts.{half_near}
use Rattle.lam_fraction.proofs.numbers.Steps.{one_unit}
use Rattle.lam_fraction.proofs.numbers.Widths.{width-pos}
use Rattle.lam_tsai.specs.declared.loaded.Loaded.{Loaded}
use Rattle.lam_tsai.specs.inside.Reach.{Bears}
use Rattle.lam_tsai.specs.inside.Values as value
use Rattle.lam_tsai.specs.inside.Values.{first_shift, shift_of}
use Rattle.lam_tsai.proofs.LoadedHeld.{shift-few, shift-enough}
use Rattle.lam_tsai.proofs.Loads.{load-positive, load-most, load-small}
use Rattle.lam_tsai.proofs.Ordered.{is_below, not_below}
use Rattle.lam_tsai.proofs.Rounding.{power-parts, within-reach, stretched-room, stretched-reach, half, half-positive, middle, narrow-fine, rounded-fine}
use Rattle.lam_tsai.proofs.Shifts.{bearing-size, bearing-positive}
use Rattle.lam_narrow.proofs.ThinStrains.{thin-product}

-- ---- the shift is the least

twice-power : (bound load : ℤ) (k : ℕ) → (bound *ℤ pos (2 ^ k)) <ℤ load → (bound *ℤ pos (2 ^ (k + 1))) <ℤ (pos 2 *ℤ load)
twice-power bound load k h =
    let next : 2 ^ (k + 1) ≡ 2 * 2 ^ k = omega (arith, pow-add 2 k 1) in
    let e : bound *ℤ pos (2 ^ (k + 1)) ≡ pos 2 *ℤ (bound *ℤ pos (2 ^ k)) = ap (λ z. bound *ℤ pos z) next ∙ Z.solve 2 (λ b p. b ⊗ (int (pos 2) ⊗ p) ≐ int (pos 2) ⊗ (b ⊗ p)) refl bound (pos (2 ^ k)) in
    omega (arith, ints, e, h)

-- it is the first one, or half of it would not bear the load
shift-least : (m k : ℕ) (load bound : ℤ) → (first_shift m k load bound ≡ k) ⊎ ((bound *ℤ pos (2 ^ first_shift m k load bound)) <ℤ (pos 2 *ℤ load))
unfolding first_shift
shift-least zero k load bound = inl refl
shift-least (suc m) k load bound = go (int_lt (bound *ℤ pos (2 ^ k)) load) refl (shift-least m (k + 1) load bound)
  where
    go : (t : Bool) → int_lt (bound *ℤ pos (2 ^ k)) load ≡ t
        → (first_shift m (k + 1) load bound ≡ k + 1) ⊎ ((bound *ℤ pos (2 ^ first_shift m (k + 1) load bound)) <ℤ (pos 2 *ℤ load))
        → (first_shift (suc m) k load bound ≡ k) ⊎ ((bound *ℤ pos (2 ^ first_shift (suc m) k load bound)) <ℤ (pos 2 *ℤ load))
    go true e (inl d) = rw e (inr (subst (λ s. (bound *ℤ pos (2 ^ s)) <ℤ (pos 2 *ℤ load)) (sym d) (twice-power bound load k (is_below (bound *ℤ pos (2 ^ k)) load e))))
    go true e (inr l) = rw e (inr l)
    go false e next = rw e (inl refl)

-- ---- tests

pub neither : (a b : Bool) → (a || b) ≡ false → (a ≡ false) × (b ≡ false)
neither true b e = absurd (cc)
neither false b e = (refl, e)

le-true : (a b : ℤ) → a ≤ℤ b → int_le a b ≡ true
le-true a b h = go (int_le a b) refl
  where
    go : (t : Bool) → int_le a b ≡ t → t ≡ true
    go true e = refl
    go false e = absurd (omega (arith, ints, h, e))

-- ---- widths

-- the ends are no farther apart than twice the greater size
ends-most : (low high : ℤ) → ends.width low high ≤ 2 * ends.reach low high
unfolding ends.width ends.reach
ends-most low high = omega (arith, ints)

-- the width of a stress at a factor: w of the stress, v of the product, s the reach of the factor over a bound b
loaded-most : (v w s l b u : ℕ) → 1 ≤ u → v * u ≤ (5 * u) * 2 + s * w + 2 * u → s * b ≤ l * u + 2 * b → w ≤ 10 * u → v * b ≤ l * w + 32 * b
loaded-most v w s l b u some h far most =
    let first : (v * u) * b ≤ ((5 * u) * 2 + s * w + 2 * u) * b = mul-le-mul_right b h in
    let second : (s * b) * w ≤ (l * u + 2 * b) * w = mul-le-mul_right w far in
    let third : b * w ≤ b * (10 * u) = (let swapped : w * b ≤ (10 * u) * b = mul-le-mul_right b most in omega (arith, swapped)) in
    le_of_mul-le-mul_right {k = u} (omega (arith, first, second, third)) (omega (arith, some))

-- 512 times a strength x times half a width, and times the width before it is stretched by a power p
half-most : (x p h v l w f q c m s : ℕ) → 2 * h ≤ v * p + 3 → v * (2 * (x * p)) ≤ l * w + 32 * (2 * (x * p)) → l ≡ q * f → 128 * (q * w) ≤ 27 * (c * m) + 7500 * q
    → x * p ≤ 2 ^ 25 * s → x ≤ 16 * s → l ≤ 2 ^ 25 * s → 512 * (x * h) ≤ 27 * (f * (c * m)) + 2 ^ 39 * s
half-most x p h v l w f q c m s halves wide load stress borne sixteen enough =
    let first : (2 * h) * x ≤ (v * p + 3) * x = mul-le-mul_right x halves in
    let second : (128 * (q * w)) * f ≤ (27 * (c * m) + 7500 * q) * f = mul-le-mul_right f stress in
    let times : l * w ≡ (q * f) * w = ap (λ z. z * w) load in
    omega (arith, first, second, times, wide, borne, sixteen, enough, load)

wide-most : (x p v l w f q c m s : ℕ) → v * (2 * (x * p)) ≤ l * w + 32 * (2 * (x * p)) → l ≡ q * f → 128 * (q * w) ≤ 27 * (c * m) + 7500 * q
    → x * p ≤ 2 ^ 25 * s → l ≤ 2 ^ 25 * s → 256 * (x * (v * p)) ≤ 27 * (f * (c * m)) + 2 ^ 39 * s
wide-most x p v l w f q c m s wide load stress borne enough =
    let second : (128 * (q * w)) * f ≤ (27 * (c * m) + 7500 * q) * f = mul-le-mul_right f stress in
    let times : l * w ≡ (q * f) * w = ap (λ z. z * w) load in
    omega (arith, second, times, wide, borne, enough, load)

-- a strength times a width is small, and so is the width
slim-most : (x h s b c u : ℕ) → 1 ≤ s → s ≤ x → c * (x * h) ≤ b + 2 ^ 39 * s → 256 * b ≤ s * u → 2 ^ 60 ≤ u → (256 * c) * h ≤ 2 * u
slim-most x h s b c u some least most slim fine =
    let first : s * (c * h) ≤ x * (c * h) = mul-le-mul_right (c * h) least in
    let second : (2 ^ 60) * s ≤ u * s = mul-le-mul_right s fine in
    le_of_mul-le-mul_right {k = s} (omega (arith, first, second, most, slim)) (omega (arith, some))

-- ---- a share

-- what is asked of a stress, with a cap and q0, and a strength x beside the lesser one s of its axis
pub record IsShare {A : Type 0} (n : Numbers A) (t : A) (q0 x r : ℤ) (s c m : ℕ) : Type 0 where
  pub scale : pos 0 <ℤ q0
  pub greatest : q0 ≤ℤ pos 4194304
  pub bears : Bears q0 x
  pub from : pos 0 ≤ℤ r
  pub to : r ≤ℤ pos 20000
  pub some : 1 ≤ s
  pub least : s ≤ unsigned_abs x
  pub sixteen : unsigned_abs x ≤ 16 * s
  pub room : unsigned_abs q0 * 20000 ≤ 2 ^ 25 * s
  pub far : Reaches n (sixteenths 72 + 256) t
  pub wide : 128 * (unsigned_abs q0 * width n t) ≤ 27 * (c * m) + 7500 * unsigned_abs q0
  pub slim : 256 * (27 * (unsigned_abs r * (c * m))) ≤ s * unit n

module _ {A : Type 0} {n : Numbers A} (laws : Lawful n) (slops : n.slop ≤ 2) (fine : n.scale ≡ 60) {t : A} {q0 x r : ℤ} {s c m : ℕ} (is : IsShare n t q0 x r s c m) where
  unit-most : 2 ^ 60 ≤ unit n
  unit-most = let e : unit n ≡ 2 ^ 60 = ap (λ k. 2 ^ k) fine in omega (arith, e)

  abbrev pub load : ℤ
  load = q0 *ℤ r

  abbrev bound : ℤ
  bound = pos 2 *ℤ x

  abbrev pub loaded : Loaded A
  loaded = value.loaded n t load x

  abbrev k : ℕ
  k = loaded.shift

  q0-least : pos 0 ≤ℤ q0
  q0-least = omega (arith, ints, is.scale)

  pub few : k ≤ 24
  few = omega (arith, shift-few 24 0 load bound)

  abbrev bearing : ℤ
  bearing = bound *ℤ pos (2 ^ k)

  bearing-above : pos 1 ≤ℤ bearing
  bearing-above = bearing-positive bound k (omega (arith, ints, is.bears.strength.least)) (omega (arith, ints, is.bears.strength.greatest)) few

  share-room : RatioRoom load bearing
  share-room =
      let positive = load-positive q0 r q0-least is.greatest is.from is.to in
      let small = load-small q0 r q0-least is.greatest is.from is.to in
      let size = bearing-size bound k (omega (arith, ints, is.bears.strength.least)) (omega (arith, ints, is.bears.strength.greatest)) few in
      let enough = borne-load in
      record {
        positive = omega (arith, ints, bearing-above);
        den = omega (arith, size);
        num = omega (arith, ints, positive, small);
        room = omega (arith, ints, positive, enough, bearing-above);
      }
    where
      borne-load : load ≤ℤ bearing
      borne-load =
          let most = load-most q0 r q0-least is.greatest is.from is.to in
          shift-enough 24 0 load bound (omega (arith, ints, most, is.bears.room))

  share-parts : unsigned_abs load * 2 ^ 28 ≤ sixteenths 16 * unsigned_abs bearing
  share-parts =
      let most = load-most q0 r q0-least is.greatest is.from is.to in
      let enough : load ≤ℤ bearing = shift-enough 24 0 load bound (omega (arith, ints, most, is.bears.room)) in
      omega (arith, ints, load-positive q0 r q0-least is.greatest is.from is.to, enough, bearing-above)

  abbrev w : ℕ
  w = width n t

  abbrev v : ℕ
  v = width n loaded.value

  abbrev xx : ℕ
  xx = unsigned_abs x

  abbrev p : ℕ
  p = 2 ^ k

  x-positive : pos 0 ≤ℤ x
  x-positive = omega (arith, ints, is.bears.strength.least)

  bearing-is : unsigned_abs bearing ≡ 2 * (xx * p)
  bearing-is = unsigned_abs-mul bound (pos (2 ^ k)) ∙ (let two : unsigned_abs bound ≡ 2 * xx = unsigned_abs-mul (pos 2) x in let times : unsigned_abs bound * p ≡ (2 * xx) * p = ap (λ z. z * p) two in omega (arith, times))

  load-is : unsigned_abs load ≡ unsigned_abs q0 * unsigned_abs r
  load-is = unsigned_abs-mul q0 r

  load-room : unsigned_abs load ≤ 2 ^ 25 * s
  load-room =
      let times : unsigned_abs q0 * unsigned_abs r ≤ unsigned_abs q0 * 20000 = (let small : unsigned_abs r ≤ 20000 = omega (arith, ints, is.from, is.to) in
      let swapped : unsigned_abs r * unsigned_abs q0 ≤ 20000 * unsigned_abs q0 = mul-le-mul_right (unsigned_abs q0) small in omega (arith, swapped)) in
      omega (arith, load-is, times, is.room)

  borne : xx * p ≤ 2 ^ 25 * s
  borne = elim (shift-least 24 0 load bound) [
    | inl e ↦ (let one : p ≡ 1 = ap (λ k. 2 ^ k) e in let times : xx * p ≡ xx * 1 = ap (λ z. xx * z) one in omega (arith, times, is.sixteen))
    | inr l ↦ (let less : 2 * (xx * p) ≤ 2 * unsigned_abs load = (let pos_load = load-positive q0 r q0-least is.greatest is.from is.to in omega (arith, ints, l, bearing-is, bearing-above, pos_load)) in omega (arith, less, load-room))
  ]

  wide : v * (2 * (xx * p)) ≤ unsigned_abs load * w + 32 * (2 * (xx * p))
  wide =
      let ratio = laws.ratio load bearing share-room in
      let share = n.calc.ratio load bearing in
      let two : n.slop * unsigned_abs bearing ≤ 2 * unsigned_abs bearing = mul-le-mul_right (unsigned_abs bearing) slops in
      let far : reach n share * unsigned_abs bearing ≤ unsigned_abs load * unit n + 2 * unsigned_abs bearing = omega (arith, ratio.far, two) in
      let five : reach n t ≤ 5 * unit n = omega (arith, is.far.far) in
      let product = thin-product laws slops (5 * unit n) w (reach n share) 2 is.far (reaches_ratio_at laws (sixteenths 16) load bearing share-room share-parts) (omega arith) five (omega arith) (omega arith) (omega (arith, ratio.narrow, slops)) in
      let most : w ≤ 10 * unit n = omega (arith, five, wide-by-reach t) in
      subst (λ b. v * b ≤ unsigned_abs load * w + 32 * b) bearing-is (loaded-most v w (reach n share) (unsigned_abs load) (unsigned_abs bearing) (unit n) (one_unit laws) product far most)
    where
      wide-by-reach : (z : A) → width n z ≤ 2 * reach n z
      wide-by-reach z = ends-most (n.low z) (n.high z)

  abbrev pub y : A
  y = n.calc.multiple loaded.value (pos (2 ^ k))

  -- ---- rounded

  stress-wide : 128 * (unsigned_abs q0 * w) ≤ 27 * (c * m) + 7500 * unsigned_abs q0
  stress-wide = is.wide

  before : 256 * (xx * (v * p)) ≤ 27 * (unsigned_abs r * (c * m)) + 2 ^ 39 * s
  before = wide-most xx p v (unsigned_abs load) w (unsigned_abs r) (unsigned_abs q0) c m s wide load-is is.wide borne load-room

  slim-before : (256 * 256) * (v * p) ≤ 2 * unit n
  slim-before = slim-most xx (v * p) s (27 * (unsigned_abs r * (c * m))) 256 (unit n) is.some is.least before is.slim unit-most

  abbrev eighth : ℕ
  eighth = 2 ^ (n.scale - (3 + k))

  room-k : 3 + k ≤ n.scale
  room-k = omega (arith, few, laws.fine)

  eighth-is : eighth * (8 * p) ≡ unit n
  eighth-is = ap (λ t. eighth * t) (sym (pow-add 2 3 k)) ∙ power-parts (3 + k) n.scale room-k

  slim-eighth : v ≤ eighth
  slim-eighth =
      let positive : 1 ≤ p = omega (arith, pow_pos k) in
      le_of_mul-le-mul_right {k = p} (omega (arith, slim-before, eighth-is)) (omega (arith, positive))

  module _ (near : value.beyond n loaded ≡ false) where
    abbrev limit : ℕ
    limit = 2 ^ (n.scale - k)

    pub inside : value.within n loaded.value (pos (value.nine_eighths n k)) ≡ true
    inside =
        let both = neither (int_lt (pos limit) (n.low loaded.value)) (int_lt (n.high loaded.value) (neg_ℤ (pos limit))) near in
        let low = not_below (pos limit) (n.low loaded.value) both.0 in
        let high = not_below (n.high loaded.value) (neg_ℤ (pos limit)) both.1 in
        let wide = width-pos (n.low loaded.value) (n.high loaded.value) (laws.ordered loaded.value) in
        rw (le-true (neg_ℤ (pos (value.nine_eighths n k))) (n.low loaded.value) (omega (arith, ints, high, wide, slim-eighth)), le-true (n.high loaded.value) (pos (value.nine_eighths n k)) (omega (arith, ints, low, wide, slim-eighth))) refl

    reached : reach n loaded.value ≤ value.nine_eighths n k
    reached = within-reach laws loaded.value (value.nine_eighths n k) inside

    pub y-far : Reaches n (sixteenths 18 + 4) y
    y-far = stretched-reach laws loaded.value k few reached

    abbrev pub mid : ℤ
    mid = middle laws y y-far

    abbrev pub by_half : ℤ
    by_half = half laws y y-far

    halves : 2 * unsigned_abs by_half ≤ v * p + 3
    halves =
        let narrow = (laws.multiple loaded.value (pos (2 ^ k)) (stretched-room laws loaded.value k few reached)).narrow in
        let wide = width-pos (n.low y) (n.high y) (laws.ordered y) in
        let size : unsigned_abs (pos (2 ^ k)) ≡ p = refl in
        omega (arith, ints, narrow, wide, half_near (n.low y +ℤ n.high y), half-positive laws y y-far, slops, size)

    pub half-wide : 512 * (xx * unsigned_abs by_half) ≤ 27 * (unsigned_abs r * (c * m)) + 2 ^ 39 * s
    half-wide = half-most xx p (unsigned_abs by_half) v (unsigned_abs load) w (unsigned_abs r) (unsigned_abs q0) c m s halves wide load-is is.wide borne is.sixteen load-room

    pub slim-half : 2 ^ 16 * unsigned_abs by_half ≤ unit n
    slim-half = (let small = slim-most xx (unsigned_abs by_half) s (27 * (unsigned_abs r * (c * m))) 512 (unit n) is.some is.least half-wide is.slim unit-most in omega (arith, small))

    pub half-narrow : by_half ≤ℤ pos (2 ^ (n.scale - 4))
    half-narrow = (let sixteen : 2 ^ (n.scale - 4) * 2 ^ 4 ≡ unit n = power-parts 4 n.scale (omega (arith, laws.fine)) in omega (arith, ints, half-positive laws y y-far, slim-half, sixteen))

    pub rounded-is : value.rounded n loaded ≡ Some (value.round n mid by_half)
    rounded-is = sym (rounded-fine n loaded inside) ∙ sym (narrow-fine n mid by_half half-narrow)
