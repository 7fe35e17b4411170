-- What is known of the sums of a wall, over any number of plies, in h-ths of one.
use Rattle.std.proofs.Common.{◌≡◌, refl, ◌∙◌, ap, ℕ, ◌+◌, ◌*◌, ◌^◌, ◌≤◌, ℤ, pos, neg_ℤ, ◌+ℤ◌, ◌*ℤ◌, ◌≤ℤ◌, List, [], ◌∷◌, length, All, fold, arith}
use Rattle.std.specs.Prelude.{unsigned_abs}
use Rattle.std.proofs.Math.Nat.{mul-le-mul, mul-le-mul_right}
use Rattle.std.proofs.lemmas.Int.{ints}
use Rattle.std.proofs.lemmas.List.Elements.{All-head, All-tail}
use Rattle.lam_fraction.specs.Fraction.{ℚ, whole, ◌+ℚ◌, ◌-ℚ◌, ◌/ℚ◌}
use Rattle.lam_fraction.specs.numbers.Arithmetic.{exact}
use Rattle.lam_fraction.specs.inside.Known.{Bounds, Known}
use Rattle.lam_fraction.specs.numbers.Numbers.{Numbers, Holds, Lawful}
use Rattle.lam_fraction.proofs.Expression.{int, ◌⊕◌, ◌⊖◌, ◌⊗◌, minus}
use Rattle.lam_fraction.proofs.Solver.{◌≐◌}
use Rattle.lam_fraction.proofs.Rationals.{solve, at_most, above, number, ◌*ₙ◌}
use Rattle.lam_fraction.proofs.numbers.Steps.{coarse, known_more, known_product_at, known_ratio_at, known_sum}
use Rattle.lam_stock.specs.declared.item.Item.{Item}
use Rattle.lam_stock.specs.Stock.{WithinLimits}
use Rattle.lam_lamina.specs.Held.{HoldsMatrix, IsNarrow, NarrowMatrix}
use Rattle.lam_lamina.specs.Stiffness.{AtMostOne, IsBounded}
use Rattle.lam_lamina.specs.declared.stiffness.Sym3.{Sym3}
use Rattle.lam_lamina.specs.inside.Formulas.{zeros}
use Rattle.lam_lamina.proofs.Bounds.{zero-fraction}
use Rattle.lam_job.specs.Wall.{Placed, placed_from, wall_thickness}
use Rattle.lam_job.proofs.Places.{thickness_not_negative, wall_not_negative}
use Rattle.lam_wall.specs.Assembled.{most_thickness}
use Rattle.lam_wall.specs.Matrices.{shared}
use Rattle.lam_wall.specs.inside.Formulas as by
use Rattle.lam_wall.specs.inside.Parts.{IsPlaced, laid_at}
use Rattle.lam_wall.proofs.SharesKnown.{share_of}

pub record KnownEntries {A : Type 0} (n : Numbers A) (d : ℕ) (b : Bounds) (r : Sym3 A) (m : Sym3 ℚ) : Type 0 where
  pub xx : Known n d b r.xx m.xx
  pub xy : Known n d b r.xy m.xy
  pub yy : Known n d b r.yy m.yy
  pub xs : Known n d b r.xs m.xs
  pub ys : Known n d b r.ys m.ys
  pub ss : Known n d b r.ss m.ss

-- an entry of a ply's stiffness, at most one in size and 32 slops wide
abbrev pub entry_of : ℕ → Bounds
entry_of d = record { size = d; wide = 32 * d }

-- a sum over k plies of thickness t
abbrev pub sum_of : ℕ → ℕ → ℕ → Bounds
sum_of d t k = record { size = t; wide = 32 * t + (4 * k + 1) * d }

known-entry : {A : Type 0} {n : Numbers A} {z : A} {q : ℚ} (d : ℕ) → Holds n z q → IsNarrow 32 n z → AtMostOne q → Known n d (entry_of d) z q
unfolding ◌-ℚ◌ ◌/ℚ◌
known-entry {n = n} {z} {q} d held narrow small = let times = mul-le-mul_right d narrow in record {
  held = held;
  narrow = omega (arith, times);
  least = at_most (number d *ₙ above small.0) (solve 2 (λ d q. d ⊗ q ⊖ minus d ≐ d ⊗ (q ⊖ minus (int (pos 1)))) refl (whole (pos d)) q);
  most = at_most (number d *ₙ above small.1) (solve 2 (λ d q. d ⊖ d ⊗ q ≐ d ⊗ (int (pos 1) ⊖ q)) refl (whole (pos d)) q);
}

pub known-stiffness : {A : Type 0} {n : Numbers A} {r : Sym3 A} {m : Sym3 ℚ} (d : ℕ) → HoldsMatrix n r m → NarrowMatrix 32 n r → IsBounded m → KnownEntries n d (entry_of d) r m
known-stiffness d held narrow small = record {
  xx = known-entry d held.xx narrow.xx small.xx;
  xy = known-entry d held.xy narrow.xy small.xy;
  yy = known-entry d held.yy narrow.yy small.yy;
  xs = known-entry d held.xs narrow.xs small.xs;
  ys = known-entry d held.ys narrow.ys small.ys;
  ss = known-entry d held.ss narrow.ss small.ss;
}

module _ {A : Type 0} {n : Numbers A} (laws : Lawful n) (d : ℕ) (some : 1 ≤ d) where
  part-room : (u : ℕ) → u ≤ d → coarse (share_of d u) * coarse (entry_of d) ≤ 6 * ((d * 2 ^ 28) * (d * 2 ^ 28))
  part-room u thin =
      let product : coarse (share_of d u) * coarse (entry_of d) ≤ (2 * (d * 2 ^ 28)) * (2 * (d * 2 ^ 28)) = mul-le-mul (omega (arith, thin)) (omega arith) in
      omega (arith, product)

  -- a sum with a share of an entry more
  known-gathered : (t u k : ℕ) → t + u ≤ d → k ≤ 63 → {z w e : A} {x c q : ℚ} → Known n d (sum_of d t k) z x → Known n d (share_of d u) w c → Known n d (entry_of d) e q
      → Known n d (sum_of d (t + u) (k + 1)) (by.gathered n.calc z w e) (by.gathered exact x c q)
  known-gathered t u k within few {z} {w} {e} {x} {c} {q} sum share entry =
      let plies : k * d ≤ 63 * d = mul-le-mul_right d few in
      let part = known_product_at laws d some (record { size = u; wide = 32 * u + 3 * d }) share entry (part-room u (omega (arith, within))) (omega arith) (omega arith) in
      known_more laws d some (known_sum laws d some sum part (omega (arith, plies, within))) (omega arith) (omega arith)

  known-with_share : (t u k : ℕ) → t + u ≤ d → k ≤ 63 → {r s : Sym3 A} {w : A} {m q : Sym3 ℚ} {c : ℚ}
      → KnownEntries n d (sum_of d t k) r m → Known n d (share_of d u) w c → KnownEntries n d (entry_of d) s q
      → KnownEntries n d (sum_of d (t + u) (k + 1)) (by.with_share n.calc r w s) (by.with_share exact m c q)
  known-with_share t u k within few sums share entries = record {
    xx = known-gathered t u k within few sums.xx share entries.xx;
    xy = known-gathered t u k within few sums.xy share entries.xy;
    yy = known-gathered t u k within few sums.yy share entries.yy;
    xs = known-gathered t u k within few sums.xs share entries.xs;
    ys = known-gathered t u k within few sums.ys share entries.ys;
    ss = known-gathered t u k within few sums.ss share entries.ss;
  }

  known-zero : Known n d (sum_of d 0 0) (n.calc.ratio (pos 0) (pos 1)) (exact.ratio (pos 0) (pos 1))
  known-zero = known_ratio_at laws d some (sum_of d 0 0) (pos 0) (pos 1)
      (record { positive = omega (arith, ints); den = omega arith; num = omega arith; room = omega arith }) (omega arith) (omega arith)

  known-zeros : KnownEntries n d (sum_of d 0 0) (zeros n.calc) (zeros exact)
  known-zeros = record { xx = known-zero; xy = known-zero; yy = known-zero; xs = known-zero; ys = known-zero; ss = known-zero }

  known-most : (t k : ℕ) → t ≤ d → k ≤ 64 → {z : A} {x : ℚ} → Known n d (sum_of d t k) z x → Known n d (sum_of d d 64) z x
  known-most t k within few h = let plies : k * d ≤ 64 * d = mul-le-mul_right d few in known_more laws d some h within (omega (arith, plies, within))

  known-all : (t k : ℕ) → t ≤ d → k ≤ 64 → {r : Sym3 A} {m : Sym3 ℚ} → KnownEntries n d (sum_of d t k) r m → KnownEntries n d (sum_of d d 64) r m
  known-all t k within few h = record {
    xx = known-most t k within few h.xx;
    xy = known-most t k within few h.xy;
    yy = known-most t k within few h.yy;
    xs = known-most t k within few h.xs;
    ys = known-most t k within few h.ys;
    ss = known-most t k within few h.ss;
  }

-- ---- plies laid in a wall of thickness h

module _ {A : Type 0} {n : Numbers A} (laws : Lawful n) (h : ℤ) (least : pos 1 ≤ℤ h) (greatest : h ≤ℤ most_thickness)
    (share : Placed → A) (c : Placed → ℚ) (stiffness : Item → Sym3 A) (q : Item → Sym3 ℚ)
    (shares : (p : Placed) → IsPlaced h p → Known n (unsigned_abs h) (share_of (unsigned_abs h) (unsigned_abs p.item.lamina.t)) (share p) (c p)) where
  abbrev d : ℕ
  d = unsigned_abs h

  abbrev KnownItem : Item → Type 0
  KnownItem i = KnownEntries n d (entry_of d) (stiffness i) (q i)

  some : 1 ≤ d
  some = omega (arith, ints, least)

  laid-on : (items : List Item) (z : ℤ) (t k : ℕ) (r : Sym3 A) (m : Sym3 ℚ) → z ≡ neg_ℤ h +ℤ pos 2 *ℤ pos t → All WithinLimits items → All KnownItem items
      → (pos t +ℤ wall_thickness items) ≤ℤ h → k + length items ≤ 64 → KnownEntries n d (sum_of d t k) r m
      → KnownEntries n d (sum_of d d 64) (fold (λ m p. by.with_share n.calc m (share p) (stiffness p.item)) r (placed_from z items))
      (fold (λ m p. by.with_share exact m (c p) (q p.item)) m (placed_from z items))
  laid-on [] z t k r m place limits known within few sums = known-all laws d some t k (omega (arith, ints, within)) (omega (arith, few)) sums
  laid-on (i ∷ items) z t k r m place limits known within few sums =
      let thick = thickness_not_negative (All-head WithinLimits i items limits) in
      let rest = wall_not_negative items (All-tail WithinLimits i items limits) in
      let placed : IsPlaced h (laid_at i z) = record {
        least = least;
        greatest = greatest;
        thick = thick;
        within = omega (arith, ints, within, rest);
        inner = omega (arith, ints, place);
        order = omega (arith, ints, thick);
        outer = omega (arith, ints, place, within, rest);
      } in
      laid-on items (z +ℤ pos 2 *ℤ i.lamina.t) (t + unsigned_abs i.lamina.t) (k + 1) _ _ (omega (arith, ints, place, thick)) (All-tail WithinLimits i items limits) (All-tail KnownItem i items known)
      (omega (arith, ints, within, thick)) (omega (arith, few))
      (known-with_share laws d some t (unsigned_abs i.lamina.t) k (omega (arith, ints, within, rest, thick)) (omega (arith, few)) sums (shares (laid_at i z) placed) (All-head KnownItem i items known))

  pub known-summed : (items : List Item) → All WithinLimits items → All KnownItem items → wall_thickness items ≤ℤ h → length items ≤ 64
      → KnownEntries n d (sum_of d d 64) (by.summed n.calc share stiffness (placed_from (neg_ℤ h) items)) (by.summed exact c q (placed_from (neg_ℤ h) items))
  known-summed items limits known within few =
      laid-on items (neg_ℤ h) 0 0 _ _ (omega (arith, ints)) limits known (omega (arith, ints, within)) (omega (arith, few)) (known-zeros laws d some)

-- ---- at fractions, the sums one after the other are the sums over all plies

abbrev plus : Sym3 ℚ → Sym3 ℚ → Sym3 ℚ
plus m k = record { xx = m.xx +ℚ k.xx; xy = m.xy +ℚ k.xy; yy = m.yy +ℚ k.yy; xs = m.xs +ℚ k.xs; ys = m.ys +ℚ k.ys; ss = m.ss +ℚ k.ss }

same_matrix : {m k : Sym3 ℚ} → m.xx ≡ k.xx → m.xy ≡ k.xy → m.yy ≡ k.yy → m.xs ≡ k.xs → m.ys ≡ k.ys → m.ss ≡ k.ss → m ≡ k
same_matrix xx xy yy xs ys ss = λ j. record { xx = xx j; xy = xy j; yy = yy j; xs = xs j; ys = ys j; ss = ss j }

module _ (c : Placed → ℚ) (q : Item → Sym3 ℚ) where
  nothing_on : (x : ℚ) → x ≡ x +ℚ whole (pos 0)
  nothing_on x = solve 1 (λ x. x ≐ x ⊕ int (pos 0)) refl x

  regroup : (x y z : ℚ) → (x +ℚ y) +ℚ z ≡ x +ℚ (y +ℚ z)
  regroup x y z = solve 3 (λ x y z. (x ⊕ y) ⊕ z ≐ x ⊕ (y ⊕ z)) refl x y z

  on_nothing : (x : ℚ) → exact.ratio (pos 0) (pos 1) +ℚ x ≡ x
  on_nothing x = ap (λ z. z +ℚ x) zero-fraction ∙ solve 1 (λ x. int (pos 0) ⊕ x ≐ x) refl x

  summed-on : (plies : List Placed) (m : Sym3 ℚ) → fold (λ m p. by.with_share exact m (c p) (q p.item)) m plies ≡ plus m (shared c q plies)
  summed-on [] m = same_matrix (nothing_on m.xx) (nothing_on m.xy) (nothing_on m.yy) (nothing_on m.xs) (nothing_on m.ys) (nothing_on m.ss)
  summed-on (p ∷ plies) m =
      summed-on plies (by.with_share exact m (c p) (q p.item))
      ∙ same_matrix (regroup m.xx _ _) (regroup m.xy _ _) (regroup m.yy _ _) (regroup m.xs _ _) (regroup m.ys _ _) (regroup m.ss _ _)

  pub summed-is : (plies : List Placed) → by.summed exact c q plies ≡ shared c q plies
  summed-is plies =
      summed-on plies (zeros exact)
      ∙ same_matrix (on_nothing _) (on_nothing _) (on_nothing _) (on_nothing _) (on_nothing _) (on_nothing _)
