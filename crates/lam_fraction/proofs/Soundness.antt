-- The normal form of an expression has the expression's value, in any commutative ring.
use Rattle.std.proofs.Common.{◌≡◌, refl, sym, ◌∙◌, ap, ap₂, subst, ℕ, zero, suc, ◌+◌, ◌*◌, ◌^◌, ◌/◌, ◌%◌, ◌<◌, ◌≤◌, max, ℤ, pos, negsuc, ◌+ℤ◌, List, [], ◌∷◌, ltb, true, false, Bool, T, ltb→lt, zero-add, suc-add, eqb→eq, arith}
use Prim.Native.Nat.{compare, Ordering}
use Rattle.std.proofs.Math.Dec.{compare_is_eq}
use mathlib.Core.Path.{◌≡⟨◌⟩◌, ◌∎}
use Rattle.lam_fraction.proofs.Ring.{Ring}
use Rattle.lam_fraction.proofs.Expression.{Expr, var, int, ◌⊕◌, ◌⊖◌, ◌⊗◌, minus, ◌↑◌, degree, power, unknown, eval}
use Rattle.lam_fraction.proofs.Normaliser.{Poly, nil, term, put, merge, plus, scale, times, raise, norm, gap}

module _ (R : Ring) where
  open R use {Carrier, ◌⊞◌, ◌⊡◌, opposite, image, sum_assoc, sum_comm, sum_zero, sum_opposite, product_assoc, product_comm, product_one, distributes, image_sum, image_product}

  -- ---- laws that follow
  sum_left : (a b c : Carrier) → a ⊞ (b ⊞ c) ≡ b ⊞ (a ⊞ c)
  sum_left a b c = sym (sum_assoc a b c) ∙ ap (λ s. s ⊞ c) (sum_comm a b) ∙ sum_assoc b a c

  product_left : (a b c : Carrier) → a ⊡ (b ⊡ c) ≡ b ⊡ (a ⊡ c)
  product_left a b c = sym (product_assoc a b c) ∙ ap (λ s. s ⊡ c) (product_comm a b) ∙ product_assoc b a c

  zero_sum : (a : Carrier) → image (pos 0) ⊞ a ≡ a
  zero_sum a = sum_comm (image (pos 0)) a ∙ sum_zero a

  one_product : (a : Carrier) → image (pos 1) ⊡ a ≡ a
  one_product a = product_comm (image (pos 1)) a ∙ product_one a

  distributes_right : (a b c : Carrier) → (a ⊞ b) ⊡ c ≡ (a ⊡ c) ⊞ (b ⊡ c)
  distributes_right a b c = product_comm (a ⊞ b) c ∙ distributes c a b ∙ ap₂ ◌⊞◌ (product_comm c a) (product_comm c b)

  -- what leaves a sum as it is, is zero
  cancels : (a b : Carrier) → a ⊞ b ≡ a → b ≡ image (pos 0)
  cancels a b e =
      b ≡⟨ sym (zero_sum b) ⟩
      image (pos 0) ⊞ b ≡⟨ ap (λ s. s ⊞ b) (sym (sum_opposite a)) ⟩
      (a ⊞ opposite a) ⊞ b ≡⟨ sum_assoc a (opposite a) b ∙ sum_left a (opposite a) b ⟩
      opposite a ⊞ (a ⊞ b) ≡⟨ ap (λ s. opposite a ⊞ s) e ∙ sum_comm (opposite a) a ∙ sum_opposite a ⟩
      image (pos 0) ∎

  zero_product : (a : Carrier) → image (pos 0) ⊡ a ≡ image (pos 0)
  zero_product a = cancels (image (pos 0) ⊡ a) (image (pos 0) ⊡ a) (sym (distributes_right (image (pos 0)) (image (pos 0)) a) ∙ ap (λ s. s ⊡ a) (sum_zero (image (pos 0))))

  product_zero : (a : Carrier) → a ⊡ image (pos 0) ≡ image (pos 0)
  product_zero a = product_comm a (image (pos 0)) ∙ zero_product a

  -- an opposite is unique
  opposite_unique : (a b : Carrier) → a ⊞ b ≡ image (pos 0) → b ≡ opposite a
  opposite_unique a b e =
      b ≡⟨ sym (zero_sum b) ∙ ap (λ s. s ⊞ b) (sym (sum_opposite a)) ⟩
      (a ⊞ opposite a) ⊞ b ≡⟨ sum_assoc a (opposite a) b ∙ sum_left a (opposite a) b ⟩
      opposite a ⊞ (a ⊞ b) ≡⟨ ap (λ s. opposite a ⊞ s) e ∙ sum_zero (opposite a) ⟩
      opposite a ∎

  pub opposite_is : (a : Carrier) → image (negsuc 0) ⊡ a ≡ opposite a
  opposite_is a = opposite_unique a (image (negsuc 0) ⊡ a)
      (ap (λ s. s ⊞ (image (negsuc 0) ⊡ a)) (sym (one_product a)) ∙ sym (distributes_right (image (pos 1)) (image (negsuc 0)) a) ∙ ap (λ s. s ⊡ a) (sym (image_sum (pos 1) (negsuc 0))) ∙ zero_product a)

  pub difference_zero : (a b : Carrier) → a ⊞ opposite b ≡ image (pos 0) → a ≡ b
  difference_zero a b e =
      a ≡⟨ sym (sum_zero a) ∙ ap (λ s. a ⊞ s) (sym (sum_opposite b)) ⟩
      a ⊞ (b ⊞ opposite b) ≡⟨ sum_left a b (opposite b) ∙ ap (λ s. b ⊞ s) e ∙ sum_zero b ⟩
      b ∎

  sum_swap : (a b c d : Carrier) → (a ⊞ b) ⊞ (c ⊞ d) ≡ (a ⊞ c) ⊞ (b ⊞ d)
  sum_swap a b c d = sum_assoc a b (c ⊞ d) ∙ ap (λ s. a ⊞ s) (sum_left b c d) ∙ sym (sum_assoc a c (b ⊞ d))

  product_swap : (a b c d : Carrier) → (a ⊡ b) ⊡ (c ⊡ d) ≡ (a ⊡ c) ⊡ (b ⊡ d)
  product_swap a b c d = product_assoc a b (c ⊡ d) ∙ ap (λ s. a ⊡ s) (product_left b c d) ∙ sym (product_assoc a c (b ⊡ d))

  -- ---- powers
  power_suc : (x : Carrier) (n : ℕ) → power R x (suc n) ≡ x ⊡ power R x n
  power_suc x zero = sym (product_one x)
  power_suc x (suc n) = product_comm (power R x (suc n)) x

  power_sum : (x : Carrier) (m n : ℕ) → power R x (m + n) ≡ power R x m ⊡ power R x n
  power_sum x zero n = ap (power R x) (zero-add n) ∙ sym (one_product (power R x n))
  power_sum x (suc m) n =
      ap (power R x) (suc-add m n) ∙ power_suc x (m + n) ∙ ap (λ s. x ⊡ s) (power_sum x m n) ∙ sym (product_assoc x (power R x m) (power R x n)) ∙ ap (λ s. s ⊡ power R x n) (sym (power_suc x m))

  -- ---- monomials
  -- each digit of the monomial is at most d
  Small : List Carrier → ℕ → ℕ → Type 0
  Small [] d m = Unit {0}
  Small (x ∷ xs) d m = (m % 256 ≤ d) × Small xs d (m / 256)

  monomial : List Carrier → ℕ → Carrier
  monomial [] m = image (pos 1)
  monomial (x ∷ xs) m = power R x (m % 256) ⊡ monomial xs (m / 256)

  no_power : (xs : List Carrier) → monomial xs 0 ≡ image (pos 1)
  unfolding monomial
  no_power [] = refl
  no_power (x ∷ xs) = one_product (monomial xs 0) ∙ no_power xs

  small_zero : (xs : List Carrier) (d : ℕ) → Small xs d 0
  unfolding Small
  small_zero [] d = tt
  small_zero (x ∷ xs) d = (omega arith, small_zero xs d)

  small_more : (xs : List Carrier) (d e m : ℕ) → d ≤ e → Small xs d m → Small xs e m
  unfolding Small
  small_more [] d e m h s = tt
  small_more (x ∷ xs) d e m h s = (omega arith, small_more xs d e (m / 256) h s.1)

  -- digits that stay below 256 add without a carry
  small_sum : (xs : List Carrier) (d e m n : ℕ) → d + e < 256 → Small xs d m → Small xs e n → Small xs (d + e) (m + n)
  unfolding Small
  small_sum [] d e m n h s t = tt
  small_sum (x ∷ xs) d e m n h s t =
      let q : (m + n) / 256 ≡ m / 256 + n / 256 = omega arith in
      (omega arith, subst (Small xs (d + e)) (sym q) (small_sum xs d e (m / 256) (n / 256) h s.1 t.1))

  monomial_sum : (xs : List Carrier) (d e m n : ℕ) → d + e < 256 → Small xs d m → Small xs e n → monomial xs (m + n) ≡ monomial xs m ⊡ monomial xs n
  unfolding Small monomial
  monomial_sum [] d e m n h s t = sym (product_one (image (pos 1)))
  monomial_sum (x ∷ xs) d e m n h s t =
      let r : (m + n) % 256 ≡ m % 256 + n % 256 = omega arith in
      let q : (m + n) / 256 ≡ m / 256 + n / 256 = omega arith in
      ap₂ ◌⊡◌ (ap (power R x) r ∙ power_sum x (m % 256) (n % 256)) (ap (monomial xs) q ∙ monomial_sum xs d e (m / 256) (n / 256) h s.1 t.1)
      ∙ product_swap (power R x (m % 256)) (power R x (n % 256)) (monomial xs (m / 256)) (monomial xs (n / 256))

  -- an unknown is the monomial of its place
  small_unknown : (xs : List Carrier) (i : ℕ) → Small xs 1 (256 ^ i)
  unfolding Small
  small_unknown [] i = tt
  small_unknown (x ∷ xs) zero = (omega arith, small_zero xs 1)
  small_unknown (x ∷ xs) (suc i) =
      let q : (256 ^ suc i) / 256 ≡ 256 ^ i = omega arith in
      (omega arith, subst (Small xs 1) (sym q) (small_unknown xs i))

  monomial_unknown : (xs : List Carrier) (i : ℕ) → monomial xs (256 ^ i) ≡ unknown R xs i
  unfolding monomial
  monomial_unknown [] i = refl
  monomial_unknown (x ∷ xs) zero = ap (λ s. x ⊡ s) (no_power xs) ∙ product_one x
  monomial_unknown (x ∷ xs) (suc i) =
      let r : (256 ^ suc i) % 256 ≡ 0 = omega arith in
      let q : (256 ^ suc i) / 256 ≡ 256 ^ i = omega arith in
      ap₂ ◌⊡◌ (ap (power R x) r) (ap (monomial xs) q ∙ monomial_unknown xs i) ∙ one_product (unknown R xs i)

  -- ---- sums of terms
  value : List Carrier → Poly → Carrier
  value xs nil = image (pos 0)
  value xs (term m a p) = (image a ⊡ monomial xs m) ⊞ value xs p

  AllSmall : List Carrier → ℕ → Poly → Type 0
  AllSmall xs d nil = Unit {0}
  AllSmall xs d (term m a p) = Small xs d m × AllSmall xs d p

  all_more : (xs : List Carrier) (d e : ℕ) (p : Poly) → d ≤ e → AllSmall xs d p → AllSmall xs e p
  unfolding AllSmall
  all_more xs d e nil h s = tt
  all_more xs d e (term m a p) h s = (small_more xs d e m h s.0, all_more xs d e p h s.1)

  all_put : (xs : List Carrier) (d m : ℕ) (a : ℤ) (p : Poly) → Small xs d m → AllSmall xs d p → AllSmall xs d (put m a p)
  unfolding AllSmall
  all_put xs d m (pos zero) p s t = t
  all_put xs d m (pos (suc n)) p s t = (s, t)
  all_put xs d m (negsuc n) p s t = (s, t)

  value_put : (xs : List Carrier) (m : ℕ) (a : ℤ) (p : Poly) → value xs (put m a p) ≡ (image a ⊡ monomial xs m) ⊞ value xs p
  unfolding value
  value_put xs m (pos zero) p = sym (ap (λ s. s ⊞ value xs p) (zero_product (monomial xs m)) ∙ zero_sum (value xs p))
  value_put xs m (pos (suc n)) p = refl
  value_put xs m (negsuc n) p = refl

  -- what `merge` answers at a term, by how the two monomials compare
  choice : ℕ → ℤ → ℕ → ℤ → Poly → Poly → Poly → Ordering → Poly
  choice m a n b first both after o = elim o [ Ordering.lt ↦ term m a first | Ordering.eq ↦ put m (a +ℤ b) both | Ordering.gt ↦ term n b after ]

  value_choice : (xs : List Carrier) (m : ℕ) (a : ℤ) (n : ℕ) (b : ℤ) (v w : Carrier) (first both after : Poly) (o : Ordering) → (T (compare_is_eq o) → m ≡ n)
      → value xs first ≡ v ⊞ ((image b ⊡ monomial xs n) ⊞ w) → value xs both ≡ v ⊞ w → value xs after ≡ ((image a ⊡ monomial xs m) ⊞ v) ⊞ w
      → value xs (choice m a n b first both after o) ≡ ((image a ⊡ monomial xs m) ⊞ v) ⊞ ((image b ⊡ monomial xs n) ⊞ w)
  unfolding value choice
  value_choice xs m a n b v w first both after Ordering.lt same f k l = ap (λ s. (image a ⊡ monomial xs m) ⊞ s) f ∙ sym (sum_assoc (image a ⊡ monomial xs m) v ((image b ⊡ monomial xs n) ⊞ w))
  value_choice xs m a n b v w first both after Ordering.eq same f k l =
      value_put xs m (a +ℤ b) both
      ∙ ap₂ ◌⊞◌ (ap (λ s. s ⊡ monomial xs m) (image_sum a b) ∙ distributes_right (image a) (image b) (monomial xs m) ∙ ap (λ i. (image a ⊡ monomial xs m) ⊞ (image b ⊡ monomial xs i)) (same tt)) k
      ∙ sum_swap (image a ⊡ monomial xs m) (image b ⊡ monomial xs n) v w
  value_choice xs m a n b v w first both after Ordering.gt same f k l = ap (λ s. (image b ⊡ monomial xs n) ⊞ s) l ∙ sum_left (image b ⊡ monomial xs n) ((image a ⊡ monomial xs m) ⊞ v) w

  value_merge : (xs : List Carrier) (m : ℕ) (a : ℤ) (f : Poly → Poly) (v : Carrier) → ((q : Poly) → value xs (f q) ≡ v ⊞ value xs q)
      → (q : Poly) → value xs (merge m a f q) ≡ ((image a ⊡ monomial xs m) ⊞ v) ⊞ value xs q
  unfolding value choice
  value_merge xs m a f v h nil = ap (λ s. (image a ⊡ monomial xs m) ⊞ s) (h nil) ∙ sym (sum_assoc (image a ⊡ monomial xs m) v (image (pos 0)))
  value_merge xs m a f v h (term n b q) =
      value_choice xs m a n b v (value xs q) (f (term n b q)) (f q) (merge m a f q) (compare m n) (eqb→eq m n) (h (term n b q)) (h q) (value_merge xs m a f v h q)

  value_plus : (xs : List Carrier) (p q : Poly) → value xs (plus p q) ≡ value xs p ⊞ value xs q
  unfolding value
  value_plus xs nil q = sym (zero_sum (value xs q))
  value_plus xs (term m a p) q = value_merge xs m a (plus p) (value xs p) (value_plus xs p) q

  all_choice : (xs : List Carrier) (d m : ℕ) (a : ℤ) (n : ℕ) (b : ℤ) (first both after : Poly) (o : Ordering) → Small xs d m → Small xs d n
      → AllSmall xs d first → AllSmall xs d both → AllSmall xs d after → AllSmall xs d (choice m a n b first both after o)
  unfolding AllSmall choice
  all_choice xs d m a n b first both after Ordering.lt s t f k l = (s, f)
  all_choice xs d m a n b first both after Ordering.eq s t f k l = all_put xs d m (a +ℤ b) both s k
  all_choice xs d m a n b first both after Ordering.gt s t f k l = (t, l)

  all_merge : (xs : List Carrier) (d m : ℕ) (a : ℤ) (f : Poly → Poly) → Small xs d m → ((q : Poly) → AllSmall xs d q → AllSmall xs d (f q))
      → (q : Poly) → AllSmall xs d q → AllSmall xs d (merge m a f q)
  unfolding AllSmall choice
  all_merge xs d m a f s h nil t = (s, h nil t)
  all_merge xs d m a f s h (term n b q) t = all_choice xs d m a n b (f (term n b q)) (f q) (merge m a f q) (compare m n) s t.0 (h (term n b q) t) (h q t.1) (all_merge xs d m a f s h q t.1)

  all_plus : (xs : List Carrier) (d : ℕ) (p : Poly) → AllSmall xs d p → (q : Poly) → AllSmall xs d q → AllSmall xs d (plus p q)
  unfolding AllSmall
  all_plus xs d nil s q t = t
  all_plus xs d (term m a p) s q t = all_merge xs d m a (plus p) s.0 (all_plus xs d p s.1) q t

  all_scale : (xs : List Carrier) (d e m : ℕ) (a : ℤ) (p : Poly) → d + e < 256 → Small xs d m → AllSmall xs e p → AllSmall xs (d + e) (scale m a p)
  unfolding AllSmall
  all_scale xs d e m a nil h s t = tt
  all_scale xs d e m a (term n b p) h s t = (small_sum xs d e m n h s t.0, all_scale xs d e m a p h s t.1)

  value_scale : (xs : List Carrier) (d e m : ℕ) (a : ℤ) (p : Poly) → d + e < 256 → Small xs d m → AllSmall xs e p → value xs (scale m a p) ≡ (image a ⊡ monomial xs m) ⊡ value xs p
  unfolding AllSmall value
  value_scale xs d e m a nil h s t = sym (product_zero (image a ⊡ monomial xs m))
  value_scale xs d e m a (term n b p) h s t =
      ap₂ ◌⊞◌ (ap₂ ◌⊡◌ (image_product a b) (monomial_sum xs d e m n h s t.0) ∙ product_swap (image a) (image b) (monomial xs m) (monomial xs n)) (value_scale xs d e m a p h s t.1)
      ∙ sym (distributes (image a ⊡ monomial xs m) (image b ⊡ monomial xs n) (value xs p))

  all_times : (xs : List Carrier) (d e : ℕ) (p q : Poly) → d + e < 256 → AllSmall xs d p → AllSmall xs e q → AllSmall xs (d + e) (times p q)
  unfolding AllSmall
  all_times xs d e nil q h s t = tt
  all_times xs d e (term m a p) q h s t = all_plus xs (d + e) (scale m a q) (all_scale xs d e m a q h s.0 t) (times p q) (all_times xs d e p q h s.1 t)

  value_times : (xs : List Carrier) (d e : ℕ) (p q : Poly) → d + e < 256 → AllSmall xs d p → AllSmall xs e q → value xs (times p q) ≡ value xs p ⊡ value xs q
  unfolding AllSmall value
  value_times xs d e nil q h s t = sym (zero_product (value xs q))
  value_times xs d e (term m a p) q h s t =
      value_plus xs (scale m a q) (times p q) ∙ ap₂ ◌⊞◌ (value_scale xs d e m a q h s.0 t) (value_times xs d e p q h s.1 t)
      ∙ sym (distributes_right (image a ⊡ monomial xs m) (value xs p) (value xs q))

  all_constant : (xs : List Carrier) (d : ℕ) (a : ℤ) → AllSmall xs d (put 0 a nil)
  unfolding AllSmall
  all_constant xs d a = all_put xs d 0 a nil (small_zero xs d) tt

  value_constant : (xs : List Carrier) (a : ℤ) → value xs (put 0 a nil) ≡ image a
  unfolding value
  value_constant xs a = value_put xs 0 a nil ∙ sum_zero (image a ⊡ monomial xs 0) ∙ ap (λ s. image a ⊡ s) (no_power xs) ∙ product_one (image a)

  all_raise : (xs : List Carrier) (d : ℕ) (p : Poly) (n : ℕ) → n * d < 256 → AllSmall xs d p → AllSmall xs (n * d) (raise p n)
  all_raise xs d p zero h s = all_constant xs (0 * d) (pos 1)
  all_raise xs d p (suc n) h s =
      let e : suc n * d ≡ d + n * d = omega arith in
      subst (λ k. AllSmall xs k (times p (raise p n))) (sym e) (all_times xs d (n * d) p (raise p n) (omega arith) s (all_raise xs d p n (omega arith) s))

  value_raise : (xs : List Carrier) (d : ℕ) (p : Poly) (n : ℕ) → n * d < 256 → AllSmall xs d p → value xs (raise p n) ≡ power R (value xs p) n
  value_raise xs d p zero h s = value_constant xs (pos 1)
  value_raise xs d p (suc n) h s =
      value_times xs d (n * d) p (raise p n) (omega arith) s (all_raise xs d p n (omega arith) s)
      ∙ ap (λ s. value xs p ⊡ s) (value_raise xs d p n (omega arith) s) ∙ sym (power_suc (value xs p) n)

  -- ---- expressions
  all_norm : (xs : List Carrier) (a : Expr) → degree a < 256 → AllSmall xs (degree a) (norm a)
  unfolding AllSmall
  all_norm xs (var i) h = (small_unknown xs i, tt)
  all_norm xs (int n) h = all_constant xs 0 n
  all_norm xs (a ⊕ b) h =
      all_plus xs (max (degree a) (degree b)) (norm a) (all_more xs (degree a) (max (degree a) (degree b)) (norm a) (omega arith) (all_norm xs a (omega arith)))
      (norm b) (all_more xs (degree b) (max (degree a) (degree b)) (norm b) (omega arith) (all_norm xs b (omega arith)))
  all_norm xs (a ⊖ b) h =
      all_plus xs (max (degree a) (degree b)) (norm a) (all_more xs (degree a) (max (degree a) (degree b)) (norm a) (omega arith) (all_norm xs a (omega arith)))
      (scale 0 (negsuc 0) (norm b)) (all_more xs (0 + degree b) (max (degree a) (degree b)) (scale 0 (negsuc 0) (norm b)) (omega arith) (all_scale xs 0 (degree b) 0 (negsuc 0) (norm b) (omega arith) (small_zero xs 0) (all_norm xs b (omega arith))))
  all_norm xs (a ⊗ b) h =
      all_more xs (degree b + degree a) (degree a + degree b) (times (norm b) (norm a)) (omega arith)
      (all_times xs (degree b) (degree a) (norm b) (norm a) (omega arith) (all_norm xs b (omega arith)) (all_norm xs a (omega arith)))
  all_norm xs (minus a) h =
      all_more xs (0 + degree a) (degree a) (scale 0 (negsuc 0) (norm a)) (omega arith) (all_scale xs 0 (degree a) 0 (negsuc 0) (norm a) (omega arith) (small_zero xs 0) (all_norm xs a h))
  all_norm xs (a ↑ zero) h = all_constant xs (0 * degree a) (pos 1)
  all_norm xs (a ↑ (suc n)) h = all_raise xs (degree a) (norm a) (suc n) h (all_norm xs a (omega arith))

  value_minus : (xs : List Carrier) (d : ℕ) (p : Poly) → d < 256 → AllSmall xs d p → value xs (scale 0 (negsuc 0) p) ≡ opposite (value xs p)
  value_minus xs d p h s =
      value_scale xs 0 d 0 (negsuc 0) p (omega arith) (small_zero xs 0) s
      ∙ ap (λ s. (image (negsuc 0) ⊡ s) ⊡ value xs p) (no_power xs) ∙ ap (λ s. s ⊡ value xs p) (product_one (image (negsuc 0))) ∙ opposite_is (value xs p)

  value_norm : (xs : List Carrier) (a : Expr) → degree a < 256 → value xs (norm a) ≡ eval R xs a
  unfolding value
  value_norm xs (var i) h = sum_zero (image (pos 1) ⊡ monomial xs (256 ^ i)) ∙ one_product (monomial xs (256 ^ i)) ∙ monomial_unknown xs i
  value_norm xs (int n) h = value_constant xs n
  value_norm xs (a ⊕ b) h = value_plus xs (norm a) (norm b) ∙ ap₂ ◌⊞◌ (value_norm xs a (omega arith)) (value_norm xs b (omega arith))
  value_norm xs (a ⊖ b) h =
      value_plus xs (norm a) (scale 0 (negsuc 0) (norm b))
      ∙ ap₂ ◌⊞◌ (value_norm xs a (omega arith)) (value_minus xs (degree b) (norm b) (omega arith) (all_norm xs b (omega arith)) ∙ ap opposite (value_norm xs b (omega arith)))
  value_norm xs (a ⊗ b) h =
      value_times xs (degree b) (degree a) (norm b) (norm a) (omega arith) (all_norm xs b (omega arith)) (all_norm xs a (omega arith))
      ∙ ap₂ ◌⊡◌ (value_norm xs b (omega arith)) (value_norm xs a (omega arith)) ∙ product_comm (eval R xs b) (eval R xs a)
  value_norm xs (minus a) h = value_minus xs (degree a) (norm a) h (all_norm xs a h) ∙ ap opposite (value_norm xs a h)
  value_norm xs (a ↑ zero) h = value_constant xs (pos 1)
  value_norm xs (a ↑ (suc n)) h =
      value_raise xs (degree a) (norm a) (suc n) h (all_norm xs a (omega arith)) ∙ ap (λ s. power R s (suc n)) (value_norm xs a (omega arith))

  no_gap : (xs : List Carrier) (a b : Expr) (t : Bool) → ltb (degree (a ⊖ b)) 256 ≡ t → elim t [ true ↦ norm (a ⊖ b) | false ↦ term 0 (pos 1) nil ] ≡ nil → eval R xs a ≡ eval R xs b
  unfolding value
  no_gap xs a b true e g =
      difference_zero (eval R xs a) (eval R xs b)
      (sym (value_norm xs (a ⊖ b) (ltb→lt (degree (a ⊖ b)) 256 (subst T (sym e) tt))) ∙ ap (value xs) g)
  no_gap xs a b false e g = absurd (cc)

-- Two expressions whose difference has no term left have one value, whatever the unknowns are.
pub ring : (R : Ring) (xs : List R.Carrier) (a b : Expr) → gap a b ≡ nil → eval R xs a ≡ eval R xs b
ring R xs a b g = no_gap R xs a b (ltb (degree (a ⊖ b)) 256) refl g
