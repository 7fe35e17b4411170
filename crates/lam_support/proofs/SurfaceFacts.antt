-- The coefficients of a surface: the ratios of strengths that enclosures hold, and how far they reach.
use Rattle.std.proofs.Common.{◌≡◌, refl, sym, ◌∙◌, ap₂, subst, [], ◌∷◌, ◌⊎◌, inl, inr, ℕ, ◌+◌, ◌≤◌, ℤ, pos, ◌-ℤ◌, ◌*ℤ◌, ◌≤ℤ◌, ◌<ℤ◌, unsigned_abs, arith}
use Rattle.std.specs.Int.{int_min, int_max}
use Rattle.std.proofs.lemmas.Int.{ints, clamps}
use Rattle.lam_fraction.specs.inside.Reaches.{Reaches, sixteenths}
use Rattle.lam_fraction.specs.inside.Size.{AtMost}
use Rattle.lam_fraction.specs.numbers.Numbers.{Numbers, Lawful, RatioRoom}
use Rattle.lam_fraction.proofs.Integers.{quotes, by_ring, number, square, above, at_most, below_root, above_root, ◌+ₙ◌, ◌*ₙ◌}
use Rattle.lam_fraction.proofs.Laws.{either}
use Rattle.lam_fraction.proofs.numbers.Machine.{stored-64, stored-128, is_exact, sized_stored-64, sized_stored-128, sized_result, sized_at_most, sized_given}
use Rattle.lam_fraction.proofs.numbers.Rooms.{ranges, reaching, reaches_ratio_at, reaches_more}
use Rattle.lam_fraction.proofs.numbers.Tests.{tested}
use Rattle.lam_stock.specs.declared.item.Lamina.{Lamina}
use Rattle.lam_stock.specs.Limits.{IsStrength, AreWithinSixteen, KeepsStrengths}
use Rattle.lam_stock.proofs.StrengthBounds.{interaction, interaction_small}
use Rattle.lam_support.specs.inside.Formulas as by
use Rattle.lam_support.proofs.SlopeFacts.{stored_strength}

-- ---- the strengths of an axis

pub ratio_room : {t c : ℤ} → IsStrength t → IsStrength c → AreWithinSixteen t c → RatioRoom (int_max t c) (pos 64 *ℤ int_min t c)
ratio_room p q near = record {
  positive = omega (arith, ints, clamps, p.least, q.least);
  den = omega (arith, ints, clamps, p.least, q.least, p.greatest, q.greatest);
  num = omega (arith, ints, clamps, p.least, q.least, p.greatest, q.greatest);
  room = omega (arith, ints, clamps, p.least, q.least, near.first, near.second);
}

pub shift_room : {t c : ℤ} → IsStrength t → IsStrength c → RatioRoom (c -ℤ t) (int_max t c)
shift_room p q = record {
  positive = omega (arith, ints, clamps, p.least, q.least);
  den = omega (arith, ints, clamps, p.least, q.least, p.greatest, q.greatest);
  num = omega (arith, ints, p.least, q.least, p.greatest, q.greatest);
  room = omega (arith, ints, clamps, p.least, q.least);
}

pub ratio_within : {t c : ℤ} → IsStrength t → IsStrength c → AreWithinSixteen t c → unsigned_abs (int_max t c) ≤ unsigned_abs (pos 64 *ℤ int_min t c)
ratio_within p q near = omega (arith, ints, clamps, p.least, q.least, near.first, near.second)

pub shift_within : {t c : ℤ} → IsStrength t → IsStrength c → unsigned_abs (c -ℤ t) ≤ unsigned_abs (int_max t c)
shift_within p q = omega (arith, ints, clamps, p.least, q.least)

-- the product of the lesser and the greater strength
pub lesser-greater : (t c : ℤ) → int_min t c *ℤ int_max t c ≡ t *ℤ c
lesser-greater t c = go (either t c)
  where
    go : (t ≤ℤ c) ⊎ (c <ℤ t) → int_min t c *ℤ int_max t c ≡ t *ℤ c
    go (inl h) =
        let least : int_min t c ≡ t = omega (arith, ints, clamps, h) in
        let most : int_max t c ≡ c = omega (arith, ints, clamps, h) in
        ap₂ ◌*ℤ◌ least most
    go (inr h) =
        let least : int_min t c ≡ c = omega (arith, ints, clamps, h) in
        let most : int_max t c ≡ t = omega (arith, ints, clamps, h) in
        ap₂ ◌*ℤ◌ least most ∙ by_ring (t ∷ c ∷ []) (search quotes depth 20) refl

-- ---- the interaction term

lesser_square : (t c : ℤ) → IsStrength t → IsStrength c → (int_min t c *ℤ int_min t c) ≤ℤ (t *ℤ c)
lesser_square t c p q =
    let below : int_min t c ≤ℤ int_max t c = omega (arith, ints, clamps) in
    let sign : pos 0 ≤ℤ int_min t c = omega (arith, ints, clamps, p.least, q.least) in
    subst (λ x. (int_min t c *ℤ int_min t c) ≤ℤ x) (lesser-greater t c)
    (at_most (sign *ₙ above below) (by_ring (int_min t c ∷ int_max t c ∷ []) (search quotes depth 20) refl))

cross_square : (f x y p q k : ℤ) → (x *ℤ x) ≤ℤ p → (y *ℤ y) ≤ℤ q → (pos 4 *ℤ (f *ℤ f) *ℤ (p *ℤ q)) ≤ℤ k
    → (pos 4 *ℤ ((f *ℤ (x *ℤ y)) *ℤ (f *ℤ (x *ℤ y)))) ≤ℤ k
cross_square f x y p q k h j kept =
    at_most
    (above kept +ₙ number 4 *ₙ square f *ₙ (above h *ₙ (square y +ₙ above j) +ₙ square x *ₙ above j))
    (by_ring (f ∷ x ∷ y ∷ p ∷ q ∷ k ∷ []) (search quotes depth 40 fits 9000) refl)

abbrev pub lesser_interaction : Lamina → ℤ
lesser_interaction l = l.f12 *ℤ (int_min l.xt l.xc *ℤ int_min l.yt l.yc)

pub lesser_small : {l : Lamina} → KeepsStrengths l → unsigned_abs (lesser_interaction l) ≤ 1000000000000000000
lesser_small {l} h =
    sized (lesser_interaction l) (cross_square l.f12 (int_min l.xt l.xc) (int_min l.yt l.yc) (l.xt *ℤ l.xc) (l.yt *ℤ l.yc) _
    (lesser_square l.xt l.xc h.range.xt h.range.xc) (lesser_square l.yt l.yc h.range.yt h.range.yc) h.cross.kept)
  where
    sized : (z : ℤ) → (pos 4 *ℤ (z *ℤ z)) ≤ℤ pos 3000000000000000000000000000000000000 → unsigned_abs z ≤ 1000000000000000000
    sized z h =
        let rooted : (z *ℤ z) ≤ℤ (pos 1000000000000000000 *ℤ pos 1000000000000000000) = omega (arith, ints, h) in
        let to = below_root z (pos 1000000000000000000) (omega (arith, ints)) rooted in
        let from = above_root z (pos 1000000000000000000) (omega (arith, ints)) rooted in
        omega (arith, ints, to, from)

coupling_in : (z : ℤ) → unsigned_abs z ≤ 14000000000000000000 → RatioRoom z (pos 64000000000000000000)
coupling_in z h = record { positive = omega (arith, ints); den = omega (arith, ints); num = omega (arith, ints, h); room = omega (arith, ints, h) }

lesser_in : (z : ℤ) → unsigned_abs z ≤ 1000000000000000000 → RatioRoom z (pos 1000000000000000000)
lesser_in z h = record { positive = omega (arith, ints); den = omega (arith, ints); num = omega (arith, ints, h); room = omega (arith, ints, h) }

pub coupling_room : {l : Lamina} → KeepsStrengths l → RatioRoom (interaction l) (pos 64000000000000000000)
coupling_room {l} h = coupling_in (interaction l) (interaction_small h)

pub lesser_room : {l : Lamina} → KeepsStrengths l → RatioRoom (lesser_interaction l) (pos 1000000000000000000)
lesser_room {l} h = lesser_in (lesser_interaction l) (lesser_small h)

-- ---- how far each reaches

module _ {A : Type 0} {n : Numbers A} (laws : Lawful n) where
  pub ratio_reaches : {t c : ℤ} → IsStrength t → IsStrength c → AreWithinSixteen t c → Reaches n (sixteenths 4 + 4) (n.calc.ratio (int_max t c) (pos 64 *ℤ int_min t c))
  ratio_reaches {t} {c} p q near =
      reaches_ratio_at laws (sixteenths 4) (int_max t c) (pos 64 *ℤ int_min t c) (ratio_room p q near) (omega (arith, ints, clamps, p.least, q.least, near.first, near.second))

  pub shift_reaches : {t c : ℤ} → IsStrength t → IsStrength c → Reaches n (sixteenths 16 + 4) (n.calc.ratio (c -ℤ t) (int_max t c))
  shift_reaches {t} {c} p q = reaches_ratio_at laws (sixteenths 16) (c -ℤ t) (int_max t c) (shift_room p q) (omega (arith, ints, clamps, p.least, q.least))

  coupling_at : (z : ℤ) → unsigned_abs z ≤ 14000000000000000000 → Reaches n (sixteenths 4 + 4) (n.calc.ratio z (pos 64000000000000000000))
  coupling_at z h = reaches_ratio_at laws (sixteenths 4) z (pos 64000000000000000000) (coupling_in z h) (omega (arith, ints, h))

  lesser_at : (z : ℤ) → unsigned_abs z ≤ 1000000000000000000 → Reaches n (sixteenths 16 + 4) (n.calc.ratio z (pos 1000000000000000000))
  lesser_at z h = reaches_ratio_at laws (sixteenths 16) z (pos 1000000000000000000) (lesser_in z h) (omega (arith, ints, h))

  pub coupling_reaches : {l : Lamina} → KeepsStrengths l → Reaches n (sixteenths 4 + 4) (n.calc.ratio (interaction l) (pos 64000000000000000000))
  coupling_reaches {l} h = coupling_at (interaction l) (interaction_small h)

  pub lesser_reaches : {l : Lamina} → KeepsStrengths l → Reaches n (sixteenths 16 + 4) (n.calc.ratio (lesser_interaction l) (pos 1000000000000000000))
  lesser_reaches {l} h = lesser_at (lesser_interaction l) (lesser_small h)

  -- of numbers of a struct, read back from their bits
  pub ratio_read : {t c : ℤ} {r : A} → IsStrength t → IsStrength c → AreWithinSixteen t c → r ≡ by.ratio n.calc (stored-64 t) (stored-64 c) → Reaches n (sixteenths 4 + 4) r
  ratio_read {t} {c} p q near e =
      subst (Reaches n (sixteenths 4 + 4)) (sym (e ∙ (λ i. by.ratio n.calc (stored_strength p i) (stored_strength q i)))) (ratio_reaches p q near)

  pub shift_read : {t c : ℤ} {r : A} → IsStrength t → IsStrength c → r ≡ by.shift n.calc (stored-64 t) (stored-64 c) → Reaches n (sixteenths 16 + 4) r
  shift_read {t} {c} p q e =
      subst (Reaches n (sixteenths 16 + 4)) (sym (e ∙ (λ i. by.shift n.calc (stored_strength p i) (stored_strength q i)))) (shift_reaches p q)

  pub rest_reaches : {a b : A} → Reaches n (sixteenths 16 + 4) a → Reaches n (sixteenths 4 + 4) b → Reaches n (sixteenths 17 + 256) (by.rest n.calc a b)
  rest_reaches h k = reaches_more laws ((by.rest (ranges laws) (reaching h) (reaching k)).reaches refl) (tested _ _ refl)

pub reaches_as : {A : Type 0} {n : Numbers A} {e : ℕ} {r z : A} → r ≡ z → Reaches n e z → Reaches n e r
reaches_as {n = n} {e} is = subst (Reaches n e) (sym is)

-- ---- the interaction term, computed

stored_f12 : {x : ℤ} → AtMost 1000000000000 x → stored-64 x ≡ x
stored_f12 h = is_exact (sized_stored-64 (sized_at_most h)) refl

pub coupling_read : {l : Lamina} {r : ℤ} (a b : ℤ) → KeepsStrengths l → AtMost 1000000000000 l.f12 → r ≡ stored-64 l.f12 *ℤ (stored-64 a *ℤ stored-64 b)
    → IsStrength a → IsStrength b → a ≡ int_max (stored-64 l.xt) (stored-64 l.xc) → b ≡ int_max (stored-64 l.yt) (stored-64 l.yc) → stored-128 r ≡ interaction l
coupling_read {l} {r} a b h k e p q f g =
    let is : r ≡ interaction l =
    e ∙ (λ i. stored_f12 k i *ℤ ((stored_strength p ∙ f ∙ ap₂ int_max (stored_strength h.range.xt) (stored_strength h.range.xc)) i *ℤ (stored_strength q ∙ g ∙ ap₂ int_max (stored_strength h.range.yt) (stored_strength h.range.yc)) i)) in
    is_exact (sized_stored-128 (sized_result is (sized_given (interaction_small h)))) refl

pub lesser_read : {l : Lamina} {r : ℤ} (a b : ℤ) → KeepsStrengths l → AtMost 1000000000000 l.f12 → r ≡ stored-64 l.f12 *ℤ (stored-64 a *ℤ stored-64 b)
    → IsStrength a → IsStrength b → a ≡ int_min (stored-64 l.xt) (stored-64 l.xc) → b ≡ int_min (stored-64 l.yt) (stored-64 l.yc) → stored-128 r ≡ lesser_interaction l
lesser_read {l} {r} a b h k e p q f g =
    let is : r ≡ lesser_interaction l =
    e ∙ (λ i. stored_f12 k i *ℤ ((stored_strength p ∙ f ∙ ap₂ int_min (stored_strength h.range.xt) (stored_strength h.range.xc)) i *ℤ (stored_strength q ∙ g ∙ ap₂ int_min (stored_strength h.range.yt) (stored_strength h.range.yc)) i)) in
    is_exact (sized_stored-128 (sized_result is (sized_given (lesser_small h)))) refl
