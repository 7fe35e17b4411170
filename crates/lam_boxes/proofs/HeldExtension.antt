-- The extension of every wall that completes a partial schedule is held: the sum over its fixed plies, and the hull of what
-- can be at its open places. Each open ply is at most as far out as if all of them were of its item, and their mean is no
-- farther out than the farthest.
use Rattle.std.proofs.Common.{◌≡◌, refl, ◌∙◌, ap, subst, ℕ, suc, ◌+◌, ◌*◌, ◌^◌, ◌≤◌, max, ℤ, pos, neg_ℤ, ◌+ℤ◌, ◌*ℤ◌, ◌≤ℤ◌, List, [], ◌∷◌, length, fold, All, arith}
use Rattle.std.proofs.lemmas.Int.{ints}
use Rattle.std.proofs.lemmas.List.Elements.{All-cons, All-head, All-nil, All-tail, All-weaker}
use Rattle.lam_fraction.specs.Fraction.{ℚ, whole, fraction, ◌+ℚ◌, ◌*ℚ◌, ◌≤ℚ◌}
use Rattle.lam_fraction.specs.Sums.{sum_over}
use Rattle.lam_fraction.specs.numbers.Numbers.{Numbers, Lawful, Holds, HullRoom, RatioRoom, unit}
use Rattle.lam_fraction.specs.inside.Reaches.{Reaches, sixteenths}
use Rattle.lam_fraction.proofs.Expression.{◌⊗◌}
use Rattle.lam_fraction.proofs.Solver.{◌≐◌}
use Rattle.lam_fraction.proofs.Integers as Z
use Rattle.lam_fraction.proofs.FractionBounds.{whole_positive}
use Rattle.lam_fraction.proofs.FractionPairs.{fraction-times_whole}
use Rattle.lam_fraction.proofs.FractionSums.{of_each, sum-same, sum-times_left, sum-times_right}
use Rattle.lam_fraction.proofs.Rationals.{solve, without_factor}
use Rattle.lam_fraction.proofs.numbers.Rooms.{product_within, reach_within, reaches_hull, reaches_more, reaches_product, reaches_ratio_at, reaches_sum, sum_within}
use Rattle.lam_stock.specs.declared.item.Item.{Item}
use Rattle.lam_stock.specs.Stock.{WithinLimits}
use Rattle.lam_lamina.specs.Covered.{IsCovered}
use Rattle.lam_lamina.specs.Held.{HoldsMatrix}
use Rattle.lam_lamina.specs.declared.stiffness.Sym3.{Sym3}
use Rattle.lam_lamina.specs.inside.Formulas.{zeros}
use Rattle.lam_lamina.proofs.StiffnessKnown.{held-item}
use Rattle.lam_job.specs.Wall.{placed_from}
use Rattle.lam_wall.specs.Matrices.{stiffness_of}
use Rattle.lam_wall.specs.inside.Formulas as by
use Rattle.lam_wall.proofs.LaidWall.{AreWithin, known-wall, short-stiffness, short-wall}
use Rattle.lam_boxes.specs.inside.Extensions.{any_plies, either, fixed_sum, plies_of, together, with_item, with_ply}
use Rattle.lam_boxes.specs.inside.Parts.{IsThickness, MatrixReaches, entry_reach, extension_reach, open_reach, share_reach}
use Rattle.lam_boxes.proofs.PlySums.{between-sums, placed-sum, shares}

-- ---- exact sums

abbrev pub shares_matrix : (q0 h : ℤ) → List Item → Sym3 ℚ
shares_matrix q0 h items = record {
  xx = shares h (λ i. (stiffness_of q0 i).xx) items;
  xy = shares h (λ i. (stiffness_of q0 i).xy) items;
  yy = shares h (λ i. (stiffness_of q0 i).yy) items;
  xs = shares h (λ i. (stiffness_of q0 i).xs) items;
  ys = shares h (λ i. (stiffness_of q0 i).ys) items;
  ss = shares h (λ i. (stiffness_of q0 i).ss) items;
}

abbrev pub times : ℚ → Sym3 ℚ → Sym3 ℚ
times c m = record { xx = c *ℚ m.xx; xy = c *ℚ m.xy; yy = c *ℚ m.yy; xs = c *ℚ m.xs; ys = c *ℚ m.ys; ss = c *ℚ m.ss }

-- a share of a thickness has room
pub share-room : (part h : ℤ) → IsThickness h → pos 0 ≤ℤ part → part ≤ℤ h → RatioRoom part h
share-room part h is least within = record {
  positive = omega (arith, ints, is.least);
  den = omega (arith, ints, is.least, is.greatest);
  num = omega (arith, ints, is.least, is.greatest, least, within);
  room = omega (arith, ints, is.least, least, within);
}

pub share-short : {A : Type 0} {n : Numbers A} (laws : Lawful n) (part h : ℤ) → IsThickness h → pos 0 ≤ℤ part → part ≤ℤ h → Reaches n share_reach (n.calc.ratio part h)
share-short laws part h is least within =
    reaches_ratio_at laws (sixteenths 16) part h (share-room part h is least within) (omega (arith, ints, is.least, least, within))

module _ {A : Type 0} {n : Numbers A} (laws : Lawful n) (q0 h : ℤ) where
  -- ---- the fixed plies

  summed-items : (z : ℤ) (m : Sym3 A) (items : List Item)
      → fold (λ m p. by.with_share n.calc m (by.extension n.calc h p) (by.stiffness n.calc q0 p.item)) m (placed_from z items) ≡ fold (with_ply n q0 h) m items
  summed-items z m [] = refl
  summed-items z m (i ∷ rest) = summed-items (z +ℤ pos 2 *ℤ i.lamina.t) (with_ply n q0 h m i) rest

  module _ {plies : List Item} (k : AreWithin q0 h plies) where
    fixed-is : by.summed n.calc (by.extension n.calc h) (by.stiffness n.calc q0) (placed_from (neg_ℤ h) plies) ≡ fixed_sum n q0 h plies
    fixed-is = summed-items (neg_ℤ h) (zeros n.calc) plies

    pub fixed-reaches : MatrixReaches n entry_reach (fixed_sum n q0 h plies)
    fixed-reaches = subst (MatrixReaches n entry_reach) fixed-is
        (let s = (short-wall laws q0 h k).a in record { xx = s.xx; xy = s.xy; yy = s.yy; xs = s.xs; ys = s.ys; ss = s.ss })

    pub fixed-holds : HoldsMatrix n (fixed_sum n q0 h plies) (shares_matrix q0 h plies)
    fixed-holds =
        let a = (known-wall laws q0 h k).a in
        let s = by.summed n.calc (by.extension n.calc h) (by.stiffness n.calc q0) (placed_from (neg_ℤ h) plies) in
        subst (λ m. HoldsMatrix n m (shares_matrix q0 h plies)) fixed-is (record {
          xx = subst (Holds n s.xx) (placed-sum (λ i. fraction i.lamina.t h *ℚ (stiffness_of q0 i).xx) (neg_ℤ h) plies) a.xx.held;
          xy = subst (Holds n s.xy) (placed-sum (λ i. fraction i.lamina.t h *ℚ (stiffness_of q0 i).xy) (neg_ℤ h) plies) a.xy.held;
          yy = subst (Holds n s.yy) (placed-sum (λ i. fraction i.lamina.t h *ℚ (stiffness_of q0 i).yy) (neg_ℤ h) plies) a.yy.held;
          xs = subst (Holds n s.xs) (placed-sum (λ i. fraction i.lamina.t h *ℚ (stiffness_of q0 i).xs) (neg_ℤ h) plies) a.xs.held;
          ys = subst (Holds n s.ys) (placed-sum (λ i. fraction i.lamina.t h *ℚ (stiffness_of q0 i).ys) (neg_ℤ h) plies) a.ys.held;
          ss = subst (Holds n s.ss) (placed-sum (λ i. fraction i.lamina.t h *ℚ (stiffness_of q0 i).ss) (neg_ℤ h) plies) a.ss.held;
        })

  -- ---- plies of one item at all open places

  module _ (thick : IsThickness h) (many : ℤ) where
    pub record Fits (i : Item) : Type 0 where
      pub limits : WithinLimits i
      pub covered : IsCovered q0 i.lamina
      pub least : pos 0 ≤ℤ (many *ℤ i.lamina.t)
      pub within : (many *ℤ i.lamina.t) ≤ℤ h

    abbrev pub part : Item → Sym3 ℚ
    part i = times (fraction (many *ℤ i.lamina.t) h) (stiffness_of q0 i)

    abbrev one_reach : ℕ
    one_reach = sixteenths 24 + 16

    share-reaches : {i : Item} → Fits i → Reaches n share_reach (n.calc.ratio (many *ℤ i.lamina.t) h)
    share-reaches {i} f = share-short laws (many *ℤ i.lamina.t) h thick f.least f.within

    times-reaches : {c z : A} → Reaches n share_reach c → Reaches n entry_reach z → Reaches n one_reach (n.calc.product c z)
    times-reaches p q = reaches_more laws (reaches_product laws p q (omega arith)) (omega arith)

    times-holds : {c z : A} {x y : ℚ} → Reaches n share_reach c → Reaches n entry_reach z → Holds n c x → Holds n z y → Holds n (n.calc.product c z) (x *ℚ y)
    times-holds {c} {z} {x} {y} p q hc hz = (laws.product c z (product_within laws p q (omega arith))).held x y hc hz

    part-reaches : {i : Item} → Fits i → MatrixReaches n one_reach (plies_of n q0 h many i)
    part-reaches f =
        let c = share-reaches f in
        let s = short-stiffness laws q0 h f.limits f.covered in
        record {
          xx = times-reaches c s.xx;
          xy = times-reaches c s.xy;
          yy = times-reaches c s.yy;
          xs = times-reaches c s.xs;
          ys = times-reaches c s.ys;
          ss = times-reaches c s.ss;
        }

    part-holds : {i : Item} → Fits i → HoldsMatrix n (plies_of n q0 h many i) (part i)
    part-holds {i} f =
        let c = share-reaches f in
        let s = short-stiffness laws q0 h f.limits f.covered in
        let hc = (laws.ratio (many *ℤ i.lamina.t) h (share-room (many *ℤ i.lamina.t) h thick f.least f.within)).held in
        let k = held-item laws f.limits.direction f.covered i.kind in
        record {
          xx = times-holds c s.xx hc k.xx;
          xy = times-holds c s.xy hc k.xy;
          yy = times-holds c s.yy hc k.yy;
          xs = times-holds c s.xs hc k.xs;
          ys = times-holds c s.ys hc k.ys;
          ss = times-holds c s.ss hc k.ss;
        }

    -- ---- hulls

    module _ {e f : ℕ} {m k : Sym3 A} (p : MatrixReaches n e m) (q : MatrixReaches n f k) (room : e ≤ 6 * 2 ^ 28) (more : f ≤ 6 * 2 ^ 28) where
      either-reaches : MatrixReaches n (max e f + 4) (either n m k)
      either-reaches = record {
        xx = reaches_hull laws p.xx q.xx room more;
        xy = reaches_hull laws p.xy q.xy room more;
        yy = reaches_hull laws p.yy q.yy room more;
        xs = reaches_hull laws p.xs q.xs room more;
        ys = reaches_hull laws p.ys q.ys room more;
        ss = reaches_hull laws p.ss q.ss room more;
      }

      hull-room : {z w : A} → Reaches n e z → Reaches n f w → HullRoom n z w
      hull-room a b = record { first = reach_within laws a room; second = reach_within laws b more }

      either-first : {t : Sym3 ℚ} → HoldsMatrix n m t → HoldsMatrix n (either n m k) t
      either-first a = record {
        xx = (laws.hull _ _ (hull-room p.xx q.xx)).first _ a.xx;
        xy = (laws.hull _ _ (hull-room p.xy q.xy)).first _ a.xy;
        yy = (laws.hull _ _ (hull-room p.yy q.yy)).first _ a.yy;
        xs = (laws.hull _ _ (hull-room p.xs q.xs)).first _ a.xs;
        ys = (laws.hull _ _ (hull-room p.ys q.ys)).first _ a.ys;
        ss = (laws.hull _ _ (hull-room p.ss q.ss)).first _ a.ss;
      }

      either-second : {t : Sym3 ℚ} → HoldsMatrix n k t → HoldsMatrix n (either n m k) t
      either-second a = record {
        xx = (laws.hull _ _ (hull-room p.xx q.xx)).second _ a.xx;
        xy = (laws.hull _ _ (hull-room p.xy q.xy)).second _ a.xy;
        yy = (laws.hull _ _ (hull-room p.yy q.yy)).second _ a.yy;
        xs = (laws.hull _ _ (hull-room p.xs q.xs)).second _ a.xs;
        ys = (laws.hull _ _ (hull-room p.ys q.ys)).second _ a.ys;
        ss = (laws.hull _ _ (hull-room p.ss q.ss)).second _ a.ss;
      }

    matrix-more : {e f : ℕ} {m : Sym3 A} → e ≤ f → MatrixReaches n e m → MatrixReaches n f m
    matrix-more more p = record {
      xx = reaches_more laws p.xx more;
      xy = reaches_more laws p.xy more;
      yy = reaches_more laws p.yy more;
      xs = reaches_more laws p.xs more;
      ys = reaches_more laws p.ys more;
      ss = reaches_more laws p.ss more;
    }

    -- with more items
    record Joined (m : Sym3 A) (items : List Item) : Type 0 where
      reach : MatrixReaches n open_reach (fold (with_item n q0 h many) m items)
      first : {t : Sym3 ℚ} → HoldsMatrix n m t → HoldsMatrix n (fold (with_item n q0 h many) m items) t
      each : All (λ i. HoldsMatrix n (fold (with_item n q0 h many) m items) (part i)) items

    joined : (m : Sym3 A) (items : List Item) (done : ℕ) → MatrixReaches n (one_reach + 4 * done) m → All Fits items → done + length items ≤ 64 → Joined m items
    joined m [] done reach fit few = record {
      reach = matrix-more (omega (arith, few)) reach;
      first = λ h. h;
      each = All-nil (λ i. HoldsMatrix n m (part i));
    }
    joined m (i ∷ rest) done reach fit few =
        let f = All-head Fits i rest fit in
        let p = part-reaches f in
        let small : one_reach + 4 * done ≤ 6 * 2 ^ 28 = omega (arith, few) in
        let both = either-reaches reach p small (omega arith) in
        let next = joined (either n m (plies_of n q0 h many i)) rest (suc done) (matrix-more (omega arith) both) (All-tail Fits i rest fit) (omega (arith, few)) in
        record {
          reach = next.reach;
          first = λ h. next.first (either-first reach p small (omega arith) h);
          each = All-cons (λ j. HoldsMatrix n (fold (with_item n q0 h many) m (i ∷ rest)) (part j)) i rest
              (next.first (either-second reach p small (omega arith) (part-holds f))) next.each;
        }

    -- of a catalogue, or of the first items of one
    pub any-reaches : (items : List Item) → 1 ≤ length items → length items ≤ 64 → All Fits items → MatrixReaches n open_reach (any_plies n q0 h many items)
    any-reaches [] some few fit = absurd (omega (arith, some))
    any-reaches (i ∷ rest) some few fit =
        let f = All-head Fits i rest fit in
        (joined (plies_of n q0 h many i) rest 0 (matrix-more (omega arith) (part-reaches f)) (All-tail Fits i rest fit) (omega (arith, few))).reach

    pub any-holds : (items : List Item) → length items ≤ 64 → All Fits items → All (λ i. HoldsMatrix n (any_plies n q0 h many items) (part i)) items
    any-holds [] few fit = All-nil (λ i. HoldsMatrix n (zeros n.calc) (part i))
    any-holds (i ∷ rest) few fit =
        let f = All-head Fits i rest fit in
        let j = joined (plies_of n q0 h many i) rest 0 (matrix-more (omega arith) (part-reaches f)) (All-tail Fits i rest fit) (omega (arith, few)) in
        All-cons (λ k. HoldsMatrix n (any_plies n q0 h many (i ∷ rest)) (part k)) i rest (j.first (part-holds f)) j.each

  -- ---- the mean of what is held is held

  module _ (thick : IsThickness h) (z : A) (g : Item → ℚ) (items : List Item) (some : 1 ≤ length items) where
    abbrev r : ℤ
    r = pos (length items)

    abbrev one : ℚ
    one = whole (pos (unit n))

    -- what an open ply would be alone
    alone : Item → ℚ
    alone i = fraction (r *ℤ i.lamina.t) h *ℚ g i *ℚ one

    alone-is : (i : Item) → alone i ≡ whole r *ℚ (fraction i.lamina.t h *ℚ g i *ℚ one)
    unfolding alone
    alone-is i =
        ap (λ s. s *ℚ g i *ℚ one) (ap (λ k. fraction k h) (Z.solve 2 (λ a b. a ⊗ b ≐ b ⊗ a) refl r i.lamina.t) ∙ fraction-times_whole i.lamina.t h r (omega (arith, ints, thick.least)))
        ∙ solve 4 (λ f r g u. f ⊗ r ⊗ g ⊗ u ≐ r ⊗ (f ⊗ g ⊗ u)) refl (fraction i.lamina.t h) (whole r) (g i) one

    sum-alone : sum_over alone items ≡ whole r *ℚ (shares h g items *ℚ one)
    sum-alone =
        sum-same alone (λ i. whole r *ℚ (fraction i.lamina.t h *ℚ g i *ℚ one)) items (of_each (λ i. alone i ≡ whole r *ℚ (fraction i.lamina.t h *ℚ g i *ℚ one)) items alone-is)
        ∙ sum-times_left (whole r) (λ i. fraction i.lamina.t h *ℚ g i *ℚ one) items
        ∙ ap (λ s. whole r *ℚ s) (sum-times_right one (λ i. fraction i.lamina.t h *ℚ g i) items)

    mean-holds : All (λ i. Holds n z (fraction (r *ℤ i.lamina.t) h *ℚ g i)) items → Holds n z (shares h g items)
    unfolding alone
    mean-holds all =
        let low = whole (n.low z) in
        let high = whole (n.high z) in
        let between = between-sums low high alone items (All-weaker (λ i. Holds n z (fraction (r *ℤ i.lamina.t) h *ℚ g i)) (λ i. (low ≤ℚ alone i) × (alone i ≤ℚ high)) (λ i k. (k.encloses.from, k.encloses.to)) items all) in
        let above = whole_positive {d = r} (omega (arith, ints, some)) in
        record {
          encloses = record {
            from = without_factor (whole r) above (subst (λ s. whole r *ℚ low ≤ℚ s) sum-alone between.0);
            to = without_factor (whole r) above (subst (λ s. s ≤ℚ whole r *ℚ high) sum-alone between.1);
          };
        }

  module _ (thick : IsThickness h) (m : Sym3 A) (items : List Item) (some : 1 ≤ length items) where
    -- the open plies of a completion
    pub means-hold : All (λ i. HoldsMatrix n m (part thick (pos (length items)) i)) items → HoldsMatrix n m (shares_matrix q0 h items)
    means-hold all = record {
      xx = mean-holds thick m.xx (λ i. (stiffness_of q0 i).xx) items some (All-weaker (λ i. HoldsMatrix n m (part thick (pos (length items)) i)) (λ i. Holds n m.xx (part thick (pos (length items)) i).xx) (λ i k. k.xx) items all);
      xy = mean-holds thick m.xy (λ i. (stiffness_of q0 i).xy) items some (All-weaker (λ i. HoldsMatrix n m (part thick (pos (length items)) i)) (λ i. Holds n m.xy (part thick (pos (length items)) i).xy) (λ i k. k.xy) items all);
      yy = mean-holds thick m.yy (λ i. (stiffness_of q0 i).yy) items some (All-weaker (λ i. HoldsMatrix n m (part thick (pos (length items)) i)) (λ i. Holds n m.yy (part thick (pos (length items)) i).yy) (λ i k. k.yy) items all);
      xs = mean-holds thick m.xs (λ i. (stiffness_of q0 i).xs) items some (All-weaker (λ i. HoldsMatrix n m (part thick (pos (length items)) i)) (λ i. Holds n m.xs (part thick (pos (length items)) i).xs) (λ i k. k.xs) items all);
      ys = mean-holds thick m.ys (λ i. (stiffness_of q0 i).ys) items some (All-weaker (λ i. HoldsMatrix n m (part thick (pos (length items)) i)) (λ i. Holds n m.ys (part thick (pos (length items)) i).ys) (λ i k. k.ys) items all);
      ss = mean-holds thick m.ss (λ i. (stiffness_of q0 i).ss) items some (All-weaker (λ i. HoldsMatrix n m (part thick (pos (length items)) i)) (λ i. Holds n m.ss (part thick (pos (length items)) i).ss) (λ i k. k.ss) items all);
    }

  -- ---- both

  abbrev plus : Sym3 ℚ → Sym3 ℚ → Sym3 ℚ
  plus a b = record { xx = a.xx +ℚ b.xx; xy = a.xy +ℚ b.xy; yy = a.yy +ℚ b.yy; xs = a.xs +ℚ b.xs; ys = a.ys +ℚ b.ys; ss = a.ss +ℚ b.ss }

  module _ {m k : Sym3 A} (p : MatrixReaches n entry_reach m) (q : MatrixReaches n open_reach k) where
    sum-reaches : {z w : A} → Reaches n entry_reach z → Reaches n open_reach w → Reaches n extension_reach (n.calc.sum z w)
    sum-reaches a b = reaches_more laws (reaches_sum laws a b (omega arith)) (omega arith)

    pub together-reaches : MatrixReaches n extension_reach (together n m k)
    together-reaches = record {
      xx = sum-reaches p.xx q.xx;
      xy = sum-reaches p.xy q.xy;
      yy = sum-reaches p.yy q.yy;
      xs = sum-reaches p.xs q.xs;
      ys = sum-reaches p.ys q.ys;
      ss = sum-reaches p.ss q.ss;
    }

    sum-holds : {z w : A} {x y : ℚ} → Reaches n entry_reach z → Reaches n open_reach w → Holds n z x → Holds n w y → Holds n (n.calc.sum z w) (x +ℚ y)
    sum-holds {z} {w} {x} {y} a b hz hw = (laws.sum z w (sum_within laws a b (omega arith))).held x y hz hw

    pub together-holds : {s t : Sym3 ℚ} → HoldsMatrix n m s → HoldsMatrix n k t → HoldsMatrix n (together n m k) (plus s t)
    together-holds a b = record {
      xx = sum-holds p.xx q.xx a.xx b.xx;
      xy = sum-holds p.xy q.xy a.xy b.xy;
      yy = sum-holds p.yy q.yy a.yy b.yy;
      xs = sum-holds p.xs q.xs a.xs b.xs;
      ys = sum-holds p.ys q.ys a.ys b.ys;
      ss = sum-holds p.ss q.ss a.ss b.ss;
    }
