-- How thick the completions of a partial schedule are, and how many places are open.
use Rattle.std.proofs.Common.{◌≡◌, refl, sym, ◌∙◌, ap, subst, ℕ, suc, ◌-◌, ◌<◌, ◌≤◌, ℤ, pos, ◌+ℤ◌, ◌*ℤ◌, ◌≤ℤ◌, Bool, true, false, List, [], ◌∷◌, ◌++◌, length, reverse, take, fold, All, arith}
use Rattle.std.specs.Int.{int_max, int_min}
use Rattle.std.proofs.lemmas.Int.{ints, clamps}
use Rattle.std.proofs.lemmas.List.{length-append, length-reverse, length-take}
use Rattle.std.proofs.lemmas.List.Elements.{All-cons, All-head, All-nil, All-tail}
use Rattle.lam_fraction.proofs.Expression.{int, ◌⊕◌, ◌⊖◌, ◌⊗◌}
use Rattle.lam_fraction.proofs.Solver.{◌≐◌}
use Rattle.lam_fraction.proofs.Integers.{solve, above, at_most, number, ◌*ₙ◌}
use Rattle.lam_stock.specs.declared.item.Item.{Item}
use Rattle.lam_stock.specs.LimitNumbers.{greatest_thickness}
use Rattle.lam_stock.specs.Stock.{WithinLimits}
use Rattle.lam_job.specs.JobData.{JobData}
use Rattle.lam_job.specs.Partial.{Partial, fixed_plies, half, half_of, thickest}
use Rattle.lam_job.specs.Wall.{wall_thickness}
use Rattle.lam_rules.proofs.Parts.{fixed_in_parts, mirror_images}
use Rattle.lam_boxes.specs.inside.Extents.{thinnest}

-- ---- of an item

abbrev thickest_from : ℤ → List Item → ℤ
thickest_from z items = fold (λ most i. int_max most i.lamina.t) z items

abbrev thinnest_from : ℤ → List Item → ℤ
thinnest_from z items = fold (λ least i. int_min least i.lamina.t) z items

thickest-start : (z : ℤ) (items : List Item) → z ≤ℤ thickest_from z items
thickest-start z [] = omega (arith, ints)
thickest-start z (i ∷ rest) = let h = thickest-start (int_max z i.lamina.t) rest in omega (arith, ints, clamps, h)

thickest-each : (z : ℤ) (items : List Item) → All (λ i. i.lamina.t ≤ℤ thickest_from z items) items
thickest-each z [] = All-nil (λ i. i.lamina.t ≤ℤ z)
thickest-each z (i ∷ rest) =
    let h = thickest-start (int_max z i.lamina.t) rest in
    All-cons (λ j. j.lamina.t ≤ℤ thickest_from z (i ∷ rest)) i rest (omega (arith, ints, clamps, h)) (thickest-each (int_max z i.lamina.t) rest)

thickest-most : (z : ℤ) (items : List Item) → All WithinLimits items → z ≤ℤ pos 20000 → thickest_from z items ≤ℤ pos 20000
thickest-most z [] all h = h
thickest-most z (i ∷ rest) all h =
    let t = (All-head WithinLimits i rest all).limits.range.rest in
    thickest-most (int_max z i.lamina.t) rest (All-tail WithinLimits i rest all) (omega (arith, ints, clamps, h, t.greatest_t))

thinnest-start : (z : ℤ) (items : List Item) → thinnest_from z items ≤ℤ z
thinnest-start z [] = omega (arith, ints)
thinnest-start z (i ∷ rest) = let h = thinnest-start (int_min z i.lamina.t) rest in omega (arith, ints, clamps, h)

thinnest-each : (z : ℤ) (items : List Item) → All (λ i. thinnest_from z items ≤ℤ i.lamina.t) items
thinnest-each z [] = All-nil (λ i. z ≤ℤ i.lamina.t)
thinnest-each z (i ∷ rest) =
    let h = thinnest-start (int_min z i.lamina.t) rest in
    All-cons (λ j. thinnest_from z (i ∷ rest) ≤ℤ j.lamina.t) i rest (omega (arith, ints, clamps, h)) (thinnest-each (int_min z i.lamina.t) rest)

thinnest-least : (z : ℤ) (items : List Item) → All WithinLimits items → pos 50 ≤ℤ z → pos 50 ≤ℤ thinnest_from z items
thinnest-least z [] all h = h
thinnest-least z (i ∷ rest) all h =
    let t = (All-head WithinLimits i rest all).limits.range.rest in
    thinnest-least (int_min z i.lamina.t) rest (All-tail WithinLimits i rest all) (omega (arith, ints, clamps, h, t.least_t))

pub thickest-above : (stock : List Item) → pos 0 ≤ℤ thickest stock
thickest-above stock = thickest-start (pos 0) stock

pub thickest-below : (stock : List Item) → All WithinLimits stock → thickest stock ≤ℤ pos 20000
thickest-below stock limits = thickest-most (pos 0) stock limits (omega (arith, ints))

pub thickest-all : (stock : List Item) → All (λ i. i.lamina.t ≤ℤ thickest stock) stock
thickest-all stock = thickest-each (pos 0) stock

pub thinnest-above : (stock : List Item) → All WithinLimits stock → pos 50 ≤ℤ thinnest stock
thinnest-above stock limits = thinnest-least greatest_thickness stock limits (omega (arith, ints))

pub thinnest-below : (stock : List Item) → thinnest stock ≤ℤ pos 20000
thinnest-below stock = thinnest-start greatest_thickness stock

pub thinnest-all : (stock : List Item) → All (λ i. thinnest stock ≤ℤ i.lamina.t) stock
thinnest-all stock = thinnest-each greatest_thickness stock

-- there is an item, so that the thickest is as thick as the thinnest
pub thinnest-thickest : (stock : List Item) → 1 ≤ length stock → thinnest stock ≤ℤ thickest stock
thinnest-thickest [] some = absurd (omega (arith, some))
thinnest-thickest (i ∷ rest) some =
    let a = All-head (λ (j : Item). thinnest (i ∷ rest) ≤ℤ j.lamina.t) i rest (thinnest-all (i ∷ rest)) in
    let b = All-head (λ (j : Item). j.lamina.t ≤ℤ thickest (i ∷ rest)) i rest (thickest-all (i ∷ rest)) in
    omega (arith, ints, a, b)

-- ---- of some plies

-- so many times a number
pub times-order : (k : ℕ) (a b : ℤ) → a ≤ℤ b → (pos k *ℤ a) ≤ℤ (pos k *ℤ b)
times-order k a b h = at_most (number k *ₙ above h) (solve 3 (λ k a b. k ⊗ b ⊖ k ⊗ a ≐ k ⊗ (b ⊖ a)) refl (pos k) a b)

pub plies-at_least : (t : ℤ) (items : List Item) → All (λ i. t ≤ℤ i.lamina.t) items → (pos (length items) *ℤ t) ≤ℤ wall_thickness items
plies-at_least t [] all = omega (arith, ints)
plies-at_least t (i ∷ rest) all =
    let first : t ≤ℤ i.lamina.t = All-head (λ (j : Item). t ≤ℤ j.lamina.t) i rest all in
    let more = plies-at_least t rest (All-tail (λ (j : Item). t ≤ℤ j.lamina.t) i rest all) in
    let next : pos (suc (length rest)) ≡ pos (length rest) +ℤ pos 1 = omega (arith, ints) in
    let count : pos (suc (length rest)) *ℤ t ≡ pos (length rest) *ℤ t +ℤ t = ap (λ z. z *ℤ t) next ∙ one_more (pos (length rest)) t in
    omega (arith, ints, first, more, count)
  where
    one_more : (k t : ℤ) → (k +ℤ pos 1) *ℤ t ≡ k *ℤ t +ℤ t
    one_more k t = solve 2 (λ k t. (k ⊕ int (pos 1)) ⊗ t ≐ k ⊗ t ⊕ t) refl k t

-- ---- how many places are open

fixed-count : (symmetric : Bool) (p : Partial) → length p.prefix < half_of symmetric p.n
    → (length (p.prefix ++ mirror_images symmetric p) < p.n)
fixed-count true p more =
    let k = length p.prefix in
    let images = take (p.n - k) p.prefix in
    let all = length-append p.prefix (reverse images) in
    let turned = length-reverse images in
    let some = length-take (p.n - k) p.prefix in
    omega (arith, all, turned, some, more)
fixed-count false p more = let all = length-append p.prefix (mirror_images false p) in omega (arith, all, more)

pub fixed-below : (job : JobData) (p : Partial) → length p.prefix < half job p.n → length (fixed_plies job p) < p.n
fixed-below job p more = subst (λ l. length l < p.n) (sym (fixed_in_parts job p)) (fixed-count job.rules.symmetric p more)
