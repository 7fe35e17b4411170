-- No printed ratio is above the greatest.
use Rattle.std.proofs.Common.{ℕ, zero, suc, ℤ, ◌+◌, ◌-◌, ◌/◌, ◌≤◌, Bool, true, false, nat_le, nat_lt, List, [], ◌∷◌, map, flat_map, Some, None, All, le_trans, arith}
use Rattle.std.specs.Prelude.{if◌then◌else◌}
use Rattle.std.proofs.lemmas.List.Elements.{All-append, All-cons, All-nil}
use Rattle.lam_fraction.specs.numbers.Numbers.{Numbers}
use Rattle.lam_stock.specs.declared.item.Item.{Item}
use Rattle.lam_stock.specs.declared.item.ItemNo.{ItemNo}
use Rattle.lam_stock.specs.declared.scale.Scale.{Scale}
use Rattle.lam_stock.specs.Scale.{scale_of}
use Rattle.lam_job.specs.declared.load.Load.{Load}
use Rattle.lam_job.specs.JobData.{JobData, PanelData}
use Rattle.lam_job.specs.LoadOf.{load_of}
use Rattle.lam_job.specs.Schedule.{wall_of}
use Rattle.lam_job.specs.Wall.{Placed, placed_plies}
use Rattle.lam_wall.specs.declared.wall.Wall.{Wall}
use Rattle.lam_plate.specs.inside.Formulas as plate
use Rattle.lam_tsai.specs.inside.Halving as tsai
use Rattle.lam_judge.specs.inside.Judged.{matrices}
use Rattle.lam_judge.specs.inside.Kept.{is_fit}
use Rattle.lam_judge.specs.inside.Ratios.{case_ratios, panel_ratio, ply_ratio, printed}
use Rattle.lam_judge.specs.inside.Scales.{fine}
use Rattle.lam_tree.specs.declared.limits.TheConstants.{MOST_RATIO}
use Rattle.laminate.specs.inside.Printing.{panels_in}

-- ---- lists

every : {X : Type 0} (P : X → Type 0) → ((x : X) → P x) → (xs : List X) → All P xs
every P each [] = All-nil P
every P each (x ∷ xs) = All-cons P x xs (each x) (every P each xs)

every_mapped : {X : Type 0} (f : X → ℕ) (P : ℕ → Type 0) → ((x : X) → P (f x)) → (xs : List X) → All P (map f xs)
every_mapped f P each [] = All-nil P
every_mapped f P each (x ∷ xs) = All-cons P (f x) (map f xs) (each x) (every_mapped f P each xs)

every_joined : {X : Type 0} (f : X → List ℕ) (P : ℕ → Type 0) → ((x : X) → All P (f x)) → (xs : List X) → All P (flat_map f xs)
every_joined f P each [] = All-nil P
every_joined f P each (x ∷ xs) = All-append P (f x) (flat_map f xs) (each x) (every_joined f P each xs)

abbrev AreSmall : List ℕ → Type 0
AreSmall ratios = All (λ r. r ≤ MOST_RATIO) ratios

-- ---- the ratio of a ply: a range is halved below 20001

-- one of three numbers, by two tests
one_of : (first second : Bool) (a b c most : ℕ) → a ≤ most → b ≤ most → c ≤ most → (if first then a else (if second then b else c)) ≤ most
one_of true second a b c most is_a is_b is_c = is_a
one_of false true a b c most is_a is_b is_c = is_b
one_of false false a b c most is_a is_b is_c = is_c

one_within : (first second : Bool) (a b c most : ℕ) → a ≤ most → b ≤ most → c ≤ most → (if first then (if second then a else b) else c) ≤ most
one_within true true a b c most is_a is_b is_c = is_a
one_within true false a b c most is_a is_b is_c = is_b
one_within false second a b c most is_a is_b is_c = is_c

middle_below : (met beyond : ℕ) → met ≤ 20000 → beyond ≤ 20001 → (met + beyond) / 2 ≤ 20000
middle_below met beyond low high = omega (arith, low, high)

between_small : (turns : ℕ) (test : ℕ → Bool) (met beyond : ℕ) → met ≤ 20000 → beyond ≤ 20001 → tsai.between turns test met beyond ≤ 20000
unfolding tsai.between
between_small zero test met beyond low high = low
between_small (suc turns) test met beyond low high =
    let middle = middle_below met beyond low high in
    one_within (nat_lt 1 (beyond - met)) (test ((met + beyond) / 2))
    (tsai.between turns test ((met + beyond) / 2) beyond) (tsai.between turns test met ((met + beyond) / 2)) met 20000
    (between_small turns test ((met + beyond) / 2) beyond middle high)
    (between_small turns test met ((met + beyond) / 2) low (let h : (met + beyond) / 2 ≤ 20001 = omega (arith, middle) in h)) low

ply_small : (scale : Scale) (wall : List Item) (load : Load) (p : Placed) → ply_ratio scale wall load p ≤ MOST_RATIO
unfolding ply_ratio
ply_small scale wall load p = between_small 15 _ 0 20001 (let h : 0 ≤ 20000 = omega arith in h) (let h : 20001 ≤ 20001 = omega arith in h)

-- ---- the ratio of a panel: a range is halved below the ratio before

middle_within : (most met beyond : ℕ) → met ≤ most → beyond ≤ most → (met + beyond) / 2 ≤ most
middle_within most met beyond low high = omega (arith, low, high)

halved_small : (turns : ℕ) (test : ℕ → Bool) (most met beyond : ℕ) → met ≤ most → beyond ≤ most → plate.halved test turns met beyond ≤ most
unfolding plate.halved
halved_small zero test most met beyond low high = low
halved_small (suc turns) test most met beyond low high =
    let middle = middle_within most met beyond low high in
    one_of (nat_le beyond (met + 1)) (test ((met + beyond) / 2))
    met (plate.halved test turns ((met + beyond) / 2) beyond) (plate.halved test turns met ((met + beyond) / 2)) most
    low (halved_small turns test most ((met + beyond) / 2) beyond middle high) (halved_small turns test most met ((met + beyond) / 2) low middle)

lowered_small : (test : ℕ → Bool) (most : ℕ) → plate.lowered test most ≤ most
lowered_small test most =
    let none : 0 ≤ most = omega arith in
    let itself : most ≤ most = omega arith in
    one_of (test most) true most (plate.halved test 15 0 most) 0 most itself (halved_small 15 test most 0 most none itself) none

lowest_small : {A : Type 0} (n : Numbers A) (q0 : ℤ) (w : Wall A) (p : PanelData) (waves : ℕ)
    → plate.lowest_up_to n (plate.plate n q0 w p) waves ≤ 20000
unfolding plate.lowest_up_to
lowest_small n q0 w p zero = omega arith
lowest_small n q0 w p (suc m) =
    let at = plate.plate n q0 w p in
    le_trans (lowered_small (plate.meets_at n at (plate.in_waves n.calc at (suc m))) (plate.lowest_up_to n at m)) (lowest_small n q0 w p m)

panel_small : {A : Type 0} (n : Numbers A) (q0 : ℤ) (w : Wall A) (p : PanelData) → panel_ratio n q0 w p ≤ MOST_RATIO
unfolding panel_ratio
panel_small n q0 w p = lowest_small n q0 w p (plate.plate n q0 w p).waves

-- ---- all of a schedule

pub ratios_small : (stock : List Item) (job : JobData) (listed : List ItemNo) → AreSmall (printed stock job listed).ratios
unfolding printed
ratios_small stock job listed =
    let wall = wall_of stock job listed in
    every_joined (case_ratios (scale_of stock) wall) (λ r. r ≤ MOST_RATIO)
    (λ case. every_mapped (ply_ratio (scale_of stock) wall (load_of case.kind)) (λ r. r ≤ MOST_RATIO)
    (λ p. ply_small (scale_of stock) wall (load_of case.kind) p) (placed_plies wall)) job.cases

small_if : (fits : Bool) (own : List ℕ) → AreSmall own → AreSmall (panels_in (if fits then Some own else None))
small_if true own small = small
small_if false own small = All-nil (λ r. r ≤ MOST_RATIO)

pub panels_small : (stock : List Item) (job : JobData) (listed : List ItemNo) → AreSmall (panels_in (printed stock job listed).panels)
unfolding printed
panels_small stock job listed =
    let w = matrices fine (scale_of stock) (wall_of stock job listed) in
    small_if (is_fit stock job listed) (map (panel_ratio fine (scale_of stock).q0 w) job.panels)
    (every_mapped (panel_ratio fine (scale_of stock).q0 w) (λ r. r ≤ MOST_RATIO) (λ p. panel_small fine (scale_of stock).q0 w p) job.panels)
