-- What it costs at least to carry so much more.
use Rattle.std.proofs.Common.{◌≡◌, refl, ◌∙◌, ap, ℕ, zero, suc, ◌+◌, ◌*◌, ◌<◌, ◌≤◌, min, List, [], ◌∷◌, ◌++◌, length, fold, sum_by, All, arith}
use Rattle.std.proofs.Math.Nat.{mul-le-mul_left, lt_of_mul-lt-mul_left}
use Rattle.std.proofs.lemmas.Bool.{cases_lt}
use Rattle.std.proofs.lemmas.List.Elements.{All-head, All-tail, All-cons, All-nil}
use Rattle.std.proofs.lemmas.List.Sums.{sum_by-cons, fold_push}
use mathlib.Core.Logic.{⊎_elim}
use Rattle.lam_stock.specs.declared.item.Item.{Item}
use Rattle.lam_tree.specs.ForceBalance.{rounded_up, least_cost}
use Rattle.lam_bounds.proofs.Rounding.{up_least, up_monotone}

module _ (capacity : Item → ℕ) where
  -- at one item's cost for what it carries
  abbrev pub cost_by : (lacking : ℕ) → Item → ℕ
  cost_by lacking i = rounded_up (lacking * i.cost) (4000 * capacity i)

  abbrev least_from : (lacking : ℕ) → ℕ → List Item → ℕ
  least_from lacking z items = fold (λ least i. min least (cost_by lacking i)) z items

  -- ---- the least is below each

  not_above : (lacking z : ℕ) (items : List Item) → least_from lacking z items ≤ z
  not_above lacking z [] = omega arith
  not_above lacking z (i ∷ rest) = let h = not_above lacking (min z (cost_by lacking i)) rest in omega (arith, h)

  none_below : (lacking z : ℕ) (items : List Item) → All (λ i. least_from lacking z items ≤ cost_by lacking i) items
  none_below lacking z [] = All-nil (λ (i : Item). z ≤ cost_by lacking i)
  none_below lacking z (i ∷ rest) =
      let least = min z (cost_by lacking i) in
      let h = not_above lacking least rest in
      All-cons (λ (j : Item). least_from lacking least rest ≤ cost_by lacking j) i rest (omega (arith, h)) (none_below lacking least rest)

  pub least_below : (lacking : ℕ) (items : List Item) → All (λ i. least_cost capacity lacking items ≤ cost_by lacking i) items
  least_below lacking [] = All-nil (λ (i : Item). 0 ≤ cost_by lacking i)
  least_below lacking (i ∷ rest) =
      let h = not_above lacking (cost_by lacking i) rest in
      All-cons (λ (j : Item). least_from lacking (cost_by lacking i) rest ≤ cost_by lacking j) i rest h (none_below lacking (cost_by lacking i) rest)

  -- ---- one item more

  pub least-first : (lacking : ℕ) (i : Item) → least_cost capacity lacking (i ∷ []) ≡ cost_by lacking i
  least-first lacking i = refl

  pub least-more : (lacking : ℕ) (items : List Item) (i : Item) → 1 ≤ length items
      → least_cost capacity lacking (items ++ i ∷ []) ≡ min (least_cost capacity lacking items) (cost_by lacking i)
  least-more lacking [] i some = absurd (omega arith)
  least-more lacking (j ∷ items) i some = fold_push (λ (least : ℕ) (k : Item). min least (cost_by lacking k)) (cost_by lacking j) items i

  -- ---- no list of items that carries what is lacking costs less

  -- each item costs more than so much for what it carries
  dear_each : (lacking m : ℕ) (items : List Item) → All (λ i. 1 ≤ capacity i) items → All (λ i. suc m ≤ cost_by lacking i) items
      → m * (4000 * sum_by capacity items) + length items ≤ lacking * sum_by (λ i. i.cost) items
  dear_each lacking m [] some dear = omega arith
  dear_each lacking m (i ∷ items) some dear =
      let carries = All-head (λ (j : Item). 1 ≤ capacity j) i items some in
      let costs = All-head (λ (j : Item). suc m ≤ cost_by lacking j) i items dear in
      let rest = dear_each lacking m items (All-tail (λ (j : Item). 1 ≤ capacity j) i items some) (All-tail (λ (j : Item). suc m ≤ cost_by lacking j) i items dear) in
      let one : m * (4000 * capacity i) < lacking * i.cost =
      ⊎_elim (λ h. h) (λ (h : lacking * i.cost ≤ m * (4000 * capacity i)). absurd (let u = up_least (lacking * i.cost) (4000 * capacity i) m (omega (arith, carries)) h in omega (arith, u, costs)))
      (cases_lt (m * (4000 * capacity i)) (lacking * i.cost)) in
      let caps : 4000 * sum_by capacity (i ∷ items) ≡ 4000 * capacity i + 4000 * sum_by capacity items = let s = sum_by-cons capacity i items in omega (arith, s) in
      let left : m * (4000 * sum_by capacity (i ∷ items)) ≡ m * (4000 * capacity i) + m * (4000 * sum_by capacity items) = ap (λ n. m * n) caps ∙ omega arith in
      let right : lacking * sum_by (λ j. j.cost) (i ∷ items) ≡ lacking * i.cost + lacking * sum_by (λ j. j.cost) items = ap (λ n. lacking * n) (sum_by-cons (λ (j : Item). j.cost) i items) ∙ omega arith in
      omega (arith, rest, one, left, right)

  enough : (lacking m c k carried : ℕ) → lacking ≤ carried → 1 ≤ k → m * carried + k ≤ lacking * c → suc m ≤ c
  enough lacking m c k carried most some dear =
      let less : m * lacking ≤ m * carried = mul-le-mul_left m most in
      let order : lacking * m < lacking * c = omega (arith, less, dear, some) in
      let h : m < c = lt_of_mul-lt-mul_left lacking order in
      omega (arith, h)

  none-carry : (items : List Item) → length items ≡ 0 → sum_by capacity items ≡ 0
  none-carry [] e = refl
  none-carry (i ∷ items) e = absurd (omega (arith, e))

  pub costs_at_least : (lacking m : ℕ) (items : List Item) → 1 ≤ lacking → All (λ i. 1 ≤ capacity i) items → All (λ i. m ≤ cost_by lacking i) items
      → lacking ≤ 4000 * sum_by capacity items → m ≤ sum_by (λ i. i.cost) items
  costs_at_least lacking zero items some carries dear most = omega arith
  costs_at_least lacking (suc m) items some carries dear most =
      ⊎_elim (λ (h : 0 < length items). enough lacking m (sum_by (λ i. i.cost) items) (length items) (4000 * sum_by capacity items) most h (dear_each lacking m items carries dear))
      (λ (h : length items ≤ 0). absurd (let e = none-carry items (omega (arith, h)) in omega (arith, e, most, some)))
      (cases_lt 0 (length items))

  -- ---- the item that costs least for what it carries gives the least cost of whatever is lacking

  pub better : (lacking cost caps other_cost other_caps : ℕ) → 1 ≤ caps → 1 ≤ other_caps → cost * other_caps ≤ other_cost * caps
      → rounded_up (lacking * cost) (4000 * caps) ≤ rounded_up (lacking * other_cost) (4000 * other_caps)
  better lacking cost caps other_cost other_caps some other order =
      let most : (4000 * lacking) * (cost * other_caps) ≤ (4000 * lacking) * (other_cost * caps) = mul-le-mul_left (4000 * lacking) order in
      up_monotone (lacking * cost) (4000 * caps) (lacking * other_cost) (4000 * other_caps) (omega (arith, some)) (omega (arith, other)) (omega (arith, most))
