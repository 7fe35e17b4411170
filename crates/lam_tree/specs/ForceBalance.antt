-- What a balance of weighted forces says of all completions of a partial schedule: whether their plies can carry the load of
-- a case, and what it costs at least where they do. The layer of an item carries so much of a weighted force: its capacity.
use Rattle.std.specs.Prelude.{ℕ, ◌+◌, ◌-◌, ◌*◌, ◌/◌, ◌^◌, max, min, ℤ, pos, ◌+ℤ◌, ◌-ℤ◌, ◌*ℤ◌, ◌<ℤ◌, unsigned_abs, int_le, List, [], ◌∷◌, fold, sum_by, if◌then◌else◌}
use Rattle.lam_stock.specs.declared.item.Item.{Item}
use Rattle.lam_job.specs.JobData.{JobData, CaseData}
use Rattle.lam_job.specs.LoadOf.{load_of}
use Rattle.lam_job.specs.Schedule.{wall_of, cost_of}
use Rattle.lam_job.specs.Partial.{Partial, fixed_plies, open_places, cost_floor}
use Rattle.lam_support.specs.declared.weight.Weight.{Weight}

-- the weighted force of a case, times its factor: in quarters of N/m, and thousandths
abbrev pub need : CaseData → Weight → ℤ
need case w =
    let load = load_of case.kind in
    case.factor *ℤ (w.x *ℤ load.nx +ℤ w.y *ℤ load.ny +ℤ w.s *ℤ load.nxy)

-- what the fixed plies carry of it, with the liner where that carries load
abbrev pub have : List Item → JobData → Partial → (Item → ℕ) → ℕ
have stock job p capacity = 4000 * sum_by capacity (wall_of stock job (fixed_plies job p))

-- the greatest capacity of an item
abbrev pub greatest : List Item → (Item → ℕ) → ℕ
greatest stock capacity = fold (λ most i. max most (capacity i)) 0 stock

-- with the strongest item at each open place, too little is carried
abbrev pub IsShort : List Item → JobData → Partial → CaseData → Weight → (Item → ℕ) → Type 0
IsShort stock job p case w capacity =
    pos (have stock job p capacity + 4000 * open_places job p * greatest stock capacity) <ℤ need case w

-- the least whole number that is not below a / b
abbrev pub rounded_up : ℕ → ℕ → ℕ
rounded_up a b = (a + (b - 1)) / b

-- what it costs at least to carry so much more, at the best item's cost for what it carries
abbrev pub least_cost : (Item → ℕ) → (lacking : ℕ) → List Item → ℕ
least_cost capacity lacking [] = 0
least_cost capacity lacking (i ∷ rest) =
    fold (λ least other. min least (rounded_up (lacking * other.cost) (4000 * capacity other))) (rounded_up (lacking * i.cost) (4000 * capacity i)) rest

-- costs are told up to this one
abbrev pub greatest_cost : ℕ
greatest_cost = 2 ^ 64 - 1

-- no completion that carries the load of the case costs less
abbrev pub net_cost : List Item → JobData → Partial → CaseData → Weight → (Item → ℕ) → ℕ
net_cost stock job p case w capacity =
    let lacking = need case w -ℤ pos (have stock job p capacity) in
    if int_le lacking (pos 0) then cost_floor stock job p
    else min greatest_cost (max (cost_floor stock job p) (cost_of stock job (fixed_plies job p) + least_cost capacity (unsigned_abs lacking) stock))
