-- How the names of a schedule word are listed, one by one.
use Rattle.std.specs.Prelude.{◌≡◌, ℕ, ◌+◌, List, [], ◌∷◌, ◌++◌, length, Option, Some, None, Result, Ok, Err}
use Rattle.lam_stock.specs.declared.item.Item.{Item}
use Rattle.lam_stock.specs.declared.item.ItemNo.{ItemNo}
use Rattle.lam_job.specs.JobOf.{item_named}
use Rattle.laminate.specs.declared.fault.ScheduleFault.{ScheduleFault}
use Rattle.laminate.specs.declared.fault.ScheduleFault.TheVariants.{Name}

-- what follows a name: of no item, the refusal; else what the plies with its item lead to
abbrev pub with_item : List ItemNo → Option ItemNo → (List ItemNo → Result (List ItemNo) ScheduleFault) → Result (List ItemNo) ScheduleFault
with_item listed None next = Err (Name (length listed + 1))
with_item listed (Some i) next = next (listed ++ i ∷ [])

-- the items of names behind those that are listed, or the first name that is that of no item
abbrev pub list_names : List Item → List ItemNo → List (List ℕ) → Result (List ItemNo) ScheduleFault
list_names stock listed [] = Ok listed
list_names stock listed (name ∷ names) = with_item listed (item_named stock name) (λ plies. list_names stock plies names)

-- a name is listed, or leads to its refusal, whatever names follow
abbrev pub Lists : List Item → List ℕ → (old new : List ItemNo) → Result (Unit {0}) ScheduleFault → Type 0
Lists stock name old new (Ok _) =
    ((names : List (List ℕ)) → list_names stock old (name ∷ names) ≡ list_names stock new names) × (length new ≡ length old + 1)
Lists stock name old new (Err fault) = (names : List (List ℕ)) → list_names stock old (name ∷ names) ≡ Err fault
