-- The plies that a schedule word lists: names of items, joined by commas; or the first cause to refuse it.
use Rattle.std.specs.Prelude.{ℕ, ◌==◌, nat_lt, List, [], ◌∷◌, length, filter_map, Bool, Option, Some, None, is_none, Result, Ok, Err, if◌then◌else◌}
use Rattle.std.specs.List.{position_from, slice_split}
use Rattle.lam_stock.specs.declared.item.Item.{Item}
use Rattle.lam_stock.specs.declared.item.ItemNo.{ItemNo}
use Rattle.lam_job.specs.declared.limits.TheConstants.{MOST_PLIES}
use Rattle.lam_job.specs.JobOf.{item_named}
use Rattle.laminate.specs.declared.fault.ScheduleFault.{ScheduleFault}
use Rattle.laminate.specs.declared.fault.ScheduleFault.TheVariants.{Empty, Many, Name}

-- the texts between the commas of a word
abbrev pub names_of : List ℕ → List (List ℕ)
names_of word = slice_split (λ c. c == 44) word

-- the name is that of no item
abbrev pub is_unknown : List Item → List ℕ → Bool
is_unknown stock name = is_none (item_named stock name)

-- the items of names; or the number of the first name that is that of no item, counted from 1
abbrev pub settled : Option ℕ → List ItemNo → Result (List ItemNo) ScheduleFault
settled None plies = Ok plies
settled (Some number) plies = Err (Name number)

abbrev pub plies_named : List Item → List (List ℕ) → Result (List ItemNo) ScheduleFault
plies_named stock names = settled (position_from (is_unknown stock) 1 names) (filter_map (item_named stock) names)

-- the listed plies, or the first refusal: the word is empty, it has too many names, or a name is that of no item
unfoldable pub schedule_of : List Item → List ℕ → Result (List ItemNo) ScheduleFault
schedule_of stock [] = Err Empty
schedule_of stock (c ∷ bytes) =
    if nat_lt MOST_PLIES (length (names_of (c ∷ bytes))) then Err Many else plies_named stock (names_of (c ∷ bytes))
