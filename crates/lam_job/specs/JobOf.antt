-- What the bytes of a job mean: its data, or the first fault that it is refused for.
use Rattle.std.specs.Prelude.{ℕ, ◌+◌, nat_le, ℤ, pos, unsigned_abs, List, [], ◌∷◌, length, map, filter_map, Bool, false, ◌&&◌, ◌||◌, if◌then◌else◌, Option, Some, None, option_map, Result, Ok, Err, codes, bytes_eq, bit_or, ◌^◌, ◌≡◌, ⊤}
use Rattle.std.specs.List.{list_all, list_any}
use Rattle.std.specs.Option.{is_some, option_or, unwrap_or, option_and_then}
use Rattle.std.specs.Str.{is_utf8}
use Rattle.toml.specs.Data.{Data, Items, no_items, item, Members, no_members, member, get_member, as_str, as_integer, as_bool, as_array, as_table}
use Rattle.toml.specs.Parse.{parse_document}
use Rattle.lam_stock.specs.declared.item.Item.{Item}
use Rattle.lam_stock.specs.declared.item.ItemNo.{ItemNo}
use Rattle.lam_stock.specs.Likeness.{place_of}
use Rattle.lam_stock.specs.Tests.{is_between}
use Rattle.lam_job.specs.declared.case.CaseKind.{CaseKind}
use Rattle.lam_job.specs.declared.case.CaseKind.TheVariants.{Resultants, Cylinder}
use Rattle.lam_job.specs.declared.fault.JobCause.{JobCause}
use Rattle.lam_job.specs.declared.fault.JobCause.TheVariants as cause
use Rattle.lam_job.specs.declared.fault.JobError.{JobError}
use Rattle.lam_job.specs.declared.fault.JobError.TheVariants.{Refused, Memory}
use Rattle.lam_job.specs.declared.fault.JobFault.{JobFault}
use Rattle.lam_job.specs.declared.fault.JobKey.{JobKey}
use Rattle.lam_job.specs.declared.fault.JobKey.TheVariants as key
use Rattle.lam_job.specs.declared.fault.JobPlace.{JobPlace}
use Rattle.lam_job.specs.declared.fault.JobTable.{JobTable}
use Rattle.lam_job.specs.declared.fault.JobTable.TheVariants as at
use Rattle.lam_job.specs.declared.limits.TheConstants.{MOST_CASES, MOST_PANELS}
use Rattle.lam_job.specs.declared.rules.ItemSet.{ItemSet}
use Rattle.lam_job.specs.JobData.{CaseData, PanelData, RuleData, JobData}
use Rattle.lam_job.specs.Keys.{Form, whole, truth, one_of, names, Row, key_text, table_text, ply_number, top_rows, top_tables, liner_rows, rule_rows, rule_tables, kind_row, resultants_rows, cylinder_rows, panel_rows}

-- ---- values

-- the members of a list
abbrev pub list_of : Items → List Data
list_of no_items = []
list_of (item d ds) = d ∷ list_of ds

-- the entries of a table, in the order of their keys' bytes
abbrev pub entries_of : Members → List (List ℕ × Data)
entries_of no_members = []
entries_of (member k d ms) = (k, d) ∷ entries_of ms

abbrev pub as_list : Data → Option (List Data)
as_list d = option_map list_of (as_array d)

abbrev pub is_text : Data → Bool
is_text d = is_some (as_str d)

-- the item of a catalogue that has a name
abbrev pub item_named : List Item → List ℕ → Option ItemNo
item_named stock name = option_map (λ k. record { 0 = k }) (place_of name stock)

-- the item that a value names
abbrev pub item_of : List Item → Data → Option ItemNo
item_of stock d = option_and_then (item_named stock) (as_str d)

-- the text is one of these
abbrev pub is_among : List (List ℕ) → List ℕ → Bool
is_among texts s = list_any (λ t. bytes_eq t s) texts

-- a number of members is in a range
abbrev pub is_from : ℕ → ℕ → ℕ → Bool
is_from least most n = nat_le least n && nat_le n most

-- ---- causes

-- the cause of the first test that fails
abbrev pub first_broken : List (JobCause × Bool) → Option JobCause
first_broken [] = None
first_broken (test ∷ rest) = if test.1 then first_broken rest else Some test.0

-- why a value that should have a type is refused: it has another, or for a cause of its own
abbrev pub typed : {A : Type 0} → Option A → (A → Option JobCause) → Option JobCause
typed None why = Some cause.Kind
typed (Some a) why = why a

-- why a list does not hold so many names of items
abbrev pub names_cause : List Item → ℕ → ℕ → List Data → Option JobCause
names_cause stock least most ds =
    first_broken (
    (cause.Kind, list_all is_text ds)
    ∷ (cause.Range, is_from least most (length ds))
    ∷ (cause.Item, list_all (λ d. is_some (item_of stock d)) ds)
    ∷ []
    )

-- why a value is not of a form
abbrev pub form_cause : Form → Data → Option JobCause
form_cause (whole least greatest) d = typed (as_integer d) (λ z. first_broken ((cause.Range, is_between least greatest z) ∷ []))
form_cause truth d = typed (as_bool d) (λ b. None)
form_cause (one_of texts) d = typed (as_str d) (λ s. first_broken ((cause.Kind, is_among texts s) ∷ []))
form_cause (names stock least most) d = typed (as_list d) (names_cause stock least most)

-- why what stands at a key, or that nothing does, is refused
abbrev pub row_cause : Row → Option Data → Option JobCause
row_cause row None = if row.required then Some cause.Missing else None
row_cause row (Some d) = form_cause row.form d

-- ---- faults

-- the place of one of several tables, numbered from 1; the number of all of them, and of a table that there is once, is 0
abbrev pub numbered : JobTable → ℕ → JobPlace
numbered table n = record { table = table; number = n; key = key.Other }

abbrev pub the : JobTable → JobPlace
the table = numbered table 0

-- the fault of a cause, at a key of a place
abbrev pub fault_at : JobPlace → JobKey → JobCause → JobFault
fault_at place key cause = record { place = record place { key = key }; cause = cause }

-- what stands at a key
abbrev pub value_at : JobKey → Members → Option Data
value_at key ms = get_member (key_text key) ms

-- the fault of a row in a table
unfoldable pub row_fault : JobPlace → Row → Members → Option JobFault
row_fault place row ms = option_map (fault_at place row.key) (row_cause row (value_at row.key ms))

-- the first fault of some rows
abbrev pub rows_fault : JobPlace → List Row → Members → Option JobFault
rows_fault place [] ms = None
rows_fault place (row ∷ rows) ms = option_or (row_fault place row ms) (rows_fault place rows ms)

-- a text is that of one of some keys, or of one of some tables
abbrev pub is_known : List JobKey → List JobTable → List ℕ → Bool
is_known keys tables text = list_any (λ key. bytes_eq (key_text key) text) keys || list_any (λ table. bytes_eq (table_text table) text) tables

-- the fault of a key that is none of these
unfoldable pub unknown_fault : JobPlace → List JobKey → List JobTable → Members → Option JobFault
unknown_fault place keys tables ms =
    if list_all (λ entry. is_known keys tables entry.0) (entries_of ms) then None else Some (fault_at place key.Other cause.Unknown)

-- the first fault of a table with these rows, and with tables at keys: of a row, and then of an unknown key
abbrev pub table_fault : JobPlace → List Row → List JobTable → Members → Option JobFault
table_fault place rows tables ms =
    option_or (rows_fault place rows ms) (unknown_fault place (map (λ row. row.key) rows) tables ms)

-- the fault of a value that should be a table: it is none, or one of its own
abbrev pub in_table : JobPlace → (Members → Option JobFault) → Option Members → Option JobFault
in_table place fault None = Some (fault_at place key.Other cause.Kind)
in_table place fault (Some ms) = fault ms

-- the first fault of some things, numbered from n on
abbrev pub first_from : {A : Type 0} → (ℕ → A → Option JobFault) → ℕ → List A → Option JobFault
first_from fault n [] = None
first_from fault n (x ∷ xs) = option_or (fault n x) (first_from fault (n + 1) xs)

-- the first fault of some values that should be tables
abbrev pub tables_from : JobTable → (JobPlace → Members → Option JobFault) → ℕ → List Data → Option JobFault
tables_from table fault n ds = first_from (λ n d. in_table (numbered table n) (fault (numbered table n)) (as_table d)) n ds

-- the first fault of a value that should be a list of so many tables: of its type, of their number, of each in turn
abbrev pub in_tables : JobTable → ℕ → ℕ → (JobPlace → Members → Option JobFault) → Option (List Data) → Option JobFault
in_tables table least most fault None = Some (fault_at (the table) key.Other cause.Kind)
in_tables table least most fault (Some ds) =
    if is_from least most (length ds)
    then tables_from table fault 1 ds
    else Some (fault_at (the table) key.Other cause.Range)

-- no fault where nothing stands at a key
abbrev pub optional : {A : Type 0} → (A → Option JobFault) → Option A → Option JobFault
optional fault None = None
optional fault (Some d) = fault d

-- ---- the tables

-- what stands at the key of a table
abbrev pub under : JobTable → Members → Option Data
under table ms = get_member (table_text table) ms

-- the entries of a table; none where there is no table
abbrev pub table_in : Option Data → Members
table_in d = unwrap_or (option_and_then as_table d) no_members

-- a value is a text
abbrev pub says : List ℕ → Option Data → Bool
says text None = false
says text (Some d) = unwrap_or (option_map (bytes_eq text) (as_str d)) false

abbrev pub is_cylinder : Members → Bool
is_cylinder ms = says (codes "cylinder") (value_at key.Kind ms)

-- a case has its kind, and then the rows of that
abbrev pub case_fault : JobPlace → Members → Option JobFault
case_fault place ms = table_fault place (kind_row ∷ (if is_cylinder ms then cylinder_rows else resultants_rows)) [] ms

abbrev pub panel_fault : JobPlace → Members → Option JobFault
panel_fault place ms = table_fault place panel_rows [] ms

abbrev pub liner_fault : List Item → Data → Option JobFault
liner_fault stock d = in_table (the at.Liner) (table_fault (the at.Liner) (liner_rows stock) []) (as_table d)

-- why a count, whose key names an item, is refused: for its value, and then for its key
abbrev pub count_cause : List Item → List ℕ × Data → Option JobCause
count_cause stock count =
    option_or (form_cause ply_number count.1) (first_broken ((cause.Item, is_some (item_named stock count.0)) ∷ []))

unfoldable pub count_fault : List Item → ℕ → List ℕ × Data → Option JobFault
count_fault stock n count = option_map (fault_at (numbered at.Counts n) key.Count) (count_cause stock count)

abbrev pub counts_from : List Item → ℕ → Members → Option JobFault
counts_from stock n ms = first_from (count_fault stock) n (entries_of ms)

abbrev pub counts_fault : List Item → Data → Option JobFault
counts_fault stock d = in_table (the at.Counts) (counts_from stock 1) (as_table d)

-- the fault of the rules, and then of the counts in them
abbrev pub rules_in_fault : List Item → Members → Option JobFault
rules_in_fault stock ms =
    option_or (table_fault (the at.Rules) (rule_rows stock) rule_tables ms) (optional (counts_fault stock) (under at.Counts ms))

abbrev pub rules_fault : List Item → Data → Option JobFault
rules_fault stock d = in_table (the at.Rules) (rules_in_fault stock) (as_table d)

-- the cases have to be there
abbrev pub cases_fault : Option Data → Option JobFault
cases_fault None = Some (fault_at (the at.Case) key.Other cause.Missing)
cases_fault (Some d) = in_tables at.Case 1 MOST_CASES case_fault (as_list d)

abbrev pub panels_fault : Data → Option JobFault
panels_fault d = in_tables at.Panel 0 MOST_PANELS panel_fault (as_list d)

-- the first of some faults
abbrev pub first_of : List (Option JobFault) → Option JobFault
first_of [] = None
first_of (fault ∷ faults) = option_or fault (first_of faults)

-- the first fault of a job: of the top, the liner, the rules and their counts, the cases, the panels
abbrev pub job_fault : List Item → Members → Option JobFault
job_fault stock ms =
    first_of (
    table_fault (the at.Top) top_rows top_tables ms
    ∷ optional (liner_fault stock) (under at.Liner ms)
    ∷ optional (rules_fault stock) (under at.Rules ms)
    ∷ cases_fault (under at.Case ms)
    ∷ optional panels_fault (under at.Panel ms)
    ∷ []
    )

-- ---- the data of a job without a fault

-- the number at a key, where there is one; and 0 where there is none
abbrev pub number_if : JobKey → Members → Option ℤ
number_if key ms = option_and_then as_integer (value_at key ms)

abbrev pub number : JobKey → Members → ℤ
number key ms = unwrap_or (number_if key ms) (pos 0)

-- the truth value at a key: false where there is none
abbrev pub truth_at : JobKey → Members → Bool
truth_at key ms = unwrap_or (option_and_then as_bool (value_at key ms)) false

-- the items that the list at a key names, where there is one
abbrev pub items_if : List Item → JobKey → Members → Option (List ItemNo)
items_if stock key ms = option_map (filter_map (item_of stock)) (option_and_then as_list (value_at key ms))

-- the set of some items: the bits of their numbers, put beside those that there are
abbrev pub bits_of : ℕ → List ItemNo → ℕ
bits_of bits [] = bits
bits_of bits (i ∷ is) = bits_of (bit_or bits (2 ^ i.0)) is

abbrev pub set_of : List ItemNo → ItemSet
set_of is = record { 0 = bits_of 0 is }

abbrev pub set_if : List Item → JobKey → Members → Option ItemSet
set_if stock key ms = option_map set_of (items_if stock key ms)

-- the item of a count, and the least number of its plies
abbrev pub count_of : List Item → List ℕ × Data → Option (ItemNo × ℕ)
count_of stock count = option_map (λ i. (i, unsigned_abs (unwrap_or (as_integer count.1) (pos 0)))) (item_named stock count.0)

abbrev pub counts_of : List Item → Members → List (ItemNo × ℕ)
counts_of stock ms = filter_map (count_of stock) (entries_of ms)

abbrev pub rules_of : List Item → Members → RuleData
rules_of stock ms = record {
  inner = set_if stock key.Inner ms;
  outer = set_if stock key.Outer ms;
  symmetric = truth_at key.Symmetric ms;
  balanced = truth_at key.Balanced ms;
  run = option_map unsigned_abs (number_if key.Run ms);
  fewest = option_map unsigned_abs (number_if key.Fewest ms);
  thickness = number_if key.Thickness ms;
  counts = counts_of stock (table_in (under at.Counts ms));
}

abbrev pub resultants_of : Members → CaseKind
resultants_of ms =
    Resultants (number key.Nx ms) (number key.Ny ms) (number key.Nxy ms) (number key.Mx ms) (number key.My ms) (number key.Mxy ms)

abbrev pub cylinder_of : Members → CaseKind
cylinder_of ms =
    Cylinder (number key.Pressure ms) (number key.Diameter ms) (says (codes "closed") (value_at key.Ends ms)) (number key.Axial ms)
    (number key.Mx ms) (number key.My ms)

abbrev pub case_of : Members → CaseData
case_of ms = record {
  kind = if is_cylinder ms then cylinder_of ms else resultants_of ms;
  factor = number key.Factor ms;
}

abbrev pub panel_of : Members → PanelData
panel_of ms = record {
  length = number key.Length ms;
  width = number key.Width ms;
  load = number key.Load ms;
  factor = number key.Factor ms;
}

-- what the tables of a list are
abbrev pub tables_in : {A : Type 0} → (Members → A) → Option Data → List A
tables_in f d = filter_map (λ t. option_map f (as_table t)) (unwrap_or (option_and_then as_list d) [])

-- the plies of the liner, and whether it carries load
abbrev pub liner_of : List Item → Members → List ItemNo × Bool
liner_of stock ms = (unwrap_or (items_if stock key.Plies ms) [], truth_at key.InWall ms)

abbrev pub data_of : List Item → Members → JobData
data_of stock ms = record {
  limit = unsigned_abs (number key.Limit ms);
  liner = (liner_of stock (table_in (under at.Liner ms))).0;
  liner_in_wall = (liner_of stock (table_in (under at.Liner ms))).1;
  rules = rules_of stock (table_in (under at.Rules ms));
  cases = tables_in case_of (under at.Case ms);
  panels = tables_in panel_of (under at.Panel ms);
}

-- ---- the bytes

-- data without a fault, or the fault
abbrev pub settled : {A : Type 0} → Option JobFault → A → Result A JobFault
settled None held = Ok held
settled (Some fault) held = Err fault

-- the table that the bytes of a file are, where they are TOML
abbrev pub document_of : List ℕ → Option Members
document_of bytes = if is_utf8 bytes then parse_document bytes else None

abbrev pub job_of_document : List Item → Option Members → Result JobData JobFault
job_of_document stock None = Err (fault_at (the at.Top) key.Other cause.Text)
job_of_document stock (Some ms) = settled (job_fault stock ms) (data_of stock ms)

-- the job that the bytes of a file are beside a catalogue, or the first fault that they are refused for
unfoldable pub job_of : List ℕ → List Item → Result JobData JobFault
job_of bytes stock = job_of_document stock (document_of bytes)

-- an answer gives what the bytes mean, or tells that memory ran out
abbrev pub GivesJob : Result JobData JobError → Result JobData JobFault → Type 0
GivesJob (Ok job) meaning = meaning ≡ Ok job
GivesJob (Err (Refused fault)) meaning = meaning ≡ Err fault
GivesJob (Err Memory) meaning = ⊤
