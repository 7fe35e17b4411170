-- Jobs as tables, tried key by key: what each is, and the first fault that each is refused for; and one job from its bytes.
use Rattle.std.proofs.Common.{◌≡◌, refl, ℕ, ℤ, pos, negsuc, List, [], ◌∷◌, true, false, Float, Some, None, codes}
use Rattle.toml.specs.Data.{Data, Items, string, integer, float, boolean, array, table, no_items, item, Members, no_members, member}
use Rattle.toml.specs.Parse.{parse_document}
use Rattle.toml.proofs.OnLiterals.{toml_on_literals}
use Rattle.lam_stock.specs.declared.item.Item.{Item}
use Rattle.lam_job.specs.declared.case.CaseKind.TheVariants.{Resultants, Cylinder}
use Rattle.lam_job.specs.declared.fault.JobCause.{JobCause}
use Rattle.lam_job.specs.declared.fault.JobCause.TheVariants as cause
use Rattle.lam_job.specs.declared.fault.JobKey.{JobKey}
use Rattle.lam_job.specs.declared.fault.JobKey.TheVariants as key
use Rattle.lam_job.specs.declared.fault.JobTable.{JobTable}
use Rattle.lam_job.specs.declared.fault.JobTable.TheVariants as at
use Rattle.lam_job.specs.JobData.{RuleData}
use Rattle.lam_job.specs.JobOf.{count_fault, data_of, fault_at, job_fault, numbered, row_fault, unknown_fault}
use Rattle.lam_job.proofs.Worked.{mat, stiff, number}

abbrev named : List ℕ → Item → Item
named name i = record i { name = name }

-- the items of number 0 and 1
abbrev stock : List Item
stock = named (codes "mat") mat ∷ named (codes "stiff") stiff ∷ []

abbrev one : Data → Data
one d = array (item d no_items)

abbrev text : Data
text = string (codes "mut")

-- a case of a hoop force, with some entry before it
abbrev case_with : (Members → Members) → Data
case_with more =
    table (more (member (codes "factor") (integer (pos 5000)) (member (codes "kind") (string (codes "resultants")) (member (codes "ny") (integer (pos 90000)) no_members))))

abbrev hoop : Data
hoop = case_with (λ ms. ms)

-- a job of these cases and this limit, with some entries after them
abbrev job_with : Data → ℤ → Members → Members
job_with cases limit more = member (codes "case") cases (member (codes "limit") (integer limit) more)

abbrev version : Members
version = member (codes "version") (integer (pos 1)) no_members

abbrev base : Members
base = job_with (one hoop) (pos 4) version

-- with rules, and with a liner
abbrev ruled : Members → Members
ruled rules = job_with (one hoop) (pos 4) (member (codes "rules") (table rules) version)

abbrev lined : Data → Members
lined liner = job_with (one hoop) (pos 4) (member (codes "liner") liner version)

abbrev no_rules : RuleData
no_rules = record { inner = None; outer = None; symmetric = false; balanced = false; run = None; fewest = None; thickness = None; counts = [] }

-- ---- a job without a fault, and what it is: each default is 0, false, none or empty

base_has_none : job_fault stock base ≡ None
unfolding row_fault unknown_fault
base_has_none = refl

base_is : data_of stock base ≡ record {
  limit = 4;
  liner = [];
  liner_in_wall = false;
  rules = no_rules;
  cases = record { kind = Resultants (pos 0) (pos 90000) (pos 0) (pos 0) (pos 0) (pos 0); factor = pos 5000 } ∷ [];
  panels = [];
}
base_is = refl

-- a liner of two plies, of which one is laid twice; `stiff` inside or outside; counts in the order of their keys' bytes
abbrev full : Members
full = job_with
    (one (table (member (codes "axial") (integer (negsuc 9999)) (member (codes "diameter") (integer (pos 2400)) (member (codes "ends") (string (codes "open"))
    (member (codes "factor") (integer (pos 10000)) (member (codes "kind") (string (codes "cylinder")) (member (codes "pressure") (integer (pos 60)) no_members))))))))
    (pos 9)
    (member (codes "liner") (table (member (codes "in_wall") (boolean true) (member (codes "plies") (array (item (string (codes "stiff")) (item (string (codes "stiff")) no_items))) no_members)))
    (member (codes "rules") (table (member (codes "counts") (table (member (codes "mat") (integer (pos 2)) (member (codes "stiff") (integer (pos 1)) no_members)))
    (member (codes "inner") (array (item (string (codes "stiff")) (item (string (codes "mat")) no_items))) (member (codes "outer") (one (string (codes "stiff"))) (member (codes "run") (integer (pos 3)) no_members)))))
    version))

full_has_none : job_fault stock full ≡ None
unfolding row_fault unknown_fault count_fault
full_has_none = refl

full_is : data_of stock full ≡ record {
  limit = 9;
  liner = number 1 ∷ number 1 ∷ [];
  liner_in_wall = true;
  rules = record no_rules { inner = Some (record { 0 = 3 }); outer = Some (record { 0 = 2 }); run = Some 3; counts = (number 0, 2) ∷ (number 1, 1) ∷ [] };
  cases = record { kind = Cylinder (pos 60) (pos 2400) false (negsuc 9999) (pos 0) (pos 0); factor = pos 10000 } ∷ [];
  panels = [];
}
full_is = refl

-- ---- each number stands at its own place

abbrev number_at : List ℕ → ℕ → Members → Members
number_at key n ms = member key (integer (pos n)) ms

abbrev kind_is : List ℕ → Members → Members
kind_is kind ms = member (codes "kind") (string kind) ms

-- six resultants; a pressure on closed ends with all that may stand beside it
abbrev each_case : Items
each_case =
    item (table (number_at (codes "factor") 5000 (kind_is (codes "resultants") (number_at (codes "mx") 14 (number_at (codes "mxy") 16 (number_at (codes "my") 15
    (number_at (codes "nx") 11 (number_at (codes "nxy") 13 (number_at (codes "ny") 12 no_members)))))))))
    (item (table (number_at (codes "axial") 23 (number_at (codes "diameter") 22 (member (codes "ends") (string (codes "closed")) (number_at (codes "factor") 6000
    (kind_is (codes "cylinder") (number_at (codes "mx") 24 (number_at (codes "my") 25 (number_at (codes "pressure") 21 no_members)))))))))
    no_items)

abbrev each_panel : Items
each_panel = item (table (number_at (codes "factor") 2000 (number_at (codes "length") 71 (number_at (codes "load") 73 (number_at (codes "width") 72 no_members))))) no_items

abbrev each_rule : Members
each_rule = member (codes "balanced") (boolean true) (number_at (codes "fewest") 32 (number_at (codes "run") 31 (member (codes "symmetric") (boolean true) (number_at (codes "thickness") 33 no_members))))

each_is : data_of stock (job_with (array each_case) (pos 4) (member (codes "panel") (array each_panel) (member (codes "rules") (table each_rule) version))) ≡ record {
  limit = 4;
  liner = [];
  liner_in_wall = false;
  rules = record no_rules { symmetric = true; balanced = true; run = Some 31; fewest = Some 32; thickness = Some (pos 33) };
  cases = record { kind = Resultants (pos 11) (pos 12) (pos 13) (pos 14) (pos 15) (pos 16); factor = pos 5000 }
      ∷ record { kind = Cylinder (pos 21) (pos 22) true (pos 23) (pos 24) (pos 25); factor = pos 6000 } ∷ [];
  panels = record { length = pos 71; width = pos 72; load = pos 73; factor = pos 2000 } ∷ [];
}
each_is = refl

-- ---- first faults

abbrev Told : Members → JobTable → ℕ → JobKey → JobCause → Type 0
Told ms of n key why = job_fault stock ms ≡ Some (fault_at (numbered of n) key why)

a_limit_of_57 : Told (job_with (one hoop) (pos 57) version) at.Top 0 key.Limit cause.Range
unfolding row_fault unknown_fault
a_limit_of_57 = refl

-- a planted mistake, that 57 may be asked, is refused
not_57 : ¬ (job_fault stock (job_with (one hoop) (pos 57) version) ≡ None)
unfolding row_fault unknown_fault
not_57 e = cc

no_version : Told (job_with (one hoop) (pos 4) no_members) at.Top 0 key.Version cause.Missing
unfolding row_fault unknown_fault
no_version = refl

-- the version comes before the limit, whatever the order in the file
version_before_limit : Told (job_with (one hoop) (pos 0) (member (codes "version") (integer (pos 2)) no_members)) at.Top 0 key.Version cause.Range
unfolding row_fault unknown_fault
version_before_limit = refl

-- an unknown key of the top comes before the type of the liner
unknown_before_liner : Told (job_with (one hoop) (pos 4) (member (codes "liner") text (member (codes "rule") text version))) at.Top 0 key.Other cause.Unknown
unfolding row_fault unknown_fault
unknown_before_liner = refl

a_liner_that_is_a_text : Told (lined text) at.Liner 0 key.Other cause.Kind
unfolding row_fault unknown_fault
a_liner_that_is_a_text = refl

a_ply_that_is_no_item : Told (lined (table (member (codes "plies") (one text) no_members))) at.Liner 0 key.Plies cause.Item
unfolding row_fault unknown_fault
a_ply_that_is_no_item = refl

no_inner_item : Told (ruled (member (codes "inner") (array no_items) no_members)) at.Rules 0 key.Inner cause.Range
unfolding row_fault unknown_fault
no_inner_item = refl

-- an unknown key of the rules comes before the type of the counts
unknown_before_counts : Told (ruled (member (codes "counts") text (member (codes "counted") text no_members))) at.Rules 0 key.Other cause.Unknown
unfolding row_fault unknown_fault
unknown_before_counts = refl

counts_that_are_a_text : Told (ruled (member (codes "counts") text no_members)) at.Counts 0 key.Other cause.Kind
unfolding row_fault unknown_fault
counts_that_are_a_text = refl

-- the second count names no item, but its number is looked at first
a_count_of_0 : Told (ruled (member (codes "counts") (table (member (codes "mat") (integer (pos 1)) (member (codes "mut") (integer (pos 0)) no_members))) no_members)) at.Counts 2 key.Count cause.Range
unfolding row_fault unknown_fault count_fault
a_count_of_0 = refl

a_count_of_no_item : Told (ruled (member (codes "counts") (table (member (codes "mat") (integer (pos 1)) (member (codes "mut") (integer (pos 1)) no_members))) no_members)) at.Counts 2 key.Count cause.Item
unfolding row_fault unknown_fault count_fault
a_count_of_no_item = refl

no_cases : Told (member (codes "limit") (integer (pos 4)) version) at.Case 0 key.Other cause.Missing
unfolding row_fault unknown_fault
no_cases = refl

no_case_in_the_list : Told (job_with (array no_items) (pos 4) version) at.Case 0 key.Other cause.Range
unfolding row_fault unknown_fault
no_case_in_the_list = refl

cases_that_are_a_table : Told (job_with hoop (pos 4) version) at.Case 0 key.Other cause.Kind
unfolding row_fault unknown_fault
cases_that_are_a_table = refl

-- a fraction is none of the numbers
a_fraction : (x : Float) → Told (job_with (one (table (member (codes "factor") (integer (pos 5000)) (member (codes "kind") (string (codes "resultants")) (member (codes "ny") (float x) no_members))))) (pos 4) version)
    at.Case 1 key.Ny cause.Kind
unfolding row_fault unknown_fault
a_fraction x = refl

no_factor : Told (job_with (array (item hoop (item (table (member (codes "kind") (string (codes "resultants")) no_members)) no_items))) (pos 4) version) at.Case 2 key.Factor cause.Missing
unfolding row_fault unknown_fault
no_factor = refl

a_colour : Told (job_with (one (case_with (member (codes "colour") (integer (pos 1))))) (pos 4) version) at.Case 1 key.Other cause.Unknown
unfolding row_fault unknown_fault
a_colour = refl

-- a member that is a number comes after the causes of the case before it
a_number_behind_a_case : Told (job_with (array (item (table no_members) (item (integer (pos 1)) no_items))) (pos 4) version) at.Case 1 key.Kind cause.Missing
unfolding row_fault unknown_fault
a_number_behind_a_case = refl

-- ---- from bytes

from_bytes : parse_document (codes "version = 1\nlimit = 4\n[[case]]\nkind = \"resultants\"\nny = 90000\nfactor = 5000\n") ≡ Some base
unfolding toml_on_literals
from_bytes = refl
