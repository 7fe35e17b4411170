-- The document of a sample's job, as TOML has it.
use Rattle.std.specs.Prelude.{ℕ, pos, List, codes, true}
use Rattle.std.specs.Ordering.{nat_cmp, match_ordering}
use Rattle.std.specs.Cmp.Lexicographic.{slice_cmp}
use Rattle.toml.specs.Data.{Data, string, integer, boolean, array, table, no_items, item, Members, no_members, member}
use Rattle.lam_sample.specs.declared.loads.Loads.{Loads}

-- the members with a value at a key, at its place in the order of the keys
abbrev pub with_member : List ℕ → Data → Members → Members
with_member k d no_members = member k d no_members
with_member k d (member l e ms) = match_ordering (slice_cmp nat_cmp k l) (member k d (member l e ms)) (member l d ms) (member l e (with_member k d ms))

abbrev pub cylinder_members : Loads → Members
cylinder_members l =
    member (codes "diameter") (integer (pos l.diameter))
    (member (codes "ends") (string (codes "closed"))
    (member (codes "factor") (integer (pos 4000))
    (member (codes "kind") (string (codes "cylinder"))
    (member (codes "pressure") (integer (pos l.pressure)) no_members))))

abbrev pub resultants_members : Loads → Members
resultants_members l =
    member (codes "factor") (integer (pos 3000))
    (member (codes "kind") (string (codes "resultants"))
    (member (codes "nx") (integer (pos l.nx))
    (member (codes "nxy") (integer (pos l.nxy)) no_members)))

abbrev pub rules_members : Members
rules_members = member (codes "symmetric") (boolean true) no_members

abbrev pub cases_data : Loads → Data
cases_data l = array (item (table (cylinder_members l)) (item (table (resultants_members l)) no_items))

abbrev pub job_members : Loads → Members
job_members l =
    member (codes "case") (cases_data l)
    (member (codes "limit") (integer (pos 10))
    (member (codes "rules") (table rules_members)
    (member (codes "version") (integer (pos 1)) no_members)))
