-- The tables of a job: at each key, in the order in which the keys are looked at, what may stand there.
use Rattle.std.specs.Prelude.{ℕ, ℤ, pos, neg_ℤ, List, [], ◌∷◌, Bool, true, false, codes}
use Rattle.lam_stock.specs.declared.item.Item.{Item}
use Rattle.lam_job.specs.declared.fault.JobKey.{JobKey}
use Rattle.lam_job.specs.declared.fault.JobKey.TheVariants as key
use Rattle.lam_job.specs.declared.fault.JobTable.{JobTable}
use Rattle.lam_job.specs.declared.fault.JobTable.TheVariants as at
use Rattle.lam_job.specs.declared.limits.TheConstants.{GREATEST_FORCE, GREATEST_MOMENT, GREATEST_PRESSURE, GREATEST_DIAMETER, LEAST_FACTOR, GREATEST_FACTOR, LEAST_SIDE, GREATEST_SIDE, GREATEST_PANEL_LOAD, GREATEST_ASKED_THICKNESS, MOST_PLIES, MOST_LINER_PLIES, MOST_NAMES}

-- ---- texts

-- the text of a table's key
abbrev pub table_text : JobTable → List ℕ
table_text at.Top = codes "top"
table_text at.Liner = codes "liner"
table_text at.Rules = codes "rules"
table_text at.Counts = codes "counts"
table_text at.Case = codes "case"
table_text at.Panel = codes "panel"

-- the text of a key; a count's own key is the name of its item
abbrev pub key_text : JobKey → List ℕ
key_text key.Other = []
key_text key.Version = codes "version"
key_text key.Limit = codes "limit"
key_text key.Plies = codes "plies"
key_text key.InWall = codes "in_wall"
key_text key.Inner = codes "inner"
key_text key.Outer = codes "outer"
key_text key.Symmetric = codes "symmetric"
key_text key.Balanced = codes "balanced"
key_text key.Run = codes "run"
key_text key.Fewest = codes "fewest"
key_text key.Thickness = codes "thickness"
key_text key.Count = codes "count"
key_text key.Kind = codes "kind"
key_text key.Nx = codes "nx"
key_text key.Ny = codes "ny"
key_text key.Nxy = codes "nxy"
key_text key.Mx = codes "mx"
key_text key.My = codes "my"
key_text key.Mxy = codes "mxy"
key_text key.Pressure = codes "pressure"
key_text key.Diameter = codes "diameter"
key_text key.Ends = codes "ends"
key_text key.Axial = codes "axial"
key_text key.Factor = codes "factor"
key_text key.Length = codes "length"
key_text key.Width = codes "width"
key_text key.Load = codes "load"

-- ---- rows

-- what a value has to be: a whole number in a range, a truth value, one of some texts, or a list of so many names of
-- items of a catalogue
pub data Form : Type 0 where
  whole : (least greatest : ℤ) → Form
  truth : Form
  one_of : List (List ℕ) → Form
  names : (stock : List Item) (least most : ℕ) → Form

-- a key, what stands at it, and whether it has to be there
pub record Row : Type 0 where
  pub key : JobKey
  pub form : Form
  pub required : Bool

abbrev pub must : JobKey → Form → Row
must key form = record { key = key; form = form; required = true }

abbrev pub may : JobKey → Form → Row
may key form = record { key = key; form = form; required = false }

-- ---- ranges

abbrev pub ply_number : Form
ply_number = whole (pos 1) (pos MOST_PLIES)

-- in N/m
abbrev pub force : Form
force = whole (neg_ℤ GREATEST_FORCE) GREATEST_FORCE

-- in mN
abbrev pub moment : Form
moment = whole (neg_ℤ GREATEST_MOMENT) GREATEST_MOMENT

-- in thousandths
abbrev pub factor : Form
factor = whole LEAST_FACTOR GREATEST_FACTOR

-- in mm
abbrev pub side : Form
side = whole LEAST_SIDE GREATEST_SIDE

abbrev pub some_items : List Item → Form
some_items stock = names stock 1 MOST_NAMES

-- ---- the tables

abbrev pub top_rows : List Row
top_rows =
    must key.Version (whole (pos 1) (pos 1))
    ∷ must key.Limit ply_number
    ∷ []

-- the tables that stand at keys of the top
abbrev pub top_tables : List JobTable
top_tables = at.Liner ∷ at.Rules ∷ at.Case ∷ at.Panel ∷ []

abbrev pub liner_rows : List Item → List Row
liner_rows stock =
    may key.Plies (names stock 0 MOST_LINER_PLIES)
    ∷ may key.InWall truth
    ∷ []

-- the thickness in µm
abbrev pub rule_rows : List Item → List Row
rule_rows stock =
    may key.Inner (some_items stock)
    ∷ may key.Outer (some_items stock)
    ∷ may key.Symmetric truth
    ∷ may key.Balanced truth
    ∷ may key.Run ply_number
    ∷ may key.Fewest ply_number
    ∷ may key.Thickness (whole (pos 1) GREATEST_ASKED_THICKNESS)
    ∷ []

-- the table that stands at a key of the rules
abbrev pub rule_tables : List JobTable
rule_tables = at.Counts ∷ []

-- the key of each case, and those of its kind besides
abbrev pub kind_row : Row
kind_row = must key.Kind (one_of (codes "cylinder" ∷ codes "resultants" ∷ []))

abbrev pub resultants_rows : List Row
resultants_rows =
    may key.Nx force
    ∷ may key.Ny force
    ∷ may key.Nxy force
    ∷ may key.Mx moment
    ∷ may key.My moment
    ∷ may key.Mxy moment
    ∷ must key.Factor factor
    ∷ []

-- the pressure in kPa, the diameter in mm
abbrev pub cylinder_rows : List Row
cylinder_rows =
    may key.Mx moment
    ∷ may key.My moment
    ∷ must key.Pressure (whole (pos 0) GREATEST_PRESSURE)
    ∷ must key.Diameter (whole (pos 1) GREATEST_DIAMETER)
    ∷ must key.Ends (one_of (codes "closed" ∷ codes "open" ∷ []))
    ∷ may key.Axial force
    ∷ must key.Factor factor
    ∷ []

-- the load in N/m
abbrev pub panel_rows : List Row
panel_rows =
    must key.Length side
    ∷ must key.Width side
    ∷ must key.Load (whole (pos 1) GREATEST_PANEL_LOAD)
    ∷ must key.Factor factor
    ∷ []
