-- The items, walls and cases that the definitions are tried on.
use Rattle.std.proofs.Common.{ℤ, pos, negsuc, ℕ, Bool, false, List, [], ◌∷◌, Some, None}
use Rattle.lam_direction.specs.Circle.{CirclePoint}
use Rattle.lam_stock.specs.declared.item.Item.{Item}
use Rattle.lam_stock.specs.declared.item.ItemNo.{ItemNo}
use Rattle.lam_stock.specs.declared.item.Lamina.{Lamina}
use Rattle.lam_stock.specs.declared.item.Kind.{Kind}
use Rattle.lam_stock.specs.declared.item.Kind.TheVariants.{Ply, Pair}
use Rattle.lam_job.specs.declared.load.Load.{Load}
use Rattle.lam_job.specs.declared.case.CaseKind.TheVariants.{Resultants}
use Rattle.lam_job.specs.JobData.{CaseData, PanelData, RuleData, JobData}

-- the same moduli and strengths along and across, no Poisson's ratio, 5 mm thick
abbrev pub even_lamina : (e g : ℤ) → Lamina
even_lamina e g = record { e1 = e; e2 = e; n12 = pos 0; g12 = g; xt = pos 100000; xc = pos 100000; yt = pos 100000; yc = pos 100000; s = pos 50000; f12 = pos 0; t = pos 5000 }

abbrev pub direction : (p q h : ℤ) → CirclePoint
direction p q h = record { p = p; q = q; h = h }

abbrev pub item : Kind → Lamina → CirclePoint → ℕ → Item
item kind lamina dir cost = record { name = []; kind = kind; lamina = lamina; dir = dir; cost = cost }

abbrev pub mat : Item
mat = item Ply (even_lamina (pos 10000) (pos 5000)) (direction (pos 1) (pos 0) (pos 1)) 10

abbrev pub stiff : Item
stiff = item Ply (even_lamina (pos 20000) (pos 10000)) (direction (pos 1) (pos 0) (pos 1)) 30

-- a slanted ply, its mirror image, and both in one layer
abbrev pub lean : Item
lean = item Ply (even_lamina (pos 10000) (pos 5000)) (direction (pos 3) (pos 4) (pos 5)) 20

abbrev pub lean_back : Item
lean_back = item Ply (even_lamina (pos 10000) (pos 5000)) (direction (pos 3) (negsuc 3) (pos 5)) 20

abbrev pub pair : Item
pair = item Pair (even_lamina (pos 10000) (pos 5000)) (direction (pos 3) (pos 4) (pos 5)) 50

abbrev pub catalogue : List Item
catalogue = mat ∷ lean ∷ lean_back ∷ pair ∷ stiff ∷ []

abbrev pub two_mats : List Item
two_mats = mat ∷ mat ∷ []

abbrev pub number : ℕ → ItemNo
number n = record { 0 = n }

abbrev pub forces : (nx ny nxy : ℤ) → Load
forces nx ny nxy = record { nx = nx; ny = ny; nxy = nxy; mx = pos 0; my = pos 0; mxy = pos 0 }

abbrev pub moments : (mx my mxy : ℤ) → Load
moments mx my mxy = record { nx = pos 0; ny = pos 0; nxy = pos 0; mx = mx; my = my; mxy = mxy }

-- 3 mm of glass, stiffer along than across
abbrev pub glass : Item
glass = item Ply (record { e1 = pos 40000; e2 = pos 10000; n12 = pos 250; g12 = pos 4000; xt = pos 800000; xc = pos 500000; yt = pos 35000; yc = pos 110000; s = pos 50000; f12 = pos 0; t = pos 3000 }) (direction (pos 1) (pos 0) (pos 1)) 30

abbrev pub square : PanelData
square = record { length = pos 500; width = pos 500; load = pos 50000; factor = pos 2000 }

abbrev pub long : PanelData
long = record square { length = pos 1000 }

-- a force in N/m round the wall, at a factor
abbrev pub hoop_case_of : (force factor : ℤ) → CaseData
hoop_case_of force factor = record { kind = Resultants (pos 0) force (pos 0) (pos 0) (pos 0) (pos 0); factor = factor }

-- 90000 N/m round the wall, at a factor of 5
abbrev pub hoop_case : CaseData
hoop_case = hoop_case_of (pos 90000) (pos 5000)

-- the same at a factor of 6
abbrev pub hoop_case_at_6 : CaseData
hoop_case_at_6 = hoop_case_of (pos 90000) (pos 6000)

-- 100000 N/m, at a factor of 5
abbrev pub tied_case : CaseData
tied_case = hoop_case_of (pos 100000) (pos 5000)

-- 120000 N/m, at a factor of 5
abbrev pub heavy_case : CaseData
heavy_case = hoop_case_of (pos 120000) (pos 5000)

abbrev pub no_rules : RuleData
no_rules = record { inner = None; outer = None; symmetric = false; balanced = false; run = None; fewest = None; thickness = None; counts = [] }

-- so many plies of an item at least
abbrev pub count_of : ItemNo → ℕ → ItemNo × ℕ
count_of item least = record { 0 = item; 1 = least }

-- rules that ask a thickness in µm, the number of plies of an item, and symmetric schedules or not
abbrev pub rules_of : (symmetric : Bool) → ItemNo → RuleData
rules_of symmetric counted = record no_rules { symmetric = symmetric; thickness = Some (pos 25001); counts = count_of counted 4 ∷ [] }

-- a job of one case
abbrev pub job_of : (liner : List ItemNo) (liner_in_wall : Bool) → RuleData → List PanelData → JobData
job_of liner in_wall rules panels = record { limit = 9; liner = liner; liner_in_wall = in_wall; rules = rules; cases = hoop_case ∷ []; panels = panels }

-- a job of some cases without a rule, a liner or a panel, where a schedule may list so many plies
abbrev pub plain_job : (limit : ℕ) → List CaseData → JobData
plain_job limit cases = record (job_of [] false no_rules []) { limit = limit; cases = cases }
