-- The text of a sample's catalogue: its lines, and their fields.
use Rattle.std.specs.Prelude.{ℕ, zero, suc, ◌+◌, List, [], ◌∷◌, ◌++◌, codes}
use Rattle.std.specs.Fmt.{decimal}
use Rattle.lam_stock.specs.Catalogue.{column_names}
use Rattle.lam_sample.specs.declared.items.Drawn.{Drawn}
use Rattle.lam_sample.specs.Draws.{steps}
use Rattle.lam_sample.specs.SampleStock.{drawn_after}

-- the fields of an item's record
abbrev pub fields_of : ℕ → Drawn → List (List ℕ)
fields_of k d =
    (codes "i" ++ decimal k) ∷ codes "pair" ∷ decimal d.e1 ∷ decimal d.e2 ∷ codes "200" ∷ decimal d.g12 ∷ decimal d.xt ∷ decimal d.xc
    ∷ decimal d.yt ∷ decimal d.yc ∷ decimal d.s ∷ codes "0" ∷ decimal d.t ∷ decimal d.direction.p ∷ decimal d.direction.q
    ∷ decimal d.direction.h ∷ decimal d.cost ∷ []

-- a record of fields that call for no quotes, and then more text
abbrev pub line_of : List (List ℕ) → List ℕ → List ℕ
line_of [] more = 10 ∷ more
line_of (field ∷ []) more = field ++ 10 ∷ more
line_of (field ∷ next ∷ rest) more = field ++ 44 ∷ line_of (next ∷ rest) more

-- the records of so many items, numbered from k on, drawn one after the other after a state
unfoldable pub lines_after : ℕ → ℕ → ℕ → List ℕ
lines_after zero k x = []
lines_after (suc more) k x = line_of (fields_of k (drawn_after x)) (lines_after more (k + 1) (steps 11 x))

-- the names of the columns, and six items
unfoldable pub stock_text : ℕ → List ℕ
stock_text x = line_of column_names (lines_after 6 1 x)
