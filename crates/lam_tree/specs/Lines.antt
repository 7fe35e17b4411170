-- The line of a node in a report: its words with one blank between each two.
use Rattle.std.specs.Prelude.{ℕ, ◌+◌, List, [], ◌∷◌, ◌++◌, codes, decimal}
use Rattle.std.specs.Fmt.{signed_decimal}
use Rattle.lam_support.specs.declared.weight.Weight.{Weight}
use Rattle.lam_tsai.specs.declared.place.Side.{Side}
use Rattle.lam_tsai.specs.declared.place.Side.TheVariants.{Plus, Minus}
use Rattle.lam_tsai.specs.declared.place.FaceSide.{FaceSide}
use Rattle.lam_tsai.specs.declared.place.FaceSide.TheVariants.{Inner, Outer}
use Rattle.lam_tsai.specs.declared.place.Place.{Place}
use Rattle.lam_tree.specs.declared.spot.Spot.{Spot}
use Rattle.lam_tree.specs.declared.spot.Spot.TheVariants.{Ply, Panel}
use Rattle.lam_tree.specs.declared.node.Node.{Node}
use Rattle.lam_tree.specs.declared.node.Seat.{Seat}
use Rattle.lam_tree.specs.declared.node.Seat.TheVariants as seat
use Rattle.lam_tree.specs.declared.node.Word.{Word}
use Rattle.lam_tree.specs.declared.node.Word.TheVariants as word

-- ---- lines

-- words, each with a blank before it
abbrev pub spaced : List (List ℕ) → List ℕ
spaced [] = []
spaced (w ∷ words) = 32 ∷ (w ++ spaced words)

abbrev pub line_of : List (List ℕ) → List ℕ
line_of [] = []
line_of (w ∷ words) = w ++ spaced words

-- ---- words

-- what is counted from 0 is printed from 1
abbrev pub ordinal : ℕ → List ℕ
ordinal n = decimal (n + 1)

abbrev pub face_word : FaceSide → List ℕ
face_word Inner = codes "inner"
face_word Outer = codes "outer"

abbrev pub side_word : Side → List ℕ
side_word Plus = codes "plus"
side_word Minus = codes "minus"

abbrev pub place_words : Place → List (List ℕ)
place_words at = ordinal at.case ∷ ordinal at.ply ∷ face_word at.face ∷ side_word at.side ∷ []

abbrev pub spot_words : Spot → List (List ℕ)
spot_words (Ply at) = codes "ply" ∷ place_words at
spot_words (Panel panel) = codes "panel" ∷ ordinal panel ∷ []

abbrev pub weight_words : Weight → List (List ℕ)
weight_words w = signed_decimal w.x ∷ signed_decimal w.y ∷ signed_decimal w.s ∷ []

abbrev pub seat_words : Seat → List (List ℕ)
seat_words (seat.Length n) = codes "length" ∷ decimal n ∷ []
seat_words (seat.Item i) = codes "item" ∷ ordinal i.0 ∷ []

abbrev pub word_words : Word → List (List ℕ)
word_words word.Split = codes "split" ∷ []
word_words word.Cost = codes "cost" ∷ []
word_words (word.Rule rule) = codes "rule" ∷ decimal rule.0 ∷ []
word_words (word.NetShort case w) = codes "netshort" ∷ ordinal case ∷ weight_words w
word_words (word.NetCost case w) = codes "netcost" ∷ ordinal case ∷ weight_words w
word_words (word.Box at) = codes "box" ∷ place_words at
word_words (word.Range case) = codes "range" ∷ ordinal case ∷ []
word_words (word.Fails at) = codes "fails" ∷ place_words at
word_words (word.Buckles panel) = codes "buckles" ∷ ordinal panel ∷ []
word_words (word.Straddles spot) = codes "straddles" ∷ spot_words spot
word_words word.Admissible = codes "admissible" ∷ []

abbrev pub node_line : Node → List ℕ
node_line node = line_of (seat_words node.seat ++ word_words node.word)
