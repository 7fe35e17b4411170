-- How the words of a node's line are read. Each answers what it reads, and the words that are left.
use Rattle.std.specs.Prelude.{◌≡◌, ℕ, ◌+◌, ◌-◌, nat_le, Bool, true, ◌&&◌, refl, if◌then◌else◌, List, [], ◌∷◌, ℤ, unsigned_abs, Option, Some, None, codes}
use Rattle.std.specs.Str.{bytes_eq}
use Rattle.std.proofs.lemmas.Bool.{leb-true}
use Rattle.lam_stock.specs.Field.{whole_of, number_of}
use Rattle.lam_support.specs.declared.weight.Weight.{Weight}
use Rattle.lam_tsai.specs.declared.place.Side.{Side}
use Rattle.lam_tsai.specs.declared.place.Side.TheVariants.{Plus, Minus}
use Rattle.lam_tsai.specs.declared.place.FaceSide.{FaceSide}
use Rattle.lam_tsai.specs.declared.place.FaceSide.TheVariants.{Inner, Outer}
use Rattle.lam_tsai.specs.declared.place.Place.{Place}
use Rattle.lam_tree.specs.declared.limits.TheConstants.{MOST_RULES}
use Rattle.lam_job.specs.declared.limits.TheConstants.{MOST_PLIES, MOST_CASES, MOST_WALL_PLIES, MOST_PANELS}
use Rattle.lam_tree.specs.declared.spot.Spot.{Spot}
use Rattle.lam_tree.specs.declared.spot.Spot.TheVariants as spot
use Rattle.lam_tree.specs.declared.node.Node.{Node}
use Rattle.lam_tree.specs.declared.node.Seat.{Seat}
use Rattle.lam_tree.specs.declared.node.Seat.TheVariants as seat
use Rattle.lam_tree.specs.declared.node.Word.{Word}
use Rattle.lam_tree.specs.declared.node.Word.TheVariants as word
use Rattle.lam_tree.specs.declared.read.Keyword.{Keyword}
use Rattle.lam_tree.specs.declared.read.Keyword.TheVariants as key
use Rattle.lam_tree.specs.inside.Cut.{Words, is_empty, words_of}

abbrev pub Read : Type 0 → Type 0
Read X = Option (X × Words)

-- a call read so, and so many words are left; where it answers none, that is all
abbrev pub Reads : {X : Type 0} → Option X → (left : Words) → Read X → Type 0
Reads None left read = read ≡ None
Reads (Some x) left read = read ≡ Some (x, left)

-- go on with what was read, if something was
abbrev pub then_read : {X Y : Type 0} → Read X → (X → Words → Option Y) → Option Y
then_read None next = None
then_read (Some (x, rest)) next = next x rest

abbrev pub first_word : Words → Read (List ℕ)
first_word [] = None
first_word (w ∷ rest) = Some (w, rest)

-- what a word names
abbrev pub first_named : {X : Type 0} → List (List ℕ × X) → List ℕ → Option X
first_named [] w = None
first_named (entry ∷ rest) w = if bytes_eq w entry.0 then Some entry.1 else first_named rest w

-- with the words that are left
abbrev pub with_left : {X : Type 0} → Words → Option X → Read X
with_left left None = None
with_left left (Some x) = Some (x, left)

-- ---- numbers

abbrev pub within : (low high : ℕ) → Option ℕ → Option ℕ
within low high None = None
within low high (Some n) = if nat_le low n && nat_le n high then Some n else None

unfoldable pub number_at : (low high : ℕ) → Words → Read ℕ
number_at low high words = then_read (first_word words) (λ w rest. with_left rest (within low high (whole_of w)))

-- counted from 0, printed from 1
unfoldable pub ordinal_at : (count : ℕ) → Words → Read ℕ
ordinal_at count words = then_read (number_at 1 count words) (λ n rest. Some (n - 1, rest))

unfoldable pub signed_at : Words → Read ℤ
signed_at words = then_read (first_word words) (λ w rest. with_left rest (number_of w))

-- a weight, if each part is from -100 to 100, and not all are 0
abbrev pub weight_by : (x y s : ℤ) (a b c d : Bool) → nat_le (unsigned_abs x) 100 ≡ a → nat_le (unsigned_abs y) 100 ≡ b → nat_le (unsigned_abs s) 100 ≡ c
    → nat_le 1 (unsigned_abs x + unsigned_abs y + unsigned_abs s) ≡ d → Option Weight
weight_by x y s true true true true hx hy hs some = Some (record {
  x = x;
  y = y;
  s = s;
  x_range = leb-true (unsigned_abs x) 100 hx;
  y_range = leb-true (unsigned_abs y) 100 hy;
  s_range = leb-true (unsigned_abs s) 100 hs;
  some = leb-true 1 (unsigned_abs x + unsigned_abs y + unsigned_abs s) some;
})
weight_by x y s a b c d hx hy hs some = None

unfoldable pub weight_of : (x y s : ℤ) → Option Weight
weight_of x y s =
    weight_by x y s (nat_le (unsigned_abs x) 100) (nat_le (unsigned_abs y) 100) (nat_le (unsigned_abs s) 100)
    (nat_le 1 (unsigned_abs x + unsigned_abs y + unsigned_abs s)) refl refl refl refl

unfoldable pub weight_at : Words → Read Weight
weight_at words =
    then_read (signed_at words) (λ x rest. then_read (signed_at rest) (λ y rest. then_read (signed_at rest) (λ s rest.
    with_left rest (weight_of x y s))))

-- ---- places

abbrev pub faces : List (List ℕ × FaceSide)
faces = (codes "inner", Inner) ∷ (codes "outer", Outer) ∷ []

abbrev pub sides : List (List ℕ × Side)
sides = (codes "plus", Plus) ∷ (codes "minus", Minus) ∷ []

unfoldable pub face_at : Words → Read FaceSide
face_at words = then_read (first_word words) (λ w rest. with_left rest (first_named faces w))

unfoldable pub side_at : Words → Read Side
side_at words = then_read (first_word words) (λ w rest. with_left rest (first_named sides w))

unfoldable pub place_at : Words → Read Place
place_at words =
    then_read (ordinal_at MOST_CASES words) (λ case rest. then_read (ordinal_at MOST_WALL_PLIES rest) (λ ply rest.
    then_read (face_at rest) (λ face rest. then_read (side_at rest) (λ side rest.
    Some (record { case = case; ply = ply; face = face; side = side }, rest)))))

abbrev pub spot_named : List ℕ → Words → Read Spot
spot_named w words =
    if bytes_eq w (codes "ply") then then_read (place_at words) (λ at rest. Some (spot.Ply at, rest))
    else if bytes_eq w (codes "panel") then then_read (ordinal_at MOST_PANELS words) (λ panel rest. Some (spot.Panel panel, rest))
    else None

unfoldable pub spot_at : Words → Read Spot
spot_at words = then_read (first_word words) spot_named

-- ---- nodes

abbrev pub seat_named : (items : ℕ) → List ℕ → Words → Read Seat
seat_named items w words =
    if bytes_eq w (codes "length") then then_read (number_at 1 MOST_PLIES words) (λ n rest. Some (seat.Length n, rest))
    else if bytes_eq w (codes "item") then then_read (ordinal_at items words) (λ i rest. Some (seat.Item (record { 0 = i }), rest))
    else None

unfoldable pub seat_at : (items : ℕ) → Words → Read Seat
seat_at items words = then_read (first_word words) (seat_named items)

abbrev pub later_keywords : List (List ℕ × Keyword)
later_keywords =
    (codes "box", key.Box) ∷ (codes "range", key.Range) ∷ (codes "fails", key.Fails) ∷ (codes "buckles", key.Buckles)
    ∷ (codes "straddles", key.Straddles) ∷ (codes "admissible", key.Admissible) ∷ []

abbrev pub keywords : List (List ℕ × Keyword)
keywords =
    (codes "split", key.Split) ∷ (codes "cost", key.Cost) ∷ (codes "rule", key.Rule) ∷ (codes "netshort", key.NetShort)
    ∷ (codes "netcost", key.NetCost) ∷ later_keywords

unfoldable pub keyword_at : Words → Read Keyword
keyword_at words = then_read (first_word words) (λ w rest. with_left rest (first_named keywords w))

abbrev pub word_after : Keyword → Words → Read Word
word_after key.Split words = Some (word.Split, words)
word_after key.Cost words = Some (word.Cost, words)
word_after key.Rule words = then_read (number_at 1 MOST_RULES words) (λ rule rest. Some (word.Rule (record { 0 = rule }), rest))
word_after key.NetShort words =
    then_read (ordinal_at MOST_CASES words) (λ case rest. then_read (weight_at rest) (λ w rest. Some (word.NetShort case w, rest)))
word_after key.NetCost words =
    then_read (ordinal_at MOST_CASES words) (λ case rest. then_read (weight_at rest) (λ w rest. Some (word.NetCost case w, rest)))
word_after key.Box words = then_read (place_at words) (λ at rest. Some (word.Box at, rest))
word_after key.Range words = then_read (ordinal_at MOST_CASES words) (λ case rest. Some (word.Range case, rest))
word_after key.Fails words = then_read (place_at words) (λ at rest. Some (word.Fails at, rest))
word_after key.Buckles words = then_read (ordinal_at MOST_PANELS words) (λ panel rest. Some (word.Buckles panel, rest))
word_after key.Straddles words = then_read (spot_at words) (λ at rest. Some (word.Straddles at, rest))
word_after key.Admissible words = Some (word.Admissible, words)

unfoldable pub word_at : Words → Read Word
word_at words = then_read (keyword_at words) word_after

unfoldable pub node_at : (items : ℕ) → Words → Read Node
node_at items words =
    then_read (seat_at items words) (λ at rest. then_read (word_at rest) (λ word rest. Some (record { seat = at; word = word }, rest)))

-- no word is left
abbrev pub whole : {X : Type 0} → Read X → Option X
whole None = None
whole (Some (x, rest)) = if is_empty rest then Some x else None

unfoldable pub node_of : (items : ℕ) → List ℕ → Option Node
node_of items line = whole (node_at items (words_of line))
