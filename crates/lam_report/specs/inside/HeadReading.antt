-- How the lines of a report are read, each by itself.
use Rattle.std.specs.Prelude.{◌==◌, ℕ, ◌+◌, ◌-◌, ◌*◌, nat_le, Bool, true, false, ◌&&◌, if◌then◌else◌, List, [], ◌∷◌, length, take, drop, slice_index, Option, Some, None, codes}
use Rattle.std.specs.Str.{bytes_eq}
use Rattle.lam_stock.specs.Field.{is_digit, whole_of}
use Rattle.lam_stock.specs.Likeness.{place_of}
use Rattle.lam_stock.specs.declared.item.Item.{Item}
use Rattle.lam_stock.specs.declared.item.ItemNo.{ItemNo}
use Rattle.lam_job.specs.declared.limits.TheConstants.{MOST_PLIES}
use Rattle.lam_tree.specs.declared.limits.TheConstants.{MOST_COST, MOST_RATIO}
use Rattle.lam_tree.specs.declared.spot.Spot.{Spot}
use Rattle.lam_tree.specs.inside.Cut.{Words, words_of}
use Rattle.lam_tree.specs.inside.LineReading.{Read, then_read, first_word, with_left, number_at, spot_at, whole}
use Rattle.lam_report.specs.declared.spelled.AnswerKind.{AnswerKind}
use Rattle.lam_report.specs.declared.spelled.AnswerKind.TheVariants as kind

-- ---- lines that are one text

abbrev pub is_text : (text line : List ℕ) → Option (Unit {0})
is_text text line = if bytes_eq line text then Some tt else None

abbrev pub kinds : List (List ℕ × AnswerKind)
kinds =
    (codes "answer least", kind.Least) ∷ (codes "answer none", kind.NoneMeets) ∷ (codes "answer open budget", kind.OpenBudget)
    ∷ (codes "answer open straddle", kind.OpenStraddle) ∷ []

-- ---- lines of a word and what stands behind it

-- the words behind a first one
unfoldable pub words_behind : (word line : List ℕ) → Option Words
words_behind word line = then_read (first_word (words_of line)) (λ w rest. if bytes_eq w word then Some rest else None)

abbrev pub begins_so : Option Words → Bool
begins_so None = false
begins_so (Some words) = true

-- all of the words behind one are read so
abbrev pub then_all : {X : Type 0} → Option Words → (Words → Read X) → Option X
then_all None read = None
then_all (Some words) read = whole (read words)

unfoldable pub number_in : (word : List ℕ) → (low high : ℕ) → List ℕ → Option ℕ
number_in word low high line = then_all (words_behind word line) (number_at low high)

-- ---- ratios

-- what three digits behind a point say
unfoldable pub thousandths : List ℕ → Option ℕ
thousandths end =
    if (length end == 4) && (slice_index end 0 == 46) && is_digit (slice_index end 1) && is_digit (slice_index end 2) && is_digit (slice_index end 3)
    then Some ((slice_index end 1 - 48) * 100 + (slice_index end 2 - 48) * 10 + (slice_index end 3 - 48))
    else None

abbrev pub small_ratio : Option ℕ → Option ℕ → Option ℕ
small_ratio (Some n) (Some m) = if nat_le (n * 1000 + m) MOST_RATIO then Some (n * 1000 + m) else None
small_ratio (Some n) None = None
small_ratio None m = None

unfoldable pub ratio_of : List ℕ → Option ℕ
ratio_of word = small_ratio (whole_of (take (length word - 4) word)) (thousandths (drop (length word - 4) word))

unfoldable pub ratio_at : Words → Read ℕ
ratio_at words = then_read (first_word words) (λ w rest. with_left rest (ratio_of w))

-- behind the due numbers
unfoldable pub ratio_in : (case ply : ℕ) → List ℕ → Option ℕ
ratio_in case ply line =
    then_all (words_behind (codes "ratio") line) (λ words. then_read (number_at (case + 1) (case + 1) words) (λ c rest.
    then_read (number_at (ply + 1) (ply + 1) rest) (λ p rest. ratio_at rest)))

unfoldable pub panel_in : (panel : ℕ) → List ℕ → Option ℕ
panel_in panel line =
    then_all (words_behind (codes "panel") line) (λ words. then_read (number_at (panel + 1) (panel + 1) words) (λ k rest. ratio_at rest))

-- ---- names

abbrev pub number_of_place : Option ℕ → Option ItemNo
number_of_place None = None
number_of_place (Some k) = Some (record { 0 = k })

abbrev pub item_of : List Item → List ℕ → Option ItemNo
item_of stock name = number_of_place (place_of name stock)

abbrev pub before : Option ItemNo → Option (List ItemNo) → Option (List ItemNo)
before (Some item) (Some rest) = Some (item ∷ rest)
before (Some item) None = None
before None rest = None

abbrev pub items_of : List Item → Words → Option (List ItemNo)
items_of stock [] = Some []
items_of stock (w ∷ words) = before (item_of stock w) (items_of stock words)

unfoldable pub listed_of : List Item → Words → Option (List ItemNo)
listed_of stock words = if nat_le 1 (length words) && nat_le (length words) MOST_PLIES then items_of stock words else None

abbrev pub then_listed : List Item → Option Words → Option (List ItemNo)
then_listed stock None = None
then_listed stock (Some words) = listed_of stock words

unfoldable pub names_in : (word : List ℕ) → List Item → List ℕ → Option (List ItemNo)
names_in word stock line = then_listed stock (words_behind word line)

-- ---- the near line: a cost and a spot

unfoldable pub near_in : List ℕ → Option (ℕ × Spot)
near_in line =
    then_all (words_behind (codes "near") line) (λ words. then_read (number_at 0 MOST_COST words) (λ cost rest.
    then_read (spot_at rest) (λ at rest. Some ((cost, at), rest))))
