-- Each line of a report is read as what it says, and no other line is.
use Rattle.std.proofs.Common.{◌≡◌, ◌∙◌, refl, sym, ap, ℕ, ◌^◌, ◌<◌, ◌≤◌, ◌==◌, nat_lt, Bool, true, false, not, List, [], ◌∷◌, ◌++◌, Option, Some, None, arith}
use Rattle.std.specs.Prelude.{if◌then◌else◌, codes, decimal, ⊤}
use Rattle.std.specs.List.{AllByRecursion, list_all}
use Rattle.std.specs.Str.{bytes_eq}
use Rattle.std.proofs.lemmas.Bool.Decides.{nat_tests}
use Rattle.std.proofs.lemmas.List.{append-nil}
use Rattle.std.proofs.lemmas.Option.{same_Some}
use Rattle.std.proofs.lemmas.Slice.Eq.{bytes_eq-Decides}
use Rattle.lam_stock.proofs.NumberLaws.{decimal_word}
use Rattle.lam_stock.proofs.Truth.{both-true}
use Rattle.lam_tree.specs.Lines.{line_of, spaced}
use Rattle.lam_tree.specs.inside.Cut.{Words, words_of}
use Rattle.lam_tree.specs.inside.LineReading.{Read, then_read, first_word, first_named, number_at, whole}
use Rattle.lam_tree.proofs.WordLaws.{is_word, line_again, words_again}
use Rattle.lam_tree.proofs.NodeLaws.{then_takes, first_takes, named_takes, whole_takes_all, is_text as same_text, number_takes, number_again}
use Rattle.lam_report.specs.ReportText.{number_line}
use Rattle.lam_report.specs.declared.spelled.AnswerKind.{AnswerKind}
use Rattle.lam_report.specs.declared.spelled.AnswerKind.TheVariants as kind
use Rattle.lam_report.specs.inside.HeadReading.{is_text, kinds, words_behind, then_all, number_in}
use Rattle.lam_report.proofs.CutLaws.{is_line}
use Rattle.lam_report.proofs.Parsing.{Spells}

-- ---- words make lines

plain_word : (w : List ℕ) → is_word w ≡ true → is_line w ≡ true
plain_word [] h = refl
plain_word (b ∷ bs) h =
    let parts = both-true (nat_lt 32 b) (list_all (λ c. nat_lt 32 c) bs) h in
    let first : nat_lt 32 b ≡ true = parts.0 in
    let one : not (b == 10) ≡ true = grind (arith, nat_tests) in
    let rest = plain_word bs parts.1 in
    rw (one, rest) refl

line-append : (a b : List ℕ) → is_line a ≡ true → is_line b ≡ true → is_line (a ++ b) ≡ true
line-append [] b one other = other
line-append (x ∷ xs) b one other =
    let parts = both-true (not (x == 10)) (is_line xs) one in
    let first = parts.0 in
    let rest = line-append xs b parts.1 other in
    rw (first, rest) refl

spaced_line : (ws : Words) → AllByRecursion (λ w. is_word w ≡ true) ws → is_line (spaced ws) ≡ true
spaced_line [] are = refl
spaced_line (w ∷ ws) are = line-append w (spaced ws) (plain_word w are.0) (spaced_line ws are.1)

pub words_line : (w : List ℕ) (ws : Words) → AllByRecursion (λ v. is_word v ≡ true) (w ∷ ws) → is_line (line_of (w ∷ ws)) ≡ true
words_line w ws are = line-append w (spaced ws) (plain_word w are.0) (spaced_line ws are.1)

-- ---- the words behind a first one

pub behind_takes : (word line : List ℕ) (words : Words) → words_behind word line ≡ Some words → line ≡ line_of (word ∷ words)
unfolding words_behind
behind_takes word line words e =
    let a = then_takes (first_word (words_of line)) (λ w rest. if bytes_eq w word then Some rest else None) words e in
    let cut = first_takes (words_of line) a.0 a.1 a.2 in
    by (bytes_eq a.0 word) refl a.0 a.1 cut a.3 where
      by : (t : Bool) (h : t ≡ t) (w : List ℕ) (rest : Words) → words_of line ≡ w ∷ rest → (if bytes_eq w word then Some rest else None) ≡ Some words
          → line ≡ line_of (word ∷ words)
      by t h w rest cut e = case (bytes_eq w word) refl e where
        case : (t : Bool) → bytes_eq w word ≡ t → (if t then Some rest else None) ≡ Some words → line ≡ line_of (word ∷ words)
        case true h e = sym (line_again line) ∙ ap line_of (cut ∙ ap (λ v. v ∷ rest) (same_text w word h) ∙ ap (λ t. word ∷ t) (same_Some rest words e))
        case false h e = absurd (let n : None ≡ Some words = e in cc)

pub behind_again : (word : List ℕ) (words : Words) → AllByRecursion (λ v. is_word v ≡ true) (word ∷ words) → words_behind word (line_of (word ∷ words)) ≡ Some words
unfolding words_behind
behind_again word words are =
    let same : bytes_eq word word ≡ true = grind (arith, bytes_eq-Decides word word) in
    ap (λ ws. then_read (first_word ws) (λ w rest. if bytes_eq w word then Some rest else None)) (words_again word words are)
    ∙ ap (λ (t : Bool). if t then Some words else None) same

-- another word
pub behind_other : (word own : List ℕ) (words : Words) → AllByRecursion (λ v. is_word v ≡ true) (own ∷ words) → bytes_eq own word ≡ false
    → words_behind word (line_of (own ∷ words)) ≡ None
unfolding words_behind
behind_other word own words are other =
    ap (λ ws. then_read (first_word ws) (λ w rest. if bytes_eq w word then Some rest else None)) (words_again own words are)
    ∙ ap (λ (t : Bool). if t then Some words else None) other

-- ---- a line of a word and what is read behind it

pub record ReadsWords {X : Type 0} (Fits : X → Type 0) (texts : X → Words) (read : Words → Read X) : Type 0 where
  pub takes : (ws : Words) (x : X) (rest : Words) → read ws ≡ Some (x, rest) → Fits x × (ws ≡ texts x ++ rest)
  pub again : (x : X) (rest : Words) → Fits x → read (texts x ++ rest) ≡ Some (x, rest)
  pub are : (x : X) → Fits x → AllByRecursion (λ w. is_word w ≡ true) (texts x)
  pub alive : (x : X) × Fits x

pub keyed_spells : {X : Type 0} (word : List ℕ) (Fits : X → Type 0) (texts : X → Words) (read : Words → Read X) → is_word word ≡ true → ReadsWords Fits texts read
    → Spells Fits (λ x. line_of (word ∷ texts x)) (λ line. then_all (words_behind word line) read)
keyed_spells {X} word Fits texts read own reads = record {
  takes = λ line x e. by line x (words_behind word line) refl e;
  again = λ x is. ap (λ o. then_all o read) (behind_again word (texts x) (own, reads.are x is))
      ∙ ap (λ ws. whole (read ws)) (sym (append-nil (texts x))) ∙ ap whole (reads.again x [] is);
  alive = reads.alive;
  line = λ x is. words_line word (texts x) (own, reads.are x is);
} where
  by : (line : List ℕ) (x : X) (o : Option Words) → words_behind word line ≡ o → then_all o read ≡ Some x → Fits x × (line ≡ line_of (word ∷ texts x))
  by line x None h e = absurd (let n : ◌≡◌ {A = Option X} None (Some x) = e in cc)
  by line x (Some words) h e =
      let took = reads.takes words x [] (whole_takes_all (read words) x e) in
      (took.0, behind_takes word line words h ∙ ap (λ ws. line_of (word ∷ ws)) (took.1 ∙ append-nil (texts x)))

-- ---- numbers

pub number_spells : (word : List ℕ) (low high : ℕ) → is_word word ≡ true → low ≤ high → high < 10 ^ 15
    → Spells (λ n. (low ≤ n) × (n ≤ high)) (number_line word) (number_in word low high)
unfolding number_in
number_spells word low high own some small = keyed_spells word (λ n. (low ≤ n) × (n ≤ high)) (λ n. decimal n ∷ []) (number_at low high) own (record {
  takes = λ ws n rest e. (let t = number_takes low high ws n rest e in ((t.1, t.2), t.0));
  again = λ n rest is. (let most = is.1 in number_again low high n rest is.0 is.1 (omega (arith, most, small)));
  are = λ n is. (let most = is.1 in (decimal_word n (omega (arith, most, small)), tt));
  alive = (low, ((omega arith), some));
})

-- ---- texts and kinds

pub text_spells : (text : List ℕ) → is_line text ≡ true → Spells (λ (u : Unit {0}). ⊤) (λ u. text) (is_text text)
text_spells text is = record {
  takes = λ line u e. by line u (bytes_eq line text) refl e;
  again = λ u fits. (let same : bytes_eq text text ≡ true = grind (arith, bytes_eq-Decides text text) in ap (λ (t : Bool). if t then Some u else None) same);
  alive = (tt, tt);
  line = λ u fits. is;
} where
  by : (line : List ℕ) (u : Unit {0}) (t : Bool) → bytes_eq line text ≡ t → ◌≡◌ {A = Option (Unit {0})} (if t then Some tt else None) (Some u) → ⊤ × (line ≡ text)
  by line u true h e = (tt, same_text line text h)
  by line u false h e = absurd (let n : ◌≡◌ {A = Option (Unit {0})} None (Some u) = e in cc)

abbrev pub kind_line : AnswerKind → List ℕ
kind_line kind.Least = codes "answer least"
kind_line kind.NoneMeets = codes "answer none"
kind_line kind.OpenBudget = codes "answer open budget"
kind_line kind.OpenStraddle = codes "answer open straddle"

pub kind_spells : Spells (λ (k : AnswerKind). ⊤) kind_line (first_named kinds)
kind_spells = record {
  takes = λ line k e. (tt, named_takes kind_line kinds line k (refl, (refl, (refl, (refl, tt)))) e);
  again = λ k fits. again k;
  alive = (kind.Least, tt);
  line = λ k fits. plain k;
} where
  again : (k : AnswerKind) → first_named kinds (kind_line k) ≡ Some k
  again kind.Least = refl
  again kind.NoneMeets = refl
  again kind.OpenBudget = refl
  again kind.OpenStraddle = refl

  plain : (k : AnswerKind) → is_line (kind_line k) ≡ true
  plain kind.Least = refl
  plain kind.NoneMeets = refl
  plain kind.OpenBudget = refl
  plain kind.OpenStraddle = refl
