-- Readers of lines, and what they say of a grammar: a reader takes what the grammar has, and stops at the first line with
-- which no text of the grammar goes on.
use Rattle.std.proofs.Common.{◌≡◌, ◌∙◌, refl, sym, ap, subst, ℕ, zero, suc, ◌+◌, ◌<◌, ◌≤◌, ◌⊎◌, inl, inr, Bool, true, false, List, [], ◌∷◌, ◌++◌, length, Option, Some, None, Ok, Err, append_assoc, arith}
use Rattle.std.specs.Prelude.{if◌then◌else◌}
use Rattle.std.specs.List.{AllByRecursion}
use Rattle.std.proofs.lemmas.List.{append-nil}
use Rattle.lam_report.specs.inside.Reading.{Lines, Got, then_got, line_at, by_next, listed_at}
use Rattle.lam_report.specs.ReportText.{numbered}
use Rattle.lam_report.proofs.CutLaws.{is_line}

-- ---- two cuts of one list

first_of : {X : Type 0} (x y : X) (xs ys : List X) → x ∷ xs ≡ y ∷ ys → x ≡ y
first_of {X} x y xs ys e = ap (λ (l : List X). elim l [ [] ↦ x | z ∷ zs ↦ z ]) e

rest_of : {X : Type 0} (x y : X) (xs ys : List X) → x ∷ xs ≡ y ∷ ys → xs ≡ ys
rest_of {X} x y xs ys e = ap (λ (l : List X). elim l [ [] ↦ xs | z ∷ zs ↦ zs ]) e

-- the second part of a cut begins within the first one's, or behind it
pub either_longer : {X : Type 0} (xs ys us vs : List X) → xs ++ ys ≡ us ++ vs
    → ((w : List X) × (us ≡ xs ++ w)) ⊎ ((w : List X) × (xs ≡ us ++ w))
either_longer [] ys us vs e = inl (us, refl)
either_longer (x ∷ xs) ys [] vs e = inr (x ∷ xs, refl)
either_longer {X} (x ∷ xs) ys (u ∷ us) vs e =
    let same = first_of x u (xs ++ ys) (us ++ vs) e in
    elim (either_longer xs ys us vs (rest_of x u (xs ++ ys) (us ++ vs) e)) [
      | inl longer ↦ inl (longer.0, ap (λ l. u ∷ l) longer.1 ∙ ap (λ (z : X). z ∷ (xs ++ longer.0)) (sym same))
      | inr shorter ↦ inr (shorter.0, ap (λ l. x ∷ l) shorter.1 ∙ ap (λ (z : X). z ∷ (us ++ shorter.0)) same)
    ]

-- ---- grammars

-- some text of the grammar begins with these lines
abbrev pub Begins : {X : Type 0} → (X → Lines → Type 0) → Lines → Type 0
Begins {X} G front = (x : X) × (more : Lines) × G x (front ++ more)

pub record Taken {X : Type 0} (G : X → Lines → Type 0) (ls : Lines) (x : X) (rest : Lines) : Type 0 where
  pub front : Lines
  pub text : ls ≡ front ++ rest
  pub is : G x front

pub record Fault {X : Type 0} (G : X → Lines → Type 0) (ls left : Lines) : Type 0 where
  pub front : Lines
  pub text : ls ≡ front ++ left
  pub begins : Begins G front
  pub stops : (first : List ℕ) (rest : Lines) → left ≡ first ∷ rest → ¬ Begins G (front ++ first ∷ [])

pub record Parses {X : Type 0} (G : X → Lines → Type 0) (read : Lines → Got X) : Type 0 where
  pub takes : (ls : Lines) (x : X) (rest : Lines) → read ls ≡ Ok (x, rest) → Taken G ls x rest
  pub again : (x : X) (front rest : Lines) → G x front → read (front ++ rest) ≡ Ok (x, rest)
  pub fault : (ls left : Lines) → read ls ≡ Err left → Fault G ls left
  pub alive : (x : X) × (front : Lines) × G x front
  pub lines : (x : X) (front : Lines) → G x front → AllByRecursion (λ l. is_line l ≡ true) front

all_append : (xs ys : Lines) → AllByRecursion (λ l. is_line l ≡ true) xs → AllByRecursion (λ l. is_line l ≡ true) ys → AllByRecursion (λ l. is_line l ≡ true) (xs ++ ys)
all_append [] ys one other = other
all_append (x ∷ xs) ys one other = (one.0, all_append xs ys one.1 other)

-- ---- what is read, and what is left

pub ok_pair : {X : Type 0} (x y : X) (rest left : Lines) → ◌≡◌ {A = Got X} (Ok (x, rest)) (Ok (y, left)) → (x ≡ y) × (rest ≡ left)
ok_pair {X} x y rest left e =
    let P : Got X → X × Lines = λ r. elim r [ Ok p ↦ p | Err l ↦ (x, l) ] in
    (ap (λ r. (P r).0) e, ap (λ r. (P r).1) e)

err_same : {X : Type 0} (rest left : Lines) → ◌≡◌ {A = Got X} (Err rest) (Err left) → rest ≡ left
err_same {X = X} rest left e = ap (λ (r : Got X). elim r [ Ok p ↦ rest | Err l ↦ l ]) e

pub ok_is_not_err : {X : Type 0} (x : X) (rest left : Lines) → ◌≡◌ {A = Got X} (Ok (x, rest)) (Err left) → ⊥
ok_is_not_err x rest left e = cc

-- ---- nothing

-- a value, and no line
abbrev pub Nothing : {X : Type 0} → X → X → Lines → Type 0
Nothing v x front = (x ≡ v) × (front ≡ [])

pub nothing_parses : {X : Type 0} (v : X) → Parses (Nothing v) (λ ls. Ok (v, ls))
nothing_parses {X} v = record {
  takes = λ ls x rest e. (let same = ok_pair v x ls rest e in record { front = []; text = same.1; is = (sym same.0, refl) });
  again = λ x front rest is. ap (λ f. Ok (v, f ++ rest)) is.1 ∙ ap (λ y. Ok (y, rest)) (sym is.0);
  fault = λ ls left e. absurd (ok_is_not_err v ls left e);
  alive = (v, [], (refl, refl));
  lines = λ x front is. subst (AllByRecursion (λ l. is_line l ≡ true)) (sym is.1) tt;
}

-- ---- one line

-- a reader of a line finds just the values that fit, as they are spelled
pub record Spells {X : Type 0} (Fits : X → Type 0) (spelled : X → List ℕ) (read : List ℕ → Option X) : Type 0 where
  pub takes : (line : List ℕ) (x : X) → read line ≡ Some x → Fits x × (line ≡ spelled x)
  pub again : (x : X) → Fits x → read (spelled x) ≡ Some x
  pub alive : (x : X) × Fits x
  pub line : (x : X) → Fits x → is_line (spelled x) ≡ true

abbrev found : {X : Type 0} → Option X → List ℕ → Lines → Got X
found o line rest = elim o [ Some x ↦ Ok (x, rest) | None ↦ Err (line ∷ rest) ]

abbrev pub OneLine : {X : Type 0} → (X → Type 0) → (X → List ℕ) → X → Lines → Type 0
OneLine Fits spelled x front = Fits x × (front ≡ spelled x ∷ [])

pub line_parses : {X : Type 0} (Fits : X → Type 0) (spelled : X → List ℕ) (read : List ℕ → Option X) → Spells Fits spelled read
    → Parses (OneLine Fits spelled) (line_at read)
line_parses {X} Fits spelled read spells = record {
  takes = takes;
  again = λ x front rest is. ap (λ f. line_at read (f ++ rest)) is.1 ∙ ap (λ o. found o (spelled x) rest) (spells.again x is.0);
  fault = fault;
  alive = (spells.alive.0, spelled spells.alive.0 ∷ [], (spells.alive.1, refl));
  lines = λ x front is. subst (AllByRecursion (λ l. is_line l ≡ true)) (sym is.1) (spells.line x is.0, tt);
} where
  takes : (ls : Lines) (x : X) (rest : Lines) → line_at read ls ≡ Ok (x, rest) → Taken (OneLine Fits spelled) ls x rest
  takes [] x rest e = absurd (let n : ◌≡◌ {A = Got X} (Err []) (Ok (x, rest)) = e in cc)
  takes (l ∷ ls) x rest e = by (read l) refl e where
    by : (o : Option X) → read l ≡ o → found o l ls ≡ Ok (x, rest) → Taken (OneLine Fits spelled) (l ∷ ls) x rest
    by (Some y) h e =
        let same = ok_pair y x ls rest e in
        let is = spells.takes l x (h ∙ ap (λ z. Some z) same.0) in
        record { front = spelled x ∷ []; text = ap (λ f. f ∷ ls) is.1 ∙ ap (λ r. spelled x ∷ r) same.1; is = (is.0, refl) }
    by None h e = absurd (let n : ◌≡◌ {A = Got X} (Err (l ∷ ls)) (Ok (x, rest)) = e in cc)

  begins : Begins (OneLine Fits spelled) []
  begins = (spells.alive.0, spelled spells.alive.0 ∷ [], (spells.alive.1, refl))

  fault : (ls left : Lines) → line_at read ls ≡ Err left → Fault (OneLine Fits spelled) ls left
  fault [] left e =
      let same : [] ≡ left = err_same {X = X} [] left e in
      record {
        front = [];
        text = same;
        begins = begins;
        stops = λ first rest is. (let n : [] ≡ first ∷ rest = same ∙ is in absurd cc);
      }
  fault (l ∷ ls) left e = by (read l) refl e where
    by : (o : Option X) → read l ≡ o → found o l ls ≡ Err left → Fault (OneLine Fits spelled) (l ∷ ls) left
    by (Some y) h e = absurd (ok_is_not_err y ls left e)
    by None h e =
        let same : l ∷ ls ≡ left = err_same {X = X} (l ∷ ls) left e in
        record {
          front = [];
          text = same;
          begins = begins;
          stops = λ first rest is (x, more, (fits, text)).
              (let spelled_so : l ≡ spelled x = first_of l first ls rest (same ∙ is) ∙ first_of first (spelled x) more [] text in
              let n : None ≡ Some x = sym h ∙ ap read spelled_so ∙ spells.again x fits in cc);
        }

-- ---- one after the other

-- a value a, and then a value z, which may depend on it
abbrev pub Then : {A Z : Type 0} → (A → Lines → Type 0) → (A → Z → Lines → Type 0) → Z → Lines → Type 0
Then {A} {Z} G H z text = (a : A) × (one : Lines) × (other : Lines) × (text ≡ one ++ other) × G a one × H a z other

got_takes : {X Y : Type 0} (got : Got X) (next : X → Lines → Got Y) (y : Y) (rest : Lines) → then_got got next ≡ Ok (y, rest)
    → (x : X) × (left : Lines) × (got ≡ Ok (x, left)) × (next x left ≡ Ok (y, rest))
got_takes (Ok (x, left)) next y rest e = (x, left, refl, e)
got_takes {X} {Y} (Err left) next y rest e = absurd (let n : ◌≡◌ {A = Got Y} (Err left) (Ok (y, rest)) = e in cc)

pub got_again : {X Y : Type 0} (got : Got X) (next : X → Lines → Got Y) (x : X) (left : Lines) → got ≡ Ok (x, left) → then_got got next ≡ next x left
got_again got next x left e = ap (λ g. then_got g next) e

module _ {A Z : Type 0} (G : A → Lines → Type 0) (H : A → Z → Lines → Type 0) (p : Lines → Got A) (q : A → Lines → Got Z)
    (first : Parses G p) (second : (a : A) (front : Lines) → G a front → Parses (H a) (q a)) where
  seq_takes : (ls : Lines) (z : Z) (rest : Lines) → then_got (p ls) q ≡ Ok (z, rest) → Taken (Then G H) ls z rest
  seq_takes ls z rest e =
      let a = got_takes (p ls) q z rest e in
      let one = first.takes ls a.0 a.1 a.2 in
      let other = (second a.0 one.front one.is).takes a.1 z rest a.3 in
      record {
        front = one.front ++ other.front;
        text = one.text ∙ ap (λ t. one.front ++ t) other.text ∙ sym (append_assoc one.front other.front rest);
        is = (a.0, one.front, other.front, refl, one.is, other.is);
      }

  seq_again : (z : Z) (front rest : Lines) → Then G H z front → then_got (p (front ++ rest)) q ≡ Ok (z, rest)
  seq_again z front rest (a, one, other, text, is, is_too) =
      ap (λ f. then_got (p (f ++ rest)) q) text
      ∙ ap (λ f. then_got (p f) q) (append_assoc one other rest)
      ∙ got_again (p (one ++ (other ++ rest))) q a (other ++ rest) (first.again a one (other ++ rest) is)
      ∙ (second a one is).again z other rest is_too

  -- a fault of the first reader: it stops a text of both
  first_fault : (ls left : Lines) → p ls ≡ Err left → Fault (Then G H) ls left
  first_fault ls left e =
      let fault = first.fault ls left e in
      let begun = fault.begins in
      let goes_on = (second begun.0 (fault.front ++ begun.1) begun.2).alive in
      record {
        front = fault.front;
        text = fault.text;
        begins = (
          goes_on.0,
          begun.1 ++ goes_on.1,
          (begun.0, fault.front ++ begun.1, goes_on.1, sym (append_assoc fault.front begun.1 goes_on.1), begun.2, goes_on.2),
        );
        stops = stops fault.front fault.text fault.stops;
      } where
        stops : (front : Lines) → ls ≡ front ++ left
            → ((line : List ℕ) (rest : Lines) → left ≡ line ∷ rest → ¬ Begins G (front ++ line ∷ []))
            → (line : List ℕ) (rest : Lines) → left ≡ line ∷ rest → ¬ Begins (Then G H) (front ++ line ∷ [])
        stops front text none line rest is (z, more, (a, one, other, cut, of, of_too)) =
            elim (either_longer (front ++ line ∷ []) more one other cut) [
              | inl longer ↦ none line rest is (a, longer.0, subst (G a) longer.1 of)
              | inr shorter ↦
                  (let whole : ls ≡ one ++ (shorter.0 ++ rest) =
                  text ∙ ap (λ l. front ++ l) is ∙ sym (append_assoc front (line ∷ []) rest) ∙ ap (λ f. f ++ rest) shorter.1 ∙ append_assoc one shorter.0 rest in
                  ok_is_not_err a (shorter.0 ++ rest) left (sym (first.again a one (shorter.0 ++ rest) of) ∙ ap p (sym whole) ∙ e))
            ]

  -- a fault of the second one
  second_fault : (ls left : Lines) (a : A) (mid : Lines) → p ls ≡ Ok (a, mid) → q a mid ≡ Err left → Fault (Then G H) ls left
  second_fault ls left a mid e e_too =
      let one = first.takes ls a mid e in
      let fault = (second a one.front one.is).fault mid left e_too in
      let begun = fault.begins in
      record {
        front = one.front ++ fault.front;
        text = one.text ∙ ap (λ t. one.front ++ t) fault.text ∙ sym (append_assoc one.front fault.front left);
        begins = (begun.0, begun.1, (a, one.front, fault.front ++ begun.1, append_assoc one.front fault.front begun.1, one.is, begun.2));
        stops = stops one.front one.is fault.front fault.stops;
      } where
        stops : (front : Lines) → G a front → (behind : Lines)
            → ((line : List ℕ) (rest : Lines) → left ≡ line ∷ rest → ¬ Begins (H a) (behind ++ line ∷ []))
            → (line : List ℕ) (rest : Lines) → left ≡ line ∷ rest → ¬ Begins (Then G H) (front ++ behind ++ line ∷ [])
        stops front is behind none line rest eq (z, more, (b, one, other, cut, of, of_too)) =
            let assoc : front ++ behind ++ line ∷ [] ++ more ≡ front ++ (behind ++ line ∷ [] ++ more) =
            ap (λ t. t ++ more) (append_assoc front behind (line ∷ [])) ∙ append_assoc front (behind ++ line ∷ []) more in
            let mine = first.again a front (behind ++ line ∷ [] ++ more) is in
            let its = first.again b one other of in
            let same = ok_pair a b (behind ++ line ∷ [] ++ more) other (sym mine ∙ ap p (sym assoc ∙ cut) ∙ its) in
            none line rest eq (z, more, subst (λ (c : A). H c z (behind ++ line ∷ [] ++ more)) (sym same.0) (subst (H b z) (sym same.1) of_too))

  seq_fault : (ls left : Lines) → then_got (p ls) q ≡ Err left → Fault (Then G H) ls left
  seq_fault ls left e = by (p ls) refl e where
    by : (got : Got A) → p ls ≡ got → then_got got q ≡ Err left → Fault (Then G H) ls left
    by (Ok (a, mid)) h e = second_fault ls left a mid h e
    by (Err at) h e = first_fault ls left (h ∙ ap (λ l. Err l) (err_same {X = Z} at left e))

  pub seq_parses : Parses (Then G H) (λ ls. then_got (p ls) q)
  seq_parses = record {
    takes = seq_takes;
    again = seq_again;
    fault = seq_fault;
    lines = λ z front (a, one, other, text, is, is_too). subst (AllByRecursion (λ l. is_line l ≡ true)) (sym text)
        (all_append one other (first.lines a one is) ((second a one is).lines z other is_too));
    alive = (
        let goes_on = (second first.alive.0 first.alive.1 first.alive.2).alive in
        (goes_on.0, first.alive.1 ++ goes_on.1, (first.alive.0, first.alive.1, goes_on.1, refl, first.alive.2, goes_on.2))
        );
  }

-- ---- another form

-- another form of the grammar
pub as_parses : {X : Type 0} (G H : X → Lines → Type 0) (read : Lines → Got X) → ((x : X) (f : Lines) → G x f → H x f) → ((x : X) (f : Lines) → H x f → G x f)
    → Parses G read → Parses H read
as_parses {X} G H read to from parses = record {
  takes = λ ls x rest e. (let t = parses.takes ls x rest e in record { front = t.front; text = t.text; is = to x t.front t.is });
  again = λ x front rest is. parses.again x front rest (from x front is);
  fault = λ ls left e. (
      let f = parses.fault ls left e in
      record {
        front = f.front;
        text = f.text;
        begins = (f.begins.0, f.begins.1, to f.begins.0 (f.front ++ f.begins.1) f.begins.2);
        stops = λ line rest is (x, more, h). f.stops line rest is (x, more, from x (f.front ++ line ∷ [] ++ more) h);
      }
      );
  alive = (parses.alive.0, parses.alive.1, to parses.alive.0 parses.alive.1 parses.alive.2);
  lines = λ x front is. parses.lines x front (from x front is);
}

-- another form of the reader
pub same_parses : {X : Type 0} (G : X → Lines → Type 0) (read other : Lines → Got X) → ((ls : Lines) → read ls ≡ other ls) → Parses G read → Parses G other
same_parses {X} G read other same parses = record {
  takes = λ ls x rest e. parses.takes ls x rest (same ls ∙ e);
  again = λ x front rest is. sym (same (front ++ rest)) ∙ parses.again x front rest is;
  fault = λ ls left e. parses.fault ls left (same ls ∙ e);
  alive = parses.alive;
  lines = parses.lines;
}

-- ---- one or the other, as the next line says

abbrev pub Either : {X : Type 0} → (X → Lines → Type 0) → (X → Lines → Type 0) → X → Lines → Type 0
Either G H x front = G x front ⊎ H x front

-- a text begins with a line that a test tells so
abbrev pub StartsBy : (List ℕ → Bool) → Bool → Lines → Type 0
StartsBy test said [] = ⊥
StartsBy test said (line ∷ rest) = test line ≡ said

module _ {X : Type 0} (G H : X → Lines → Type 0) (test : List ℕ → Bool) (p q : Lines → Got X) (one : Parses G p) (other : Parses H q)
    (starts : (x : X) (f : Lines) → G x f → StartsBy test true f) (starts_too : (x : X) (f : Lines) → H x f → StartsBy test false f) where
  by_true : (line : List ℕ) (rest : Lines) → test line ≡ true → by_next test p q (line ∷ rest) ≡ p (line ∷ rest)
  by_true line rest e = ap (λ (t : Bool). if t then p (line ∷ rest) else q (line ∷ rest)) e

  by_false : (line : List ℕ) (rest : Lines) → test line ≡ false → by_next test p q (line ∷ rest) ≡ q (line ∷ rest)
  by_false line rest e = ap (λ (t : Bool). if t then p (line ∷ rest) else q (line ∷ rest)) e

  either_again : (x : X) (front rest : Lines) → Either G H x front → by_next test p q (front ++ rest) ≡ Ok (x, rest)
  either_again x [] rest (inl is) = absurd (starts x [] is)
  either_again x [] rest (inr is) = absurd (starts_too x [] is)
  either_again x (line ∷ front) rest (inl is) = by_true line (front ++ rest) (starts x (line ∷ front) is) ∙ one.again x (line ∷ front) rest is
  either_again x (line ∷ front) rest (inr is) = by_false line (front ++ rest) (starts_too x (line ∷ front) is) ∙ other.again x (line ∷ front) rest is

  either_takes : (ls : Lines) (x : X) (rest : Lines) → by_next test p q ls ≡ Ok (x, rest) → Taken (Either G H) ls x rest
  either_takes [] x rest e = absurd (let n : ◌≡◌ {A = Got X} (Err []) (Ok (x, rest)) = e in cc)
  either_takes (line ∷ ls) x rest e = by (test line) refl where
    by : (t : Bool) → test line ≡ t → Taken (Either G H) (line ∷ ls) x rest
    by true h = let t = one.takes (line ∷ ls) x rest (sym (by_true line ls h) ∙ e) in record { front = t.front; text = t.text; is = inl t.is }
    by false h = let t = other.takes (line ∷ ls) x rest (sym (by_false line ls h) ∙ e) in record { front = t.front; text = t.text; is = inr t.is }

  -- a text that begins as this one does, as the test says
  starts_so : (said : Bool) (front left : Lines) (line : List ℕ) (ls : Lines) (first : List ℕ) (rest more : Lines)
      → line ∷ ls ≡ front ++ left → left ≡ first ∷ rest → StartsBy test said (front ++ first ∷ [] ++ more) → test line ≡ said
  starts_so said [] left line ls first rest more text is starts = ap test (first_of line first ls rest (text ∙ is)) ∙ starts
  starts_so said (f ∷ front) left line ls first rest more text is starts = ap test (first_of line f ls (front ++ left) text) ∙ starts

  either_fault : (ls left : Lines) → by_next test p q ls ≡ Err left → Fault (Either G H) ls left
  either_fault [] left e =
      let same : [] ≡ left = err_same {X = X} [] left e in
      record {
        front = [];
        text = same;
        begins = (one.alive.0, one.alive.1, inl one.alive.2);
        stops = λ first rest is. (let n : [] ≡ first ∷ rest = same ∙ is in absurd cc);
      }
  either_fault (line ∷ ls) left e = by (test line) refl where
    both : (t u : Bool) → t ≡ true → t ≡ false → ⊥
    both t u yes_so no_so = (let n : true ≡ false = sym yes_so ∙ no_so in cc)

    by : (t : Bool) → test line ≡ t → Fault (Either G H) (line ∷ ls) left
    by true h =
        let f = one.fault (line ∷ ls) left (sym (by_true line ls h) ∙ e) in
        record {
          front = f.front;
          text = f.text;
          begins = (f.begins.0, f.begins.1, inl f.begins.2);
          stops = λ first rest is (x, more, has). elim has [
            | inl of ↦ f.stops first rest is (x, more, of)
            | inr of ↦ both (test line) true h (starts_so false f.front left line ls first rest more f.text is (starts_too x (f.front ++ first ∷ [] ++ more) of))
          ];
        }
    by false h =
        let f = other.fault (line ∷ ls) left (sym (by_false line ls h) ∙ e) in
        record {
          front = f.front;
          text = f.text;
          begins = (f.begins.0, f.begins.1, inr f.begins.2);
          stops = λ first rest is (x, more, has). elim has [
            | inl of ↦ both (test line) true (starts_so true f.front left line ls first rest more f.text is (starts x (f.front ++ first ∷ [] ++ more) of)) h
            | inr of ↦ f.stops first rest is (x, more, of)
          ];
        }

  pub either_parses : Parses (Either G H) (by_next test p q)
  either_parses = record {
    takes = either_takes;
    again = either_again;
    fault = either_fault;
    alive = (one.alive.0, one.alive.1, inl one.alive.2);
    lines = λ x front is. elim is [ inl of ↦ one.lines x front of | inr of ↦ other.lines x front of ];
  }

-- ---- so many lines, by their number

-- values that fit, as many as are due, each spelled by its number
pub record ListOf {X : Type 0} (Fits : X → Type 0) (spelled : ℕ → X → List ℕ) (from count : ℕ) (xs : List X) (front : Lines) : Type 0 where
  pub many : length xs ≡ count
  pub fits : AllByRecursion Fits xs
  pub text : front ≡ numbered spelled from xs

pub listed_parses : {X : Type 0} (Fits : X → Type 0) (spelled : ℕ → X → List ℕ) (read : ℕ → List ℕ → Option X) (bound from count : ℕ) → from + count ≤ bound
    → ((i : ℕ) → i < bound → Spells Fits (spelled i) (read i)) → Parses (ListOf Fits spelled from count) (listed_at read from count)
listed_parses {X} Fits spelled read bound from zero within spells =
    as_parses (Nothing []) (ListOf Fits spelled from 0) (listed_at read from 0) to back (nothing_parses []) where
      to : (xs : List X) (f : Lines) → Nothing [] xs f → ListOf Fits spelled from 0 xs f
      to xs f is = subst (λ ys. ListOf Fits spelled from 0 ys f) (sym is.0) (record { many = refl; fits = tt; text = is.1 })

      back : (xs : List X) (f : Lines) → ListOf Fits spelled from 0 xs f → Nothing [] xs f
      back [] f is = (refl, is.text)
      back (x ∷ xs) f is = let n : suc (length xs) ≡ 0 = is.many in absurd (omega (arith, n))
listed_parses {X} Fits spelled read bound from (suc count) within spells =
    as_parses pair (ListOf Fits spelled from (suc count)) (listed_at read from (suc count)) to back
    (seq_parses (OneLine Fits (spelled from)) after (line_at (read from)) next (line_parses Fits (spelled from) (read from) (spells from (omega (arith, within))))
    (λ x f is. seq_parses (ListOf Fits spelled (suc from) count) (λ xs. Nothing (x ∷ xs)) (listed_at read (suc from) count) (λ xs ls. Ok (x ∷ xs, ls))
    (listed_parses Fits spelled read bound (suc from) count (omega (arith, within)) spells) (λ xs g is. nothing_parses (x ∷ xs)))) where
      after : X → List X → Lines → Type 0
      after x = Then (ListOf Fits spelled (suc from) count) (λ xs. Nothing (x ∷ xs))

      next : X → Lines → Got (List X)
      next x ls = then_got (listed_at read (suc from) count ls) (λ xs ls. Ok (x ∷ xs, ls))

      pair : List X → Lines → Type 0
      pair = Then (OneLine Fits (spelled from)) after

      to : (ys : List X) (f : Lines) → pair ys f → ListOf Fits spelled from (suc count) ys f
      to ys f (x, one, other, cut, is, (xs, two, three, cut_too, are, none)) =
          subst (λ zs. ListOf Fits spelled from (suc count) zs f) (sym none.0) (record {
            many = ap suc are.many;
            fits = (is.0, are.fits);
            text = cut ∙ ap (λ o. o ++ other) is.1 ∙ ap (λ t. spelled from x ∷ t) (cut_too ∙ ap (λ t. two ++ t) none.1 ∙ append-nil two ∙ are.text);
          })

      back : (ys : List X) (f : Lines) → ListOf Fits spelled from (suc count) ys f → pair ys f
      back [] f is = let n : 0 ≡ suc count = is.many in absurd (omega (arith, n))
      back (x ∷ xs) f is =
          let few : suc (length xs) ≡ suc count = is.many in (
            x,
            spelled from x ∷ [],
            numbered spelled (suc from) xs,
            is.text,
            (is.fits.0, refl),
            (xs, numbered spelled (suc from) xs, [], sym (append-nil (numbered spelled (suc from) xs)), record { many = omega (arith, few); fits = is.fits.1; text = refl }, (refl, refl)),
          )
