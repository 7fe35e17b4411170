-- The line of a node is read as that node, and no other line is.
use Rattle.std.proofs.Common.{◌≡◌, ◌≢◌, ◌∙◌, refl, sym, ap, subst, ℕ, ◌+◌, ◌-◌, ◌^◌, ◌<◌, ◌≤◌, nat_le, Bool, true, false, List, [], ◌∷◌, ◌++◌, Option, Some, None, ℤ, unsigned_abs, lit<, arith}
use Rattle.std.specs.Prelude.{◌&&◌, if◌then◌else◌, codes, decimal}
use Rattle.std.specs.Fmt.{signed_decimal}
use Rattle.std.specs.List.{AllByRecursion}
use Rattle.std.specs.Str.{bytes_eq}
use Rattle.std.proofs.Math.Bridge.{le_prop}
use Rattle.std.proofs.lemmas.Bool.Decides.{nat_tests}
use Rattle.std.proofs.lemmas.List.{append-nil}
use Rattle.std.proofs.lemmas.Option.{same_Some}
use Rattle.std.proofs.lemmas.Slice.Eq.{bytes_eq-Decides}
use Rattle.lam_stock.specs.Field.{whole_of, number_of}
use Rattle.lam_stock.proofs.NumberLaws.{whole_takes, whole_again, signed_takes, signed_again, decimal_word, signed_word}
use Rattle.lam_stock.proofs.Truth.{both-true}
use Rattle.lam_job.specs.declared.limits.TheConstants.{MOST_PLIES, MOST_CASES, MOST_WALL_PLIES, MOST_PANELS}
use Rattle.lam_support.specs.declared.weight.Weight.{Weight}
use Rattle.lam_tsai.specs.declared.place.Side.{Side}
use Rattle.lam_tsai.specs.declared.place.Side.TheVariants.{Plus, Minus}
use Rattle.lam_tsai.specs.declared.place.FaceSide.{FaceSide}
use Rattle.lam_tsai.specs.declared.place.FaceSide.TheVariants.{Inner, Outer}
use Rattle.lam_tsai.specs.declared.place.Place.{Place}
use Rattle.lam_tree.specs.declared.limits.TheConstants.{MOST_RULES}
use Rattle.lam_tree.specs.declared.spot.Spot.{Spot}
use Rattle.lam_tree.specs.declared.spot.Spot.TheVariants as spot
use Rattle.lam_tree.specs.declared.node.Node.{Node}
use Rattle.lam_tree.specs.declared.node.Seat.{Seat}
use Rattle.lam_tree.specs.declared.node.Seat.TheVariants as seat
use Rattle.lam_tree.specs.declared.node.Word.{Word}
use Rattle.lam_tree.specs.declared.node.Word.TheVariants as word
use Rattle.lam_tree.specs.declared.read.Keyword.{Keyword}
use Rattle.lam_tree.specs.declared.read.Keyword.TheVariants as key
use Rattle.lam_tree.specs.Lines.{line_of, ordinal, face_word, side_word, place_words, spot_words, weight_words, seat_words, word_words, node_line}
use Rattle.lam_tree.specs.ReportRanges.{IsPlace, IsSpot, IsSeat, IsWord, IsNode}
use Rattle.lam_tree.specs.inside.Cut.{Words, words_of}
use Rattle.lam_tree.specs.inside.LineReading.{Read, then_read, first_word, first_named, with_left, within, number_at, ordinal_at, signed_at, weight_by, weight_of, weight_at, faces, sides, face_at, side_at, place_at, spot_named, spot_at, seat_named, seat_at, keywords, keyword_at, word_after, word_at, node_at, whole, node_of}
use Rattle.lam_tree.proofs.WordLaws.{is_word, line_again, words_again}

-- ---- one after the other

pub then_takes : {X Y : Type 0} (read : Read X) (next : X → Words → Option Y) (y : Y) → then_read read next ≡ Some y
    → (x : X) × (rest : Words) × (read ≡ Some (x, rest)) × (next x rest ≡ Some y)
then_takes None next y e = absurd (let n : None ≡ Some y = e in cc)
then_takes (Some (x, rest)) next y e = (x, rest, refl, e)

pub then_again : {X Y : Type 0} (read : Read X) (next : X → Words → Option Y) (x : X) (rest : Words) → read ≡ Some (x, rest) → then_read read next ≡ next x rest
then_again read next x rest e = ap (λ r. then_read r next) e

-- what is read, and what is left
pub same_read : {X : Type 0} (x y : X) (rest left : Words) → ◌≡◌ {A = Read X} (Some (x, rest)) (Some (y, left)) → (x ≡ y) × (rest ≡ left)
same_read {X} x y rest left e = let pair : ◌≡◌ {A = X × Words} (x, rest) (y, left) = same_Some (x, rest) (y, left) e in (ap (λ p. p.0) pair, ap (λ p. p.1) pair)

pub left_takes : {X : Type 0} (left : Words) (o : Option X) (x : X) (rest : Words) → with_left left o ≡ Some (x, rest) → (o ≡ Some x) × (left ≡ rest)
left_takes left None x rest e = absurd (let n : None ≡ Some (x, rest) = e in cc)
left_takes left (Some y) x rest e = let same = same_read y x left rest e in (ap (λ z. Some z) same.0, same.1)

pub first_takes : (ws : Words) (w : List ℕ) (rest : Words) → first_word ws ≡ Some (w, rest) → ws ≡ w ∷ rest
first_takes [] w rest e = absurd (let n : None ≡ Some (w, rest) = e in cc)
first_takes (v ∷ vs) w rest e = let same = same_read v w vs rest e in ap (λ u. u ∷ vs) same.0 ∙ ap (λ t. w ∷ t) same.1

-- a word that is read by itself
pub one_takes : {X : Type 0} (f : List ℕ → Option X) (ws : Words) (x : X) (rest : Words)
    → then_read (first_word ws) (λ w left. with_left left (f w)) ≡ Some (x, rest) → (w : List ℕ) × (ws ≡ w ∷ rest) × (f w ≡ Some x)
one_takes f ws x rest e =
    let a = then_takes (first_word ws) (λ w left. with_left left (f w)) (x, rest) e in
    let b = left_takes a.1 (f a.0) x rest a.3 in
    (a.0, first_takes ws a.0 a.1 a.2 ∙ ap (λ t. a.0 ∷ t) b.1, b.0)

-- ---- tables of words

pub named_takes : {X : Type 0} (text : X → List ℕ) (table : List (List ℕ × X)) (w : List ℕ) (x : X) → AllByRecursion (λ e. e.0 ≡ text e.1) table
    → first_named table w ≡ Some x → w ≡ text x
named_takes text [] w x spelled e = absurd (let n : None ≡ Some x = e in cc)
named_takes text (entry ∷ rest) w x spelled e = by (bytes_eq w entry.0) refl e (named_takes text rest w x spelled.1) where
  by : (t : Bool) → bytes_eq w entry.0 ≡ t → (if t then Some entry.1 else first_named rest w) ≡ Some x
      → (first_named rest w ≡ Some x → w ≡ text x) → w ≡ text x
  by true h e later = let eq : w ≡ entry.0 = grind (arith, bytes_eq-Decides w entry.0) in eq ∙ spelled.0 ∙ ap text (same_Some entry.1 x e)
  by false h e later = later e

-- ---- numbers

within_takes : (low high : ℕ) (o : Option ℕ) (n : ℕ) → within low high o ≡ Some n → (o ≡ Some n) × (low ≤ n) × (n ≤ high)
within_takes low high None n e = absurd (let m : None ≡ Some n = e in cc)
within_takes low high (Some k) n e = by (nat_le low k && nat_le k high) refl e where
  by : (t : Bool) → (nat_le low k && nat_le k high) ≡ t → (if t then Some k else None) ≡ Some n → (Some k ≡ Some n) × (low ≤ n) × (n ≤ high)
  by true h e =
      let parts = both-true (nat_le low k) (nat_le k high) h in
      let same = same_Some k n e in
      let lo : nat_le low k ≡ true = parts.0 in
      let hi : nat_le k high ≡ true = parts.1 in
      (e, subst (λ m. low ≤ m) same (grind (arith, nat_tests)), subst (λ m. m ≤ high) same (grind (arith, nat_tests)))
  by false h e = absurd (let m : None ≡ Some n = e in cc)

within_again : (low high n : ℕ) → low ≤ n → n ≤ high → within low high (Some n) ≡ Some n
within_again low high n lo hi =
    let a : nat_le low n ≡ true = grind (arith, nat_tests) in
    let b : nat_le n high ≡ true = grind (arith, nat_tests) in
    rw (a, b) refl

pub number_takes : (low high : ℕ) (ws : Words) (n : ℕ) (rest : Words) → number_at low high ws ≡ Some (n, rest)
    → (ws ≡ decimal n ∷ rest) × (low ≤ n) × (n ≤ high)
unfolding number_at
number_takes low high ws n rest e =
    let a = one_takes (λ w. within low high (whole_of w)) ws n rest e in
    let b = within_takes low high (whole_of a.0) n a.2 in
    (a.1 ∙ ap (λ w. w ∷ rest) (whole_takes a.0 n b.0).0, b.1, b.2)

pub number_again : (low high n : ℕ) (rest : Words) → low ≤ n → n ≤ high → n < 10 ^ 15 → number_at low high (decimal n ∷ rest) ≡ Some (n, rest)
unfolding number_at
number_again low high n rest lo hi small = ap (λ o. with_left rest (within low high o)) (whole_again n small) ∙ ap (with_left rest) (within_again low high n lo hi)

pub ordinal_takes : (count : ℕ) (ws : Words) (i : ℕ) (rest : Words) → ordinal_at count ws ≡ Some (i, rest) → (ws ≡ ordinal i ∷ rest) × (i < count)
unfolding ordinal_at
ordinal_takes count ws i rest e =
    let a = then_takes (number_at 1 count ws) _ (i, rest) e in
    let b = number_takes 1 count ws a.0 a.1 a.2 in
    let same = same_read (a.0 - 1) i a.1 rest a.3 in
    let one = same.0 in let low = b.1 in let high = b.2 in
    let n : a.0 ≡ i + 1 = omega (arith, one, low) in
    (b.0 ∙ ap (λ m. decimal m ∷ a.1) n ∙ ap (λ t. ordinal i ∷ t) same.1, omega (arith, one, low, high))

pub ordinal_again : (count i : ℕ) (rest : Words) → i < count → count < 1000 → ordinal_at count (ordinal i ∷ rest) ≡ Some (i, rest)
unfolding ordinal_at
ordinal_again count i rest below small =
    let n : i + 1 - 1 ≡ i = omega arith in
    then_again (number_at 1 count (ordinal i ∷ rest)) _ (i + 1) rest (number_again 1 count (i + 1) rest (omega arith) (omega (arith, below)) (omega (arith, below, small)))
    ∙ ap (λ k. Some (k, rest)) n

-- ---- weights

signed_at_takes : (ws : Words) (z : ℤ) (rest : Words) → signed_at ws ≡ Some (z, rest) → ws ≡ signed_decimal z ∷ rest
unfolding signed_at
signed_at_takes ws z rest e =
    let a = one_takes number_of ws z rest e in
    a.1 ∙ ap (λ w. w ∷ rest) (signed_takes a.0 z a.2).0

signed_at_again : (z : ℤ) (rest : Words) → unsigned_abs z ≤ 100 → signed_at (signed_decimal z ∷ rest) ≡ Some (z, rest)
unfolding signed_at
signed_at_again z rest small = ap (λ o. with_left rest o) (signed_again z (omega (arith, small)))

leb-from : (a b : ℕ) → a ≤ b → nat_le a b ≡ true
leb-from a b h = grind (arith, nat_tests)

-- a weight is its parts
same_weight : (w : Weight) (a : unsigned_abs w.x ≤ 100) (b : unsigned_abs w.y ≤ 100) (c : unsigned_abs w.s ≤ 100)
    (d : 1 ≤ unsigned_abs w.x + unsigned_abs w.y + unsigned_abs w.s)
    → record { x = w.x; y = w.y; s = w.s; x_range = a; y_range = b; s_range = c; some = d } ≡ w
same_weight w a b c d =
    let of : unsigned_abs w.x ≤ 100 → unsigned_abs w.y ≤ 100 → unsigned_abs w.s ≤ 100 → 1 ≤ unsigned_abs w.x + unsigned_abs w.y + unsigned_abs w.s → Weight =
    λ p q r t. record { x = w.x; y = w.y; s = w.s; x_range = p; y_range = q; s_range = r; some = t } in
    ap (λ p. of p b c d) (le_prop a w.x_range) ∙ ap (λ q. of w.x_range q c d) (le_prop b w.y_range)
    ∙ ap (λ r. of w.x_range w.y_range r d) (le_prop c w.s_range) ∙ ap (λ t. of w.x_range w.y_range w.s_range t) (le_prop d w.some)

pub weight_of-is : (w : Weight) → weight_of w.x w.y w.s ≡ Some w
unfolding weight_of
weight_of-is w =
    by (nat_le (unsigned_abs w.x) 100) (nat_le (unsigned_abs w.y) 100) (nat_le (unsigned_abs w.s) 100)
    (nat_le 1 (unsigned_abs w.x + unsigned_abs w.y + unsigned_abs w.s)) refl refl refl refl
    (leb-from (unsigned_abs w.x) 100 w.x_range) (leb-from (unsigned_abs w.y) 100 w.y_range) (leb-from (unsigned_abs w.s) 100 w.s_range)
    (leb-from 1 (unsigned_abs w.x + unsigned_abs w.y + unsigned_abs w.s) w.some) where
      by : (a b c d : Bool) (hx : nat_le (unsigned_abs w.x) 100 ≡ a) (hy : nat_le (unsigned_abs w.y) 100 ≡ b) (hs : nat_le (unsigned_abs w.s) 100 ≡ c)
          (h : nat_le 1 (unsigned_abs w.x + unsigned_abs w.y + unsigned_abs w.s) ≡ d) → a ≡ true → b ≡ true → c ≡ true → d ≡ true
          → weight_by w.x w.y w.s a b c d hx hy hs h ≡ Some w
      by true true true true hx hy hs h p q r t = ap (λ v. Some v) (same_weight w _ _ _ _)
      by false b c d hx hy hs h p q r t = absurd (let n : false ≡ true = p in cc)
      by true false c d hx hy hs h p q r t = absurd (let n : false ≡ true = q in cc)
      by true true false d hx hy hs h p q r t = absurd (let n : false ≡ true = r in cc)
      by true true true false hx hy hs h p q r t = absurd (let n : false ≡ true = t in cc)

pub weight_of-parts : (x y s : ℤ) (w : Weight) → weight_of x y s ≡ Some w → (x ≡ w.x) × (y ≡ w.y) × (s ≡ w.s)
unfolding weight_of
weight_of-parts x y s w e =
    by (nat_le (unsigned_abs x) 100) (nat_le (unsigned_abs y) 100) (nat_le (unsigned_abs s) 100)
    (nat_le 1 (unsigned_abs x + unsigned_abs y + unsigned_abs s)) refl refl refl refl e where
      by : (a b c d : Bool) (hx : nat_le (unsigned_abs x) 100 ≡ a) (hy : nat_le (unsigned_abs y) 100 ≡ b) (hs : nat_le (unsigned_abs s) 100 ≡ c)
          (h : nat_le 1 (unsigned_abs x + unsigned_abs y + unsigned_abs s) ≡ d) → weight_by x y s a b c d hx hy hs h ≡ Some w
          → (x ≡ w.x) × (y ≡ w.y) × (s ≡ w.s)
      by true true true true hx hy hs h e =
          let same = same_Some _ w e in (ap (λ (v : Weight). v.x) same, ap (λ (v : Weight). v.y) same, ap (λ (v : Weight). v.s) same)
      by false b c d hx hy hs h e = absurd (let n : None ≡ Some w = e in cc)
      by true false c d hx hy hs h e = absurd (let n : None ≡ Some w = e in cc)
      by true true false d hx hy hs h e = absurd (let n : None ≡ Some w = e in cc)
      by true true true false hx hy hs h e = absurd (let n : None ≡ Some w = e in cc)

pub weight_of-none : (x y s : ℤ) → ((w : Weight) → x ≡ w.x → y ≡ w.y → s ≡ w.s → ⊥) → weight_of x y s ≡ None
weight_of-none x y s none = by (weight_of x y s) refl where
  by : (o : Option Weight) → weight_of x y s ≡ o → weight_of x y s ≡ None
  by None e = e
  by (Some w) e = let parts = weight_of-parts x y s w e in absurd (none w parts.0 parts.1 parts.2)

weight_takes : (ws : Words) (w : Weight) (rest : Words) → weight_at ws ≡ Some (w, rest) → ws ≡ weight_words w ++ rest
unfolding weight_at
weight_takes ws w rest e =
    let a = then_takes (signed_at ws) _ (w, rest) e in
    let b = then_takes (signed_at a.1) _ (w, rest) a.3 in
    let c = then_takes (signed_at b.1) _ (w, rest) b.3 in
    let x = signed_at_takes ws a.0 a.1 a.2 in
    let y = signed_at_takes a.1 b.0 b.1 b.2 in
    let s = signed_at_takes b.1 c.0 c.1 c.2 in
    let end = left_takes c.1 (weight_of a.0 b.0 c.0) w rest c.3 in
    let is = weight_of-parts a.0 b.0 c.0 w end.0 in
    x ∙ ap (λ z. signed_decimal z ∷ a.1) is.0
    ∙ ap (λ t. signed_decimal w.x ∷ t) (y ∙ ap (λ z. signed_decimal z ∷ b.1) is.1
    ∙ ap (λ t. signed_decimal w.y ∷ t) (s ∙ ap (λ z. signed_decimal z ∷ c.1) is.2 ∙ ap (λ t. signed_decimal w.s ∷ t) end.1))

weight_again : (w : Weight) (rest : Words) → weight_at (weight_words w ++ rest) ≡ Some (w, rest)
unfolding weight_at
weight_again w rest =
    let three = signed_decimal w.s ∷ rest in
    let two = signed_decimal w.y ∷ three in
    then_again (signed_at (signed_decimal w.x ∷ two)) _ w.x two (signed_at_again w.x two w.x_range)
    ∙ then_again (signed_at two) _ w.y three (signed_at_again w.y three w.y_range)
    ∙ then_again (signed_at three) _ w.s rest (signed_at_again w.s rest w.s_range)
    ∙ ap (with_left rest) (weight_of-is w)

-- ---- places

face_takes : (ws : Words) (f : FaceSide) (rest : Words) → face_at ws ≡ Some (f, rest) → ws ≡ face_word f ∷ rest
unfolding face_at
face_takes ws f rest e =
    let a = one_takes (first_named faces) ws f rest e in
    a.1 ∙ ap (λ w. w ∷ rest) (named_takes face_word faces a.0 f (refl, (refl, tt)) a.2)

face_again : (f : FaceSide) (rest : Words) → face_at (face_word f ∷ rest) ≡ Some (f, rest)
unfolding face_at
face_again Inner rest = refl
face_again Outer rest = refl

side_takes : (ws : Words) (s : Side) (rest : Words) → side_at ws ≡ Some (s, rest) → ws ≡ side_word s ∷ rest
unfolding side_at
side_takes ws s rest e =
    let a = one_takes (first_named sides) ws s rest e in
    a.1 ∙ ap (λ w. w ∷ rest) (named_takes side_word sides a.0 s (refl, (refl, tt)) a.2)

side_again : (s : Side) (rest : Words) → side_at (side_word s ∷ rest) ≡ Some (s, rest)
unfolding side_at
side_again Plus rest = refl
side_again Minus rest = refl

place_takes : (ws : Words) (at : Place) (rest : Words) → place_at ws ≡ Some (at, rest) → (ws ≡ place_words at ++ rest) × IsPlace at
unfolding place_at
place_takes ws at rest e =
    let a = then_takes (ordinal_at MOST_CASES ws) _ (at, rest) e in
    let b = then_takes (ordinal_at MOST_WALL_PLIES a.1) _ (at, rest) a.3 in
    let c = then_takes (face_at b.1) _ (at, rest) b.3 in
    let d = then_takes (side_at c.1) _ (at, rest) c.3 in
    let case = ordinal_takes MOST_CASES ws a.0 a.1 a.2 in
    let ply = ordinal_takes MOST_WALL_PLIES a.1 b.0 b.1 b.2 in
    let face = face_takes b.1 c.0 c.1 c.2 in
    let side = side_takes c.1 d.0 d.1 d.2 in
    let own : Place = record { case = a.0; ply = b.0; face = c.0; side = d.0 } in
    let same = same_read own at d.1 rest d.3 in
    subst (λ (p : Place). (ws ≡ place_words p ++ rest) × IsPlace p) same.0 (
      case.0 ∙ ap (λ t. ordinal a.0 ∷ t) (ply.0 ∙ ap (λ t. ordinal b.0 ∷ t) (face ∙ ap (λ t. face_word c.0 ∷ t) (side ∙ ap (λ t. side_word d.0 ∷ t) same.1))),
      record { case = case.1; ply = ply.1 },
    )

place_again : (at : Place) (rest : Words) → IsPlace at → place_at (place_words at ++ rest) ≡ Some (at, rest)
unfolding place_at
place_again at rest is =
    let d = side_word at.side ∷ rest in
    let c = face_word at.face ∷ d in
    let b = ordinal at.ply ∷ c in
    then_again (ordinal_at MOST_CASES (ordinal at.case ∷ b)) _ at.case b (ordinal_again MOST_CASES at.case b is.case (lit< tt))
    ∙ then_again (ordinal_at MOST_WALL_PLIES b) _ at.ply c (ordinal_again MOST_WALL_PLIES at.ply c is.ply (lit< tt))
    ∙ then_again (face_at c) _ at.face d (face_again at.face d)
    ∙ then_again (side_at d) _ at.side rest (side_again at.side rest)

-- ---- spots

-- a word is one, or another
pub is_text : (w text : List ℕ) → bytes_eq w text ≡ true → w ≡ text
is_text w text h = grind (arith, bytes_eq-Decides w text)

spot_named_takes : (w : List ℕ) (ws : Words) (at : Spot) (rest : Words) → spot_named w ws ≡ Some (at, rest) → (w ∷ ws ≡ spot_words at ++ rest) × IsSpot at
spot_named_takes w ws at rest e = by (bytes_eq w (codes "ply")) (bytes_eq w (codes "panel")) refl refl e where
  ply : Option (Spot × Words)
  ply = then_read (place_at ws) (λ p left. Some (spot.Ply p, left))

  panel : Option (Spot × Words)
  panel = then_read (ordinal_at MOST_PANELS ws) (λ k left. Some (spot.Panel k, left))

  by : (s t : Bool) → bytes_eq w (codes "ply") ≡ s → bytes_eq w (codes "panel") ≡ t
      → ◌≡◌ {A = Read Spot} (if s then ply else if t then panel else None) (Some (at, rest)) → (w ∷ ws ≡ spot_words at ++ rest) × IsSpot at
  by true t hs ht e =
      let a = then_takes (place_at ws) (λ p left. Some (spot.Ply p, left)) (at, rest) e in
      let p = place_takes ws a.0 a.1 a.2 in
      let same = same_read (spot.Ply a.0) at a.1 rest a.3 in
      subst (λ (q : Spot). (w ∷ ws ≡ spot_words q ++ rest) × IsSpot q) same.0
      (ap (λ v. v ∷ ws) (is_text w (codes "ply") hs) ∙ ap (λ t. codes "ply" ∷ t) (p.0 ∙ ap (λ t. place_words a.0 ++ t) same.1), p.1)
  by false true hs ht e =
      let a = then_takes (ordinal_at MOST_PANELS ws) (λ k left. Some (spot.Panel k, left)) (at, rest) e in
      let p = ordinal_takes MOST_PANELS ws a.0 a.1 a.2 in
      let same = same_read (spot.Panel a.0) at a.1 rest a.3 in
      subst (λ (q : Spot). (w ∷ ws ≡ spot_words q ++ rest) × IsSpot q) same.0
      (ap (λ v. v ∷ ws) (is_text w (codes "panel") ht) ∙ ap (λ t. codes "panel" ∷ t) (p.0 ∙ ap (λ t. ordinal a.0 ∷ t) same.1), p.1)
  by false false hs ht e = absurd (let n : None ≡ Some (at, rest) = e in cc)

pub spot_takes : (ws : Words) (at : Spot) (rest : Words) → spot_at ws ≡ Some (at, rest) → (ws ≡ spot_words at ++ rest) × IsSpot at
unfolding spot_at
spot_takes ws at rest e =
    let a = then_takes (first_word ws) spot_named (at, rest) e in
    let b = spot_named_takes a.0 a.1 at rest a.3 in
    (first_takes ws a.0 a.1 a.2 ∙ b.0, b.1)

pub spot_again : (at : Spot) (rest : Words) → IsSpot at → spot_at (spot_words at ++ rest) ≡ Some (at, rest)
unfolding spot_at
spot_again (spot.Ply p) rest is = then_again (place_at (place_words p ++ rest)) _ p rest (place_again p rest is)
spot_again (spot.Panel k) rest is = then_again (ordinal_at MOST_PANELS (ordinal k ∷ rest)) _ k rest (ordinal_again MOST_PANELS k rest is (lit< tt))

-- ---- seats

seat_named_takes : (items : ℕ) (w : List ℕ) (ws : Words) (at : Seat) (rest : Words) → seat_named items w ws ≡ Some (at, rest)
    → (w ∷ ws ≡ seat_words at ++ rest) × IsSeat items at
seat_named_takes items w ws at rest e = by (bytes_eq w (codes "length")) (bytes_eq w (codes "item")) refl refl e where
  plies : Option (Seat × Words)
  plies = then_read (number_at 1 MOST_PLIES ws) (λ n left. Some (seat.Length n, left))

  item : Option (Seat × Words)
  item = then_read (ordinal_at items ws) (λ i left. Some (seat.Item (record { 0 = i }), left))

  by : (s t : Bool) → bytes_eq w (codes "length") ≡ s → bytes_eq w (codes "item") ≡ t
      → ◌≡◌ {A = Read Seat} (if s then plies else if t then item else None) (Some (at, rest)) → (w ∷ ws ≡ seat_words at ++ rest) × IsSeat items at
  by true t hs ht e =
      let a = then_takes (number_at 1 MOST_PLIES ws) (λ n left. Some (seat.Length n, left)) (at, rest) e in
      let p = number_takes 1 MOST_PLIES ws a.0 a.1 a.2 in
      let same = same_read (seat.Length a.0) at a.1 rest a.3 in
      subst (λ (q : Seat). (w ∷ ws ≡ seat_words q ++ rest) × IsSeat items q) same.0
      (ap (λ v. v ∷ ws) (is_text w (codes "length") hs) ∙ ap (λ t. codes "length" ∷ t) (p.0 ∙ ap (λ t. decimal a.0 ∷ t) same.1), (p.1, p.2))
  by false true hs ht e =
      let a = then_takes (ordinal_at items ws) (λ i left. Some (seat.Item (record { 0 = i }), left)) (at, rest) e in
      let p = ordinal_takes items ws a.0 a.1 a.2 in
      let same = same_read (seat.Item (record { 0 = a.0 })) at a.1 rest a.3 in
      subst (λ (q : Seat). (w ∷ ws ≡ seat_words q ++ rest) × IsSeat items q) same.0
      (ap (λ v. v ∷ ws) (is_text w (codes "item") ht) ∙ ap (λ t. codes "item" ∷ t) (p.0 ∙ ap (λ t. ordinal a.0 ∷ t) same.1), p.1)
  by false false hs ht e = absurd (let n : None ≡ Some (at, rest) = e in cc)

seat_takes : (items : ℕ) (ws : Words) (at : Seat) (rest : Words) → seat_at items ws ≡ Some (at, rest) → (ws ≡ seat_words at ++ rest) × IsSeat items at
unfolding seat_at
seat_takes items ws at rest e =
    let a = then_takes (first_word ws) (seat_named items) (at, rest) e in
    let b = seat_named_takes items a.0 a.1 at rest a.3 in
    (first_takes ws a.0 a.1 a.2 ∙ b.0, b.1)

seat_again : (items : ℕ) (at : Seat) (rest : Words) → items < 256 → IsSeat items at → seat_at items (seat_words at ++ rest) ≡ Some (at, rest)
unfolding seat_at
seat_again items (seat.Length n) rest few is =
    let low = is.0 in let high = is.1 in
    then_again (number_at 1 MOST_PLIES (decimal n ∷ rest)) _ n rest (number_again 1 MOST_PLIES n rest low high (omega (arith, high)))
seat_again items (seat.Item i) rest few is =
    then_again (ordinal_at items (ordinal i.0 ∷ rest)) _ i.0 rest (ordinal_again items i.0 rest is (omega (arith, few)))

-- ---- words

abbrev keyword_text : Keyword → List ℕ
keyword_text key.Split = codes "split"
keyword_text key.Cost = codes "cost"
keyword_text key.Rule = codes "rule"
keyword_text key.NetShort = codes "netshort"
keyword_text key.NetCost = codes "netcost"
keyword_text key.Box = codes "box"
keyword_text key.Range = codes "range"
keyword_text key.Fails = codes "fails"
keyword_text key.Buckles = codes "buckles"
keyword_text key.Straddles = codes "straddles"
keyword_text key.Admissible = codes "admissible"

keyword_takes : (ws : Words) (k : Keyword) (rest : Words) → keyword_at ws ≡ Some (k, rest) → ws ≡ keyword_text k ∷ rest
unfolding keyword_at
keyword_takes ws k rest e =
    let a = one_takes (first_named keywords) ws k rest e in
    a.1 ∙ ap (λ w. w ∷ rest) (named_takes keyword_text keywords a.0 k
    (refl, (refl, (refl, (refl, (refl, (refl, (refl, (refl, (refl, (refl, (refl, tt))))))))))) a.2)

keyword_again : (k : Keyword) (rest : Words) → keyword_at (keyword_text k ∷ rest) ≡ Some (k, rest)
unfolding keyword_at
keyword_again key.Split rest = refl
keyword_again key.Cost rest = refl
keyword_again key.Rule rest = refl
keyword_again key.NetShort rest = refl
keyword_again key.NetCost rest = refl
keyword_again key.Box rest = refl
keyword_again key.Range rest = refl
keyword_again key.Fails rest = refl
keyword_again key.Buckles rest = refl
keyword_again key.Straddles rest = refl
keyword_again key.Admissible rest = refl

-- a word that has no more words
alone : (k : Keyword) (ws : Words) (own w : Word) (rest : Words) → word_words own ≡ keyword_text k ∷ [] → IsWord own
    → ◌≡◌ {A = Read Word} (Some (own, ws)) (Some (w, rest)) → (keyword_text k ∷ ws ≡ word_words w ++ rest) × IsWord w
alone k ws own w rest text is e =
    let same = same_read own w ws rest e in
    subst (λ (v : Word). (keyword_text k ∷ ws ≡ word_words v ++ rest) × IsWord v) same.0
    (ap (λ t. keyword_text k ∷ t) same.1 ∙ ap (λ t. t ++ rest) (sym text), is)

-- a word with what is read behind its keyword
behind_key : {X : Type 0} (k : Keyword) (ws : Words) (read : Read X) (make : X → Word) (texts : X → Words) (w : Word) (rest : Words)
    → ((x : X) → word_words (make x) ≡ keyword_text k ∷ texts x)
    → ((x : X) (left : Words) → read ≡ Some (x, left) → (ws ≡ texts x ++ left) × IsWord (make x))
    → then_read {Y = Word × Words} read (λ x left. Some (make x, left)) ≡ Some (w, rest) → (keyword_text k ∷ ws ≡ word_words w ++ rest) × IsWord w
behind_key k ws read make texts w rest text takes e =
    let a = then_takes read (λ x left. Some (make x, left)) (w, rest) e in
    let b = takes a.0 a.1 a.2 in
    let same = same_read (make a.0) w a.1 rest a.3 in
    subst (λ (v : Word). (keyword_text k ∷ ws ≡ word_words v ++ rest) × IsWord v) same.0
    (ap (λ t. keyword_text k ∷ t) (b.0 ∙ ap (λ t. texts a.0 ++ t) same.1) ∙ ap (λ t. t ++ rest) (sym (text a.0)), b.1)

-- a case and a weight
case_weight_takes : (ws : Words) (make : ℕ → Weight → Word) (y : Word × Words)
    → then_read {Y = Word × Words} (ordinal_at MOST_CASES ws) (λ case left. then_read (weight_at left) (λ w left. Some (make case w, left))) ≡ Some y
    → (case : ℕ) × (w : Weight) × (rest : Words) × (ws ≡ ordinal case ∷ (weight_words w ++ rest)) × (case < MOST_CASES) × ((make case w, rest) ≡ y)
case_weight_takes ws make y e =
    let a = then_takes (ordinal_at MOST_CASES ws) (λ case left. then_read (weight_at left) (λ w left. Some (make case w, left))) y e in
    let b = then_takes (weight_at a.1) (λ w left. Some (make a.0 w, left)) y a.3 in
    let case = ordinal_takes MOST_CASES ws a.0 a.1 a.2 in
    let weight = weight_takes a.1 b.0 b.1 b.2 in
    (a.0, b.0, b.1, case.0 ∙ ap (λ t. ordinal a.0 ∷ t) weight, case.1, same_Some (make a.0 b.0, b.1) y b.3)

word_after_takes : (k : Keyword) (ws : Words) (w : Word) (rest : Words) → word_after k ws ≡ Some (w, rest) → (keyword_text k ∷ ws ≡ word_words w ++ rest) × IsWord w
word_after_takes key.Split ws w rest e = alone key.Split ws word.Split w rest refl tt e
word_after_takes key.Cost ws w rest e = alone key.Cost ws word.Cost w rest refl tt e
word_after_takes key.Rule ws w rest e =
    behind_key key.Rule ws (number_at 1 MOST_RULES ws) (λ n. word.Rule (record { 0 = n })) (λ n. decimal n ∷ []) w rest (λ n. refl)
    (λ n left h. (let p = number_takes 1 MOST_RULES ws n left h in (p.0, (p.1, p.2)))) e
word_after_takes key.NetShort ws w rest e =
    let a = case_weight_takes ws word.NetShort (w, rest) e in
    subst (λ (v : Word × Words). (codes "netshort" ∷ ws ≡ word_words v.0 ++ v.1) × IsWord v.0) a.5 (ap (λ t. codes "netshort" ∷ t) a.3, a.4)
word_after_takes key.NetCost ws w rest e =
    let a = case_weight_takes ws word.NetCost (w, rest) e in
    subst (λ (v : Word × Words). (codes "netcost" ∷ ws ≡ word_words v.0 ++ v.1) × IsWord v.0) a.5 (ap (λ t. codes "netcost" ∷ t) a.3, a.4)
word_after_takes key.Box ws w rest e =
    behind_key key.Box ws (place_at ws) (λ at. word.Box at) place_words w rest (λ at. refl) (λ at left h. place_takes ws at left h) e
word_after_takes key.Range ws w rest e =
    behind_key key.Range ws (ordinal_at MOST_CASES ws) (λ n. word.Range n) (λ n. ordinal n ∷ []) w rest (λ n. refl) (λ n left h. ordinal_takes MOST_CASES ws n left h) e
word_after_takes key.Fails ws w rest e =
    behind_key key.Fails ws (place_at ws) (λ at. word.Fails at) place_words w rest (λ at. refl) (λ at left h. place_takes ws at left h) e
word_after_takes key.Buckles ws w rest e =
    behind_key key.Buckles ws (ordinal_at MOST_PANELS ws) (λ n. word.Buckles n) (λ n. ordinal n ∷ []) w rest (λ n. refl) (λ n left h. ordinal_takes MOST_PANELS ws n left h) e
word_after_takes key.Straddles ws w rest e =
    behind_key key.Straddles ws (spot_at ws) (λ at. word.Straddles at) spot_words w rest (λ at. refl) (λ at left h. spot_takes ws at left h) e
word_after_takes key.Admissible ws w rest e = alone key.Admissible ws word.Admissible w rest refl tt e

word_takes : (ws : Words) (w : Word) (rest : Words) → word_at ws ≡ Some (w, rest) → (ws ≡ word_words w ++ rest) × IsWord w
unfolding word_at
word_takes ws w rest e =
    let a = then_takes (keyword_at ws) word_after (w, rest) e in
    let b = word_after_takes a.0 a.1 w rest a.3 in
    (keyword_takes ws a.0 a.1 a.2 ∙ b.0, b.1)

-- a word that begins with a keyword
keyed : (k : Keyword) (ws : Words) (w : Word) (rest : Words) → word_after k ws ≡ Some (w, rest) → word_at (keyword_text k ∷ ws) ≡ Some (w, rest)
unfolding word_at
keyed k ws w rest e = then_again (keyword_at (keyword_text k ∷ ws)) word_after k ws (keyword_again k ws) ∙ e

word_again : (w : Word) (rest : Words) → IsWord w → word_at (word_words w ++ rest) ≡ Some (w, rest)
word_again word.Split rest is = keyed key.Split rest word.Split rest refl
word_again word.Cost rest is = keyed key.Cost rest word.Cost rest refl
word_again (word.Rule rule) rest is =
    let low = is.0 in let high = is.1 in
    keyed key.Rule (decimal rule.0 ∷ rest) (word.Rule rule) rest
    (then_again (number_at 1 MOST_RULES (decimal rule.0 ∷ rest)) _ rule.0 rest (number_again 1 MOST_RULES rule.0 rest low high (omega (arith, high))))
word_again (word.NetShort case w) rest is =
    keyed key.NetShort (ordinal case ∷ (weight_words w ++ rest)) (word.NetShort case w) rest
    (then_again (ordinal_at MOST_CASES (ordinal case ∷ (weight_words w ++ rest))) _ case (weight_words w ++ rest) (ordinal_again MOST_CASES case (weight_words w ++ rest) is (lit< tt))
    ∙ then_again (weight_at (weight_words w ++ rest)) _ w rest (weight_again w rest))
word_again (word.NetCost case w) rest is =
    keyed key.NetCost (ordinal case ∷ (weight_words w ++ rest)) (word.NetCost case w) rest
    (then_again (ordinal_at MOST_CASES (ordinal case ∷ (weight_words w ++ rest))) _ case (weight_words w ++ rest) (ordinal_again MOST_CASES case (weight_words w ++ rest) is (lit< tt))
    ∙ then_again (weight_at (weight_words w ++ rest)) _ w rest (weight_again w rest))
word_again (word.Box at) rest is =
    keyed key.Box (place_words at ++ rest) (word.Box at) rest (then_again (place_at (place_words at ++ rest)) _ at rest (place_again at rest is))
word_again (word.Range case) rest is =
    keyed key.Range (ordinal case ∷ rest) (word.Range case) rest (then_again (ordinal_at MOST_CASES (ordinal case ∷ rest)) _ case rest (ordinal_again MOST_CASES case rest is (lit< tt)))
word_again (word.Fails at) rest is =
    keyed key.Fails (place_words at ++ rest) (word.Fails at) rest (then_again (place_at (place_words at ++ rest)) _ at rest (place_again at rest is))
word_again (word.Buckles panel) rest is =
    keyed key.Buckles (ordinal panel ∷ rest) (word.Buckles panel) rest (then_again (ordinal_at MOST_PANELS (ordinal panel ∷ rest)) _ panel rest (ordinal_again MOST_PANELS panel rest is (lit< tt)))
word_again (word.Straddles at) rest is =
    keyed key.Straddles (spot_words at ++ rest) (word.Straddles at) rest (then_again (spot_at (spot_words at ++ rest)) _ at rest (spot_again at rest is))
word_again word.Admissible rest is = keyed key.Admissible rest word.Admissible rest refl

-- ---- each word is one

pub number_word : (n : ℕ) → n < 1000 → is_word (decimal n) ≡ true
number_word n small = decimal_word n (omega (arith, small))

place_are_words : (at : Place) (rest : Words) → IsPlace at → AllByRecursion (λ w. is_word w ≡ true) rest → AllByRecursion (λ w. is_word w ≡ true) (place_words at ++ rest)
place_are_words at rest is more =
    let case = is.case in let ply = is.ply in
    (number_word (at.case + 1) (omega (arith, case)), (number_word (at.ply + 1) (omega (arith, ply)), (face at.face, (side at.side, more)))) where
      face : (f : FaceSide) → is_word (face_word f) ≡ true
      face Inner = refl
      face Outer = refl

      side : (s : Side) → is_word (side_word s) ≡ true
      side Plus = refl
      side Minus = refl

pub spot_are_words : (at : Spot) (rest : Words) → IsSpot at → AllByRecursion (λ w. is_word w ≡ true) rest → AllByRecursion (λ w. is_word w ≡ true) (spot_words at ++ rest)
spot_are_words (spot.Ply at) rest is more = (refl, place_are_words at rest is more)
spot_are_words (spot.Panel panel) rest is more = (refl, (number_word (panel + 1) (omega (arith, is)), more))

weight_are_words : (w : Weight) → AllByRecursion (λ v. is_word v ≡ true) (weight_words w)
weight_are_words w =
    let x = w.x_range in let y = w.y_range in let s = w.s_range in
    (signed_word w.x (omega (arith, x)), (signed_word w.y (omega (arith, y)), (signed_word w.s (omega (arith, s)), tt)))

word_are_words : (w : Word) → IsWord w → AllByRecursion (λ v. is_word v ≡ true) (word_words w)
word_are_words word.Split is = (refl, tt)
word_are_words word.Cost is = (refl, tt)
word_are_words (word.Rule rule) is = let high = is.1 in (refl, (number_word rule.0 (omega (arith, high)), tt))
word_are_words (word.NetShort case w) is = (refl, (number_word (case + 1) (omega (arith, is)), weight_are_words w))
word_are_words (word.NetCost case w) is = (refl, (number_word (case + 1) (omega (arith, is)), weight_are_words w))
word_are_words (word.Box at) is = (refl, subst (AllByRecursion (λ v. is_word v ≡ true)) (append-nil (place_words at)) (place_are_words at [] is tt))
word_are_words (word.Range case) is = (refl, (number_word (case + 1) (omega (arith, is)), tt))
word_are_words (word.Fails at) is = (refl, subst (AllByRecursion (λ v. is_word v ≡ true)) (append-nil (place_words at)) (place_are_words at [] is tt))
word_are_words (word.Buckles panel) is = (refl, (number_word (panel + 1) (omega (arith, is)), tt))
word_are_words (word.Straddles at) is = (refl, subst (AllByRecursion (λ v. is_word v ≡ true)) (append-nil (spot_words at)) (spot_are_words at [] is tt))
word_are_words word.Admissible is = (refl, tt)

seat_are_words : (items : ℕ) (at : Seat) (rest : Words) → items < 256 → IsSeat items at → AllByRecursion (λ w. is_word w ≡ true) rest → AllByRecursion (λ w. is_word w ≡ true) (seat_words at ++ rest)
seat_are_words items (seat.Length n) rest few is more = let high = is.1 in (refl, (number_word n (omega (arith, high)), more))
seat_are_words items (seat.Item i) rest few is more = (refl, (number_word (i.0 + 1) (omega (arith, few, is)), more))

-- ---- nodes

pub words_again_list : (ws : Words) → ws ≢ [] → AllByRecursion (λ w. is_word w ≡ true) ws → words_of (line_of ws) ≡ ws
words_again_list [] some are = absurd (some refl)
words_again_list (w ∷ ws) some are = words_again w ws are

node_takes : (items : ℕ) (ws : Words) (node : Node) (rest : Words) → node_at items ws ≡ Some (node, rest)
    → (ws ≡ seat_words node.seat ++ (word_words node.word ++ rest)) × IsNode items node
unfolding node_at
node_takes items ws node rest e =
    let a = then_takes (seat_at items ws) _ (node, rest) e in
    let b = then_takes (word_at a.1) _ (node, rest) a.3 in
    let at = seat_takes items ws a.0 a.1 a.2 in
    let says = word_takes a.1 b.0 b.1 b.2 in
    let own : Node = record { seat = a.0; word = b.0 } in
    let same = same_read own node b.1 rest b.3 in
    subst (λ (n : Node). (ws ≡ seat_words n.seat ++ (word_words n.word ++ rest)) × IsNode items n) same.0
    (at.0 ∙ ap (λ t. seat_words a.0 ++ t) (says.0 ∙ ap (λ t. word_words b.0 ++ t) same.1), record { seat = at.1; word = says.1 })

pub whole_takes_all : {X : Type 0} (read : Read X) (x : X) → whole read ≡ Some x → read ≡ Some (x, [])
whole_takes_all None x e = absurd (let n : None ≡ Some x = e in cc)
whole_takes_all (Some (y, [])) x e = ap (λ z. Some (z, [])) (same_Some y x e)
whole_takes_all (Some (y, w ∷ rest)) x e = absurd (let n : None ≡ Some x = e in cc)

-- what is read is the line of a node
pub line_takes : (items : ℕ) (line : List ℕ) (node : Node) → node_of items line ≡ Some node → (line ≡ node_line node) × IsNode items node
unfolding node_of
line_takes items line node e =
    let a = node_takes items (words_of line) node [] (whole_takes_all (node_at items (words_of line)) node e) in
    let words : words_of line ≡ seat_words node.seat ++ word_words node.word = a.0 ∙ ap (λ t. seat_words node.seat ++ t) (append-nil (word_words node.word)) in
    (sym (line_again line) ∙ ap line_of words, a.1)

node_again : (items : ℕ) (node : Node) → items < 256 → IsNode items node
    → node_at items (seat_words node.seat ++ word_words node.word) ≡ Some (node, [])
unfolding node_at
node_again items node few is =
    let said = ap word_at (sym (append-nil (word_words node.word))) ∙ word_again node.word [] is.word in
    then_again (seat_at items (seat_words node.seat ++ word_words node.word)) _ node.seat (word_words node.word) (seat_again items node.seat (word_words node.word) few is.seat)
    ∙ then_again (word_at (word_words node.word)) _ node.word [] said

some_words : (items : ℕ) (node : Node) → seat_words node.seat ++ word_words node.word ≢ []
some_words items node e = by node.seat e where
  by : (at : Seat) → seat_words at ++ word_words node.word ≡ [] → ⊥
  by (seat.Length n) e = cc
  by (seat.Item i) e = cc

pub node_are_words : (items : ℕ) (node : Node) → items < 256 → IsNode items node → AllByRecursion (λ w. is_word w ≡ true) (seat_words node.seat ++ word_words node.word)
node_are_words items node few is = seat_are_words items node.seat (word_words node.word) few is.seat (word_are_words node.word is.word)

-- the line of a node is read as that node
pub line_of_node_again : (items : ℕ) (node : Node) → items < 256 → IsNode items node → node_of items (node_line node) ≡ Some node
unfolding node_of
line_of_node_again items node few is =
    let are = seat_are_words items node.seat (word_words node.word) few is.seat (word_are_words node.word is.word) in
    ap (λ ws. whole (node_at items ws)) (words_again_list (seat_words node.seat ++ word_words node.word) (some_words items node) are)
    ∙ ap whole (node_again items node few is)
