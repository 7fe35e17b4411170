-- A cursor that goes to a seat, splits, or goes up, and what it is still to read.
use Rattle.std.proofs.Common.{◌≡◌, ◌≢◌, refl, sym, ◌∙◌, ap, subst, ℕ, zero, suc, ◌+◌, ◌-◌, ◌<◌, ◌≤◌, ◌⊎◌, inl, inr, ◌==◌, ◌&&◌, not, nat_lt, List, [], ◌∷◌, ◌++◌, length, drop, slice_get, Bool, true, false, Option, Some, None, IfSome, IsSomeAnd, if◌then◌else◌, arith}
use Rattle.std.proofs.lemmas.Bool.{cases_eq, eq-eqb, ne_eqb, le-ltb}
use Rattle.std.proofs.lemmas.List.{length_push, length-take-le}
use Rattle.std.proofs.lemmas.List.Elements.{All-append, All-cons, All-nil, All-take}
use Rattle.lam_stock.specs.declared.item.ItemNo.{ItemNo}
use Rattle.lam_stock.specs.Stock.{IsKnown}
use Rattle.lam_job.specs.declared.limits.TheConstants.{MOST_PLIES}
use Rattle.lam_rules.specs.Conditions.{IsPartial}
use Rattle.lam_job.specs.Partial.{Partial, half_of, half, child}
use Rattle.lam_tree.specs.declared.node.Node.{Node}
use Rattle.lam_tree.specs.declared.node.Seat.TheVariants as seat
use Rattle.lam_tree.specs.declared.node.Word.{Word}
use Rattle.lam_tree.specs.declared.node.Word.TheVariants as word
use Rattle.lam_tree.specs.Reading.{Cut, Stray, Whole, Reading, ends, visit, and_had, due_item, read}
use Rattle.lam_check.specs.declared.splits.Open.{Open}
use Rattle.lam_check.specs.declared.cursor.Cursor.{Cursor}
use Rattle.lam_check.specs.inside.Basis.{Basis}
use Rattle.lam_check.specs.inside.Sets.{has_bit}
use Rattle.lam_check.specs.inside.Machine.{front, partial_at, resume, resume_at, left, left_at, IsBetween, IsSettled, IsAt}
use Rattle.lam_check.proofs.Walking.{resume-start, resume-item, resume-stray, resume-length, resume-not_next, resume-over, resume-split, resume-split_at, resume-leaf, resume-done, resume-cut, resume-whole, resume-short}

-- ---- lists

no_first : {X : Type 0} (xs : List X) → slice_get xs 0 ≡ None → xs ≡ []
no_first [] is = refl
no_first (x ∷ rest) is = absurd (let n : Some x ≡ None = is in cc)

first_of : {X : Type 0} (xs : List X) (x : X) → slice_get xs 0 ≡ Some x → xs ≡ x ∷ drop 1 xs
first_of [] x is = absurd (let n : None ≡ Some x = is in cc)
first_of (y ∷ rest) x is = ap (λ z. z ∷ rest) (let s : Some y ≡ Some x = is in cc)

pub is_done : (splits : List Open) → IsSomeAnd (slice_get splits 0) (λ top. top.to_come ≡ 0)
    → (top : Open) × (slice_get splits 0 ≡ Some top) × (top.to_come ≡ 0)
is_done [] is = absurd is
is_done (top ∷ rest) is = (top, refl, is)

-- a split that is not done has a child to come
pub not_done : (splits : List Open) → (IsSomeAnd (slice_get splits 0) (λ top. top.to_come ≡ 0) → ⊥) → IfSome (slice_get splits 0) (λ top. 0 < top.to_come)
not_done [] other = tt
not_done (top ∷ rest) other = elim (cases_eq top.to_come 0) [ inl is ↦ absurd (other is) | inr more ↦ omega (arith, more) ]

empty : {X : Type 0} (xs : List X) → length xs ≡ 0 → xs ≡ []
empty [] is = refl
empty (x ∷ rest) is = absurd (let n : suc (length rest) ≡ 0 = is in omega (arith, n))

front-length : (path : List ItemNo) → length (front path) ≡ length path - 1
front-length path = length-take-le (length path - 1) path (omega arith)

half_within : (symmetric : Bool) (n : ℕ) → half_of symmetric n ≤ n
half_within true zero = omega arith
half_within true (suc n) = omega arith
half_within false n = omega arith

module _ (m : Basis) where
  -- ---- the start

  pub start : (c : Cursor) (prefix : List ItemNo) → prefix ≡ [] → c.partial ≡ record { n = 0; prefix = prefix } → c.splits ≡ []
      → (lines : List Node) → left m c lines ≡ read m.stock m.job lines
  start c prefix none partial splits lines =
      ap (λ s. resume m c.partial.n s c.partial.prefix lines) splits
      ∙ ap (λ (p : Partial). resume m p.n [] p.prefix lines) (partial ∙ ap (λ path. partial_at 0 path) none)
      ∙ resume-start m lines

  pub start-settled : (c : Cursor) (prefix : List ItemNo) → prefix ≡ [] → c.partial ≡ record { n = 0; prefix = prefix } → c.splits ≡ [] → IsSettled m c
  start-settled c prefix none partial splits =
      let p : c.partial ≡ partial_at 0 [] = partial ∙ ap (λ path. partial_at 0 path) none in
      let long : length c.splits ≡ 0 = ap length splits in
      let path : c.partial.prefix ≡ [] = ap (λ (q : Partial). q.prefix) p in
      let at : c.partial.n ≡ 0 = ap (λ (q : Partial). q.n) p in
      record {
        between = record {
          depth = ap length path ∙ (let e : 0 ≡ length c.splits - 1 = omega (arith, long) in e);
          within = omega (arith, long);
          short = omega (arith, at);
          few = omega (arith, at);
          known = subst (IsKnown m.stock) (sym path) (All-nil (λ ply. ply.0 < length m.stock));
        };
        due = subst (λ s. IfSome (slice_get s 0) (λ top. 0 < top.to_come)) (sym splits) tt;
      }

  -- ---- room on the stacks

  pub room_below : (c : Cursor) → IsSettled m c → (top : Open) → slice_get c.splits 0 ≡ Some top → length (drop 1 c.splits) < MOST_PLIES
  room_below c settled top is =
      let one : length c.splits ≡ suc (length (drop 1 c.splits)) = ap length (first_of c.splits top is) in
      let within = settled.between.within in
      let few = settled.between.few in
      let h = half_within m.job.rules.symmetric c.partial.n in
      omega (arith, one, within, few, h)

  pub room_for_item : (c : Cursor) → IsSettled m c → length c.partial.prefix < 64
  room_for_item c settled =
      let depth = settled.between.depth in
      let within = settled.between.within in
      let few = settled.between.few in
      let h = half_within m.job.rules.symmetric c.partial.n in
      omega (arith, depth, within, few, h)

  pub room_for_split : (c : Cursor) → IsAt m c → length c.partial.prefix < half m.job c.partial.n → length c.splits < MOST_PLIES
  room_for_split c at more =
      let depth = at.depth in
      let few = at.few in
      let h = half_within m.job.rules.symmetric c.partial.n in
      omega (arith, depth, few, h, more)

  pub at_partial : (c : Cursor) → IsAt m c → IsPartial m.stock m.job c.partial
  at_partial c at = record {
    some = at.some;
    few = at.few;
    within = (let depth = at.depth in let within = at.within in omega (arith, depth, within));
    known = at.known;
  }

  -- ---- a length

  module _ (c : Cursor) (settled : IsSettled m c) where
    -- no length is due where a split is open
    pub length-in_split : (k : ℕ) (top : Open) → slice_get c.splits 0 ≡ Some top → (word : Word) (rest : List Node)
        → left m c (record { seat = seat.Length k; word = word } ∷ rest) ≡ ends Stray
    length-in_split k top is word rest =
        ap (λ s. resume m c.partial.n s c.partial.prefix (record { seat = seat.Length k; word = word } ∷ rest)) (first_of c.splits top is)
        ∙ resume-stray m c.partial.n top (drop 1 c.splits) c.partial.prefix (record { seat = seat.Length k; word = word }) rest
        (subst (λ o. IfSome o (λ t. 0 < t.to_come)) is settled.due) refl

    pub length-not_next : (k : ℕ) → slice_get c.splits 0 ≡ None → (k ≡ c.partial.n + 1 → ⊥) → (word : Word) (rest : List Node)
        → left m c (record { seat = seat.Length k; word = word } ∷ rest) ≡ ends Stray
    length-not_next k none other word rest =
        ap (λ s. resume m c.partial.n s c.partial.prefix (record { seat = seat.Length k; word = word } ∷ rest)) (no_first c.splits none)
        ∙ resume-not_next m c.partial.n c.partial.prefix (record { seat = seat.Length k; word = word }) rest
        (ne_eqb k (suc c.partial.n) (λ e. other (omega (arith, e))))

    pub length-over : (k : ℕ) → slice_get c.splits 0 ≡ None → m.job.limit < k → (word : Word) (rest : List Node)
        → left m c (record { seat = seat.Length k; word = word } ∷ rest) ≡ ends Stray
    length-over k none over word rest =
        elim (cases_eq k (suc c.partial.n)) [
          | inl is ↦ (ap (λ s. resume m c.partial.n s c.partial.prefix (record { seat = seat.Length k; word = word } ∷ rest)) (no_first c.splits none)
              ∙ resume-over m c.partial.n c.partial.prefix (record { seat = seat.Length k; word = word }) rest (omega (arith, is, over)))
          | inr other ↦ length-not_next k none (λ e. other (omega (arith, e))) word rest
        ]

    no_path : slice_get c.splits 0 ≡ None → c.partial.prefix ≡ []
    no_path none =
        let long : length c.splits ≡ 0 = ap length (no_first c.splits none) in
        empty c.partial.prefix (settled.between.depth ∙ (let e : length c.splits - 1 ≡ 0 = omega (arith, long) in e))

    pub length-due : (after : Cursor) (k : ℕ) → slice_get c.splits 0 ≡ None → k ≡ c.partial.n + 1 → k ≤ m.job.limit
        → after.partial ≡ record { n = k; prefix = c.partial.prefix } → after.splits ≡ c.splits
        → (word : Word) (rest : List Node) → left m c (record { seat = seat.Length k; word = word } ∷ rest) ≡ left_at m after word rest
    length-due after k none next within partial splits word rest =
        let open_none = no_first c.splits none in
        ap (λ s. resume m c.partial.n s c.partial.prefix (record { seat = seat.Length k; word = word } ∷ rest)) open_none
        ∙ resume-length m c.partial.n k c.partial.prefix word rest next within
        ∙ ap (λ path. resume_at m k [] path word rest) (sym (no_path none))
        ∙ ap (λ s. resume_at m k s c.partial.prefix word rest) (sym (splits ∙ open_none))
        ∙ ap (λ (p : Partial). resume_at m p.n after.splits p.prefix word rest) (sym partial)

    pub length-at : (after : Cursor) (k : ℕ) → slice_get c.splits 0 ≡ None → k ≡ c.partial.n + 1 → k ≤ m.job.limit → k ≤ MOST_PLIES
        → after.partial ≡ record { n = k; prefix = c.partial.prefix } → after.splits ≡ c.splits → IsAt m after
    length-at after k none next within most partial splits =
        let long : length after.splits ≡ 0 = ap length (splits ∙ no_first c.splits none) in
        let path : after.partial.prefix ≡ c.partial.prefix = ap (λ (p : Partial). p.prefix) partial in
        let n : after.partial.n ≡ k = ap (λ (p : Partial). p.n) partial in
        record {
          depth = ap length (path ∙ no_path none) ∙ sym long;
          within = omega (arith, long);
          some = omega (arith, n, next);
          short = omega (arith, n, within);
          few = omega (arith, n, most);
          known = subst (IsKnown m.stock) (sym path) settled.between.known;
        }

    -- ---- a child

    due_none : (had : ℕ → Bool) (i : ItemNo) → (length m.stock ≤ i.0) ⊎ (had i.0 ≡ true) → due_item (length m.stock) had (seat.Item i) ≡ None
    due_none had i (inl over) = ap (λ b. if b && not (had i.0) then Some i else None) (le-ltb i.0 (length m.stock) over)
    due_none had i (inr twice) = by (nat_lt i.0 (length m.stock)) where
      by : (b : Bool) → ◌≡◌ {A = Option ItemNo} (if b && not (had i.0) then Some i else None) None
      by true = ap (λ h. if true && not h then Some i else None) twice
      by false = refl

    -- no item is due where no split is open
    pub item-in_no_split : (i : ItemNo) → slice_get c.splits 0 ≡ None → (word : Word) (rest : List Node)
        → left m c (record { seat = seat.Item i; word = word } ∷ rest) ≡ ends Stray
    item-in_no_split i none word rest =
        ap (λ s. resume m c.partial.n s c.partial.prefix (record { seat = seat.Item i; word = word } ∷ rest)) (no_first c.splits none)
        ∙ resume-not_next m c.partial.n c.partial.prefix (record { seat = seat.Item i; word = word }) rest refl

    pub item-stray : (i : ItemNo) (top : Open) → slice_get c.splits 0 ≡ Some top → (length m.stock ≤ i.0) ⊎ (has_bit top.had i.0 ≡ true)
        → (word : Word) (rest : List Node) → left m c (record { seat = seat.Item i; word = word } ∷ rest) ≡ ends Stray
    item-stray i top is not_due word rest =
        ap (λ s. resume m c.partial.n s c.partial.prefix (record { seat = seat.Item i; word = word } ∷ rest)) (first_of c.splits top is)
        ∙ resume-stray m c.partial.n top (drop 1 c.splits) c.partial.prefix (record { seat = seat.Item i; word = word }) rest
        (subst (λ o. IfSome o (λ t. 0 < t.to_come)) is settled.due) (due_none (has_bit top.had) i not_due)

    pub some_to_come : (top : Open) → slice_get c.splits 0 ≡ Some top → 0 < top.to_come
    some_to_come top is = subst (λ o. IfSome o (λ t. 0 < t.to_come)) is settled.due

    pub one_split : (top : Open) → slice_get c.splits 0 ≡ Some top → length c.splits ≡ suc (length (drop 1 c.splits))
    one_split top is = ap length (first_of c.splits top is)

    pub item-due : (after : Cursor) (i : ItemNo) (top after_top : Open) → slice_get c.splits 0 ≡ Some top
        → top.to_come ≡ suc after_top.to_come → i.0 < length m.stock → has_bit top.had i.0 ≡ false
        → ((j : ℕ) → has_bit after_top.had j ≡ and_had i (has_bit top.had) j)
        → after.splits ≡ after_top ∷ drop 1 c.splits → after.partial ≡ child c.partial i
        → (word : Word) (rest : List Node) → left m c (record { seat = seat.Item i; word = word } ∷ rest) ≡ left_at m after word rest
    item-due after i top after_top is one known new adds splits partial word rest =
        ap (λ s. resume m c.partial.n s c.partial.prefix (record { seat = seat.Item i; word = word } ∷ rest)) (first_of c.splits top is)
        ∙ resume-item m c.partial.n top after_top (drop 1 c.splits) c.partial.prefix i word rest one known new adds
        ∙ ap (λ s. resume_at m c.partial.n s (c.partial.prefix ++ i ∷ []) word rest) (sym splits)
        ∙ ap (λ (p : Partial). resume_at m p.n after.splits p.prefix word rest) (sym partial)

    pub item-at : (after : Cursor) (i : ItemNo) (top after_top : Open) → slice_get c.splits 0 ≡ Some top → i.0 < length m.stock
        → after.splits ≡ after_top ∷ drop 1 c.splits → after.partial ≡ child c.partial i → IsAt m after
    item-at after i top after_top is known splits partial =
        let long : length after.splits ≡ suc (length (drop 1 c.splits)) = ap length splits in
        let was = one_split top is in
        let depth = settled.between.depth in
        let within = settled.between.within in
        let short = settled.between.short in
        let few = settled.between.few in
        let h = half_within m.job.rules.symmetric c.partial.n in
        let path : after.partial.prefix ≡ c.partial.prefix ++ i ∷ [] = ap (λ (p : Partial). p.prefix) partial in
        let n : after.partial.n ≡ c.partial.n = ap (λ (p : Partial). p.n) partial in
        let pushed = length_push c.partial.prefix i in
        let longer = ap length path in
        record {
          depth = longer ∙ pushed ∙ omega (arith, depth, was, long);
          within = subst (λ k. length after.splits ≤ half m.job k) (sym n) (omega (arith, long, was, within));
          some = omega (arith, n, was, within, h);
          short = omega (arith, n, short);
          few = omega (arith, n, few);
          known = subst (IsKnown m.stock) (sym path)
              (All-append (λ ply. ply.0 < length m.stock) c.partial.prefix (i ∷ []) settled.between.known
              (All-cons (λ ply. ply.0 < length m.stock) i [] known (All-nil (λ ply. ply.0 < length m.stock))));
        }

    -- ---- the end

    pub whole-in_split : (top : Open) → slice_get c.splits 0 ≡ Some top → left m c [] ≡ ends Cut
    whole-in_split top is =
        ap (λ s. resume m c.partial.n s c.partial.prefix []) (first_of c.splits top is)
        ∙ resume-cut m c.partial.n top (drop 1 c.splits) c.partial.prefix (some_to_come top is)

    pub whole-between : (limit : ℕ) → limit ≡ m.job.limit → slice_get c.splits 0 ≡ None → left m c [] ≡ ends (if c.partial.n == limit then Whole else Cut)
    whole-between limit same none =
        let short = settled.between.short in
        ap (λ s. resume m c.partial.n s c.partial.prefix []) (no_first c.splits none)
        ∙ elim (cases_eq c.partial.n limit) [
          | inl is ↦ (resume-whole m c.partial.n c.partial.prefix (omega (arith, is, same))
              ∙ sym (ap (λ (b : Bool). ends (if b then Whole else Cut)) (eq-eqb c.partial.n limit is)))
          | inr other ↦ (resume-short m c.partial.n c.partial.prefix (omega (arith, other, same, short))
              ∙ sym (ap (λ (b : Bool). ends (if b then Whole else Cut)) (ne_eqb c.partial.n limit other)))
        ]

  -- ---- a split, and behind a leaf

  module _ (c : Cursor) (at : IsAt m c) where
    pub split-reads : (after : Cursor) (split : Open) → length c.partial.prefix < half m.job c.partial.n → split.to_come ≡ length m.stock → split.had ≡ 0
        → after.partial ≡ c.partial → after.splits ≡ split ∷ c.splits
        → (rest : List Node) → left_at m c word.Split rest ≡ visit c.partial word.Split (left m after rest)
    split-reads after split more all none partial splits rest =
        resume-split m c.partial.n split c.splits c.partial.prefix rest more all none
        ∙ ap (λ s. visit c.partial word.Split (resume m c.partial.n s c.partial.prefix rest)) (sym splits)
        ∙ ap (λ (p : Partial). visit c.partial word.Split (resume m p.n after.splits p.prefix rest)) (sym partial)

    pub split-settled : (after : Cursor) (split : Open) → length c.partial.prefix < half m.job c.partial.n → 0 < split.to_come
        → after.partial ≡ c.partial → after.splits ≡ split ∷ c.splits → IsSettled m after
    split-settled after split more some partial splits =
        let long : length after.splits ≡ suc (length c.splits) = ap length splits in
        let depth = at.depth in
        record {
          between = record {
            depth = ap (λ (p : Partial). length p.prefix) partial ∙ depth ∙ omega (arith, long);
            within = subst (λ (p : Partial). length after.splits ≤ half m.job p.n) (sym partial) (omega (arith, long, depth, more));
            short = subst (λ (p : Partial). p.n ≤ m.job.limit) (sym partial) at.short;
            few = subst (λ (p : Partial). p.n ≤ MOST_PLIES) (sym partial) at.few;
            known = subst (λ (p : Partial). IsKnown m.stock p.prefix) (sym partial) at.known;
          };
          due = subst (λ s. IfSome (slice_get s 0) (λ top. 0 < top.to_come)) (sym splits) some;
        }

    pub leaf-reads : (w : Word) (rest : List Node) → w ≢ word.Split
        → left_at m c w rest ≡ visit c.partial w (resume m c.partial.n c.splits (front c.partial.prefix) rest)
    leaf-reads w rest leaf = resume-leaf m c.partial.n c.splits c.partial.prefix w rest leaf

    pub split-read : (rest : List Node) → (more : Reading) × (left_at m c word.Split rest ≡ visit c.partial word.Split more)
    split-read rest = resume-split_at m c.partial.n c.splits c.partial.prefix rest

    -- up from a leaf
    pub up-between : (after : Cursor) → after.partial ≡ record { n = c.partial.n; prefix = front c.partial.prefix } → after.splits ≡ c.splits → IsBetween m after
    up-between after partial splits =
        let long : length after.splits ≡ length c.splits = ap length splits in
        let depth = at.depth in
        let path : after.partial.prefix ≡ front c.partial.prefix = ap (λ (p : Partial). p.prefix) partial in
        let n : after.partial.n ≡ c.partial.n = ap (λ (p : Partial). p.n) partial in
        let less = front-length c.partial.prefix in
        let within = at.within in
        record {
          depth = ap length path ∙ less ∙ omega (arith, depth, long);
          within = subst (λ k. length after.splits ≤ half m.job k) (sym n) (omega (arith, long, within));
          short = subst (λ k. k ≤ m.job.limit) (sym n) at.short;
          few = subst (λ k. k ≤ MOST_PLIES) (sym n) at.few;
          known = subst (IsKnown m.stock) (sym path) (All-take (λ ply. ply.0 < length m.stock) (length c.partial.prefix - 1) c.partial.prefix at.known);
        }

    pub up-reads : (after : Cursor) → after.partial ≡ record { n = c.partial.n; prefix = front c.partial.prefix } → after.splits ≡ c.splits
        → (rest : List Node) → resume m c.partial.n c.splits (front c.partial.prefix) rest ≡ left m after rest
    up-reads after partial splits rest =
        ap (λ s. resume m c.partial.n s (front c.partial.prefix) rest) (sym splits)
        ∙ ap (λ (p : Partial). resume m p.n after.splits p.prefix rest) (sym partial)

  -- up from a split that is done
  module _ (c after : Cursor) (top : Open) (between : IsBetween m c) (is : slice_get c.splits 0 ≡ Some top)
      (partial : after.partial ≡ record { n = c.partial.n; prefix = front c.partial.prefix }) (splits : after.splits ≡ drop 1 c.splits) where
    pub done-reads : top.to_come ≡ 0 → (rest : List Node) → left m c rest ≡ left m after rest
    done-reads none rest =
        ap (λ s. resume m c.partial.n s c.partial.prefix rest) (first_of c.splits top is)
        ∙ resume-done m c.partial.n top (drop 1 c.splits) c.partial.prefix rest none
        ∙ ap (λ s. resume m c.partial.n s (front c.partial.prefix) rest) (sym splits)
        ∙ ap (λ (p : Partial). resume m p.n after.splits p.prefix rest) (sym partial)

    pub done-between : IsBetween m after
    done-between =
        let one : length c.splits ≡ suc (length (drop 1 c.splits)) = ap length (first_of c.splits top is) in
        let long : length after.splits ≡ length (drop 1 c.splits) = ap length splits in
        let depth = between.depth in
        let within = between.within in
        let path : after.partial.prefix ≡ front c.partial.prefix = ap (λ (p : Partial). p.prefix) partial in
        let n : after.partial.n ≡ c.partial.n = ap (λ (p : Partial). p.n) partial in
        let less = front-length c.partial.prefix in
        record {
          depth = ap length path ∙ less ∙ omega (arith, depth, long, one);
          within = subst (λ k. length after.splits ≤ half m.job k) (sym n) (omega (arith, long, one, within));
          short = subst (λ k. k ≤ m.job.limit) (sym n) between.short;
          few = subst (λ k. k ≤ MOST_PLIES) (sym n) between.few;
          known = subst (IsKnown m.stock) (sym path) (All-take (λ ply. ply.0 < length m.stock) (length c.partial.prefix - 1) c.partial.prefix between.known);
        }

    pub done-shorter : length after.splits < length c.splits
    done-shorter =
        let one : length c.splits ≡ suc (length (drop 1 c.splits)) = ap length (first_of c.splits top is) in
        let long : length after.splits ≡ length (drop 1 c.splits) = ap length splits in
        omega (arith, one, long)
