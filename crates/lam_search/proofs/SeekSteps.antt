-- What a tree shows when it is read again, step by step.
use Rattle.std.proofs.Common.{◌≡◌, ◌≢◌, refl, sym, ◌∙◌, ap, subst, ℕ, zero, suc, ◌+◌, ◌-◌, ◌≤◌, ◌<◌, List, [], ◌∷◌, ◌++◌, length, drop, get_or, set, replicate, Option, Some, None, Bool, true, false, if◌then◌else◌, ◌||◌, ◌==◌, ◌&&◌, not, nat_lt, is_some, arith}
use Rattle.std.proofs.Math.Path.{fun_ext}
use Rattle.std.proofs.Math.Seq.{drop-cons}
use Rattle.std.proofs.lemmas.List.{append_assoc, length-append, get_or-set_same, get_or-set_other}
use Rattle.std.proofs.lemmas.Bool.{eq-eqb, ne_eqb, cases_eq, le-ltb}
use Rattle.std.proofs.Common.{inl, inr}
use Rattle.std.specs.Prelude.{IsNone}
use Rattle.lam_stock.specs.declared.item.ItemNo.{ItemNo}
use Rattle.lam_job.specs.JobData.{JobData}
use Rattle.lam_job.specs.Schedule.{cost_of}
use Rattle.lam_job.specs.Partial.{Partial, child, half, completion}
use Rattle.lam_tree.specs.declared.node.Node.{Node}
use Rattle.lam_tree.specs.declared.node.Seat.{Seat}
use Rattle.lam_tree.specs.declared.node.Seat.TheVariants as seat
use Rattle.lam_tree.specs.declared.node.Word.{Word}
use Rattle.lam_tree.specs.declared.node.Word.TheVariants as word
use Rattle.lam_tree.specs.declared.spot.Spot.{Spot}
use Rattle.lam_tree.specs.declared.report.Near.{Near}
use Rattle.lam_tree.specs.Reading.{Visit, Cut, Stray, Whole, Reading, visit, root, none_had, and_had, due_item, is_due_length, children, tree, lengths, read}
use Rattle.lam_tree.specs.Checks.{is_cheaper, undecided, first_undecided}
use Rattle.lam_tree.proofs.Equations.{below, tree-split, tree-full, tree-leaf, children-none, children-cut, children-due, children-stray, lengths-whole, lengths-over, lengths-cut, lengths-due, lengths-stray}
use Rattle.lam_tree.proofs.Writing.{behind}
use Rattle.lam_search.specs.declared.seeking.Sight.{Sight}
use Rattle.lam_search.specs.declared.seeking.Sight.TheVariants.{Seen, Passed, Lost}
use Rattle.lam_search.specs.inside.Here.{Basis}
use Rattle.lam_search.proofs.WalkSteps.{node, visit_of, one_left}
use Rattle.lam_search.specs.inside.Sights.{had_by, IsPassed, Sees, AreSeen, LengthsSeen, SeesAll}

behind-more : (done more : List Visit) (r : Reading) → behind (done ++ more) r ≡ behind done (behind more r)
behind-more done more r = ap (λ visits. record { visits = visits; ending = r.ending }) (append_assoc done more r.visits)

both_none : (a b : Option Near) → ◌≡◌ {A = Option Near} (elim a [ Some near ↦ Some near | None ↦ b ]) None → (a ≡ None) × (b ≡ None)
both_none None b e = (refl, e)
both_none (Some near) b e = absurd (let n : Some near ≡ None = e in cc)

-- ---- which items a table has

none-by : (n i : ℕ) → get_or (replicate n false) i false ≡ false
none-by zero i = refl
none-by (suc n) zero = refl
none-by (suc n) (suc i) = none-by n i

pub none-had : (n : ℕ) → none_had ≡ had_by (replicate n false)
none-had n = fun_ext (λ i. sym (none-by n i))

pub one-had : (table : List Bool) (item : ItemNo) → item.0 < length table → and_had item (had_by table) ≡ had_by (set table item.0 true)
one-had table item within = fun_ext (λ i. by i) where
  by : (i : ℕ) → and_had item (had_by table) i ≡ had_by (set table item.0 true) i
  by i = elim (cases_eq i item.0) [
    | inl same ↦ (ap (λ b. b || had_by table i) (eq-eqb i item.0 same)
        ∙ sym (ap (λ k. get_or (set table item.0 true) k false) same ∙ get_or-set_same table item.0 true false within))
    | inr other ↦ (ap (λ b. b || had_by table i) (ne_eqb i item.0 other) ∙ sym (get_or-set_other table item.0 i true false other))
  ]

-- a partial that is not full has a place to settle
pub still-open : (job : JobData) (p : Partial) (full : Bool) → full ≡ false → (length p.prefix ≡ half job p.n → full ≡ true) → length p.prefix ≤ half job p.n
    → suc (half job p.n - length p.prefix - 1) ≡ half job p.n - length p.prefix
still-open job p full not_it is within =
    let other : length p.prefix ≢ half job p.n = λ e. (let n : true ≡ false = sym (is e) ∙ not_it in cc) in
    let h = half job p.n in
    omega (arith, within, other)

-- ---- lines behind which nothing is due

pub stray-cut : (count : ℕ) (T : Partial → Word → List Node → (List Node → Reading) → Reading) (to_come : ℕ) (had : ℕ → Bool) (p : Partial) (lines : List Node)
    (next : List Node → Reading) → lines ≡ [] → (children count T (suc to_come) had p lines next).ending ≢ Whole
stray-cut count T to_come had p lines next none whole =
    let e : Cut ≡ Whole
    = sym (ap (λ (r : Reading). r.ending) (ap (λ l. children count T (suc to_come) had p l next) none ∙ children-cut count T to_come had p next)) ∙ whole in
    cc

pub stray-due : (count : ℕ) (T : Partial → Word → List Node → (List Node → Reading) → Reading) (to_come : ℕ) (had : ℕ → Bool) (p : Partial) (lines : List Node)
    (next : List Node → Reading) (line : Node) (rest : List Node) → lines ≡ line ∷ rest → due_item count had line.seat ≡ None
    → (children count T (suc to_come) had p lines next).ending ≢ Whole
stray-due count T to_come had p lines next line rest is none whole =
    let e : Stray ≡ Whole
    = sym (ap (λ (r : Reading). r.ending) (ap (λ l. children count T (suc to_come) had p l next) is ∙ children-stray count T to_come had p line rest next none)) ∙ whole in
    cc

pub length-cut : (count to_come n : ℕ) (job : JobData) (lines : List Node) → lines ≡ [] → (lengths count job (suc to_come) n lines).ending ≢ Whole
length-cut count to_come n job lines none whole =
    let e : Cut ≡ Whole
    = sym (ap (λ (r : Reading). r.ending) (ap (λ l. lengths count job (suc to_come) n l) none ∙ lengths-cut count job to_come n)) ∙ whole in
    cc

pub length-stray : (count to_come n : ℕ) (job : JobData) (lines : List Node) (line : Node) (rest : List Node) → lines ≡ line ∷ rest → is_due_length n line.seat ≡ false
    → (lengths count job (suc to_come) n lines).ending ≢ Whole
length-stray count to_come n job lines line rest is none whole =
    let e : Stray ≡ Whole
    = sym (ap (λ (r : Reading). r.ending) (ap (λ l. lengths count job (suc to_come) n l) is ∙ lengths-stray count job to_come n line rest none)) ∙ whole in
    cc

-- the lines from a place on
pub lines-at : (nodes : List Node) (at : ℕ) (d : Node) → at < length nodes → drop at nodes ≡ get_or nodes at d ∷ drop (at + 1) nodes
lines-at nodes at d within = drop-cons nodes at d within ∙ ap (λ k. get_or nodes at d ∷ drop k nodes) (let e : suc at ≡ at + 1 = omega arith in e)

-- no item is due at the seat of a length, nor one of another number, nor one that was had
pub no-item : (count : ℕ) (had : ℕ → Bool) (at : Seat) → ((i : ItemNo) → at ≢ seat.Item i) → due_item count had at ≡ None
no-item count had (seat.Item i) other = absurd (other i refl)
no-item count had (seat.Length n) other = refl

pub past-item : (count : ℕ) (had : ℕ → Bool) (at : Seat) (i : ItemNo) → at ≡ seat.Item i → count ≤ i.0 → due_item count had at ≡ None
past-item count had at i is past =
    ap (due_item count had) is ∙ ap (λ b. if b && not (had i.0) then Some i else None) (le-ltb i.0 count past)

pub had-item : (count : ℕ) (had : ℕ → Bool) (at : Seat) (i : ItemNo) → at ≡ seat.Item i → had i.0 ≡ true → due_item count had at ≡ None
had-item count had at i is had_it =
    ap (due_item count had) is ∙ ap (λ b. if nat_lt i.0 count && not b then Some i else None) had_it ∙ none (nat_lt i.0 count) where
      none : (b : Bool) → (if b && false then Some i else None) ≡ None
      none true = refl
      none false = refl

pub stray-line : (count : ℕ) (T : Partial → Word → List Node → (List Node → Reading) → Reading) (to_come : ℕ) (had : ℕ → Bool) (p : Partial) (nodes : List Node) (at : ℕ)
    (next : List Node → Reading) (d : Node) → at < length nodes → due_item count had (get_or nodes at d).seat ≡ None
    → (children count T (suc to_come) had p (drop at nodes) next).ending ≢ Whole
stray-line count T to_come had p nodes at next d within none =
    stray-due count T to_come had p (drop at nodes) next (get_or nodes at d) (drop (at + 1) nodes) (lines-at nodes at d within) none

pub stray-length : (count to_come n : ℕ) (job : JobData) (nodes : List Node) (at : ℕ) (d : Node) → at < length nodes → is_due_length n (get_or nodes at d).seat ≡ false
    → (lengths count job (suc to_come) n (drop at nodes)).ending ≢ Whole
stray-length count to_come n job nodes at d within none =
    length-stray count to_come n job (drop at nodes) (get_or nodes at d) (drop (at + 1) nodes) (lines-at nodes at d within) none

pub other-length : (n other : ℕ) (at : Seat) (w : Word) (r : Option Word) → at ≡ seat.Length other → r ≡ (if other == n then Some w else None) → IsNone r
    → is_due_length n at ≡ false
other-length n other at w r is given none = ap (is_due_length n) is ∙ by (other == n) (ap is_some (sym given) ∙ none) where
  by : (b : Bool) → is_some (if b then Some w else None) ≡ false → b ≡ false
  by false e = refl
  by true e = absurd (let n : true ≡ false = e in cc)

pub item-length : (n : ℕ) (at : Seat) (i : ItemNo) → at ≡ seat.Item i → is_due_length n at ≡ false
item-length n at i is = ap (is_due_length n) is

pub table-has : (table : List Bool) (i : ℕ) (d : Bool) → i < length table → get_or table i d ≡ true → had_by table i ≡ true
table-has [] i d within is = absurd (omega (arith, within))
table-has (b ∷ rest) zero d within is = is
table-has (b ∷ rest) (suc i) d within is = table-has rest i d (omega (arith, within)) is

module _ (m : Basis) (best : Option ℕ) (nodes : List Node) where
  abbrev items : ℕ
  items = length m.stock

  abbrev first : List Visit → Option Near
  first visits = first_undecided m.stock m.job best visits

  first-after : (done more : List Visit) → first done ≡ None → first (done ++ more) ≡ first more
  first-after [] more none = refl
  first-after (v ∷ rest) more none =
      let parts = both_none (undecided m.stock m.job best v.partial v.word) (first rest) none in
      ap (λ (o : Option Near). elim o [ Some near ↦ Some near | None ↦ first (rest ++ more) ]) parts.0 ∙ first-after rest more parts.1

  -- ---- a leaf

  pub leaf-passed : (places : ℕ) (p : Partial) (w : Word) (from : ℕ) → w ≢ word.Split → from ≤ length nodes → undecided m.stock m.job best p w ≡ None
      → IsPassed m best nodes (tree items places p w (drop from nodes)) from
  leaf-passed places p w from leaf within none = record {
    visits = visit_of p w ∷ [];
    none = ap (λ (o : Option Near). elim o [ Some near ↦ Some near | None ↦ None ]) none;
    within = within;
    reads = λ next. tree-leaf items places p w (drop from nodes) next leaf;
  }

  pub leaf-sees : (places : ℕ) (p : Partial) (spot : Spot) (from : ℕ) (near : Near) (sight : Sight) → from ≤ length nodes
      → near ≡ record { plies = completion m.job p; cost = cost_of m.stock m.job (completion m.job p); at = spot }
      → sight ≡ (if is_cheaper near.cost best then Seen near else Passed from)
      → Sees m best nodes (tree items places p (word.Straddles spot) (drop from nodes)) sight
  leaf-sees places p spot from near sight within is_near is_sight =
      subst (Sees m best nodes (tree items places p (word.Straddles spot) (drop from nodes))) (sym is_sight)
      (subst (λ (n : Near). Sees m best nodes (tree items places p (word.Straddles spot) (drop from nodes)) (if is_cheaper n.cost best then Seen n else Passed from)) (sym is_near)
      (by (is_cheaper own.cost best) refl)) where
        own : Near
        own = record { plies = completion m.job p; cost = cost_of m.stock m.job (completion m.job p); at = spot }

        by : (b : Bool) → is_cheaper own.cost best ≡ b → Sees m best nodes (tree items places p (word.Straddles spot) (drop from nodes)) (if b then Seen own else Passed from)
        by true cheaper = λ next.
            ap (λ (r : Reading). first r.visits) (tree-leaf items places p (word.Straddles spot) (drop from nodes) next (λ e. cc))
            ∙ ap (λ (b : Bool). elim (if b then Some own else None) [ Some near ↦ Some near | None ↦ first (next (drop from nodes)).visits ]) cheaper
        by false dear = leaf-passed places p (word.Straddles spot) from (λ e. cc) within (ap (λ (b : Bool). if b then Some own else None) dear)

  -- another leaf is decided
  pub decided : (p : Partial) (w : Word) → ((spot : Spot) → w ≢ word.Straddles spot) → undecided m.stock m.job best p w ≡ None
  decided p (word.Straddles spot) other = absurd (other spot refl)
  decided p word.Split other = refl
  decided p word.Cost other = refl
  decided p (word.Rule r) other = refl
  decided p (word.NetShort k w) other = refl
  decided p (word.NetCost k w) other = refl
  decided p (word.Box at) other = refl
  decided p (word.Range k) other = refl
  decided p (word.Fails at) other = refl
  decided p (word.Buckles k) other = refl
  decided p word.Admissible other = refl

  -- ---- the children of a split

  pub full-lost : (places : ℕ) (p : Partial) (w : Word) (from : ℕ) → w ≡ word.Split → places ≡ 0 → Sees m best nodes (tree items places p w (drop from nodes)) Lost
  full-lost places p w from split none = λ next whole.
      let e = ap (λ n. tree items n p w (drop from nodes) next) none ∙ ap (λ v. tree items 0 p v (drop from nodes) next) split
      ∙ tree-full items p (drop from nodes) next in
      let stray : Stray ≡ Whole = sym (ap (λ (r : Reading). r.ending) e) ∙ whole in cc

  pub seen-begin : (places : ℕ) (p : Partial) (from : ℕ) → from ≤ length nodes → AreSeen m best nodes places p from from 0 none_had
  seen-begin places p from within = record {
    to_come = items;
    visits = [];
    none = refl;
    within = within;
    left = (let n = items in let e : n + 0 ≡ n = omega arith in e);
    reads = λ next. refl;
  }

  module _ (places : ℕ) (p : Partial) (from to k : ℕ) (had : ℕ → Bool) (e : AreSeen m best nodes places p from to k had) where
    -- the readings of the children that are to come
    abbrev rest_of : ℕ → (ℕ → Bool) → (List Node → Reading) → List Node → Reading
    rest_of to_come h next lines = children items (below items places) to_come h p lines next

    -- a child that is due
    child-reads : (i : ItemNo) (w : Word) (q : ℕ) → e.to_come ≡ suc q → due_item items had (seat.Item i) ≡ Some i
        → drop to nodes ≡ node (seat.Item i) w ∷ drop (to + 1) nodes → (next : List Node → Reading)
        → rest_of items none_had next (drop from nodes)
        ≡ behind e.visits (tree items places (child p i) w (drop (to + 1) nodes) (rest_of q (and_had i had) next))
    child-reads i w q one due line next =
        e.reads next
        ∙ ap (λ n. behind e.visits (rest_of n had next (drop to nodes))) one
        ∙ ap (λ lines. behind e.visits (rest_of (suc q) had next lines)) line
        ∙ ap (behind e.visits) (children-due items (below items places) q had p (node (seat.Item i) w) (drop (to + 1) nodes) next i due)

    pub seen-child : (i : ItemNo) (w : Word) (past : ℕ) → k < items → due_item items had (seat.Item i) ≡ Some i
        → drop to nodes ≡ node (seat.Item i) w ∷ drop (to + 1) nodes
        → IsPassed m best nodes (tree items places (child p i) w (drop (to + 1) nodes)) past
        → AreSeen m best nodes places p from past (k + 1) (and_had i had)
    seen-child i w past less due line passed =
        let q = one_left e.to_come k items e.left less in record {
          to_come = q.0;
          visits = e.visits ++ passed.visits;
          none = first-after e.visits passed.visits e.none ∙ passed.none;
          within = passed.within;
          left = q.2;
          reads = λ next.
              child-reads i w q.0 q.1 due line next
              ∙ ap (behind e.visits) (passed.reads (rest_of q.0 (and_had i had) next))
              ∙ sym (behind-more e.visits passed.visits (rest_of q.0 (and_had i had) next (drop past nodes)));
        }

    -- what is seen of a child, and is not the end of it, is seen of the split
    pub sees-child : (i : ItemNo) (w : Word) (sight : Sight) → k < items → due_item items had (seat.Item i) ≡ Some i
        → drop to nodes ≡ node (seat.Item i) w ∷ drop (to + 1) nodes → ((past : ℕ) → sight ≢ Passed past)
        → Sees m best nodes (tree items places (child p i) w (drop (to + 1) nodes)) sight
        → Sees m best nodes (tree items (suc places) p word.Split (drop from nodes)) sight
    sees-child i w (Passed past) less due line other sees = absurd (other past refl)
    sees-child i w (Seen near) less due line other sees = λ next.
        let q = one_left e.to_come k items e.left less in
        let T = tree items places (child p i) w (drop (to + 1) nodes) (rest_of q.0 (and_had i had) next) in
        ap (λ (r : Reading). first r.visits) (tree-split items places p (drop from nodes) next)
        ∙ ap (λ (r : Reading). first r.visits) (child-reads i w q.0 q.1 due line next)
        ∙ first-after e.visits T.visits e.none
        ∙ sees (rest_of q.0 (and_had i had) next)
    sees-child i w Lost less due line other sees = λ next whole.
        let q = one_left e.to_come k items e.left less in
        sees (rest_of q.0 (and_had i had) next)
        (sym (ap (λ (r : Reading). r.ending) (tree-split items places p (drop from nodes) next)
        ∙ ap (λ (r : Reading). r.ending) (child-reads i w q.0 q.1 due line next)) ∙ whole)

    -- no child that is due
    pub sees-stray : k < items
        → ((T : Partial → Word → List Node → (List Node → Reading) → Reading) (to_come : ℕ) (q : Partial) (next : List Node → Reading)
        → (children items T (suc to_come) had q (drop to nodes) next).ending ≢ Whole)
        → Sees m best nodes (tree items (suc places) p word.Split (drop from nodes)) Lost
    sees-stray less stray = λ next whole.
        let q = one_left e.to_come k items e.left less in
        stray (below items places) q.0 p next
        (sym (ap (λ (r : Reading). r.ending) (tree-split items places p (drop from nodes) next)
        ∙ ap (λ (r : Reading). r.ending) (e.reads next)
        ∙ ap (λ n. (rest_of n had next (drop to nodes)).ending) q.1) ∙ whole)

    -- all children
    pub seen-all : items ≤ k → IsPassed m best nodes (tree items (suc places) p word.Split (drop from nodes)) to
    seen-all all =
        let left = e.left in
        let none : e.to_come ≡ 0 = omega (arith, left, all) in record {
          visits = visit_of p word.Split ∷ e.visits;
          none = e.none;
          within = e.within;
          reads = λ next.
              tree-split items places p (drop from nodes) next
              ∙ ap (visit p word.Split) (e.reads next
              ∙ ap (λ n. behind e.visits (rest_of n had next (drop to nodes))) none
              ∙ ap (behind e.visits) (children-none items (below items places) had p (drop to nodes) next));
        }

  -- of a split, in the words of a partial
  pub as-split : (h places : ℕ) (p : Partial) (w : Word) (from : ℕ) (sight : Sight) → w ≡ word.Split → suc places ≡ h
      → Sees m best nodes (tree items (suc places) p word.Split (drop from nodes)) sight → Sees m best nodes (tree items h p w (drop from nodes)) sight
  as-split h places p w from sight split one sees =
      subst (λ n. Sees m best nodes (tree items n p w (drop from nodes)) sight) one
      (subst (λ v. Sees m best nodes (tree items (suc places) p v (drop from nodes)) sight) (sym split) sees)

  -- of a child, in the words of its parent
  pub of-child : (p q : Partial) (i : ItemNo) (w : Word) (from : ℕ) (sight : Sight) → q ≡ child p i
      → Sees m best nodes (tree items (half m.job q.n - length q.prefix) q w (drop from nodes)) sight
      → Sees m best nodes (tree items (half m.job p.n - length p.prefix - 1) (child p i) w (drop from nodes)) sight
  of-child p q i w from sight is sees =
      let h = half m.job p.n in
      let long = length-append p.prefix (i ∷ []) in
      let e : h - length (p.prefix ++ i ∷ []) ≡ h - length p.prefix - 1 = omega (arith, long) in
      subst (λ n. Sees m best nodes (tree items n (child p i) w (drop from nodes)) sight) e
      (subst (λ r. Sees m best nodes (tree items (half m.job r.n - length r.prefix) r w (drop from nodes)) sight) is sees)

  -- ---- lengths

  pub lengths-begin : LengthsSeen m best nodes 1 0
  lengths-begin = record {
    to_come = m.job.limit;
    visits = [];
    none = refl;
    within = omega arith;
    left = (let n = m.job.limit in let e : n + 1 ≡ suc n = omega arith in e);
    reads = refl;
  }

  module _ (n to : ℕ) (e : LengthsSeen m best nodes n to) where
    abbrev later : ℕ → ℕ → List Node → Reading
    later to_come q lines = lengths items m.job to_come q lines

    root-places : half m.job n - length (root n).prefix ≡ half m.job n
    root-places = let h = half m.job n in let z : h - 0 ≡ h = omega arith in z

    length-reads : (w : Word) (q : ℕ) → e.to_come ≡ suc q → drop to nodes ≡ node (seat.Length n) w ∷ drop (to + 1) nodes
        → later m.job.limit 1 nodes
        ≡ behind e.visits (tree items (half m.job n - length (root n).prefix) (root n) w (drop (to + 1) nodes) (later q (suc n)))
    length-reads w q one line =
        e.reads
        ∙ ap (λ c. behind e.visits (later c n (drop to nodes))) one
        ∙ ap (λ lines. behind e.visits (later (suc q) n lines)) line
        ∙ ap (behind e.visits) (lengths-due items m.job q n (node (seat.Length n) w) (drop (to + 1) nodes) (eq-eqb n n refl))
        ∙ ap (λ h. behind e.visits (tree items h (root n) w (drop (to + 1) nodes) (later q (suc n)))) (sym root-places)

    pub lengths-more : (w : Word) (past : ℕ) → n ≤ m.job.limit → drop to nodes ≡ node (seat.Length n) w ∷ drop (to + 1) nodes
        → IsPassed m best nodes (tree items (half m.job n - length (root n).prefix) (root n) w (drop (to + 1) nodes)) past
        → LengthsSeen m best nodes (n + 1) past
    lengths-more w past short line passed =
        let q = one_left e.to_come n (suc m.job.limit) e.left (omega (arith, short)) in record {
          to_come = q.0;
          visits = e.visits ++ passed.visits;
          none = first-after e.visits passed.visits e.none ∙ passed.none;
          within = passed.within;
          left = q.2;
          reads =
              length-reads w q.0 q.1 line
              ∙ ap (behind e.visits) (passed.reads (later q.0 (suc n)))
              ∙ sym (behind-more e.visits passed.visits (later q.0 (suc n) (drop past nodes)))
              ∙ ap (λ x. behind (e.visits ++ passed.visits) (later q.0 x (drop past nodes))) (let x : suc n ≡ n + 1 = omega arith in x);
        }

    pub sees-length : (w : Word) (sight : Sight) → n ≤ m.job.limit → drop to nodes ≡ node (seat.Length n) w ∷ drop (to + 1) nodes
        → ((past : ℕ) → sight ≢ Passed past)
        → Sees m best nodes (tree items (half m.job n - length (root n).prefix) (root n) w (drop (to + 1) nodes)) sight
        → SeesAll m best nodes (read m.stock m.job nodes) sight
    sees-length w (Passed past) short line other sees = absurd (other past refl)
    sees-length w (Seen near) short line other sees =
        let q = one_left e.to_come n (suc m.job.limit) e.left (omega (arith, short)) in
        let T = tree items (half m.job n - length (root n).prefix) (root n) w (drop (to + 1) nodes) (later q.0 (suc n)) in
        ap (λ (r : Reading). first r.visits) (length-reads w q.0 q.1 line)
        ∙ first-after e.visits T.visits e.none
        ∙ sees (later q.0 (suc n))
    sees-length w Lost short line other sees = λ whole.
        let q = one_left e.to_come n (suc m.job.limit) e.left (omega (arith, short)) in
        sees (later q.0 (suc n)) (sym (ap (λ (r : Reading). r.ending) (length-reads w q.0 q.1 line)) ∙ whole)

    pub sees-cut : n ≤ m.job.limit → ((all to_come : ℕ) (job : JobData) → (lengths all job (suc to_come) n (drop to nodes)).ending ≢ Whole)
        → SeesAll m best nodes (read m.stock m.job nodes) Lost
    sees-cut short stray = λ whole.
        let q = one_left e.to_come n (suc m.job.limit) e.left (omega (arith, short)) in
        stray items q.0 m.job
        (sym (ap (λ (r : Reading). r.ending) e.reads ∙ ap (λ c. (later c n (drop to nodes)).ending) q.1) ∙ whole)

    -- nothing is left, or something is
    over : (lines : List Node) → drop to nodes ≡ lines → m.job.limit < n
        → (later m.job.limit 1 nodes ≡ behind e.visits (later 0 n lines))
    over lines is past =
        let left = e.left in
        let none : e.to_come ≡ 0 = omega (arith, left, past) in
        e.reads ∙ ap (λ c. behind e.visits (later c n (drop to nodes))) none ∙ ap (λ l. behind e.visits (later 0 n l)) is

    pub all-passed : m.job.limit < n → drop to nodes ≡ [] → SeesAll m best nodes (read m.stock m.job nodes) (Passed to)
    all-passed past is =
        ap (λ (r : Reading). first r.visits) (over [] is past ∙ ap (behind e.visits) (lengths-whole items m.job n))
        ∙ first-after e.visits [] e.none

    pub more-lost : m.job.limit < n → (line : Node) (rest : List Node) → drop to nodes ≡ line ∷ rest → SeesAll m best nodes (read m.stock m.job nodes) Lost
    more-lost past line rest is = λ whole.
        let stray : Stray ≡ Whole
        = sym (ap (λ (r : Reading). r.ending) (over (line ∷ rest) is past ∙ ap (behind e.visits) (lengths-over items m.job n line rest))) ∙ whole in
        cc
