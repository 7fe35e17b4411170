-- A whole tree covers: each schedule that a search ranges over completes a partial that a leaf closes.
use Rattle.std.proofs.Common.{◌≡◌, ◌≢◌, refl, sym, ◌∙◌, ap, subst, ℕ, zero, suc, ◌+◌, ◌<◌, ◌≤◌, ◌⊎◌, inl, inr, List, [], ◌∷◌, ◌++◌, length, take, get_or, Option, Some, None, Bool, true, false, IsTrue, arith}
use Rattle.std.proofs.lemmas.Bool.{cases_eq}
use Rattle.std.proofs.lemmas.List.{take_more, length_push}
use Rattle.std.proofs.lemmas.List.Elements.{All-get_or}
use Rattle.lam_stock.specs.declared.item.Item.{Item}
use Rattle.lam_stock.specs.declared.item.ItemNo.{ItemNo}
use Rattle.lam_job.specs.JobData.{JobData}
use Rattle.lam_job.specs.Rules.{IsPalindrome}
use Rattle.lam_job.specs.Design.{IsSequence}
use Rattle.lam_job.specs.Partial.{Partial, Completes, half_of, half, child}
use Rattle.lam_tree.specs.declared.node.Node.{Node}
use Rattle.lam_tree.specs.declared.node.Word.{Word}
use Rattle.lam_tree.specs.declared.node.Word.TheVariants as word
use Rattle.lam_tree.specs.Reading.{Visit, Ending, Cut, Stray, Whole, Reading, ends, visit, root, none_had, and_had, due_item, is_due_length, children, tree, lengths, read}
use Rattle.lam_tree.proofs.Equations.{split_or_leaf, below, tree-split, tree-full, tree-leaf, children-none, children-cut, children-due, children-stray, lengths-cut, lengths-due, lengths-stray}
use Rattle.lam_tree.proofs.Had.{not_had, not_had-none, had_other, not_had-one, due}

-- ---- what covers

-- a node is a leaf, and the schedule completes its partial
pub record Closes (stock : List Item) (job : JobData) (s : List ItemNo) (v : Visit) : Type 0 where
  pub leaf : v.word ≢ word.Split
  pub completes : Completes stock job v.partial s

-- some node is such a leaf
abbrev pub Covers : List Item → JobData → List ItemNo → List Visit → Type 0
Covers stock job s [] = ⊥
Covers stock job s (v ∷ rest) = Closes stock job s v ⊎ Covers stock job s rest

not_whole : (e : Ending) (r : Reading) → r ≡ ends e → (e ≢ Whole) → r.ending ≡ Whole → ⊥
not_whole e r is other whole = other (ap (λ (q : Reading). q.ending) (sym is) ∙ whole)

stray_is_not_whole : Stray ≢ Whole
stray_is_not_whole e = cc

cut_is_not_whole : Cut ≢ Whole
cut_is_not_whole e = cc

module _ (stock : List Item) (job : JobData) where
  abbrev items : ℕ
  items = length stock

  -- ---- what is read behind a tree is read on

  -- a whole reading of a tree and of what is behind it goes on with a whole one, whose leaves are among its own
  abbrev GoesOn : (List Node → Reading) → Reading → Type 0
  GoesOn next r =
      r.ending ≡ Whole
      → (after : List Node) × ((next after).ending ≡ Whole) × ((s : List ItemNo) → Covers stock job s (next after).visits → Covers stock job s r.visits)

  goes_on-now : (next : List Node → Reading) (lines : List Node) → GoesOn next (next lines)
  goes_on-now next lines whole = (lines, whole, λ s covers. covers)

  goes_on-visit : (next : List Node → Reading) (p : Partial) (w : Word) (r : Reading) → GoesOn next r → GoesOn next (visit p w r)
  goes_on-visit next p w r on whole =
      let found = on whole in
      (found.0, found.1, λ s covers. inr (found.2 s covers))

  goes_on-never : (next : List Node → Reading) (e : Ending) → e ≢ Whole → GoesOn next (ends e)
  goes_on-never next e other whole = absurd (other whole)

  -- first one, and then the other
  goes_on-then : (next more : List Node → Reading) (r : Reading) → ((after : List Node) → GoesOn next (more after)) → GoesOn more r → GoesOn next r
  goes_on-then next more r on first whole =
      let a = first whole in
      let b = on a.0 a.1 in
      (b.0, b.1, λ s covers. a.2 s (b.2 s covers))

  children-go_on : (T : Partial → Word → List Node → (List Node → Reading) → Reading)
      → ((q : Partial) (w : Word) (lines : List Node) (next : List Node → Reading) → GoesOn next (T q w lines next))
      → (to_come : ℕ) (had : ℕ → Bool) (p : Partial) (lines : List Node) (next : List Node → Reading)
      → GoesOn next (children items T to_come had p lines next)
  children-go_on T on zero had p lines next = subst (GoesOn next) (sym (children-none items T had p lines next)) (goes_on-now next lines)
  children-go_on T on (suc to_come) had p [] next =
      subst (GoesOn next) (sym (children-cut items T to_come had p next)) (goes_on-never next Cut cut_is_not_whole)
  children-go_on T on (suc to_come) had p (line ∷ rest) next =
      by (λ (more_had : ℕ → Bool) (after : List Node). children-go_on T on to_come more_had p after next) (due_item items had line.seat) refl where
        by : ((more_had : ℕ → Bool) (after : List Node) → GoesOn next (children items T to_come more_had p after next))
            → (d : Option ItemNo) → due_item items had line.seat ≡ d → GoesOn next (children items T (suc to_come) had p (line ∷ rest) next)
        by later None is = subst (GoesOn next) (sym (children-stray items T to_come had p line rest next is)) (goes_on-never next Stray stray_is_not_whole)
        by later (Some i) is =
            let more : List Node → Reading = λ after. children items T to_come (and_had i had) p after next in
            subst (GoesOn next) (sym (children-due items T to_come had p line rest next i is))
            (goes_on-then next more (T (child p i) line.word rest more)
            (later (and_had i had))
            (on (child p i) line.word rest more))

  leaf-goes_on : (places : ℕ) (p : Partial) (w : Word) (rest : List Node) (next : List Node → Reading) → w ≢ word.Split
      → GoesOn next (tree items places p w rest next)
  leaf-goes_on places p w rest next leaf =
      subst (GoesOn next) (sym (tree-leaf items places p w rest next leaf)) (goes_on-visit next p w (next rest) (goes_on-now next rest))

  tree-goes_on : (places : ℕ) (p : Partial) (w : Word) (rest : List Node) (next : List Node → Reading) → GoesOn next (tree items places p w rest next)
  tree-goes_on zero p w rest next =
      elim (split_or_leaf w) [
        | inl split ↦ subst (λ word. GoesOn next (tree items zero p word rest next)) (sym split)
            (subst (GoesOn next) (sym (tree-full items p rest next)) (goes_on-visit next p word.Split (ends Stray) (goes_on-never next Stray stray_is_not_whole)))
        | inr leaf ↦ leaf-goes_on zero p w rest next leaf
      ]
  tree-goes_on (suc places) p w rest next =
      elim (split_or_leaf w) [
        | inl split ↦ subst (λ word. GoesOn next (tree items (suc places) p word rest next)) (sym split)
            (subst (GoesOn next) (sym (tree-split items places p rest next))
            (goes_on-visit next p word.Split (children items (below items places) items none_had p rest next)
            (children-go_on (below items places) (tree-goes_on places) items none_had p rest next)))
        | inr leaf ↦ leaf-goes_on (suc places) p w rest next leaf
      ]

  -- ---- a schedule that completes a partial is covered by its tree

  -- what covers what a reading answers, if that is whole
  abbrev CoversIn : List ItemNo → Reading → Type 0
  CoversIn s r = r.ending ≡ Whole → Covers stock job s r.visits

  covers-visit : (s : List ItemNo) (p : Partial) (w : Word) (r : Reading) → CoversIn s r → CoversIn s (visit p w r)
  covers-visit s p w r covers whole = inr (covers whole)

  covers-never : (s : List ItemNo) (e : Ending) → e ≢ Whole → CoversIn s (ends e)
  covers-never s e other whole = absurd (other whole)

  covers-next : (s : List ItemNo) (next : List Node → Reading) (r : Reading) → GoesOn next r → ((after : List Node) → CoversIn s (next after)) → CoversIn s r
  covers-next s next r on covers whole =
      let found = on whole in
      found.2 s (covers found.0 found.1)

  -- the trees of a child's partial cover it
  abbrev TreesCover : List ItemNo → Partial → (Partial → Word → List Node → (List Node → Reading) → Reading) → Type 0
  TreesCover s q T = (w : Word) (rest : List Node) (next : List Node → Reading) → CoversIn s (T q w rest next)

  children-cover : (T : Partial → Word → List Node → (List Node → Reading) → Reading)
      → ((q : Partial) (w : Word) (lines : List Node) (next : List Node → Reading) → GoesOn next (T q w lines next))
      → (s : List ItemNo) (p : Partial) (i : ItemNo) → i.0 < items → TreesCover s (child p i) T
      → (to_come : ℕ) (had : ℕ → Bool) → had i.0 ≡ false → not_had had items ≤ to_come
      → (lines : List Node) (next : List Node → Reading) → CoversIn s (children items T to_come had p lines next)
  children-cover T on s p i within covers zero had new few lines next =
      absurd (let one = not_had-one i had items within new in omega (arith, one, few))
  children-cover T on s p i within covers (suc to_come) had new few [] next =
      subst (CoversIn s) (sym (children-cut items T to_come had p next)) (covers-never s Cut cut_is_not_whole)
  children-cover T on s p i within covers (suc to_come) had new few (line ∷ rest) next =
      by (λ (more_had : ℕ → Bool) (still_new : more_had i.0 ≡ false) (fewer : not_had more_had items ≤ to_come) (after : List Node). children-cover T on s p i within covers to_come more_had still_new fewer after next) (due_item items had line.seat) refl where
        by : ((more_had : ℕ → Bool) → more_had i.0 ≡ false → not_had more_had items ≤ to_come → (after : List Node) → CoversIn s (children items T to_come more_had p after next))
            → (d : Option ItemNo) → due_item items had line.seat ≡ d → CoversIn s (children items T (suc to_come) had p (line ∷ rest) next)
        by later None is = subst (CoversIn s) (sym (children-stray items T to_come had p line rest next is)) (covers-never s Stray stray_is_not_whole)
        by later (Some j) is =
            let more : List Node → Reading = λ after. children items T to_come (and_had j had) p after next in
            let is_new = due items had line.seat j is in
            let one = not_had-one j had items is_new.within is_new.new in
            subst (CoversIn s) (sym (children-due items T to_come had p line rest next j is))
            (elim (cases_eq i.0 j.0) [
              | inl same ↦ (let item : i ≡ j = ap (λ n. record { 0 = n }) same in
                  subst (λ k. CoversIn s (T (child p k) line.word rest more)) item (covers line.word rest more))
              | inr other ↦ covers-next s more (T (child p j) line.word rest more) (on (child p j) line.word rest more)
                  (later (and_had j had) (had_other j had i.0 other ∙ new) (omega (arith, one, few)))
            ])

  -- what completes a partial that is not full completes one of its children
  record HasChild (s : List ItemNo) (p : Partial) : Type 0 where
    item : ItemNo
    within : item.0 < items
    completes : Completes stock job (child p item) s

  item_zero : ItemNo
  item_zero = record { 0 = 0 }

  completes_a_child : (s : List ItemNo) (p : Partial) → Completes stock job p s → length p.prefix < p.n → HasChild s p
  completes_a_child s p c more =
      let k = length p.prefix in
      let long = c.long in
      let item = get_or s k item_zero in
      let in_s : k < length s = omega (arith, long, more) in
      let pushed : length (p.prefix ++ item ∷ []) ≡ k + 1 = length_push p.prefix item in
      record {
        item = item;
        within = All-get_or (λ (ply : ItemNo). ply.0 < items) s k item_zero in_s c.sequence.known;
        completes = record {
          sequence = c.sequence;
          long = c.long;
          begins = ap (λ n. take n s) pushed ∙ take_more s k item_zero in_s ∙ ap (λ l. l ++ item ∷ []) c.begins;
          symmetric = c.symmetric;
        };
      }

  half_within : (symmetric : Bool) (n : ℕ) → half_of symmetric n ≤ n
  half_within true zero = omega arith
  half_within true (suc n) = omega arith
  half_within false n = omega arith

  leaf-covers : (s : List ItemNo) (places : ℕ) (p : Partial) → Completes stock job p s → (w : Word) (rest : List Node) (next : List Node → Reading)
      → w ≢ word.Split → CoversIn s (tree items places p w rest next)
  leaf-covers s places p c w rest next leaf =
      subst (CoversIn s) (sym (tree-leaf items places p w rest next leaf)) (λ whole. inl (record { leaf = leaf; completes = c }))

  tree-covers : (s : List ItemNo) (places : ℕ) (p : Partial) → Completes stock job p s → length p.prefix + places ≡ half job p.n
      → (w : Word) (rest : List Node) (next : List Node → Reading) → CoversIn s (tree items places p w rest next)
  tree-covers s zero p c places_left w rest next = by (split_or_leaf w) where
    by : (w ≡ word.Split) ⊎ (w ≢ word.Split) → CoversIn s (tree items zero p w rest next)
    by (inl split) =
        subst (λ word. CoversIn s (tree items zero p word rest next)) (sym split)
        (subst (CoversIn s) (sym (tree-full items p rest next)) (covers-visit s p word.Split (ends Stray) (covers-never s Stray stray_is_not_whole)))
    by (inr leaf) = leaf-covers s zero p c w rest next leaf
  tree-covers s (suc places) p c places_left w rest next =
      by (λ (q : Partial) (completes : Completes stock job q s) (long : length q.prefix + places ≡ half job q.n). tree-covers s places q completes long) (split_or_leaf w) where
        by : ((q : Partial) → Completes stock job q s → length q.prefix + places ≡ half job q.n → TreesCover s q (below items places)) → (w ≡ word.Split) ⊎ (w ≢ word.Split) → CoversIn s (tree items (suc places) p w rest next)
        by inner (inl split) =
            let short = half_within job.rules.symmetric p.n in
            let has = completes_a_child s p c (omega (arith, places_left, short)) in
            let pushed = length_push p.prefix has.item in
            subst (λ word. CoversIn s (tree items (suc places) p word rest next)) (sym split)
            (subst (CoversIn s) (sym (tree-split items places p rest next))
            (covers-visit s p word.Split (children items (below items places) items none_had p rest next)
            (children-cover (below items places) (tree-goes_on places) s p has.item has.within
            (inner (child p has.item) has.completes (ap (λ n. n + places) pushed ∙ omega (arith, places_left)))
            items none_had refl (let e = not_had-none items in omega (arith, e)) rest next)))
        by inner (inr leaf) = leaf-covers s (suc places) p c w rest next leaf

  -- ---- and by the trees of all lengths

  none_more : (n : ℕ) → 0 + n ≡ n
  none_more n = omega arith

  lengths-cover : (s : List ItemNo) → IsSequence stock job s → (IsTrue job.rules.symmetric → IsPalindrome s)
      → (to_come n : ℕ) → n ≤ length s → length s < n + to_come → (lines : List Node) → CoversIn s (lengths items job to_come n lines)
  lengths-cover s is same zero n low high lines = absurd (omega (arith, low, high))
  lengths-cover s is same (suc to_come) n low high [] =
      subst (CoversIn s) (sym (lengths-cut items job to_come n)) (covers-never s Cut cut_is_not_whole)
  lengths-cover s is same (suc to_come) n low high (line ∷ rest) =
      by (λ (lower : suc n ≤ length s) (higher : length s < suc n + to_come) (after : List Node). lengths-cover s is same to_come (suc n) lower higher after) (is_due_length n line.seat) refl where
        by : (suc n ≤ length s → length s < suc n + to_come → (after : List Node) → CoversIn s (lengths items job to_come (suc n) after))
            → (b : Bool) → is_due_length n line.seat ≡ b → CoversIn s (lengths items job (suc to_come) n (line ∷ rest))
        by later false is_not = subst (CoversIn s) (sym (lengths-stray items job to_come n line rest is_not)) (covers-never s Stray stray_is_not_whole)
        by later true is_due =
            let next : List Node → Reading = λ after. lengths items job to_come (suc n) after in
            subst (CoversIn s) (sym (lengths-due items job to_come n line rest is_due))
            (elim (cases_eq (length s) n) [
              | inl long ↦ tree-covers s (half job n) (root n) (record { sequence = is; long = long; begins = refl; symmetric = same }) (none_more (half job n)) line.word rest next
              | inr longer ↦ covers-next s next (tree items (half job n) (root n) line.word rest next)
                  (tree-goes_on (half job n) (root n) line.word rest next)
                  (later (omega (arith, low, longer)) (omega (arith, high)))
            ])

  -- a whole tree has a leaf for each sequence that is a palindrome where that is asked
  pub read-covers : (lines : List Node) (s : List ItemNo) → IsSequence stock job s → (IsTrue job.rules.symmetric → IsPalindrome s)
      → (read stock job lines).ending ≡ Whole → Covers stock job s (read stock job lines).visits
  read-covers lines s is same whole =
      let some = is.some in
      let short = is.short in
      lengths-cover s is same job.limit 1 some (omega (arith, short)) lines whole
