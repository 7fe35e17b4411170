-- What a walk writes is read as what it visited: trees, the children of a split and lengths, whole or cut, put together.
use Rattle.std.proofs.Common.{◌≡◌, ◌≢◌, refl, sym, ◌∙◌, ap, ℕ, zero, suc, List, [], ◌∷◌, ◌++◌, Some, Bool, true}
use Rattle.std.proofs.lemmas.List.{append_assoc, append-nil}
use Rattle.lam_stock.specs.declared.item.ItemNo.{ItemNo}
use Rattle.lam_job.specs.JobData.{JobData}
use Rattle.lam_job.specs.Partial.{Partial, half, child}
use Rattle.lam_tree.specs.declared.node.Node.{Node}
use Rattle.lam_tree.specs.declared.node.Seat.TheVariants as seat
use Rattle.lam_tree.specs.declared.node.Word.{Word}
use Rattle.lam_tree.specs.declared.node.Word.TheVariants as word
use Rattle.lam_tree.specs.Reading.{Visit, Cut, Whole, Reading, ends, visit, root, none_had, and_had, due_item, is_due_length, children, tree, lengths}
use Rattle.lam_tree.proofs.Equations.{below, tree-split, tree-leaf, children-none, children-cut, children-due, lengths-whole, lengths-cut, lengths-due}

-- some visits, and then what a reading answers
abbrev pub behind : List Visit → Reading → Reading
behind done r = record { visits = done ++ r.visits; ending = r.ending }

behind-more : (done more : List Visit) (r : Reading) → behind (done ++ more) r ≡ behind done (behind more r)
behind-more done more r = ap (λ visits. record { visits = visits; ending = r.ending }) (append_assoc done more r.visits)

abbrev visit_of : Partial → Word → Visit
visit_of p w = record { partial = p; word = w }

module _ (items : ℕ) where
  -- lines behind the seat and word of a partial's node are the rest of its tree, whatever follows
  abbrev pub IsTree : (places : ℕ) → Partial → Word → List Node → List Visit → Type 0
  IsTree places p w lines visits =
      (rest : List Node) (next : List Node → Reading) → tree items places p w (lines ++ rest) next ≡ behind visits (next rest)

  pub leaf-is_tree : (places : ℕ) (p : Partial) (w : Word) → w ≢ word.Split → IsTree places p w [] (visit_of p w ∷ [])
  leaf-is_tree places p w leaf rest next = tree-leaf items places p w rest next leaf

  -- some children of a split that has so many places to settle: so many were due, so many are to come
  abbrev pub AreChildren : (places due : ℕ) → Partial → List Node → List Visit → (to_come : ℕ) → (ℕ → Bool) → Type 0
  AreChildren places due p lines visits to_come had =
      (rest : List Node) (next : List Node → Reading)
      → children items (below items places) due none_had p (lines ++ rest) next
      ≡ behind visits (children items (below items places) to_come had p rest next)

  pub children-begin : (places due : ℕ) (p : Partial) → AreChildren places due p [] [] due none_had
  children-begin places due p rest next = refl

  -- one child more
  pub children-more : (places due : ℕ) (p : Partial) (lines : List Node) (visits : List Visit) (to_come : ℕ) (had : ℕ → Bool)
      (i : ItemNo) (w : Word) (own : List Node) (more : List Visit)
      → AreChildren places due p lines visits (suc to_come) had → due_item items had (seat.Item i) ≡ Some i → IsTree places (child p i) w own more
      → AreChildren places due p (lines ++ (record { seat = seat.Item i; word = w } ∷ own)) (visits ++ more) to_come (and_had i had)
  children-more places due p lines visits to_come had i w own more so_far is_due is_tree rest next =
      let line : Node = record { seat = seat.Item i; word = w } in
      let later : List Node → Reading = λ after. children items (below items places) to_come (and_had i had) p after next in
      ap (λ l. children items (below items places) due none_had p l next) (append_assoc lines (line ∷ own) rest)
      ∙ so_far (line ∷ (own ++ rest)) next
      ∙ ap (behind visits) (children-due items (below items places) to_come had p line (own ++ rest) next i is_due)
      ∙ ap (behind visits) (is_tree rest later)
      ∙ sym (behind-more visits more (later rest))

  -- all children make the tree of a split
  pub split-is_tree : (places : ℕ) (p : Partial) (lines : List Node) (visits : List Visit) (had : ℕ → Bool)
      → AreChildren places items p lines visits zero had → IsTree (suc places) p word.Split lines (visit_of p word.Split ∷ visits)
  split-is_tree places p lines visits had all rest next =
      tree-split items places p (lines ++ rest) next
      ∙ ap (visit p word.Split) (all rest next ∙ ap (behind visits) (children-none items (below items places) had p rest next))

  -- ---- trees in which the lines end

  abbrev pub IsCutTree : (places : ℕ) → Partial → Word → List Node → List Visit → Type 0
  IsCutTree places p w lines visits = (next : List Node → Reading) → tree items places p w lines next ≡ behind visits (ends Cut)

  -- between two children
  pub split-cut : (places : ℕ) (p : Partial) (lines : List Node) (visits : List Visit) (to_come : ℕ) (had : ℕ → Bool)
      → AreChildren places items p lines visits (suc to_come) had → IsCutTree (suc places) p word.Split lines (visit_of p word.Split ∷ visits)
  split-cut places p lines visits to_come had some next =
      ap (λ l. tree items (suc places) p word.Split l next) (sym (append-nil lines))
      ∙ tree-split items places p (lines ++ []) next
      ∙ ap (visit p word.Split) (some [] next ∙ ap (behind visits) (children-cut items (below items places) to_come had p next))

  -- within a child
  pub split-cut_within : (places : ℕ) (p : Partial) (lines : List Node) (visits : List Visit) (to_come : ℕ) (had : ℕ → Bool)
      (i : ItemNo) (w : Word) (own : List Node) (more : List Visit)
      → AreChildren places items p lines visits (suc to_come) had → due_item items had (seat.Item i) ≡ Some i → IsCutTree places (child p i) w own more
      → IsCutTree (suc places) p word.Split (lines ++ (record { seat = seat.Item i; word = w } ∷ own)) (visit_of p word.Split ∷ (visits ++ more))
  split-cut_within places p lines visits to_come had i w own more some is_due is_cut next =
      let line : Node = record { seat = seat.Item i; word = w } in
      let later : List Node → Reading = λ after. children items (below items places) to_come (and_had i had) p after next in
      tree-split items places p (lines ++ (line ∷ own)) next
      ∙ ap (visit p word.Split)
      (some (line ∷ own) next
      ∙ ap (behind visits) (children-due items (below items places) to_come had p line own next i is_due ∙ is_cut later)
      ∙ sym (behind-more visits more (ends Cut)))

  -- ---- lengths

  module _ (job : JobData) where
    -- the trees of some lengths, of which so many were due from 1 on: so many are to come, from n on
    abbrev pub AreLengths : (due : ℕ) → List Node → List Visit → (to_come n : ℕ) → Type 0
    AreLengths due lines visits to_come n =
        (rest : List Node) → lengths items job due 1 (lines ++ rest) ≡ behind visits (lengths items job to_come n rest)

    pub lengths-begin : (due : ℕ) → AreLengths due [] [] due 1
    lengths-begin due rest = refl

    pub lengths-more : (due : ℕ) (lines : List Node) (visits : List Visit) (to_come n : ℕ) (w : Word) (own : List Node) (more : List Visit)
        → AreLengths due lines visits (suc to_come) n → is_due_length n (seat.Length n) ≡ true → IsTree (half job n) (root n) w own more
        → AreLengths due (lines ++ (record { seat = seat.Length n; word = w } ∷ own)) (visits ++ more) to_come (suc n)
    lengths-more due lines visits to_come n w own more so_far is_due is_tree rest =
        let line : Node = record { seat = seat.Length n; word = w } in
        let later : List Node → Reading = λ after. lengths items job to_come (suc n) after in
        ap (λ l. lengths items job due 1 l) (append_assoc lines (line ∷ own) rest)
        ∙ so_far (line ∷ (own ++ rest))
        ∙ ap (behind visits) (lengths-due items job to_come n line (own ++ rest) is_due ∙ is_tree rest later)
        ∙ sym (behind-more visits more (later rest))

    -- all lengths: the tree of a search is whole
    pub lengths-are_whole : (due : ℕ) (lines : List Node) (visits : List Visit) (n : ℕ) → AreLengths due lines visits zero n
        → lengths items job due 1 lines ≡ behind visits (ends Whole)
    lengths-are_whole due lines visits n all =
        ap (λ l. lengths items job due 1 l) (sym (append-nil lines)) ∙ all [] ∙ ap (behind visits) (lengths-whole items job n)

    -- the lines end between two lengths, or within one
    pub lengths-are_cut : (due : ℕ) (lines : List Node) (visits : List Visit) (to_come n : ℕ) → AreLengths due lines visits (suc to_come) n
        → lengths items job due 1 lines ≡ behind visits (ends Cut)
    lengths-are_cut due lines visits to_come n some =
        ap (λ l. lengths items job due 1 l) (sym (append-nil lines)) ∙ some [] ∙ ap (behind visits) (lengths-cut items job to_come n)

    pub lengths-cut_within : (due : ℕ) (lines : List Node) (visits : List Visit) (to_come n : ℕ) (w : Word) (own : List Node) (more : List Visit)
        → AreLengths due lines visits (suc to_come) n → is_due_length n (seat.Length n) ≡ true → IsCutTree (half job n) (root n) w own more
        → lengths items job due 1 (lines ++ (record { seat = seat.Length n; word = w } ∷ own)) ≡ behind (visits ++ more) (ends Cut)
    lengths-cut_within due lines visits to_come n w own more some is_due is_cut =
        let line : Node = record { seat = seat.Length n; word = w } in
        let later : List Node → Reading = λ after. lengths items job to_come (suc n) after in
        some (line ∷ own)
        ∙ ap (behind visits) (lengths-due items job to_come n line own is_due ∙ is_cut later)
        ∙ sym (behind-more visits more (ends Cut))
