-- The reading of a tree, equation by equation.
use Rattle.std.proofs.Common.{◌≡◌, ◌≢◌, refl, ap, ℕ, zero, suc, List, [], ◌∷◌, Some, None, Bool, true, false, inl, inr, ◌⊎◌}
use Rattle.lam_stock.specs.declared.item.ItemNo.{ItemNo}
use Rattle.lam_job.specs.JobData.{JobData}
use Rattle.lam_job.specs.Partial.{Partial, half, child}
use Rattle.lam_tree.specs.declared.node.Node.{Node}
use Rattle.lam_tree.specs.declared.node.Word.{Word}
use Rattle.lam_tree.specs.declared.node.Word.TheVariants as word
use Rattle.lam_tree.specs.Reading.{Cut, Stray, Whole, Reading, ends, visit, root, none_had, and_had, due_item, is_due_length, children, tree, lengths}

-- a word is that of a split, or of a leaf
pub split_or_leaf : (w : Word) → (w ≡ word.Split) ⊎ (w ≢ word.Split)
split_or_leaf word.Split = inl refl
split_or_leaf word.Cost = inr (λ e. cc)
split_or_leaf (word.Rule r) = inr (λ e. cc)
split_or_leaf (word.NetShort k w) = inr (λ e. cc)
split_or_leaf (word.NetCost k w) = inr (λ e. cc)
split_or_leaf (word.Box at) = inr (λ e. cc)
split_or_leaf (word.Range k) = inr (λ e. cc)
split_or_leaf (word.Fails at) = inr (λ e. cc)
split_or_leaf (word.Buckles k) = inr (λ e. cc)
split_or_leaf (word.Straddles spot) = inr (λ e. cc)
split_or_leaf word.Admissible = inr (λ e. cc)

-- ---- trees

-- what reads the tree of a child, where its split had a place more
abbrev pub below : (items places : ℕ) → Partial → Word → List Node → (List Node → Reading) → Reading
below items places = λ q w after more. tree items places q w after more

pub tree-split : (items places : ℕ) (p : Partial) (rest : List Node) (next : List Node → Reading)
    → tree items (suc places) p word.Split rest next ≡ visit p word.Split (children items (below items places) items none_had p rest next)
unfolding tree
tree-split items places p rest next = refl

pub tree-full : (items : ℕ) (p : Partial) (rest : List Node) (next : List Node → Reading)
    → tree items zero p word.Split rest next ≡ visit p word.Split (ends Stray)
unfolding tree
tree-full items p rest next = refl

pub tree-leaf : (items places : ℕ) (p : Partial) (w : Word) (rest : List Node) (next : List Node → Reading) → w ≢ word.Split
    → tree items places p w rest next ≡ visit p w (next rest)
unfolding tree
tree-leaf items zero p word.Split rest next leaf = absurd (leaf refl)
tree-leaf items (suc places) p word.Split rest next leaf = absurd (leaf refl)
tree-leaf items zero p w rest next leaf = refl
tree-leaf items (suc places) p w rest next leaf = refl

-- ---- children

module _ (items : ℕ) (T : Partial → Word → List Node → (List Node → Reading) → Reading) where
  pub children-none : (had : ℕ → Bool) (p : Partial) (lines : List Node) (next : List Node → Reading)
      → children items T zero had p lines next ≡ next lines
  unfolding children
  children-none had p lines next = refl

  pub children-cut : (to_come : ℕ) (had : ℕ → Bool) (p : Partial) (next : List Node → Reading)
      → children items T (suc to_come) had p [] next ≡ ends Cut
  unfolding children
  children-cut to_come had p next = refl

  pub children-due : (to_come : ℕ) (had : ℕ → Bool) (p : Partial) (line : Node) (rest : List Node) (next : List Node → Reading) (i : ItemNo)
      → due_item items had line.seat ≡ Some i
      → children items T (suc to_come) had p (line ∷ rest) next
      ≡ T (child p i) line.word rest (λ after. children items T to_come (and_had i had) p after next)
  unfolding children
  children-due to_come had p line rest next i due =
      ap (λ d. elim d [ None ↦ ends Stray | Some j ↦ T (child p j) line.word rest (λ after. children items T to_come (and_had j had) p after next) ]) due

  pub children-stray : (to_come : ℕ) (had : ℕ → Bool) (p : Partial) (line : Node) (rest : List Node) (next : List Node → Reading)
      → due_item items had line.seat ≡ None → children items T (suc to_come) had p (line ∷ rest) next ≡ ends Stray
  unfolding children
  children-stray to_come had p line rest next due =
      ap (λ d. elim d [ None ↦ ends Stray | Some j ↦ T (child p j) line.word rest (λ after. children items T to_come (and_had j had) p after next) ]) due

-- ---- lengths

module _ (items : ℕ) (job : JobData) where
  pub lengths-whole : (n : ℕ) → lengths items job zero n [] ≡ ends Whole
  unfolding lengths
  lengths-whole n = refl

  pub lengths-over : (n : ℕ) (line : Node) (rest : List Node) → lengths items job zero n (line ∷ rest) ≡ ends Stray
  unfolding lengths
  lengths-over n line rest = refl

  pub lengths-cut : (to_come n : ℕ) → lengths items job (suc to_come) n [] ≡ ends Cut
  unfolding lengths
  lengths-cut to_come n = refl

  pub lengths-due : (to_come n : ℕ) (line : Node) (rest : List Node) → is_due_length n line.seat ≡ true
      → lengths items job (suc to_come) n (line ∷ rest)
      ≡ tree items (half job n) (root n) line.word rest (λ after. lengths items job to_come (suc n) after)
  unfolding lengths
  lengths-due to_come n line rest due =
      ap (λ d. elim d [ false ↦ ends Stray | true ↦ tree items (half job n) (root n) line.word rest (λ after. lengths items job to_come (suc n) after) ]) due

  pub lengths-stray : (to_come n : ℕ) (line : Node) (rest : List Node) → is_due_length n line.seat ≡ false
      → lengths items job (suc to_come) n (line ∷ rest) ≡ ends Stray
  unfolding lengths
  lengths-stray to_come n line rest due =
      ap (λ d. elim d [ false ↦ ends Stray | true ↦ tree items (half job n) (root n) line.word rest (λ after. lengths items job to_come (suc n) after) ]) due
