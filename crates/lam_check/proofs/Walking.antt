-- Each step of the machine is an equation of the reading.
use Rattle.std.proofs.Common.{◌≡◌, ◌≢◌, refl, sym, ◌∙◌, ap, ℕ, zero, suc, ◌+◌, ◌-◌, ◌<◌, ◌≤◌, ◌==◌, ◌&&◌, not, List, [], ◌∷◌, ◌++◌, length, take, Bool, true, false, Some, None, if◌then◌else◌, arith}
use Rattle.std.proofs.Math.Path.{fun_ext}
use Rattle.std.proofs.Math.Seq.{take-append_seam}
use Rattle.std.proofs.lemmas.Bool.{eq-eqb, lt-ltb}
use Rattle.std.proofs.lemmas.List.{length_push}
use Rattle.std.proofs.lemmas.Nat.Bits.{bit_at-zero}
use Rattle.lam_stock.specs.declared.item.ItemNo.{ItemNo}
use Rattle.lam_job.specs.Partial.{Partial, half, child}
use Rattle.lam_tree.specs.declared.node.Node.{Node}
use Rattle.lam_tree.specs.declared.node.Seat.TheVariants as seat
use Rattle.lam_tree.specs.declared.node.Word.{Word}
use Rattle.lam_tree.specs.declared.node.Word.TheVariants as word
use Rattle.lam_tree.specs.Reading.{Cut, Stray, Whole, Reading, ends, visit, root, none_had, and_had, due_item, is_due_length, children, tree, lengths, read}
use Rattle.lam_tree.proofs.Equations.{below, tree-split, tree-full, tree-leaf, children-none, children-cut, children-due, children-stray, lengths-whole, lengths-over, lengths-cut, lengths-due, lengths-stray}
use Rattle.lam_check.specs.declared.splits.Open.{Open}
use Rattle.lam_check.specs.inside.Basis.{Basis}
use Rattle.lam_check.specs.inside.Sets.{has_bit}
use Rattle.lam_check.specs.inside.Machine.{front, partial_at, resume, resume_at}

-- a path with one item more, without it
pub front-push : (path : List ItemNo) (i : ItemNo) → front (path ++ i ∷ []) ≡ path
front-push path i =
    let e = length_push path i in
    let less : length (path ++ i ∷ []) - 1 ≡ length path = omega (arith, e) in
    ap (λ n. take n (path ++ i ∷ [])) less ∙ take-append_seam path (i ∷ [])

minus_none : (n : ℕ) → n ≡ n - 0
minus_none n = omega arith

none_is_had : (had : ℕ) → had ≡ 0 → none_had ≡ has_bit had
none_is_had had none = fun_ext (λ i. sym (ap (λ h. has_bit h i) none ∙ ap (λ n. n == 1) (bit_at-zero i)))

longer : (path : List ItemNo) (i : ItemNo) → suc (length path) ≡ length (path ++ i ∷ [])
longer path i = let e = length_push path i in omega (arith, e)

module _ (m : Basis) where
  abbrev items : ℕ
  items = length m.stock

  -- ---- between two lines

  resume-none : (n : ℕ) (path : List ItemNo) (lines : List Node) → resume m n [] path lines ≡ lengths items m.job (m.job.limit - n) (suc n) lines
  unfolding resume
  resume-none n path lines = refl

  resume-open : (n : ℕ) (top : Open) (opens : List Open) (path : List ItemNo) (lines : List Node)
      → resume m n (top ∷ opens) path lines
      ≡ children items (below items (half m.job n - suc (length path))) top.to_come (has_bit top.had) (partial_at n path) lines (λ after. resume m n opens (front path) after)
  unfolding resume
  resume-open n top opens path lines = refl

  -- ---- a child

  due-item : (i : ItemNo) (had : ℕ → Bool) → i.0 < items → had i.0 ≡ false → due_item items had (seat.Item i) ≡ Some i
  due-item i had known new =
      ap (λ b. if b && not (had i.0) then Some i else None) (lt-ltb i.0 items known)
      ∙ ap (λ b. if true && not b then Some i else None) new

  -- a child that is due
  pub resume-item : (n : ℕ) (top after_top : Open) (opens : List Open) (path : List ItemNo) (i : ItemNo) (word : Word) (rest : List Node)
      → top.to_come ≡ suc after_top.to_come → i.0 < items → has_bit top.had i.0 ≡ false
      → ((j : ℕ) → has_bit after_top.had j ≡ and_had i (has_bit top.had) j)
      → resume m n (top ∷ opens) path (record { seat = seat.Item i; word = word } ∷ rest)
      ≡ resume_at m n (after_top ∷ opens) (path ++ i ∷ []) word rest
  unfolding resume
  resume-item n top after_top opens path i word rest one known new adds =
      let p = partial_at n path in
      let line : Node = record { seat = seat.Item i; word = word } in
      let T : Partial → Word → List Node → (List Node → Reading) → Reading = below items (half m.job n - suc (length path)) in
      let next : List Node → Reading = λ after. resume m n opens (front path) after in
      let F : ℕ → List ItemNo → (ℕ → Bool) → Reading = λ k f had. tree items (half m.job n - k) (child p i) word rest
      (λ after. children items (below items (half m.job n - suc (length f))) after_top.to_come had (partial_at n f) after (λ more. resume m n opens (front f) more)) in
      ap (λ k. children items T k (has_bit top.had) p (line ∷ rest) next) one
      ∙ children-due items T after_top.to_come (has_bit top.had) p line rest next i (due-item i (has_bit top.had) known new)
      ∙ ap (λ k. F k path (and_had i (has_bit top.had))) (longer path i)
      ∙ ap (λ f. F (length (path ++ i ∷ [])) f (and_had i (has_bit top.had))) (sym (front-push path i))
      ∙ ap (λ had. F (length (path ++ i ∷ [])) (front (path ++ i ∷ [])) had) (sym (fun_ext adds))

  -- a line that is no child that is due
  pub resume-stray : (n : ℕ) (top : Open) (opens : List Open) (path : List ItemNo) (line : Node) (rest : List Node)
      → 0 < top.to_come → due_item items (has_bit top.had) line.seat ≡ None
      → resume m n (top ∷ opens) path (line ∷ rest) ≡ ends Stray
  unfolding resume
  resume-stray n top opens path line rest some due =
      let p = partial_at n path in
      let T : Partial → Word → List Node → (List Node → Reading) → Reading = below items (half m.job n - suc (length path)) in
      let next : List Node → Reading = λ after. resume m n opens (front path) after in
      let one : top.to_come ≡ suc (top.to_come - 1) = omega (arith, some) in
      ap (λ k. children items T k (has_bit top.had) p (line ∷ rest) next) one
      ∙ children-stray items T (top.to_come - 1) (has_bit top.had) p line rest next due

  -- ---- a length

  pub resume-length : (n k : ℕ) (path : List ItemNo) (word : Word) (rest : List Node) → k ≡ n + 1 → k ≤ m.job.limit
      → resume m n [] path (record { seat = seat.Length k; word = word } ∷ rest) ≡ resume_at m k [] [] word rest
  unfolding resume
  resume-length n k path word rest next within =
      let line : Node = record { seat = seat.Length k; word = word } in
      let later : ℕ → List Node → Reading = λ n lines. lengths items m.job (m.job.limit - n) (suc n) lines in
      let more : m.job.limit - n ≡ suc (m.job.limit - k) = omega (arith, next, within) in
      let is : suc n ≡ k = omega (arith, next) in
      ap (λ j. lengths items m.job j (suc n) (line ∷ rest)) more
      ∙ ap (λ j. lengths items m.job (suc (m.job.limit - k)) j (line ∷ rest)) is
      ∙ lengths-due items m.job (m.job.limit - k) k line rest (eq-eqb k k refl)
      ∙ ap (λ places. tree items places (root k) word rest (λ after. later k after)) (minus_none (half m.job k))

  pub resume-not_next : (n : ℕ) (path : List ItemNo) (line : Node) (rest : List Node) → is_due_length (suc n) line.seat ≡ false
      → resume m n [] path (line ∷ rest) ≡ ends Stray
  unfolding resume
  resume-not_next n path line rest other = by (m.job.limit - n) where
    by : (k : ℕ) → lengths items m.job k (suc n) (line ∷ rest) ≡ ends Stray
    by zero = lengths-over items m.job (suc n) line rest
    by (suc k) = lengths-stray items m.job k (suc n) line rest other

  pub resume-over : (n : ℕ) (path : List ItemNo) (line : Node) (rest : List Node) → m.job.limit ≤ n
      → resume m n [] path (line ∷ rest) ≡ ends Stray
  unfolding resume
  resume-over n path line rest all =
      let none : m.job.limit - n ≡ 0 = omega (arith, all) in
      ap (λ k. lengths items m.job k (suc n) (line ∷ rest)) none ∙ lengths-over items m.job (suc n) line rest

  -- ---- behind a seat

  pub resume-split : (n : ℕ) (split : Open) (opens : List Open) (path : List ItemNo) (rest : List Node)
      → length path < half m.job n → split.to_come ≡ items → split.had ≡ 0
      → resume_at m n opens path word.Split rest ≡ visit (partial_at n path) word.Split (resume m n (split ∷ opens) path rest)
  unfolding resume
  resume-split n split opens path rest more all none =
      let p = partial_at n path in
      let places = half m.job n - suc (length path) in
      let next : List Node → Reading = λ after. resume m n opens (front path) after in
      let is : half m.job n - length path ≡ suc places = omega (arith, more) in
      ap (λ k. tree items k p word.Split rest next) is
      ∙ tree-split items places p rest next
      ∙ ap (λ k. visit p word.Split (children items (below items places) k none_had p rest next)) (sym all)
      ∙ ap (λ had. visit p word.Split (children items (below items places) split.to_come had p rest next)) (none_is_had split.had none)

  -- a split is read, also of a full partial
  pub resume-split_at : (n : ℕ) (opens : List Open) (path : List ItemNo) (rest : List Node)
      → (more : Reading) × (resume_at m n opens path word.Split rest ≡ visit (partial_at n path) word.Split more)
  resume-split_at n opens path rest = by (half m.job n - length path) where
    by : (places : ℕ) → (more : Reading) × (tree items places (partial_at n path) word.Split rest (λ after. resume m n opens (front path) after) ≡ visit (partial_at n path) word.Split more)
    by zero = (ends Stray, tree-full items (partial_at n path) rest (λ after. resume m n opens (front path) after))
    by (suc places) = (children items (below items places) items none_had (partial_at n path) rest (λ after. resume m n opens (front path) after), tree-split items places (partial_at n path) rest (λ after. resume m n opens (front path) after))

  pub resume-leaf : (n : ℕ) (opens : List Open) (path : List ItemNo) (w : Word) (rest : List Node) → w ≢ word.Split
      → resume_at m n opens path w rest ≡ visit (partial_at n path) w (resume m n opens (front path) rest)
  resume-leaf n opens path w rest leaf = tree-leaf items (half m.job n - length path) (partial_at n path) w rest (λ after. resume m n opens (front path) after) leaf

  -- ---- behind a leaf, and at the end

  pub resume-done : (n : ℕ) (top : Open) (opens : List Open) (path : List ItemNo) (rest : List Node) → top.to_come ≡ 0
      → resume m n (top ∷ opens) path rest ≡ resume m n opens (front path) rest
  unfolding resume
  resume-done n top opens path rest none =
      let p = partial_at n path in
      let T : Partial → Word → List Node → (List Node → Reading) → Reading = below items (half m.job n - suc (length path)) in
      let next : List Node → Reading = λ after. resume m n opens (front path) after in
      ap (λ k. children items T k (has_bit top.had) p rest next) none
      ∙ children-none items T (has_bit top.had) p rest next

  pub resume-cut : (n : ℕ) (top : Open) (opens : List Open) (path : List ItemNo) → 0 < top.to_come
      → resume m n (top ∷ opens) path [] ≡ ends Cut
  unfolding resume
  resume-cut n top opens path some =
      let p = partial_at n path in
      let T : Partial → Word → List Node → (List Node → Reading) → Reading = below items (half m.job n - suc (length path)) in
      let next : List Node → Reading = λ after. resume m n opens (front path) after in
      let one : top.to_come ≡ suc (top.to_come - 1) = omega (arith, some) in
      ap (λ k. children items T k (has_bit top.had) p [] next) one
      ∙ children-cut items T (top.to_come - 1) (has_bit top.had) p next

  pub resume-whole : (n : ℕ) (path : List ItemNo) → m.job.limit ≤ n → resume m n [] path [] ≡ ends Whole
  unfolding resume
  resume-whole n path all =
      let none : m.job.limit - n ≡ 0 = omega (arith, all) in
      ap (λ k. lengths items m.job k (suc n) []) none ∙ lengths-whole items m.job (suc n)

  pub resume-short : (n : ℕ) (path : List ItemNo) → n < m.job.limit → resume m n [] path [] ≡ ends Cut
  unfolding resume
  resume-short n path more =
      let one : m.job.limit - n ≡ suc (m.job.limit - suc n) = omega (arith, more) in
      ap (λ k. lengths items m.job k (suc n) []) one ∙ lengths-cut items m.job (m.job.limit - suc n) (suc n)

  pub resume-start : (lines : List Node) → resume m 0 [] [] lines ≡ read m.stock m.job lines
  unfolding resume
  resume-start lines = ap (λ k. lengths items m.job k 1 lines) (let e : m.job.limit - 0 ≡ m.job.limit = omega arith in e)
