-- A walk, step by step: what was written so far, with one tree more, or with the beginning of one.
use Rattle.std.proofs.Common.{◌≡◌, ◌≢◌, refl, sym, ◌∙◌, ap, subst, ℕ, zero, suc, ◌+◌, ◌-◌, ◌≤◌, ◌<◌, ◌⊎◌, inl, inr, List, [], ◌∷◌, ◌++◌, length, Some, true, arith}
use Rattle.std.proofs.lemmas.List.Sums.{fold-append}
use Rattle.std.proofs.lemmas.List.{length-append}
use Rattle.std.proofs.lemmas.Bool.{eq-eqb}
use Rattle.lam_stock.specs.declared.item.ItemNo.{ItemNo}
use Rattle.lam_job.specs.Partial.{Partial, child, half}
use Rattle.lam_tree.specs.declared.node.Node.{Node}
use Rattle.lam_tree.specs.declared.node.Seat.{Seat}
use Rattle.lam_tree.specs.declared.node.Seat.TheVariants as seat
use Rattle.lam_tree.specs.declared.node.Word.{Word}
use Rattle.lam_tree.specs.declared.node.Word.TheVariants as word
use Rattle.lam_tree.specs.Reading.{Visit, Cut, Whole, none_had, and_had, due_item, is_due_length, root}
use Rattle.lam_tree.proofs.Writing.{IsTree, IsCutTree, AreChildren, AreLengths, leaf-is_tree, children-begin, children-more, split-is_tree, split-cut, split-cut_within, lengths-begin, lengths-more, lengths-are_whole, lengths-are_cut, lengths-cut_within}
use Rattle.lam_search.specs.declared.state.State.{State}
use Rattle.lam_search.specs.inside.Here.{Basis}
use Rattle.lam_search.specs.inside.Steps.{had_of, places, Added, IsWritten, IsBegun, IsUnchanged, Explored, Spanned, IsRead}
use Rattle.lam_search.proofs.Holding.{added-nothing, added-more, added-unchanged}

abbrev pub node : Seat → Word → Node
node s w = record { seat = s; word = w }

abbrev pub visit_of : Partial → Word → Visit
visit_of p w = record { partial = p; word = w }

pub had-push : (items : List ItemNo) (i : ItemNo) → had_of (items ++ i ∷ []) ≡ and_had i (had_of items)
had-push items i = fold-append (λ had item. and_had item had) none_had items (i ∷ [])

-- one is left of some numbers that are not all
pub one_left : (to_come had all : ℕ) → to_come + had ≡ all → had < all → (k : ℕ) × (to_come ≡ suc k) × (k + (had + 1) ≡ all)
one_left zero had all left less = absurd (omega (arith, left, less))
one_left (suc k) had all left less = (k, refl, omega (arith, left))

module _ (m : Basis) where
  abbrev items : ℕ
  items = length m.stock

  -- ---- a tree

  pub written-leaf : (s : Seat) (p : Partial) (w : Word) (old new : State) → w ≢ word.Split
      → Added m old new (node s w ∷ []) (visit_of p w ∷ []) → IsWritten m s p old new
  written-leaf s p w old new leaf added = record {
    word = w;
    own = [];
    visits = visit_of p w ∷ [];
    added = added;
    reads = leaf-is_tree items (places m p) p w leaf;
  }

  pub explored-begin : (below : ℕ) (p : Partial) (state : State) → Explored m below p [] state state
  explored-begin below p state = record {
    to_come = items;
    own = [];
    visits = [];
    left = (let n = items in let e : n + 0 ≡ n = omega arith in e);
    added = added-nothing m state;
    reads = children-begin items below items p;
  }

  pub child-places : (below : ℕ) (p : Partial) (i : ItemNo) → suc below ≡ places m p → places m (child p i) ≡ below
  child-places below p i one =
      let h = half m.job p.n in
      let k = length p.prefix in
      let long = length-append p.prefix (i ∷ []) in
      ap (λ l. h - l) long ∙ (let e : suc below ≡ h - k = one in omega (arith, e))

  pub explored-more : (below : ℕ) (p : Partial) (done : List ItemNo) (i : ItemNo) (old mid new : State)
      → suc below ≡ places m p → length done < items → due_item items (had_of done) (seat.Item i) ≡ Some i
      → Explored m below p done old mid → IsWritten m (seat.Item i) (child p i) mid new → Explored m below p (done ++ i ∷ []) old new
  explored-more below p done i old mid new one less due e w =
      let k = one_left e.to_come (length done) items e.left less in
      let tree : IsTree items below (child p i) w.word w.own w.visits
      = subst (λ n. IsTree items n (child p i) w.word w.own w.visits) (child-places below p i one) w.reads in
      let so_far : AreChildren items below items p e.own e.visits (suc k.0) (had_of done)
      = subst (λ n. AreChildren items below items p e.own e.visits n (had_of done)) k.1 e.reads in
      record {
        to_come = k.0;
        own = e.own ++ (node (seat.Item i) w.word ∷ w.own);
        visits = e.visits ++ w.visits;
        left = ap (λ n. k.0 + n) (length-append done (i ∷ [])) ∙ k.2;
        added = added-more m old mid new e.own (node (seat.Item i) w.word ∷ w.own) e.visits w.visits e.added w.added;
        reads = subst (λ had. AreChildren items below items p (e.own ++ (node (seat.Item i) w.word ∷ w.own)) (e.visits ++ w.visits) k.0 had) (sym (had-push done i))
            (children-more items below items p e.own e.visits k.0 (had_of done) i w.word w.own w.visits so_far due tree);
      }

  -- all children were walked through
  pub written-split : (s : Seat) (below : ℕ) (p : Partial) (done : List ItemNo) (old mid new : State)
      → suc below ≡ places m p → items ≤ length done
      → Added m old mid (node s word.Split ∷ []) (visit_of p word.Split ∷ []) → Explored m below p done mid new → IsWritten m s p old new
  written-split s below p done old mid new one all added e =
      let left = e.left in
      let none : e.to_come ≡ 0 = omega (arith, left, all) in record {
        word = word.Split;
        own = e.own;
        visits = visit_of p word.Split ∷ e.visits;
        added = added-more m old mid new (node s word.Split ∷ []) e.own (visit_of p word.Split ∷ []) e.visits added e.added;
        reads = subst (λ n. IsTree items n p word.Split e.own (visit_of p word.Split ∷ e.visits)) one
            (split-is_tree items below p e.own e.visits (had_of done)
            (subst (λ n. AreChildren items below items p e.own e.visits n (had_of done)) none e.reads));
      }

  -- the budget is used up before a child, or within it
  pub begun-split : (s : Seat) (below : ℕ) (p : Partial) (done : List ItemNo) (i : ItemNo) (old mid here new : State)
      → suc below ≡ places m p → length done < items → due_item items (had_of done) (seat.Item i) ≡ Some i
      → Added m old mid (node s word.Split ∷ []) (visit_of p word.Split ∷ []) → Explored m below p done mid here
      → IsUnchanged m here new ⊎ IsBegun m (seat.Item i) (child p i) here new → IsBegun m s p old new
  begun-split s below p done i old mid here new one less due added e (inl same) =
      let k = one_left e.to_come (length done) items e.left less in record {
        word = word.Split;
        own = e.own;
        visits = visit_of p word.Split ∷ e.visits;
        added = added-more m old mid new (node s word.Split ∷ []) e.own (visit_of p word.Split ∷ []) e.visits added
            (added-unchanged m mid here new e.own e.visits e.added same);
        reads = subst (λ n. IsCutTree items n p word.Split e.own (visit_of p word.Split ∷ e.visits)) one
            (split-cut items below p e.own e.visits k.0 (had_of done)
            (subst (λ n. AreChildren items below items p e.own e.visits n (had_of done)) k.1 e.reads));
      }
  begun-split s below p done i old mid here new one less due added e (inr w) =
      let k = one_left e.to_come (length done) items e.left less in
      let tree : IsCutTree items below (child p i) w.word w.own w.visits
      = subst (λ n. IsCutTree items n (child p i) w.word w.own w.visits) (child-places below p i one) w.reads in
      let more : Added m mid new (e.own ++ (node (seat.Item i) w.word ∷ w.own)) (e.visits ++ w.visits)
      = added-more m mid here new e.own (node (seat.Item i) w.word ∷ w.own) e.visits w.visits e.added w.added in
      record {
        word = word.Split;
        own = e.own ++ (node (seat.Item i) w.word ∷ w.own);
        visits = visit_of p word.Split ∷ (e.visits ++ w.visits);
        added = added-more m old mid new (node s word.Split ∷ []) (e.own ++ (node (seat.Item i) w.word ∷ w.own)) (visit_of p word.Split ∷ [])
            (e.visits ++ w.visits) added more;
        reads = subst (λ n. IsCutTree items n p word.Split (e.own ++ (node (seat.Item i) w.word ∷ w.own)) (visit_of p word.Split ∷ (e.visits ++ w.visits))) one
            (split-cut_within items below p e.own e.visits k.0 (had_of done) i w.word w.own w.visits
            (subst (λ n. AreChildren items below items p e.own e.visits n (had_of done)) k.1 e.reads) due tree);
      }

  -- ---- lengths

  pub spanned-begin : (state : State) → Spanned m 1 state state
  spanned-begin state = record {
    to_come = m.job.limit;
    own = [];
    visits = [];
    left = (let n = m.job.limit in let e : n + 1 ≡ suc n = omega arith in e);
    added = added-nothing m state;
    reads = lengths-begin items m.job m.job.limit;
  }

  due-length : (n : ℕ) → is_due_length n (seat.Length n) ≡ true
  due-length n = eq-eqb n n refl

  root-places : (n : ℕ) → places m (root n) ≡ half m.job n
  root-places n = let h = half m.job n in let e : h - 0 ≡ h = omega arith in e

  pub spanned-more : (n : ℕ) (old mid new : State) → n ≤ m.job.limit → Spanned m n old mid → IsWritten m (seat.Length n) (root n) mid new
      → Spanned m (n + 1) old new
  spanned-more n old mid new short e w =
      let k = one_left e.to_come n (suc m.job.limit) e.left (omega (arith, short)) in
      let tree : IsTree items (half m.job n) (root n) w.word w.own w.visits
      = subst (λ h. IsTree items h (root n) w.word w.own w.visits) (root-places n) w.reads in
      record {
        to_come = k.0;
        own = e.own ++ (node (seat.Length n) w.word ∷ w.own);
        visits = e.visits ++ w.visits;
        left = k.2;
        added = added-more m old mid new e.own (node (seat.Length n) w.word ∷ w.own) e.visits w.visits e.added w.added;
        reads = subst (λ q. AreLengths items m.job m.job.limit (e.own ++ (node (seat.Length n) w.word ∷ w.own)) (e.visits ++ w.visits) k.0 q)
            (let q : suc n ≡ n + 1 = omega arith in q)
            (lengths-more items m.job m.job.limit e.own e.visits k.0 n w.word w.own w.visits
            (subst (λ q. AreLengths items m.job m.job.limit e.own e.visits q n) k.1 e.reads) (due-length n) tree);
      }

  pub read-whole : (n : ℕ) (old new : State) → m.job.limit < n → Spanned m n old new → IsRead m Whole old new
  read-whole n old new over e =
      let left = e.left in
      let none : e.to_come ≡ 0 = omega (arith, left, over) in record {
        own = e.own;
        visits = e.visits;
        added = e.added;
        reads = lengths-are_whole items m.job m.job.limit e.own e.visits n
            (subst (λ q. AreLengths items m.job m.job.limit e.own e.visits q n) none e.reads);
      }

  pub read-cut : (n : ℕ) (old mid new : State) → n ≤ m.job.limit → Spanned m n old mid
      → IsUnchanged m mid new ⊎ IsBegun m (seat.Length n) (root n) mid new → IsRead m Cut old new
  read-cut n old mid new short e (inl same) =
      let k = one_left e.to_come n (suc m.job.limit) e.left (omega (arith, short)) in record {
        own = e.own;
        visits = e.visits;
        added = added-unchanged m old mid new e.own e.visits e.added same;
        reads = lengths-are_cut items m.job m.job.limit e.own e.visits k.0 n
            (subst (λ q. AreLengths items m.job m.job.limit e.own e.visits q n) k.1 e.reads);
      }
  read-cut n old mid new short e (inr w) =
      let k = one_left e.to_come n (suc m.job.limit) e.left (omega (arith, short)) in
      let tree : IsCutTree items (half m.job n) (root n) w.word w.own w.visits
      = subst (λ h. IsCutTree items h (root n) w.word w.own w.visits) (root-places n) w.reads in
      record {
        own = e.own ++ (node (seat.Length n) w.word ∷ w.own);
        visits = e.visits ++ w.visits;
        added = added-more m old mid new e.own (node (seat.Length n) w.word ∷ w.own) e.visits w.visits e.added w.added;
        reads = lengths-cut_within items m.job m.job.limit e.own e.visits k.0 n w.word w.own w.visits
            (subst (λ q. AreLengths items m.job m.job.limit e.own e.visits q n) k.1 e.reads) (due-length n) tree;
      }
