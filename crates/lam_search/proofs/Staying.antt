-- What is true of leaves at their moment is true in the end, since the incumbent only falls.
use Rattle.std.proofs.Common.{◌≡◌, ◌≢◌, sym, ap, subst, ℕ, ◌≤◌, inl, inr, List, [], ◌∷◌, All, Option, Some, None, IsSomeAnd, arith}
use Rattle.std.proofs.lemmas.List.Elements.{All-cons, All-nil}
use Rattle.lam_stock.specs.declared.item.Item.{Item}
use Rattle.lam_job.specs.JobData.{JobData}
use Rattle.lam_job.specs.Schedule.{cost_of}
use Rattle.lam_job.specs.Partial.{Partial, completion, cost_floor}
use Rattle.lam_tree.specs.declared.node.Word.{Word}
use Rattle.lam_tree.specs.declared.node.Word.TheVariants as word
use Rattle.lam_tree.specs.Reading.{Visit}
use Rattle.lam_tree.specs.Words.{IsTrueOf, NoneIsCheaper}
use Rattle.lam_tree.specs.Closings.{incumbent_with, incumbent_after, lesser}
use Rattle.lam_tree.specs.Promise.{NoLeafIsAdmissible}
use Rattle.lam_tree.proofs.Settle.{NotAbove, incumbent-falls}
use Rattle.lam_search.specs.inside.Here.{Basis}
use Rattle.lam_search.specs.inside.Held.{AreHeld}

le_same : (n : ℕ) → n ≤ n
le_same n = omega arith

module _ (stock : List Item) (job : JobData) where
  cheaper-later : (c later : Option ℕ) (p : Partial) → ((cost : ℕ) → NotAbove c cost → NotAbove later cost)
      → IsSomeAnd c (NoneIsCheaper stock job p) → IsSomeAnd later (NoneIsCheaper stock job p)
  cheaper-later None later p falls none = absurd none
  cheaper-later (Some cost) later p falls none = by later (falls cost (le_same cost)) where
    by : (o : Option ℕ) → NotAbove o cost → IsSomeAnd o (NoneIsCheaper stock job p)
    by None low = absurd low
    by (Some least) low = λ listed completes may. let high = none listed completes may in omega (arith, low, high)

  true-later : (c later : Option ℕ) (p : Partial) (w : Word) → ((cost : ℕ) → NotAbove c cost → NotAbove later cost)
      → IsTrueOf stock job c p w → IsTrueOf stock job later p w
  true-later c later p word.Split falls so = tt
  true-later c later p word.Cost falls so = falls (cost_floor stock job p) so
  true-later c later p (word.Rule r) falls so = so
  true-later c later p (word.NetShort k w) falls so = so
  true-later c later p (word.NetCost k w) falls (inl none) = inl none
  true-later c later p (word.NetCost k w) falls (inr dear) = inr (cheaper-later c later p falls dear)
  true-later c later p (word.Box at) falls so = so
  true-later c later p (word.Range k) falls so = so
  true-later c later p (word.Fails at) falls so = so
  true-later c later p (word.Buckles k) falls so = so
  true-later c later p (word.Straddles spot) falls so = so
  true-later c later p word.Admissible falls so = so

  -- where there is no cost in the end, no leaf is admissible
  admissible-costs : (c : Option ℕ) (v : Visit) (rest : List Visit) → v.word ≡ word.Admissible
      → incumbent_after stock job (incumbent_with stock job c v.partial v.word) rest ≡ None → ⊥
  admissible-costs c v rest is none =
      let cost = lesser c (cost_of stock job (completion job v.partial)) in
      let some : incumbent_with stock job c v.partial v.word ≡ Some cost = ap (incumbent_with stock job c v.partial) is in
      let h : NotAbove (incumbent_with stock job c v.partial v.word) cost = subst (λ o. NotAbove o cost) (sym some) (le_same cost) in
      subst (λ o. NotAbove o cost) none (incumbent-falls stock job (incumbent_with stock job c v.partial v.word) rest cost h)

  pub none-admissible : (c : Option ℕ) (visits : List Visit) → incumbent_after stock job c visits ≡ None → NoLeafIsAdmissible stock job visits
  none-admissible c [] none = All-nil (λ (v : Visit). v.word ≢ word.Admissible)
  none-admissible c (v ∷ rest) none =
      All-cons (λ (u : Visit). u.word ≢ word.Admissible) v rest (λ is. admissible-costs c v rest is none)
      (none-admissible (incumbent_with stock job c v.partial v.word) rest none)

-- all that hold at their moment are true in the end
pub all-true : (m : Basis) (c : Option ℕ) (visits : List Visit) → AreHeld m c visits
    → All (λ v. IsTrueOf m.stock m.job (incumbent_after m.stock m.job c visits) v.partial v.word) visits
all-true m c [] held =
    All-nil (λ (v : Visit). IsTrueOf m.stock m.job c v.partial v.word)
all-true m c (v ∷ rest) held =
    let next = incumbent_with m.stock m.job c v.partial v.word in
    let final = incumbent_after m.stock m.job next rest in
    All-cons (λ (u : Visit). IsTrueOf m.stock m.job final u.partial u.word) v rest
    (true-later m.stock m.job c final v.partial v.word
    (λ cost h. incumbent-falls m.stock m.job c (v ∷ rest) cost h) held.0.so)
    (all-true m next rest held.1)
