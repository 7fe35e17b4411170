-- One child of a split: down to it, and what was written of it.
use Rattle.std.proofs.Common.{◌≡◌, ◌≢◌, refl, sym, ◌∙◌, ap, subst, ℕ, suc, ◌+◌, ◌-◌, ◌<◌, ◌⊎◌, inr, List, [], ◌∷◌, length, take, get_or, Option, arith}
use Rattle.std.proofs.lemmas.List.{take_more, length-take-le}
use Rattle.lam_stock.specs.declared.item.ItemNo.{ItemNo}
use Rattle.lam_job.specs.Partial.{Partial, child, half}
use Rattle.lam_tree.specs.declared.node.Word.{Word}
use Rattle.lam_tree.specs.declared.node.Word.TheVariants as word
use Rattle.lam_tree.specs.declared.node.Seat.{Seat}
use Rattle.lam_tree.specs.declared.node.Seat.TheVariants as seat
use Rattle.lam_tree.specs.Closings.{IsSound}
use Rattle.lam_search.specs.declared.hints.Hints.{Hints}
use Rattle.lam_search.specs.declared.state.State.{State}
use Rattle.lam_search.specs.declared.state.Flow.{Flow}
use Rattle.lam_search.specs.declared.state.Flow.TheVariants as flow
use Rattle.lam_search.specs.inside.Here.{Basis, Here, basis}
use Rattle.lam_search.specs.inside.Hints.{AreHints, AreChildHints}
use Rattle.lam_search.specs.inside.Held.{IsHeld, IsKept}
use Rattle.lam_search.specs.inside.Ordered.{IsEachOnce}
use Rattle.lam_search.specs.inside.Steps.{places, Added, IsWritten, IsBegun, IsUnchanged, Walked, Explored}
use Rattle.lam_search.proofs.Ordering.{due-next, within-next}
use Rattle.lam_search.proofs.Places.{child-long}
use Rattle.lam_search.proofs.WalkSteps.{node, visit_of, explored-more, written-split, begun-split}

-- a split has a place to settle
pub split-open : (m : Basis) (c : Option ℕ) (p : Partial) (w : Word) → IsHeld m c p w → w ≡ word.Split → length p.prefix < half m.job p.n
split-open m c p w held split =
    let lawful = (subst (IsSound m.stock m.job m.tests c c p) split held.sound).lawful in
    let within = held.part.within in
    let other : length p.prefix ≢ half m.job p.n = lawful.more in
    omega (arith, within, other)

pub one-place : (m : Basis) (p : Partial) → length p.prefix < half m.job p.n → suc (places m p - 1) ≡ places m p
one-place m p more = let h = half m.job p.n in omega (arith, more)

-- ---- down to a child

module _ (here there : Here) (item : ItemNo) (down : there ≡ record here { partial = child here.partial item }) where
  pub falls : length here.partial.prefix < half here.job here.partial.n
      → half there.job there.partial.n - length there.partial.prefix < half here.job here.partial.n - length here.partial.prefix
  falls more =
      let e = ap (λ (h : Here). half h.job h.partial.n - length h.partial.prefix) down in
      let long = child-long here.partial item in
      omega (arith, e, long, more)

  pub down-hints : (hints : Hints) → AreChildHints (basis here) here.partial hints → item.0 < length here.stock → AreHints (basis there) there.partial hints
  down-hints hints all known = subst (λ (h : Here). AreHints (basis h) h.partial hints) (sym down) (all item known)

  pub down-kept : (state : State) → IsKept (basis here) state → IsKept (basis there) state
  down-kept state kept = subst (λ (h : Here). IsKept (basis h) state) (sym down) kept

  pub down-known : item.0 < length here.stock → item.0 < length there.stock
  down-known known = subst (λ (h : Here). item.0 < length h.stock) (sym down) known

  pub up-kept : (state : State) → IsKept (basis there) state → IsKept (basis here) state
  up-kept state kept = subst (λ (h : Here). IsKept (basis h) state) down kept

  pub up-walked : (budget : ℕ) (s : Seat) (f : Flow) (old new : State) → Walked (basis there) budget s there.partial f old new
      → Walked (basis here) budget s (child here.partial item) f old new
  up-walked budget s f old new walked = subst (λ (h : Here). Walked (basis h) budget s h.partial f old new) down walked

-- ---- the children of a split, one by one

pub whole-only : (m : Basis) (budget : ℕ) (s : Seat) (p : Partial) (f : Flow) (old new : State) → f ≢ flow.Cut → Walked m budget s p f old new → IsWritten m s p old new
whole-only m budget s p flow.Whole old new other walked = walked
whole-only m budget s p flow.Cut old new other walked = absurd (other refl)

module _ (m : Basis) (p : Partial) (items : List ItemNo) (k : ℕ) (d : ItemNo) (once : IsEachOnce (length m.stock) items)
    (within : k < length items) (more : length p.prefix < half m.job p.n) where
  few : length (take k items) < length m.stock
  few = let long = length-take-le k items (omega (arith, within)) in let many = once.many in omega (arith, long, many, within)

  pub next-known : (get_or items k d).0 < length m.stock
  next-known = within-next (length m.stock) items k d once within

  pub turn : (budget : ℕ) (f : Flow) (old mid new : State) → f ≢ flow.Cut → Explored m (places m p - 1) p (take k items) old mid
      → Walked m budget (seat.Item (get_or items k d)) (child p (get_or items k d)) f mid new
      → Explored m (places m p - 1) p (take (k + 1) items) old new
  turn budget f old mid new whole e walked =
      subst (λ done. Explored m (places m p - 1) p done old new) (sym (take_more items k d within))
      (explored-more m (places m p - 1) p (take k items) (get_or items k d) old mid new (one-place m p more) few
      (due-next (length m.stock) items k d once within) e
      (whole-only m budget (seat.Item (get_or items k d)) (child p (get_or items k d)) f mid new whole walked))

  pub turn-cut : (budget : ℕ) (s : Seat) (f : Flow) (old mid here new : State) → f ≡ flow.Cut
      → Added m old mid (node s word.Split ∷ []) (visit_of p word.Split ∷ []) → Explored m (places m p - 1) p (take k items) mid here
      → Walked m budget (seat.Item (get_or items k d)) (child p (get_or items k d)) f here new
      → (length new.tree ≡ budget) × (IsUnchanged m old new ⊎ IsBegun m s p old new)
  turn-cut budget s f old mid here new cut added e walked =
      let w = subst (λ q. Walked m budget (seat.Item (get_or items k d)) (child p (get_or items k d)) q here new) cut walked in (
        w.0,
        inr (begun-split m s (places m p - 1) p (take k items) (get_or items k d) old mid here new (one-place m p more) few
            (due-next (length m.stock) items k d once within) added e w.1),
      )

pub all-turned : (m : Basis) (s : Seat) (p : Partial) (items done : List ItemNo) (old mid new : State) → length p.prefix < half m.job p.n
    → IsEachOnce (length m.stock) items → done ≡ items
    → Added m old mid (node s word.Split ∷ []) (visit_of p word.Split ∷ []) → Explored m (places m p - 1) p done mid new → IsWritten m s p old new
all-turned m s p items done old mid new more once all added e =
    let many = ap length all ∙ once.many in
    written-split m s (places m p - 1) p done old mid new (one-place m p more) (omega (arith, many)) added e
