-- Nodes that hold at their moment, one after the other.
use Rattle.std.proofs.Common.{◌≡◌, refl, sym, ◌∙◌, ap, subst, ℕ, List, [], ◌∷◌, ◌++◌, Option}
use Rattle.std.proofs.lemmas.List.{append_assoc, append-nil}
use Rattle.lam_job.specs.Partial.{Partial}
use Rattle.lam_tree.specs.declared.node.Node.{Node}
use Rattle.lam_tree.specs.declared.node.Word.{Word}
use Rattle.lam_tree.specs.declared.node.Word.TheVariants as word
use Rattle.lam_tree.specs.Reading.{Visit}
use Rattle.lam_tree.specs.Closings.{IsSound, IsLawful, incumbent_with, incumbent_after}
use Rattle.lam_tree.specs.Checks.{best_cost}
use Rattle.lam_tree.specs.Promise.{AreLawful}
use Rattle.lam_tree.proofs.Moments.{AreSoundNow}
use Rattle.lam_search.specs.declared.state.State.{State}
use Rattle.lam_search.specs.inside.Here.{Basis}
use Rattle.lam_search.specs.inside.Held.{AreHeld}
use Rattle.lam_search.specs.inside.Steps.{Added, IsUnchanged}

module _ (m : Basis) where
  -- the incumbent after some nodes and more
  pub after-more : (c : Option ℕ) (done more : List Visit)
      → incumbent_after m.stock m.job c (done ++ more) ≡ incumbent_after m.stock m.job (incumbent_after m.stock m.job c done) more
  after-more c [] more = refl
  after-more c (v ∷ rest) more = after-more (incumbent_with m.stock m.job c v.partial v.word) rest more

  pub held-more : (c : Option ℕ) (done more : List Visit) → AreHeld m c done → AreHeld m (incumbent_after m.stock m.job c done) more → AreHeld m c (done ++ more)
  held-more c [] more first then_held = then_held
  held-more c (v ∷ rest) more first then_held =
      (first.0, held-more (incumbent_with m.stock m.job c v.partial v.word) rest more first.1 then_held)

  pub added-nothing : (state : State) → Added m state state [] []
  added-nothing state = record { lines = sym (append-nil state.tree); incumbent = refl; held = tt }

  pub added-more : (old mid new : State) (own more : List Node) (done next : List Visit)
      → Added m old mid own done → Added m mid new more next → Added m old new (own ++ more) (done ++ next)
  added-more old mid new own more done next first second = record {
    lines = second.lines ∙ ap (λ l. l ++ more) first.lines ∙ append_assoc old.tree own more;
    incumbent = second.incumbent ∙ ap (λ c. incumbent_after m.stock m.job c next) first.incumbent
        ∙ sym (after-more (best_cost old.best) done next);
    held = held-more (best_cost old.best) done next first.held (subst (λ c. AreHeld m c next) first.incumbent second.held);
  }

  -- where nothing is written, all is as it was
  pub added-unchanged : (old mid new : State) (own : List Node) (done : List Visit) → Added m old mid own done → IsUnchanged m mid new → Added m old new own done
  added-unchanged old mid new own done first same = record {
    lines = same.tree ∙ first.lines;
    incumbent = ap best_cost same.best ∙ first.incumbent;
    held = first.held;
  }

  -- they are sound at their moment
  pub sound-now : (c : Option ℕ) (visits : List Visit) → AreHeld m c visits → AreSoundNow m.stock m.job m.tests c visits
  sound-now c [] held = tt
  sound-now c (v ∷ rest) held = (held.0.sound, sound-now (incumbent_with m.stock m.job c v.partial v.word) rest held.1)

  -- and their splits are lawful
  split-lawful : (best c : Option ℕ) (p : Partial) (w : Word) → IsSound m.stock m.job m.tests best c p w → w ≡ word.Split → IsLawful m.stock m.job c p
  split-lawful best c p w sound split = (subst (IsSound m.stock m.job m.tests best c p) split sound).lawful

  pub all-lawful : (c : Option ℕ) (visits : List Visit) → AreHeld m c visits → AreLawful m.stock m.job c visits
  all-lawful c [] held = tt
  all-lawful c (v ∷ rest) held =
      (split-lawful c c v.partial v.word held.0.sound, all-lawful (incumbent_with m.stock m.job c v.partial v.word) rest held.1)
