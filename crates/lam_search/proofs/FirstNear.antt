-- What is so of the first leaf that straddles below a cost.
use Rattle.std.proofs.Common.{◌≡◌, refl, subst, ℕ, ◌≤◌, ◌⊎◌, inl, inr, List, [], ◌∷◌, length, Option, Some, None, Bool, true, false, if◌then◌else◌, arith}
use Rattle.std.proofs.lemmas.Bool.{ltb-true}
use Rattle.std.proofs.lemmas.Option.{same_Some}
use Rattle.lam_job.specs.Ranges.{IsJob}
use Rattle.lam_job.specs.Schedule.{cost_of}
use Rattle.lam_job.specs.Partial.{Partial, Completes, completion}
use Rattle.lam_job.proofs.Completions.{completes_full}
use Rattle.lam_tree.specs.declared.limits.TheConstants.{MOST_COST}
use Rattle.lam_tree.specs.declared.node.Word.{Word}
use Rattle.lam_tree.specs.declared.node.Word.TheVariants as word
use Rattle.lam_tree.specs.declared.report.Near.{Near}
use Rattle.lam_tree.specs.Reading.{Visit}
use Rattle.lam_tree.specs.Words.{HangsAt}
use Rattle.lam_tree.specs.Closings.{IsBelow, incumbent_with}
use Rattle.lam_tree.specs.Checks.{is_cheaper, undecided, first_undecided}
use Rattle.lam_tree.specs.ReportRanges.{AreListed, IsSpot}
use Rattle.lam_search.specs.inside.Here.{Basis}
use Rattle.lam_search.specs.inside.Held.{IsHeld, AreHeld}

-- the first of two options
pub first_of : (a b : Option Near) (near : Near) → ◌≡◌ {A = Option Near} (elim a [ Some x ↦ Some x | None ↦ b ]) (Some near) → (a ≡ Some near) ⊎ (b ≡ Some near)
first_of None b near e = inr e
first_of (Some x) b near e = inl e

is_below : (best : Option ℕ) (cost : ℕ) → is_cheaper cost best ≡ true → IsBelow cost best
is_below None cost e = tt
is_below (Some least) cost e = ltb-true cost least e

only_if : (b : Bool) (own near : Near) → (if b then Some own else None) ≡ Some near → (b ≡ true) × (own ≡ near)
only_if true own near e = (refl, same_Some own near e)
only_if false own near e = absurd (let n : None ≡ Some near = e in cc)

module _ (m : Basis) (valid : IsJob m.job) where
  -- a schedule that is judged to straddle at a spot, and hangs there, below a cost
  pub record IsNear (best : Option ℕ) (near : Near) : Type 0 where
    pub listed : AreListed m.stock near.plies
    pub short : length near.plies ≤ m.job.limit
    pub cost : near.cost ≡ cost_of m.stock m.job near.plies
    pub small : near.cost ≤ MOST_COST
    pub judged : m.tests.judged near.plies ≡ word.Straddles near.at
    pub hangs : HangsAt m.stock m.job near.plies near.at
    pub spot : IsSpot near.at
    pub below : IsBelow near.cost best

  leaf-near : (c best : Option ℕ) (p : Partial) (w : Word) (near : Near) → IsHeld m c p w → undecided m.stock m.job best p w ≡ Some near → IsNear best near
  leaf-near c best p (word.Straddles spot) near held e =
      let plies = completion m.job p in
      let cost = cost_of m.stock m.job plies in
      let is = only_if (is_cheaper cost best) (record { plies = plies; cost = cost; at = spot }) near e in
      let completes : Completes m.stock m.job p plies
      = completes_full m.stock m.job p held.part.some held.short held.part.known held.sound.0 in
      let short = completes.sequence.short in
      let limit = valid.limit.greatest in
      subst (IsNear best) is.1 (record {
        listed = record { some = completes.sequence.some; few = omega (arith, short, limit); known = completes.sequence.known };
        short = short;
        cost = refl;
        small = held.small;
        judged = held.sound.1;
        hangs = held.so.1;
        spot = held.range;
        below = is_below best cost is.0;
      })
  leaf-near c best p word.Split near held e = absurd (let n : None ≡ Some near = e in cc)
  leaf-near c best p word.Cost near held e = absurd (let n : None ≡ Some near = e in cc)
  leaf-near c best p (word.Rule r) near held e = absurd (let n : None ≡ Some near = e in cc)
  leaf-near c best p (word.NetShort k w) near held e = absurd (let n : None ≡ Some near = e in cc)
  leaf-near c best p (word.NetCost k w) near held e = absurd (let n : None ≡ Some near = e in cc)
  leaf-near c best p (word.Box at) near held e = absurd (let n : None ≡ Some near = e in cc)
  leaf-near c best p (word.Range k) near held e = absurd (let n : None ≡ Some near = e in cc)
  leaf-near c best p (word.Fails at) near held e = absurd (let n : None ≡ Some near = e in cc)
  leaf-near c best p (word.Buckles k) near held e = absurd (let n : None ≡ Some near = e in cc)
  leaf-near c best p word.Admissible near held e = absurd (let n : None ≡ Some near = e in cc)

  pub first-near : (c best : Option ℕ) (visits : List Visit) (near : Near) → AreHeld m c visits → first_undecided m.stock m.job best visits ≡ Some near → IsNear best near
  first-near c best [] near held e = absurd (let n : None ≡ Some near = e in cc)
  first-near c best (v ∷ rest) near held e =
      elim (first_of (undecided m.stock m.job best v.partial v.word) (first_undecided m.stock m.job best rest) near e) [
        | inl own ↦ leaf-near c best v.partial v.word near held.0 own
        | inr later ↦ first-near (incumbent_with m.stock m.job c v.partial v.word) best rest near held.1 later
      ]
