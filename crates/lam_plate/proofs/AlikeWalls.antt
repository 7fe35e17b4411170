-- A wall of plies that are all the same is fit for a panel, where their fibres lie along an axis.
use Rattle.std.proofs.Common.{◌≡◌, refl, sym, ap, subst, ◌∙◌, ℕ, zero, suc, false, List, [], ◌∷◌, ◌++◌, reverse, replicate, slice_get, Option, Some, None, All, arith}
use Rattle.std.specs.Prelude.{IsSomeAnd}
use Rattle.std.proofs.lemmas.List.Elements.{All-cons, All-nil}
use Rattle.lam_stock.specs.declared.item.Item.{Item}
use Rattle.lam_stock.specs.declared.item.ItemNo.{ItemNo}
use Rattle.lam_job.specs.JobData.{JobData}
use Rattle.lam_job.specs.Rules.{Fit, IsSlanted}
use Rattle.lam_job.specs.Schedule.{items_of}
use Rattle.lam_job.proofs.Listed.{items_of-append, items_of-one}
use Rattle.std.proofs.lemmas.List.{reverse-append}

abbrev first_number : ItemNo
first_number = record { 0 = 0 }

-- one more at the end is one more at the start
end-is-start : (n : ℕ) → replicate n first_number ++ (first_number ∷ []) ≡ first_number ∷ replicate n first_number
end-is-start zero = refl
end-is-start (suc n) = ap (λ (xs : List ItemNo). first_number ∷ xs) (end-is-start n)

same-reversed : (n : ℕ) → replicate n first_number ≡ reverse (replicate n first_number)
same-reversed zero = refl
same-reversed (suc n) = sym (end-is-start n) ∙ ap (λ (xs : List ItemNo). xs ++ (first_number ∷ [])) (same-reversed n) ∙ sym (reverse-append (first_number ∷ []) (replicate n first_number))

some-of : (P : Item → Type 0) (o : Option Item) → IsSomeAnd o P → (i : Item) × (o ≡ Some i) × P i
some-of P None h = absurd h
some-of P (Some i) h = (i, refl, h)

all-straight : (P : Item → Type 0) (stock : List Item) (i : Item) → slice_get stock 0 ≡ Some i → P i → (n : ℕ) → All P (items_of stock (replicate n first_number))
all-straight P stock i e h zero = All-nil P
all-straight P stock i e h (suc n) =
    subst (All P) (sym (items_of-append stock (first_number ∷ []) (replicate n first_number) ∙ ap (λ (xs : List Item). xs ++ items_of stock (replicate n first_number)) (items_of-one stock first_number i e)))
    (All-cons P i (items_of stock (replicate n first_number)) h (all-straight P stock i e h n))

-- without a liner and rules
abbrev pub plain_job : JobData
plain_job = record {
  limit = 1;
  liner = [];
  liner_in_wall = false;
  rules = record { inner = None; outer = None; symmetric = false; balanced = false; run = None; fewest = None; thickness = None; counts = [] };
  cases = [];
  panels = [];
}

pub alike-fit : (stock : List Item) (n : ℕ) → IsSomeAnd (slice_get stock 0) (λ i. ¬ IsSlanted i) → Fit stock plain_job (replicate n first_number)
alike-fit stock n h =
    let first = some-of (λ i. ¬ IsSlanted i) (slice_get stock 0) h in
    record {
      liner = λ carries. absurd (omega (arith, carries.0));
      symmetric = same-reversed n;
      straight = all-straight (λ i. ¬ IsSlanted i) stock first.0 first.1 first.2 n;
    }
