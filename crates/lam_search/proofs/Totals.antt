-- How many lines a tree has in which the lines end: fewer than there are partial schedules.
use Rattle.std.proofs.Common.{◌≡◌, ◌≢◌, refl, sym, ◌∙◌, ap, subst, ℕ, zero, suc, ◌+◌, ◌-◌, ◌*◌, ◌^◌, ◌≤◌, ◌<◌, List, [], ◌∷◌, length, Option, Some, None, Bool, true, false, arith}
use Rattle.std.proofs.Math.Nat.{pow-succ', pow-zero}
use Rattle.lam_stock.specs.declared.item.ItemNo.{ItemNo}
use Rattle.lam_job.specs.JobData.{JobData}
use Rattle.lam_job.specs.Partial.{Partial, child, half, half_of, powers_to, total_partials}
use Rattle.lam_tree.specs.declared.node.Node.{Node}
use Rattle.lam_tree.specs.declared.node.Word.{Word}
use Rattle.lam_tree.specs.declared.node.Word.TheVariants as word
use Rattle.lam_tree.specs.Reading.{Cut, Stray, Whole, Reading, root, none_had, and_had, due_item, is_due_length, children, tree, lengths}
use Rattle.lam_tree.proofs.Equations.{below, split_or_leaf, tree-split, tree-full, tree-leaf, children-none, children-due, children-stray, lengths-whole, lengths-over, lengths-due, lengths-stray}
use Rattle.std.proofs.Common.{inl, inr}

-- ---- sums of powers

powers-step : (k d : ℕ) → powers_to k (suc d) ≡ 1 + k * powers_to k d
powers-step k zero =
    let p : k ^ 1 ≡ k * k ^ 0 = pow-succ' k 0 in
    let q : k * k ^ 0 ≡ k * 1 = ap (λ n. k * n) (pow-zero k) in
    omega (arith, p, q)
powers-step k (suc d) =
    let before = powers-step k d in
    let p = powers_to k d in
    let q = k ^ suc d in
    let next : k ^ suc (suc d) ≡ k * q = pow-succ' k (suc d) in
    let spread : k * (p + q) ≡ k * p + k * q = omega arith in
    let e : powers_to k (suc d) + k ^ suc (suc d) ≡ 1 + k * (p + q) = omega (arith, before, next, spread) in
    e

powers-some : (k d : ℕ) → 1 ≤ powers_to k d
powers-some k zero = omega arith
powers-some k (suc d) = let e = powers-some k d in omega (arith, e)

total-rises : (symmetric : Bool) (k n more : ℕ) → total_partials symmetric k n ≤ total_partials symmetric k (n + more)
total-rises symmetric k n zero = let e : n + 0 ≡ n = omega arith in subst (λ q. total_partials symmetric k n ≤ total_partials symmetric k q) (sym e) (let t = total_partials symmetric k n in let h : t ≤ t = omega arith in h)
total-rises symmetric k n (suc more) =
    let e : n + suc more ≡ suc (n + more) = omega arith in
    let before = total-rises symmetric k n more in
    let h : total_partials symmetric k n ≤ total_partials symmetric k (n + more) + powers_to k (half_of symmetric (suc (n + more))) = omega (arith, before) in
    subst (λ q. total_partials symmetric k n ≤ total_partials symmetric k q) (sym e) h

-- ---- lines behind which the lines end

-- where they end, fewer than so many were left
abbrev IsBounded : (List Node → Reading) → ℕ → Type 0
IsBounded next most = (rest : List Node) → (next rest).ending ≡ Cut → length rest < most

module _ (items : ℕ) where
  -- what reads a tree reads at most so many lines
  abbrev ReadsFew : (Partial → Word → List Node → (List Node → Reading) → Reading) → ℕ → Type 0
  ReadsFew T few =
      (p : Partial) (w : Word) (lines : List Node) (next : List Node → Reading) (most : ℕ) → IsBounded next most
      → (T p w lines next).ending ≡ Cut → length lines + 1 < few + most

  children-few : (T : Partial → Word → List Node → (List Node → Reading) → Reading) (few : ℕ) → 1 ≤ few → ReadsFew T few
      → (to_come : ℕ) (had : ℕ → Bool) (p : Partial) (lines : List Node) (next : List Node → Reading) (most : ℕ) → IsBounded next most
      → (children items T to_come had p lines next).ending ≡ Cut → length lines < to_come * few + most
  children-few T few some reads zero had p lines next most bounded cut =
      let h = bounded lines (sym (ap (λ (r : Reading). r.ending) (children-none items T had p lines next)) ∙ cut) in omega (arith, h)
  children-few T few some reads (suc j) had p [] next most bounded cut =
      let e : suc j * few ≡ few + j * few = omega arith in omega (arith, e, some)
  children-few T few some reads (suc j) had p (line ∷ rest) next most bounded cut =
      by (due_item items had line.seat) refl (λ h after ended. children-few T few some reads j h p after next most bounded ended) where
        by : (o : Option ItemNo) → due_item items had line.seat ≡ o
            → ((h : ℕ → Bool) (after : List Node) → (children items T j h p after next).ending ≡ Cut → length after < j * few + most)
            → length (line ∷ rest) < suc j * few + most
        by None is later =
            absurd (let e : Stray ≡ Cut = sym (ap (λ (r : Reading). r.ending) (children-stray items T j had p line rest next is)) ∙ cut in cc)
        by (Some i) is later =
            let h = reads (child p i) line.word rest (λ after. children items T j (and_had i had) p after next) (j * few + most)
            (λ after ended. later (and_had i had) after ended)
            (sym (ap (λ (r : Reading). r.ending) (children-due items T j had p line rest next i is)) ∙ cut) in
            let e : suc j * few ≡ few + j * few = omega arith in
            omega (arith, h, e)

  leaf-few : (places : ℕ) (p : Partial) (w : Word) (lines : List Node) (next : List Node → Reading) (most : ℕ) → w ≢ word.Split → IsBounded next most
      → (tree items places p w lines next).ending ≡ Cut → length lines + 1 < powers_to items places + most
  leaf-few places p w lines next most leaf bounded cut =
      let h = bounded lines (sym (ap (λ (r : Reading). r.ending) (tree-leaf items places p w lines next leaf)) ∙ cut) in
      let some = powers-some items places in
      omega (arith, h, some)

  tree-few : (places : ℕ) → ReadsFew (λ p w lines next. tree items places p w lines next) (powers_to items places)
  tree-few zero p w lines next most bounded cut =
      elim (split_or_leaf w) [
        | inl split ↦ (absurd (let e : Stray ≡ Cut
            = sym (ap (λ (r : Reading). r.ending) (ap (λ v. tree items zero p v lines next) split ∙ tree-full items p lines next)) ∙ cut in cc))
        | inr leaf ↦ leaf-few zero p w lines next most leaf bounded cut
      ]
  tree-few (suc places) p w lines next most bounded cut =
      elim (split_or_leaf w) [
        | inl split ↦ (
            let few = powers_to items places in
            let h = children-few (below items places) few (powers-some items places) (tree-few places) items none_had p lines next most bounded
            (sym (ap (λ (r : Reading). r.ending) (ap (λ v. tree items (suc places) p v lines next) split ∙ tree-split items places p lines next)) ∙ cut) in
            let e = powers-step items places in
            omega (arith, h, e))
        | inr leaf ↦ leaf-few (suc places) p w lines next most leaf bounded cut
      ]

  module _ (job : JobData) where
    abbrev total : ℕ → ℕ
    total n = total_partials job.rules.symmetric items n

    lengths-few : (to_come n : ℕ) (lines : List Node) → (lengths items job to_come (suc n) lines).ending ≡ Cut → length lines + total n < total (n + to_come)
    lengths-few zero n [] cut = absurd (let e : Whole ≡ Cut = sym (ap (λ (r : Reading). r.ending) (lengths-whole items job (suc n))) ∙ cut in cc)
    lengths-few zero n (line ∷ rest) cut =
        absurd (let e : Stray ≡ Cut = sym (ap (λ (r : Reading). r.ending) (lengths-over items job (suc n) line rest)) ∙ cut in cc)
    lengths-few (suc to_come) n [] cut =
        let rises = total-rises job.rules.symmetric items (suc n) to_come in
        let some = powers-some items (half job (suc n)) in
        let e : n + suc to_come ≡ suc n + to_come = omega arith in
        let same = ap total e in
        omega (arith, rises, some, same)
    lengths-few (suc to_come) n (line ∷ rest) cut =
        by (is_due_length (suc n) line.seat) refl (λ after ended. lengths-few to_come (suc n) after ended) where
          by : (b : Bool) → is_due_length (suc n) line.seat ≡ b
              → ((after : List Node) → (lengths items job to_come (suc (suc n)) after).ending ≡ Cut → length after + total (suc n) < total (suc n + to_come))
              → length (line ∷ rest) + total n < total (n + suc to_come)
          by false is later =
              absurd (let e : Stray ≡ Cut = sym (ap (λ (r : Reading). r.ending) (lengths-stray items job to_come (suc n) line rest is)) ∙ cut in cc)
          by true is later =
              let high = total (suc n + to_come) in
              let rises = total-rises job.rules.symmetric items (suc n) to_come in
              let h = tree-few (half job (suc n)) (root (suc n)) line.word rest (λ after. lengths items job to_come (suc (suc n)) after) (high - total (suc n))
              (λ after ended. let h = later after ended in omega (arith, h))
              (sym (ap (λ (r : Reading). r.ending) (lengths-due items job to_come (suc n) line rest is)) ∙ cut) in
              let e : n + suc to_come ≡ suc n + to_come = omega arith in
              let same = ap total e in
              omega (arith, h, rises, same)

    -- a tree in which the lines end has fewer lines than there are partial schedules
    pub cut-few : (lines : List Node) → (lengths items job job.limit 1 lines).ending ≡ Cut → length lines < total job.limit
    cut-few lines cut =
        let h = lengths-few job.limit 0 lines cut in
        let e : 0 + job.limit ≡ job.limit = omega arith in
        let same = ap total e in
        omega (arith, h, same)
