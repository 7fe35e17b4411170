-- Where a walk is, as it goes down and up.
use Rattle.std.proofs.Common.{◌≡◌, sym, ◌∙◌, ap, ℕ, ◌+◌, ◌≤◌, ◌<◌, List, [], ◌∷◌, ◌++◌, length, take, Bool, true, false, arith}
use Rattle.std.proofs.lemmas.List.{length-append}
use Rattle.std.proofs.lemmas.List.Elements.{All-append, All-cons, All-nil}
use Rattle.std.proofs.Math.Seq.{take-append_seam}
use Rattle.lam_stock.specs.declared.item.Item.{Item}
use Rattle.lam_stock.specs.declared.item.ItemNo.{ItemNo}
use Rattle.lam_job.specs.JobData.{JobData}
use Rattle.lam_job.specs.Partial.{Partial, child, half, half_of}
use Rattle.lam_rules.specs.Conditions.{IsPartial}
use Rattle.lam_tree.specs.Reading.{root}
use Rattle.lam_search.specs.inside.Here.{Here}

pub child-long : (p : Partial) (item : ItemNo) → length (child p item).prefix ≡ length p.prefix + 1
child-long p item = length-append p.prefix (item ∷ [])

-- no more plies settle a schedule than it has
half-of-le : (symmetric : Bool) (n : ℕ) → half_of symmetric n ≤ n
half-of-le true n = omega arith
half-of-le false n = omega arith

pub half-le : (job : JobData) (n : ℕ) → half job n ≤ n
half-le job n = half-of-le job.rules.symmetric n

-- the partial of a length may be asked about
pub root-partial : (stock : List Item) (job : JobData) (n : ℕ) → 1 ≤ n → n ≤ 56 → IsPartial stock job (root n)
root-partial stock job n some few = record {
  some = some;
  few = few;
  within = omega arith;
  known = All-nil (λ (ply : ItemNo). ply.0 < length stock);
}

-- a child may be asked about
pub child-partial : (stock : List Item) (job : JobData) (p : Partial) (item : ItemNo) → IsPartial stock job p → length p.prefix < half job p.n → item.0 < length stock
    → IsPartial stock job (child p item)
child-partial stock job p item part more known =
    let long = child-long p item in record {
      some = part.some;
      few = part.few;
      within = omega (arith, long, more);
      known = All-append (λ (ply : ItemNo). ply.0 < length stock) p.prefix (item ∷ []) part.known
          (All-cons (λ (ply : ItemNo). ply.0 < length stock) item [] known (All-nil (λ (ply : ItemNo). ply.0 < length stock)));
    }

-- a partial is the only one of its child
same-front : (a b : List ItemNo) (x y : ItemNo) → a ++ x ∷ [] ≡ b ++ y ∷ [] → a ≡ b
same-front a b x y e =
    let long : length a ≡ length b = (let l = ap length e in let p = length-append a (x ∷ []) in let q = length-append b (y ∷ []) in omega (arith, l, p, q)) in
    sym (take-append_seam a (x ∷ [])) ∙ ap (λ n. take n (a ++ x ∷ [])) long ∙ ap (take (length b)) e ∙ take-append_seam b (y ∷ [])

pub same-parent : (p q : Partial) (x y : ItemNo) → child p x ≡ child q y → p ≡ q
same-parent p q x y e =
    let n : p.n ≡ q.n = ap (λ (r : Partial). r.n) e in
    let prefix = same-front p.prefix q.prefix x y (ap (λ (r : Partial). r.prefix) e) in
    ap (λ k. record { n = k; prefix = p.prefix }) n ∙ ap (λ l. record { n = q.n; prefix = l }) prefix

-- down to a child and up again
pub back : (here there up : Here) (item : ItemNo) → there ≡ record here { partial = child here.partial item }
    → ((p : Partial) (i : ItemNo) → there.partial ≡ child p i → up ≡ record there { partial = p }) → up ≡ here
back here there up item down goes =
    goes here.partial item (ap (λ (h : Here). h.partial) down)
    ∙ ap (λ (h : Here). record h { partial = here.partial }) down
