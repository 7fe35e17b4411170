use Rattle.std.proofs.Common.{sym, subst, ap₂, ◌∙◌, pos, ◌^◌, ◌*ℤ◌, ◌≤ℤ◌, FitsSigned, w64}
use Rattle.std.proofs.lemmas.Int.{to_z-of_z}
use Rattle.lam_tsai.proofs.Loads.{load-positive, load-most, load-small, load-fits}
use Rattle.lam_tsai.proofs.levels.load_of.Goals as goal

pub product-requires : goal.product-requires
product-requires c =
    let a = c.args in
    let h = c.requires in
    let both = ap₂ ◌*ℤ◌ (to_z-of_z w64 a.q0 c.ranges.q0) (to_z-of_z w64 a.factor c.ranges.factor) in
    subst (FitsSigned w64) (sym both) (load-fits a.q0 a.factor h.least h.greatest h.from h.to)

pub returns-clause-value : goal.returns-clause-value
returns-clause-value c =
    let a = c.args in
    to_z-of_z w64 c.product.result (record { sfits = c.product.type_inv }) ∙ c.product.ensures
    ∙ ap₂ ◌*ℤ◌ (to_z-of_z w64 a.q0 c.ranges.q0) (to_z-of_z w64 a.factor c.ranges.factor)

pub returns-clause-positive : goal.returns-clause-positive
returns-clause-positive c = let a = c.args in let h = c.requires in subst (λ x. pos 0 ≤ℤ x) (sym (returns-clause-value c)) (load-positive a.q0 a.factor h.least h.greatest h.from h.to)

pub returns-clause-small : goal.returns-clause-small
returns-clause-small c = let a = c.args in let h = c.requires in subst (λ x. x ≤ℤ pos (2 ^ 37)) (sym (returns-clause-value c)) (load-small a.q0 a.factor h.least h.greatest h.from h.to)

pub returns-clause-most : goal.returns-clause-most
returns-clause-most c = let a = c.args in let h = c.requires in subst (λ x. x ≤ℤ (a.q0 *ℤ pos 20000)) (sym (returns-clause-value c)) (load-most a.q0 a.factor h.least h.greatest h.from h.to)
