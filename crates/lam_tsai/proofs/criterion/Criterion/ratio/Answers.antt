use Rattle.std.proofs.Common.{sym, ◌∙◌, ap, ap₂, inl, inr, ◌+◌}
use Rattle.lam_tsai.specs.inside.Halving as by
use Rattle.lam_tsai.proofs.FactorsMet.{all-meet, not-all, ratio-met}
use Rattle.lam_tsai.proofs.criterion.Criterion.ratio.Goals as goal

pub returns-clause-value : goal.returns-clause-value
returns-clause-value g c =
    let n = g.N.Enclosure.numbers in
    c.halved.ensures.value ∙ ap₂ (λ inner outer. by.halved (by.meets n c.args.self.now inner outer)) c.face_stresses-inner_stresses.ensures.value c.face_stresses-outer_stresses.ensures.value

pub returns-clause-met : goal.returns-clause-met
returns-clause-met g c =
    let n = g.N.Enclosure.numbers in
    elim c.halved.ensures.met [
      | inl e ↦ inl e
      | inr e ↦ inr (sym (ap₂ (λ inner outer. by.meets n c.args.self.now inner outer c.halved.result) c.face_stresses-inner_stresses.ensures.value c.face_stresses-outer_stresses.ensures.value) ∙ e)
    ]

pub returns-clause-next : goal.returns-clause-next
returns-clause-next g c = λ few.
    let n = g.N.Enclosure.numbers in
    sym (ap₂ (λ inner outer. by.meets n c.args.self.now inner outer (c.halved.result + 1)) c.face_stresses-inner_stresses.ensures.value c.face_stresses-outer_stresses.ensures.value) ∙ c.halved.ensures.next few

-- ---- for an item whose criterion it is

pub returns-clause-same : goal.returns-clause-same
returns-clause-same g c = λ s i made.
    returns-clause-value g c ∙ ap (λ k. by.ratio_by g.N.Enclosure.numbers k c.args.inner.now c.args.outer.now) made

pub returns-clause-all_meet : goal.returns-clause-all_meet
returns-clause-all_meet g c = λ s i made.
    let a = c.args in
    let n = g.N.Enclosure.numbers in
    elim (returns-clause-met g c) [
      | inl e ↦ inl e
      | inr e ↦ inr (all-meet n s i a.inner.now a.outer.now c.halved.result (ap (λ k. by.meets_at n k a.inner.now a.outer.now c.halved.result) (sym made) ∙ e))
    ]

pub returns-clause-not_next : goal.returns-clause-not_next
returns-clause-not_next g c = λ s i made few.
    let a = c.args in
    let n = g.N.Enclosure.numbers in
    not-all n s i a.inner.now a.outer.now (c.halved.result + 1)
    (ap (λ k. by.meets_at n k a.inner.now a.outer.now (c.halved.result + 1)) (sym made) ∙ returns-clause-next g c few)

pub returns-clause-ratio : goal.returns-clause-ratio
returns-clause-ratio g c = λ s i is made.
    let a = c.args in
    ratio-met g.met.N.Enclosure.laws is a.inner.now a.outer.now c.requires.inner c.requires.outer c.halved.result c.halved.ensures.bound (returns-clause-all_meet g c s i made)
