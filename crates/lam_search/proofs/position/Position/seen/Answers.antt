use Rattle.std.proofs.Common.{◌≡◌, ◌∙◌, sym, subst, List, true, false}
use Rattle.lam_stock.specs.declared.item.Item.{Item}
use Rattle.lam_job.specs.JobData.{JobData}
use Rattle.lam_job.specs.Partial.{Partial, IsFull}
use Rattle.lam_search.specs.inside.Here.{Here}
use Rattle.lam_search.specs.inside.Ready.{IsSeen}
use Rattle.lam_search.proofs.Closing.{seen-full, seen-open}
use Rattle.lam_search.proofs.position.Position.seen.Goals as goal

pub returns-then-is_full : goal.returns-then-is_full
returns-then-is_full c =
    let i = c.self.inside in
    let stock = i.design.stock.now in
    let job = i.design.job.now in
    subst (λ (h : Here). IsSeen h.stock h.job h.partial c.breaks.result) c.self.view_is
    (subst (λ (p : Partial). IsSeen stock job p c.breaks.result) c.partial-partial.ensures.value
    (seen-full stock job c.partial-partial.result.now c.breaks.result c.complete-listed.result (c.is_full.ensures.0 c.if-is_full.true) c.complete-listed.ensures.value
    c.breaks.ensures.least c.breaks.ensures.number))

pub returns : goal.returns
returns c =
    let i = c.self.inside in
    let at = c.self.invariant in
    let g = i.growing in
    let own : ¬ IsFull i.design.job.now c.partial-partial.result.now = λ full. (let n : true ≡ false = sym (c.is_full.ensures.1 full) ∙ c.if-is_full.false in cc) in
    let open_still = subst (λ (j : JobData). ¬ IsFull j g.partial) (sym at.same_job) (subst (λ (p : Partial). ¬ IsFull i.design.job.now p) c.partial-partial.ensures.value own) in
    subst (λ (h : Here). IsSeen h.stock h.job h.partial c.visible.result) c.self.view_is
    (subst (λ (j : JobData). IsSeen i.design.stock.now j g.partial c.visible.result) at.same_job
    (subst (λ (s : List Item). IsSeen s g.job g.partial c.visible.result) at.same_stock
    (seen-open g.stock g.job g.partial c.visible.result open_still c.visible.ensures.none.0 c.visible.ensures.least c.visible.ensures.number c.visible.ensures.broken)))
