use Rattle.std.proofs.Common.{sym, subst, length, drop, ◌-◌}
use Rattle.lam_job.specs.Partial.{half}
use Rattle.lam_tree.specs.declared.node.Word.{Word}
use Rattle.lam_tree.specs.Reading.{tree}
use Rattle.lam_search.specs.inside.Here.{basis_of}
use Rattle.lam_search.specs.inside.Sights.{Sees}
use Rattle.lam_search.proofs.SeekSteps.{leaf-passed, leaf-sees, decided}
use Rattle.lam_search.proofs.seeking.leaf.Goals as goal

pub returns-in-Straddles : goal.returns-in-Straddles
returns-in-Straddles c =
    let m = basis_of c.args.design.now.stock.now c.args.design.now.job.now in
    let nodes = c.args.nodes.now in
    let p = c.args.partial.now in
    let h = half c.args.design.now.job.now p.n - length p.prefix in
    subst (λ (w : Word). Sees m c.args.best nodes (tree (length c.args.design.now.stock.now) h p w (drop c.args.from nodes)) c.near_or.result) (sym c.in-Straddles.is)
    (leaf-sees m c.args.best nodes h p c.in-Straddles.spot c.args.from c.near_of.result c.near_or.result c.requires.from c.near_of.ensures c.near_or.ensures)

pub returns-in_default : goal.returns-in_default
returns-in_default c =
    let m = basis_of c.args.design.now.stock.now c.args.design.now.job.now in
    let p = c.args.partial.now in
    leaf-passed m c.args.best c.args.nodes.now (half c.args.design.now.job.now p.n - length p.prefix) p c.args.word c.args.from c.requires.leaf c.requires.from
    (decided m c.args.best c.args.nodes.now p c.args.word c.in_default.not-Straddles)
