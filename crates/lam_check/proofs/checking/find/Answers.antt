use Rattle.std.proofs.Common.{◌≡◌, sym, ◌∙◌, ap, subst, ◌+◌, ℕ, Option, Some, None, All, true, false, arith}
use Rattle.lam_tree.specs.Reading.{read}
use Rattle.lam_tree.specs.Checks.{TreeChecks}
use Rattle.lam_check.specs.Faults.{fault_is}
use Rattle.lam_check.specs.inside.Basis.{Basis}
use Rattle.lam_check.specs.inside.Claimed.{with_tree}
use Rattle.lam_answers.specs.inside.Computed.{computed}
use Rattle.lam_check.specs.inside.Steps.{IsTrueLeaf, Sums}
use Rattle.lam_check.proofs.Gathering.{in_tree, in_budget, in_answer, in_none}
use Rattle.lam_check.proofs.checking.find.Goals as goal

pub overflow_add-nodes_line : goal.overflow_add-nodes_line
overflow_add-nodes_line g c =
    let best = c.best_lines-near_line.ensures.few in
    let near = c.near_lines.ensures.few in
    omega (arith, best, near)

pub overflow_add-nodes_line-2 : goal.overflow_add-nodes_line-2
overflow_add-nodes_line-2 g c =
    let best = c.best_lines-near_line.ensures.few in
    let near = c.near_lines.ensures.few in
    omega (arith, best, near)

pub read_tree-requires : goal.read_tree-requires
read_tree-requires g c =
    let best = c.best_lines-near_line.ensures.few in
    let near = c.near_lines.ensures.few in
    let nodes = c.requires.report.few_nodes in
    omega (arith, best, near, nodes)

pub returns-in-Err-read_tree-clause-fault : goal.returns-in-Err-read_tree-clause-fault
returns-in-Err-read_tree-clause-fault g c =
    let stock = c.args.stock.now in
    let job = c.args.job.now in
    let m : Basis = record { stock = stock; job = job; tests = computed stock job } in
    let report = with_tree c.args.claims.now (g.L.Lines.rest c.args.lines.now) in
    let near_at : ℕ = 4 + c.best_lines-near_line.result in
    let nodes_at : ℕ = near_at + c.near_lines.result in
    in_tree m report near_at (ap (λ n. 4 + n) c.best_lines-near_line.ensures.value) nodes_at (ap (λ n. near_at + n) c.near_lines.ensures.value)
    (fault_is c.in-Err-read_tree.fault) c.in_default.ensures.none c.in_default-check_near.ensures.none
    (subst (λ (best : Option ℕ). TreeChecks stock job (computed stock job) best (nodes_at + 1) (read stock job report.tree) (Some (fault_is c.in-Err-read_tree.fault)))
    c.best_cost-best.ensures c.in-Err-read_tree.ensures.fault)

pub returns-then-not-keeps_budget-clause-fault : goal.returns-then-not-keeps_budget-clause-fault
returns-then-not-keeps_budget-clause-fault g c =
    let stock = c.args.stock.now in
    let job = c.args.job.now in
    let m : Basis = record { stock = stock; job = job; tests = computed stock job } in
    let report = with_tree c.args.claims.now (g.L.Lines.rest c.args.lines.now) in
    let near_at : ℕ = 4 + c.best_lines-near_line.result in
    let nodes_at : ℕ = near_at + c.near_lines.result in
    in_budget m report near_at (ap (λ n. 4 + n) c.best_lines-near_line.ensures.value) nodes_at (ap (λ n. near_at + n) c.near_lines.ensures.value)
    c.in_default.ensures.none c.in_default-check_near.ensures.none
    (subst (λ (best : Option ℕ). TreeChecks stock job (computed stock job) best (nodes_at + 1) (read stock job report.tree) None)
    c.best_cost-best.ensures c.in-Ok.ensures.none)
    c.args.claims.now.nodes c.requires.nodes
    (λ kept. (let n : true ≡ false = sym (c.keeps_budget.ensures.1 kept) ∙ c.if-not-keeps_budget.true in cc))

pub returns-then-not-is_answered-clause-fault : goal.returns-then-not-is_answered-clause-fault
returns-then-not-is_answered-clause-fault g c =
    let stock = c.args.stock.now in
    let job = c.args.job.now in
    let m : Basis = record { stock = stock; job = job; tests = computed stock job } in
    let report = with_tree c.args.claims.now (g.L.Lines.rest c.args.lines.now) in
    let near_at : ℕ = 4 + c.best_lines-near_line.result in
    let nodes_at : ℕ = near_at + c.near_lines.result in
    in_answer m report near_at (ap (λ n. 4 + n) c.best_lines-near_line.ensures.value) nodes_at (ap (λ n. near_at + n) c.near_lines.ensures.value)
    c.in_default.ensures.none c.in_default-check_near.ensures.none
    (subst (λ (best : Option ℕ). TreeChecks stock job (computed stock job) best (nodes_at + 1) (read stock job report.tree) None)
    c.best_cost-best.ensures c.in-Ok.ensures.none)
    c.args.claims.now.nodes c.requires.nodes (c.keeps_budget.ensures.0 c.if-not-keeps_budget.false)
    c.in-Ok.summary (subst (λ (best : Option ℕ). Sums m report.answer best (read stock job report.tree) c.in-Ok.summary) c.best_cost-best.ensures c.in-Ok.ensures.sums)
    (λ is. (let n : true ≡ false = sym (c.is_answered.ensures.1 (c.best_cost-best.ensures ∙ is.0, is.1)) ∙ c.if-not-is_answered.true in cc))

pub returns-clause-none : goal.returns-clause-none
returns-clause-none g c =
    let stock = c.args.stock.now in
    let job = c.args.job.now in
    let m : Basis = record { stock = stock; job = job; tests = computed stock job } in
    let report = with_tree c.args.claims.now (g.L.Lines.rest c.args.lines.now) in
    let near_at : ℕ = 4 + c.best_lines-near_line.result in
    let nodes_at : ℕ = near_at + c.near_lines.result in
    let is = c.is_answered.ensures.0 c.if-not-is_answered.false in
    in_none m report near_at (ap (λ n. 4 + n) c.best_lines-near_line.ensures.value) nodes_at (ap (λ n. near_at + n) c.near_lines.ensures.value)
    c.in_default.ensures.none c.in_default-check_near.ensures.none
    (subst (λ (best : Option ℕ). TreeChecks stock job (computed stock job) best (nodes_at + 1) (read stock job report.tree) None)
    c.best_cost-best.ensures c.in-Ok.ensures.none)
    c.args.claims.now.nodes c.requires.nodes (c.keeps_budget.ensures.0 c.if-not-keeps_budget.false)
    c.in-Ok.summary (subst (λ (best : Option ℕ). Sums m report.answer best (read stock job report.tree) c.in-Ok.summary) c.best_cost-best.ensures c.in-Ok.ensures.sums)
    (sym c.best_cost-best.ensures ∙ is.0, is.1)

pub returns-clause-leaves : goal.returns-clause-leaves
returns-clause-leaves g c =
    let stock = c.args.stock.now in
    let job = c.args.job.now in
    let m : Basis = record { stock = stock; job = job; tests = computed stock job } in
    let tree = g.L.Lines.rest c.args.lines.now in
    subst (λ (best : Option ℕ). All (λ v. IsTrueLeaf m best v.partial v.word) (read stock job tree).visits) c.best_cost-best.ensures c.in-Ok.ensures.leaves
