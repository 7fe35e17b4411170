use Rattle.std.proofs.Common.{refl, ◌∙◌, arith}
use Rattle.lam_check.proofs.Seats.{room_for_split, split-reads, split-settled}
use Rattle.lam_check.proofs.cursor.Cursor.split.Goals as goal

pub push-requires : goal.push-requires
push-requires g c = room_for_split (g.P.Problem.basis c.args.problem.now) c.args.self.now c.requires.at c.requires.more

pub returns-clause-reads : goal.returns-clause-reads
returns-clause-reads g c =
    split-reads (g.P.Problem.basis c.args.problem.now) c.args.self.now c.requires.at
    (record { partial = c.args.self.now.partial; splits = c.push.new.self }) c.new.result c.requires.more
    (c.new.ensures.to_come ∙ c.items.ensures.value) c.new.ensures.had refl c.push.ensures

pub returns-clause-settled : goal.returns-clause-settled
returns-clause-settled g c =
    let to_come = c.new.ensures.to_come in
    let some = c.items.ensures.some in
    split-settled (g.P.Problem.basis c.args.problem.now) c.args.self.now c.requires.at
    (record { partial = c.args.self.now.partial; splits = c.push.new.self }) c.new.result c.requires.more
    (omega (arith, to_come, some)) refl c.push.ensures
