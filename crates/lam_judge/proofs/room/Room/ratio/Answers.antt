use Rattle.std.proofs.Common.{rules}
use Rattle.lam_judge.proofs.PrintedRatios.{printed-ratio}
use Rattle.lam_judge.proofs.room.Room.ratio.Goals as goal

pub returns-clause-so : goal.returns-clause-so
returns-clause-so c stock job listed are = printed-ratio stock job listed c.args.self.now c.args.case c.args.ply c.index.result.now are c.requires.ply c.requires.case (search rules)
