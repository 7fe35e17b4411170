use Rattle.std.proofs.Common.{◌++◌, ◌≤◌, ◌+◌, length, take, arith}
use Rattle.std.proofs.KnownBytes.{Consumes-trans}
use Rattle.std.proofs.lemmas.Grind.{common_steps}
use Rattle.lam_outside.proofs.host.read_whole.Goals as goal

-- what was read before, and the piece that found no memory
pub returns-then-is_err-clause-reads : goal.returns-then-is_err-clause-reads
returns-then-is_err-clause-reads g c =
    let before = c.loop-piece.bytes.items in
    let piece = take c.in-Ok.n c.read.new.buf in
    let fits : length (before ++ piece) ≤ c.args.most + 1 = grind (arith, common_steps) in
    (before ++ piece, fits, Consumes-trans _ _ _ before piece c.loop-piece.invariant.taken c.in-Ok.ensures.bytes.0)
