use Rattle.std.proofs.Common.{rules, sym, subst, ◌^◌, ◌*◌, ◌≤◌, arith}
use Rattle.std.specs.Prelude.{unsigned_abs}
use Rattle.std.proofs.lemmas.Int.{ints}
use Rattle.lam_fraction.specs.numbers.Numbers.{RatioRoom}
use Rattle.lam_fraction.specs.inside.Reaches.{Reaches, sixteenths}
use Rattle.lam_fraction.proofs.numbers.Rooms.{reaches_ratio_at}
use Rattle.lam_tsai.proofs.loaded.share.Goals as goal

pub returns-clause-value : goal.returns-clause-value
returns-clause-value g c = search rules

pub returns-clause-reach : goal.returns-clause-reach
returns-clause-reach g c =
    let a = c.args in
    let h = c.requires in
    let room : RatioRoom a.load a.bearing = record {
      positive = omega (arith, ints, h.positive);
      den = omega (arith, ints, h.positive, h.small);
      num = omega (arith, ints, h.positive, h.small, h.least, h.most);
      room = omega (arith, ints, h.positive, h.least, h.most);
    } in
    let size : unsigned_abs a.load * 2 ^ 28 ≤ sixteenths 16 * unsigned_abs a.bearing = omega (arith, ints, h.positive, h.least, h.most) in
    subst (Reaches g.N.Enclosure.numbers _) (sym (returns-clause-value g c)) (reaches_ratio_at g.met.N.Enclosure.laws (sixteenths 16) a.load a.bearing room size)
