use Rattle.std.proofs.Common.{rules, ◌≡◌, sym, subst}
use Rattle.lam_fraction.proofs.numbers.Machine.{stored-64}
use Rattle.lam_boxes.specs.inside.Parts.{AreFixed, FitEach}
use Rattle.lam_boxes.proofs.Shapes.{both-reach, fixed-reach, open-reach}
use Rattle.lam_boxes.proofs.shape.extension_of.Goals as goal

pub together-requires-clause-first : goal.together-requires-clause-first
together-requires-clause-first g c =
    let h : stored-64 c.args.h ≡ c.args.h = search rules in
    let f = subst (λ x. AreFixed x c.args.items.now c.args.plies.now) (sym h) c.requires.fixed in
    let fit = subst (λ x. FitEach c.args.many x c.args.items.now) (sym h) c.requires.fit in
    fixed-reach g.met.N.Enclosure.laws f fit c.fixed_sum-fixed.ensures

pub together-requires-clause-second : goal.together-requires-clause-second
together-requires-clause-second g c =
    let h : stored-64 c.args.h ≡ c.args.h = search rules in
    let many : stored-64 c.args.many ≡ c.args.many = search rules in
    let f = subst (λ x. AreFixed x c.args.items.now c.args.plies.now) (sym h) c.requires.fixed in
    let fit = subst (λ m. FitEach m (stored-64 c.args.h) c.args.items.now) (sym many) (subst (λ x. FitEach c.args.many x c.args.items.now) (sym h) c.requires.fit) in
    open-reach g.met.N.Enclosure.laws f fit c.any_plies-open.ensures

pub returns-clause-value : goal.returns-clause-value
returns-clause-value g c = search rules

pub returns-clause-reach : goal.returns-clause-reach
returns-clause-reach g c = both-reach g.met.N.Enclosure.laws c.requires.fixed c.requires.fit (returns-clause-value g c)
