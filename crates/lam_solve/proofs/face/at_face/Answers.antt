use Rattle.std.proofs.Common.{refl, sym, ◌∙◌, ap, ap₂, subst}
use Rattle.lam_fraction.proofs.numbers.Machine.{is_exact, sized_stored-128, sized_result}
use Rattle.lam_job.specs.LaminateStrain.{strain_at}
use Rattle.lam_solve.specs.Solutions.{HoldsAtFace, ReachesSix}
use Rattle.lam_solve.specs.Widths.{WidenedByBending}
use Rattle.lam_solve.specs.inside.Parts.{IsPart}
use Rattle.lam_solve.specs.inside.Formulas.{with_bending}
use Rattle.lam_solve.proofs.AtFaces.{face-held, face-reach, same_strains}
use Rattle.lam_solve.proofs.Machine.{sized_ranged, wide_small}
use Rattle.lam_solve.proofs.Posed.{room-as}
use Rattle.lam_solve.proofs.Reach.{place_part, place_room}
use Rattle.lam_solve.proofs.widths.NarrowFaces.{face-wide, narrow-face}
use Rattle.lam_solve.proofs.face.at_face.Goals as goal

pub of_ratio-z-requires : goal.of_ratio-z-requires
of_ratio-z-requires g c =
    let room = room-as (is_exact (sized_stored-128 (sized_result c.from.ensures (sized_ranged c.ranges.place))) refl) (is_exact (sized_stored-128 (sized_result c.from-2.ensures (sized_ranged c.ranges.h))) refl)
    (place_room c.args.place c.args.h c.requires.thick c.requires.inner c.requires.outer (wide_small _ c.ranges.h)) in
    record { positive = room.positive; den = room.den; num = room.num; room = room.room }

pub with_bending-requires-clause-z : goal.with_bending-requires-clause-z
with_bending-requires-clause-z g c =
    let laws = g.met.N.Enclosure.laws in
    subst (IsPart g.N.Enclosure.numbers) (sym (c.of_ratio-z.ensures ∙ ap₂ g.N.Enclosure.numbers.calc.ratio (is_exact (sized_stored-128 (sized_result c.from.ensures (sized_ranged c.ranges.place))) refl) (is_exact (sized_stored-128 (sized_result c.from-2.ensures (sized_ranged c.ranges.h))) refl))) (place_part laws c.args.place c.args.h c.requires.thick c.requires.inner c.requires.outer (wide_small _ c.ranges.h))

pub with_bending-requires-2-clause-z : goal.with_bending-requires-2-clause-z
with_bending-requires-2-clause-z g c =
    let laws = g.met.N.Enclosure.laws in
    subst (IsPart g.N.Enclosure.numbers) (sym (c.of_ratio-z.ensures ∙ ap₂ g.N.Enclosure.numbers.calc.ratio (is_exact (sized_stored-128 (sized_result c.from.ensures (sized_ranged c.ranges.place))) refl) (is_exact (sized_stored-128 (sized_result c.from-2.ensures (sized_ranged c.ranges.h))) refl))) (place_part laws c.args.place c.args.h c.requires.thick c.requires.inner c.requires.outer (wide_small _ c.ranges.h))

pub with_bending-requires-3-clause-z : goal.with_bending-requires-3-clause-z
with_bending-requires-3-clause-z g c =
    let laws = g.met.N.Enclosure.laws in
    subst (IsPart g.N.Enclosure.numbers) (sym (c.of_ratio-z.ensures ∙ ap₂ g.N.Enclosure.numbers.calc.ratio (is_exact (sized_stored-128 (sized_result c.from.ensures (sized_ranged c.ranges.place))) refl) (is_exact (sized_stored-128 (sized_result c.from-2.ensures (sized_ranged c.ranges.h))) refl))) (place_part laws c.args.place c.args.h c.requires.thick c.requires.inner c.requires.outer (wide_small _ c.ranges.h))

pub returns-clause-value : goal.returns-clause-value
returns-clause-value g c =
    let calc = g.N.Enclosure.numbers.calc in
    let s = c.args.strains.now in
    let z-is = c.of_ratio-z.ensures ∙ ap₂ g.N.Enclosure.numbers.calc.ratio (is_exact (sized_stored-128 (sized_result c.from.ensures (sized_ranged c.ranges.place))) refl) (is_exact (sized_stored-128 (sized_result c.from-2.ensures (sized_ranged c.ranges.h))) refl) in
    same_strains (c.with_bending.ensures ∙ ap (with_bending calc s.ex s.kx) z-is) (c.with_bending-2.ensures ∙ ap (with_bending calc s.ey s.ky) z-is) (c.with_bending-3.ensures ∙ ap (with_bending calc s.g s.kg) z-is)

pub returns-clause-held : goal.returns-clause-held
returns-clause-held g c = λ f holds.
    subst (λ s. HoldsAtFace g.N.Enclosure.numbers s (strain_at f c.args.place)) (sym (returns-clause-value g c))
    (face-held g.met.N.Enclosure.laws c.args.strains.now c.args.place c.args.h c.requires.thick c.requires.inner c.requires.outer (wide_small _ c.ranges.h) c.requires.strains f holds)

pub returns-clause-reach : goal.returns-clause-reach
returns-clause-reach g c =
    subst (ReachesSix g.N.Enclosure.numbers) (sym (returns-clause-value g c))
    (face-reach g.met.N.Enclosure.laws c.args.strains.now c.args.place c.args.h c.requires.thick c.requires.inner c.requires.outer (wide_small _ c.ranges.h) c.requires.strains)

pub returns-clause-width : goal.returns-clause-width
returns-clause-width g c =
    subst (WidenedByBending g.N.Enclosure.numbers c.args.strains.now) (sym (returns-clause-value g c))
    (face-wide g.met.N.Enclosure.laws c.args.strains.now c.args.place c.args.h c.requires.thick c.requires.inner c.requires.outer (wide_small _ c.ranges.h) c.requires.strains)

pub returns-clause-narrow : goal.returns-clause-narrow
returns-clause-narrow g c = narrow-face (returns-clause-width g c)
