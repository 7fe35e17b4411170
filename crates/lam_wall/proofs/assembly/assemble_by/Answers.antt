use Rattle.std.proofs.Common.{rules, ◌≡◌, refl, ◌∙◌, sym, subst}
use Rattle.lam_fraction.proofs.numbers.Machine.{stored-64}
use Rattle.lam_stock.specs.Scale.{scale_of}
use Rattle.lam_stock.specs.Stock.{IsStock}
use Rattle.lam_job.specs.Schedule.{items_of}
use Rattle.lam_wall.specs.Assembled.{HoldsWall, NarrowWall, StandsFor}
use Rattle.lam_wall.specs.Matrices.{matrices, stiffness_of}
use Rattle.lam_wall.specs.inside.Formulas as by
use Rattle.lam_lamina.specs.inside.Table.{IsTableOf}
use Rattle.lam_wall.specs.inside.Parts.{IsListed}
use Rattle.lam_wall.proofs.Assembled.{are-plies, listed-items, holds-wall, narrow-wall, stands-for}
use Rattle.lam_wall.proofs.assembly.assemble_by.Goals as goal

pub laid-requires-clause-listed : goal.laid-requires-clause-listed
laid-requires-clause-listed g c =
    let h : stored-64 c.thickness-h.result ≡ c.thickness-h.result = search rules in
    let n = c.items-2.ensures in
    let i = c.items.ensures.items in
    let kept : IsStock c.args.stock.now (scale_of c.args.stock.now) = subst (IsStock c.args.stock.now) c.scale-scale.ensures.value c.scale-scale.ensures.stock in
    subst (λ stock. IsListed (scale_of stock) (stored-64 c.thickness-h.result) stock c.items-2.result.now) (sym i)
    (listed-items (are-plies kept c.requires.some n.few n.items c.requires.known) refl n.items (h ∙ c.thickness-h.ensures.value))

pub laid-requires-clause-table : goal.laid-requires-clause-table
laid-requires-clause-table g c = subst (λ stock. IsTableOf g.N.Enclosure.numbers stock c.args.stiffnesses.now) (sym c.items.ensures.items) c.requires.table

pub returns-clause-value : goal.returns-clause-value
returns-clause-value g c =
    let i = c.items.ensures.items in
    let n = c.items-2.ensures.items in
    c.laid.ensures ∙ (λ j. by.assembled g.N.Enclosure.numbers.calc (scale_of (i j)).q0 (items_of (i j) (n j)))

pub returns-clause-stands : goal.returns-clause-stands
returns-clause-stands g c =
    let n = c.items-2.ensures in
    let plies = are-plies (subst (IsStock c.args.stock.now) c.scale-scale.ensures.value c.scale-scale.ensures.stock) c.requires.some n.few n.items c.requires.known in
    subst (λ w. StandsFor g.N.Enclosure.numbers w (scale_of c.args.stock.now) c.args.stock.now c.args.wall.now) (sym (returns-clause-value g c)) (stands-for g.met.N.Enclosure.laws plies)

pub returns-clause-held : goal.returns-clause-held
returns-clause-held g c =
    subst (λ w. HoldsWall g.N.Enclosure.numbers w (matrices (stiffness_of (scale_of c.args.stock.now).q0) (items_of c.args.stock.now c.args.wall.now))) (sym (returns-clause-value g c))
    (holds-wall g.met.N.Enclosure.laws (are-plies (subst (IsStock c.args.stock.now) c.scale-scale.ensures.value c.scale-scale.ensures.stock) c.requires.some c.items-2.ensures.few c.items-2.ensures.items c.requires.known))

pub returns-clause-narrow : goal.returns-clause-narrow
returns-clause-narrow g c =
    subst (NarrowWall 512 g.N.Enclosure.numbers) (sym (returns-clause-value g c))
    (narrow-wall g.met.N.Enclosure.laws (are-plies (subst (IsStock c.args.stock.now) c.scale-scale.ensures.value c.scale-scale.ensures.stock) c.requires.some c.items-2.ensures.few c.items-2.ensures.items c.requires.known))
