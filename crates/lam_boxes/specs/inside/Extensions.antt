-- The stiffness in extension of all walls that complete a partial schedule, over h q0 with one thickness h for all of them:
-- the sum over the fixed plies, and for the open places the hull of what they can be, with as many plies of one item.
use Rattle.std.specs.Prelude.{ℤ, ◌*ℤ◌, List, [], ◌∷◌, fold}
use Rattle.lam_fraction.specs.numbers.Numbers.{Numbers}
use Rattle.lam_stock.specs.declared.item.Item.{Item}
use Rattle.lam_lamina.specs.declared.stiffness.Sym3.{Sym3}
use Rattle.lam_lamina.specs.inside.Formulas as lamina
use Rattle.lam_wall.specs.inside.Formulas as wall

module _ {A : Type 0} (n : Numbers A) where
  -- a share of a stiffness
  abbrev pub scaled : A → Sym3 A → Sym3 A
  scaled c k = record {
    xx = n.calc.product c k.xx;
    xy = n.calc.product c k.xy;
    yy = n.calc.product c k.yy;
    xs = n.calc.product c k.xs;
    ys = n.calc.product c k.ys;
    ss = n.calc.product c k.ss;
  }

  -- all that is in one of two
  abbrev pub either : Sym3 A → Sym3 A → Sym3 A
  either m k = record {
    xx = n.hull m.xx k.xx;
    xy = n.hull m.xy k.xy;
    yy = n.hull m.yy k.yy;
    xs = n.hull m.xs k.xs;
    ys = n.hull m.ys k.ys;
    ss = n.hull m.ss k.ss;
  }

  abbrev pub together : Sym3 A → Sym3 A → Sym3 A
  together m k = record {
    xx = n.calc.sum m.xx k.xx;
    xy = n.calc.sum m.xy k.xy;
    yy = n.calc.sum m.yy k.yy;
    xs = n.calc.sum m.xs k.xs;
    ys = n.calc.sum m.ys k.ys;
    ss = n.calc.sum m.ss k.ss;
  }

  module _ (q0 h : ℤ) where
    -- with a ply more
    abbrev pub with_ply : Sym3 A → Item → Sym3 A
    with_ply m i = wall.with_share n.calc m (n.calc.ratio i.lamina.t h) (wall.stiffness n.calc q0 i)

    -- of some plies
    abbrev pub fixed_sum : List Item → Sym3 A
    fixed_sum plies = fold with_ply (lamina.zeros n.calc) plies

    -- of so many plies of one item
    abbrev pub plies_of : ℤ → Item → Sym3 A
    plies_of many i = scaled (n.calc.ratio (many *ℤ i.lamina.t) h) (wall.stiffness n.calc q0 i)

    -- or of another
    abbrev pub with_item : ℤ → Sym3 A → Item → Sym3 A
    with_item many m i = either m (plies_of many i)

    -- of so many plies of any one item of a catalogue
    abbrev pub any_plies : ℤ → List Item → Sym3 A
    any_plies many [] = lamina.zeros n.calc
    any_plies many (i ∷ rest) = fold (with_item many) (plies_of many i) rest

    abbrev pub extension : List Item → ℤ → List Item → Sym3 A
    extension plies many stock = together (fixed_sum plies) (any_plies many stock)
