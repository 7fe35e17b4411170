-- The formulas by which the code computes the matrices of a wall, over any arithmetic: the same line gives the value of a
-- call and the fraction that it holds.
use Rattle.std.specs.Prelude.{ℤ, pos, ◌+ℤ◌, ◌*ℤ◌, List, fold}
use Rattle.lam_fraction.specs.numbers.Arithmetic.{Arithmetic}
use Rattle.lam_stock.specs.declared.item.Item.{Item}
use Rattle.lam_lamina.specs.declared.stiffness.Sym3.{Sym3}
use Rattle.lam_lamina.specs.inside.Formulas as lamina
use Rattle.lam_job.specs.Wall.{Placed, placed_plies, wall_thickness}
use Rattle.lam_wall.specs.declared.wall.Wall.{Wall}

module _ {A : Type 0} (v : Arithmetic A) where
  -- ---- the shares of a ply in a wall of thickness h
  abbrev pub extension : ℤ → Placed → A
  extension h p = v.ratio p.item.lamina.t h

  abbrev pub coupling : ℤ → Placed → A
  coupling h p = v.ratio (p.item.lamina.t *ℤ (p.inner +ℤ p.outer)) (pos 2 *ℤ (h *ℤ h))

  abbrev pub bending : ℤ → Placed → A
  bending h p =
      v.ratio (p.item.lamina.t *ℤ (p.inner *ℤ p.inner +ℤ p.inner *ℤ p.outer +ℤ p.outer *ℤ p.outer)) (pos 3 *ℤ (h *ℤ (h *ℤ h)))

  -- ---- sums

  -- a sum, and a share of an entry
  abbrev pub gathered : A → A → A → A
  gathered sum share entry = v.sum sum (v.product share entry)

  -- a matrix, and a share of another
  abbrev pub with_share : Sym3 A → A → Sym3 A → Sym3 A
  with_share m share k = record {
    xx = gathered m.xx share k.xx;
    xy = gathered m.xy share k.xy;
    yy = gathered m.yy share k.yy;
    xs = gathered m.xs share k.xs;
    ys = gathered m.ys share k.ys;
    ss = gathered m.ss share k.ss;
  }

  -- a wall with one ply more, of this stiffness
  abbrev pub with_ply : Wall A → Placed → Sym3 A → Wall A
  with_ply w p k = record {
    a = with_share w.a (extension w.h p) k;
    b = with_share w.b (coupling w.h p) k;
    d = with_share w.d (bending w.h p) k;
    h = w.h;
  }

  -- a wall of this thickness, before its first ply
  abbrev pub bare : ℤ → Wall A
  bare h = record { a = lamina.zeros v; b = lamina.zeros v; d = lamina.zeros v; h = h }

  -- the plies' stiffnesses, each times its share, one after the other
  abbrev pub summed : (Placed → A) → (Item → Sym3 A) → List Placed → Sym3 A
  summed share stiffness plies = fold (λ m p. with_share m (share p) (stiffness p.item)) (lamina.zeros v) plies

  -- plies laid in a wall of thickness h
  abbrev pub laid : ℤ → (Item → Sym3 A) → List Placed → Wall A
  laid h stiffness plies = record {
    a = summed (extension h) stiffness plies;
    b = summed (coupling h) stiffness plies;
    d = summed (bending h) stiffness plies;
    h = h;
  }

  -- of an item, over q0
  abbrev pub stiffness : ℤ → Item → Sym3 A
  stiffness q0 i = lamina.item v q0 i.kind i.lamina i.dir

  -- of a wall, over q0
  abbrev pub assembled : ℤ → List Item → Wall A
  assembled q0 wall = laid (wall_thickness wall) (stiffness q0) (placed_plies wall)
