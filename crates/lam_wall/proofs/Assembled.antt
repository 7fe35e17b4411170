-- What the assembled matrices of a wall hold, how narrow they are, and what they stand for.
use Rattle.std.proofs.Common.{◌≡◌, refl, sym, subst, subst₂, ℕ, ◌*◌, ◌≤◌, ℤ, pos, ◌≤ℤ◌, List, length, arith}
use Rattle.std.specs.Prelude.{unsigned_abs}
use Rattle.std.proofs.lemmas.Int.{ints}
use Rattle.lam_fraction.specs.Fraction.{ℚ}
use Rattle.lam_fraction.specs.numbers.Numbers.{Numbers, Lawful}
use Rattle.lam_fraction.proofs.numbers.Consequences.{known_narrow}
use Rattle.lam_fraction.proofs.numbers.Steps.{square_room}
use Rattle.lam_stock.specs.declared.item.Item.{Item}
use Rattle.lam_stock.specs.declared.item.ItemNo.{ItemNo}
use Rattle.lam_stock.specs.declared.scale.Scale.{Scale}
use Rattle.lam_stock.specs.Stock.{IsKnown, IsStock}
use Rattle.lam_lamina.specs.declared.stiffness.Sym3.{Sym3}
use Rattle.lam_lamina.specs.Held.{HoldsMatrix, NarrowMatrix}
use Rattle.lam_job.specs.Schedule.{items_of}
use Rattle.lam_job.specs.Wall.{wall_thickness}
use Rattle.lam_wall.specs.declared.wall.Wall.{Wall}
use Rattle.lam_wall.specs.Assembled.{ArePlies, HoldsWall, NarrowWall, SmallMatrix, SmallWall, StandsFor}
use Rattle.lam_wall.specs.Matrices.{matrices, stiffness_of}
use Rattle.lam_wall.specs.inside.Formulas as by
use Rattle.lam_wall.specs.inside.Parts.{IsListed}
use Rattle.lam_wall.proofs.CatalogueWalls.{plies-exact, plies-covered, plies-few, plies-limits, plies-thick, plies-thin}
use Rattle.lam_wall.proofs.LaidWall.{KnownWall, known-wall}
use Rattle.lam_wall.proofs.SumsKnown.{KnownEntries, sum_of}

-- ---- what the calls of a catalogue and of a stack promise together
pub are-plies : {scale : Scale} {stock : List Item} {numbers numbers' : List ItemNo} → IsStock stock scale → 1 ≤ length numbers → length numbers' ≤ 64 → numbers' ≡ numbers
    → IsKnown stock numbers → ArePlies scale stock numbers
are-plies catalogue some few e known = record { catalogue = catalogue; some = some; few = subst (λ ns. length ns ≤ 64) e few; known = known }

pub listed-items : {scale : Scale} {stock stock' : List Item} {numbers numbers' : List ItemNo} {h : ℤ} → ArePlies scale stock numbers → stock' ≡ stock → numbers' ≡ numbers
    → h ≡ wall_thickness (items_of stock numbers) → IsListed scale h stock' numbers'
listed-items {scale} {h = h} plies e f thickness =
    let above = plies-thick plies in
    let thin = plies-thin plies in
    subst₂ (IsListed scale h) (sym e) (sym f) (record {
      plies = plies;
      least = omega (arith, ints, thickness, above);
      greatest = omega (arith, ints, thickness, thin);
      thickness = thickness;
    })

module _ {A : Type 0} {n : Numbers A} (laws : Lawful n) {d : ℕ} (some : 1 ≤ d) {r : Sym3 A} {m : Sym3 ℚ} (k : KnownEntries n d (sum_of d d 64) r m) where
  held-sums : HoldsMatrix n r m
  held-sums = record { xx = k.xx.held; xy = k.xy.held; yy = k.yy.held; xs = k.xs.held; ys = k.ys.held; ss = k.ss.held }

  narrow-sums : NarrowMatrix 512 n r
  narrow-sums =
      let few : (sum_of d d 64).wide ≤ 512 * d = omega arith in
      record {
        xx = known_narrow laws 512 some k.xx few;
        xy = known_narrow laws 512 some k.xy few;
        yy = known_narrow laws 512 some k.yy few;
        xs = known_narrow laws 512 some k.xs few;
        ys = known_narrow laws 512 some k.ys few;
        ss = known_narrow laws 512 some k.ss few;
      }

  small-sums : SmallMatrix n r
  small-sums = record {
    xx = square_room laws d some k.xx (omega arith);
    xy = square_room laws d some k.xy (omega arith);
    yy = square_room laws d some k.yy (omega arith);
    xs = square_room laws d some k.xs (omega arith);
    ys = square_room laws d some k.ys (omega arith);
    ss = square_room laws d some k.ss (omega arith);
  }

-- ---- 1 to 64 plies of a catalogue of this scale
module _ {A : Type 0} {n : Numbers A} (laws : Lawful n) {scale : Scale} {stock : List Item} {numbers : List ItemNo} (plies : ArePlies scale stock numbers) where
  abbrev items : List Item
  items = items_of stock numbers

  abbrev wall : Wall A
  wall = by.assembled n.calc scale.q0 items

  thick : pos 1 ≤ℤ wall_thickness items
  thick = let t = plies-thick plies in omega (arith, ints, t)

  some : 1 ≤ unsigned_abs (wall_thickness items)
  some = omega (arith, ints, thick)

  known : KnownWall n (unsigned_abs (wall_thickness items)) wall (matrices (stiffness_of scale.q0) items)
  known = known-wall laws scale.q0 (wall_thickness items) (record {
    least = thick;
    greatest = plies-thin plies;
    limits = plies-limits plies;
    covered = plies-covered plies;
    within = omega (arith, ints);
    few = plies-few plies;
  })

  pub holds-wall : HoldsWall n wall (matrices (stiffness_of scale.q0) items)
  holds-wall = record { a = held-sums laws some known.a; b = held-sums laws some known.b; d = held-sums laws some known.d }

  pub narrow-wall : NarrowWall 512 n wall
  narrow-wall = record { a = narrow-sums laws some known.a; b = narrow-sums laws some known.b; d = narrow-sums laws some known.d }

  small-wall : SmallWall n wall
  small-wall = record { a = small-sums laws some known.a; b = small-sums laws some known.b; d = small-sums laws some known.d }

  pub stands-for : StandsFor n wall scale stock numbers
  stands-for = record {
    plies = plies;
    thickness = refl;
    matrices = (matrices (stiffness_of scale.q0) items, plies-exact plies, holds-wall);
    reach = small-wall;
  }
