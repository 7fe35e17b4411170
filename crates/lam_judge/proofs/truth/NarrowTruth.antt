-- How narrow the strains at a place of a wall are, over the second scale, and what a verdict there that straddles or does not
-- meet says of the stress.
use Rattle.std.proofs.Common.{◌≡◌, refl, ℤ, List, arith}
use Rattle.std.proofs.lemmas.Int.{ints}
use Rattle.lam_fraction.specs.Fraction.{whole, ◌≤ℚ◌}
use Rattle.lam_fraction.specs.numbers.Numbers.{Numbers, Lawful}
use Rattle.lam_number.specs.declared.strength.Verdict.TheVariants.{Meets, Straddles}
use Rattle.lam_stock.specs.PlyLaw.{side_stress}
use Rattle.lam_stock.specs.declared.item.Item.{Item}
use Rattle.lam_stock.specs.declared.item.ItemNo.{ItemNo}
use Rattle.lam_stock.specs.Scale.{scale_of}
use Rattle.lam_job.specs.declared.load.Load.{Load}
use Rattle.lam_job.specs.Equilibrium.{Solves}
use Rattle.lam_job.specs.LaminateStrain.{LaminateStrain, strain_at}
use Rattle.lam_job.specs.LoadRange.{LoadInRange}
use Rattle.lam_job.specs.Ranges.{IsFactor}
use Rattle.lam_job.specs.Schedule.{items_of}
use Rattle.lam_job.specs.Wall.{wall_thickness}
use Rattle.lam_wall.specs.Assembled.{ArePlies}
use Rattle.lam_wall.proofs.Assembled.{narrow-wall}
use Rattle.lam_solve.specs.Widths.{AreNarrow, IsNarrowFace}
use Rattle.lam_solve.specs.inside.Elimination.{eliminated, guess}
use Rattle.lam_solve.specs.inside.Formulas.{loads}
use Rattle.lam_solve.specs.inside.Parts.{AreLoadsOn}
use Rattle.lam_solve.specs.inside.Residual.{residual}
use Rattle.lam_solve.specs.inside.Settled.{Settled}
use Rattle.lam_solve.proofs.Posed.{posed}
use Rattle.lam_solve.proofs.turns.Loop.{centre-settles}
use Rattle.lam_solve.proofs.widths.NarrowFaces.{face-wide, narrow-face}
use Rattle.lam_solve.proofs.widths.NarrowStrains.{narrow-by-spread, settled-narrow}
use Rattle.lam_solve.proofs.widths.Solved.{is-narrow}
use Rattle.lam_tsai.specs.Levels.{side_of, value_at, verdict_of}
use Rattle.lam_tsai.specs.Listed.{IsItemOf}
use Rattle.lam_tsai.specs.declared.place.Side.{Side}
use Rattle.lam_tsai.specs.inside.Values.{level}
use Rattle.lam_sharp.specs.NearOne.{IsNearOne, nearly_one}
use Rattle.lam_narrow.specs.Straddling.{HoldsWithin, IsCompared, IsFinest, NotMetIsNearlyOne, StraddlesNearOne, narrow_units}
use Rattle.lam_judge.specs.inside.Judged.{face_strain, matrices, strains, verdict_over}
use Rattle.lam_judge.specs.inside.Loads.{IsWithin}
use Rattle.lam_judge.proofs.truth.PlaceTruth.{centre, short, six, small, stands, strain-held, thick}

module _ {A : Type 0} {n : Numbers A} (laws : Lawful n) (finest : IsFinest n) {stock : List Item} {numbers : List ItemNo} (plies : ArePlies (scale_of stock) stock numbers)
    (load : Load) (range : LoadInRange (scale_of stock).floor (wall_thickness (items_of stock numbers)) load) where
  abbrev wall : List Item
  wall = items_of stock numbers

  -- the turns of refinement end at a centre with a small residual
  settled : Settled n (centre laws plies load range) (residual n (matrices n (scale_of stock) wall) (loads n.calc (scale_of stock).q0 (wall_thickness wall) load) (centre laws plies load range))
  unfolding centre
  settled =
      let w = matrices n (scale_of stock) wall in
      let on : AreLoadsOn n w (loads n.calc (scale_of stock).q0 w.h load) = record { scale = scale_of stock; load = load; wall = (stock, numbers, stands laws plies load range); range = range; are = refl } in
      centre-settles laws on (is-narrow n w finest.scale (narrow-wall laws plies)) (guess n (eliminated n w) (loads n.calc (scale_of stock).q0 w.h load))

  -- so the strains are narrow
  narrow : AreNarrow n (strains n (scale_of stock) wall load)
  unfolding centre
  narrow =
      narrow-by-spread laws (scale_of stock) plies.catalogue.spread
      (settled-narrow laws (matrices n (scale_of stock) wall) (posed (stands laws plies load range) range) (narrow-wall laws plies) (centre laws plies load range) settled)

  module _ (z : ℤ) (within : IsWithin (wall_thickness wall) z) where
    face-narrow : IsNarrowFace n (face_strain n (scale_of stock) wall load z)
    face-narrow =
        narrow-face (face-wide laws (strains n (scale_of stock) wall load) z (wall_thickness wall) (thick laws plies load range z within) within.inner within.outer (small laws plies load range z within) (short laws plies load range)) narrow

    module _ {i : Item} (is : IsItemOf (scale_of stock) i) (side : Side) (factor : ℤ) (f : LaminateStrain) (solves : Solves wall load f) where
      holds-within : HoldsWithin narrow_units n i (scale_of stock) (face_strain n (scale_of stock) wall load z) (strain_at f z)
      holds-within =
          let few = finest.slop in
          record {
            listed = is;
            six = six laws plies load range z within;
            narrow = record { x = omega (arith, face-narrow.ex, few); y = omega (arith, face-narrow.ey, few); s = omega (arith, face-narrow.g, few) };
            holds = strain-held laws plies load range z within f solves;
          }

      -- where a verdict straddles, the value is near 1
      pub straddles-there : StraddlesNearOne n → IsFactor factor → verdict_over n (scale_of stock) wall load factor i side z ≡ Straddles
          → IsNearOne i.lamina (side_stress i.lamina i.dir (side_of side) (strain_at f z)) factor
      unfolding verdict_over
      straddles-there near_one asked e =
          near_one i side (scale_of stock) (face_strain n (scale_of stock) wall load z) (strain_at f z) factor finest holds-within
          (record { least = omega (arith, ints, asked.least); greatest = omega (arith, ints, asked.greatest) }) e

      -- where it does not meet, the value is nearly 1 at least
      pub not-met-there : NotMetIsNearlyOne n → IsCompared factor → ¬ (verdict_of n (level n i side (scale_of stock) (face_strain n (scale_of stock) wall load z) factor) ≡ Meets)
          → nearly_one ≤ℚ value_at i (side_of side) (strain_at f z) (whole factor)
      not-met-there not_met asked e = not_met i side (scale_of stock) (face_strain n (scale_of stock) wall load z) (strain_at f z) factor finest holds-within asked e
