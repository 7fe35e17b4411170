-- What a verdict at a place of a wall says of the stress there.
use Rattle.std.proofs.Common.{◌≡◌, ◌*◌, ◌^◌, ◌≤◌, ℤ, pos, ◌≤ℤ◌, List, unsigned_abs, arith}
use Rattle.std.proofs.lemmas.Int.{ints}
use Rattle.lam_fraction.specs.Fraction.{whole, ◌<ℚ◌}
use Rattle.lam_fraction.specs.numbers.Numbers.{Numbers, Lawful}
use Rattle.lam_number.specs.declared.strength.Verdict.TheVariants.{Meets, Fails}
use Rattle.lam_stock.specs.PlyLaw.{side_stress}
use Rattle.lam_stock.specs.TsaiWu.{RatioAtLeast}
use Rattle.lam_stock.specs.declared.item.Item.{Item}
use Rattle.lam_stock.specs.declared.item.ItemNo.{ItemNo}
use Rattle.lam_stock.specs.declared.scale.Scale.{Scale}
use Rattle.lam_stock.specs.Scale.{scale_of}
use Rattle.lam_job.specs.declared.load.Load.{Load}
use Rattle.lam_job.specs.Equilibrium.{Solves}
use Rattle.lam_job.specs.LaminateStrain.{LaminateStrain, strain_at}
use Rattle.lam_job.specs.LoadRange.{LoadInRange}
use Rattle.lam_job.specs.Ranges.{IsFactor}
use Rattle.lam_job.specs.Schedule.{items_of}
use Rattle.lam_job.specs.Wall.{wall_thickness}
use Rattle.lam_wall.specs.declared.wall.Wall.{Wall}
use Rattle.lam_wall.specs.Assembled.{ArePlies, StandsFor}
use Rattle.lam_wall.proofs.Assembled.{stands-for}
use Rattle.lam_wall.proofs.CatalogueWalls.{wall-thick, wall-thin}
use Rattle.lam_solve.specs.declared.strains.Guess.{Guess}
use Rattle.lam_solve.specs.Solutions.{AreShort, HoldsEverySolution}
use Rattle.lam_solve.specs.inside.Elimination.{eliminated, guess}
use Rattle.lam_solve.specs.inside.Formulas.{loads}
use Rattle.lam_solve.specs.inside.Enclosed.{enclosed, radius}
use Rattle.lam_solve.specs.inside.Residual.{residual}
use Rattle.lam_solve.specs.inside.Solution as solutions
use Rattle.lam_solve.specs.inside.Steps.{over_up}
use Rattle.lam_solve.proofs.Around.{around-short}
use Rattle.lam_solve.proofs.AtFaces.{face-held, face-reach}
use Rattle.lam_solve.proofs.HeldStrains.{enclosed-holds}
use Rattle.lam_tsai.specs.FaceStrains.{HoldsStrain, IsWithinSix}
use Rattle.lam_tsai.specs.Levels.{IsLevel, side_of, value_at}
use Rattle.lam_tsai.specs.Listed.{IsItemOf}
use Rattle.lam_tsai.specs.declared.place.Side.{Side}
use Rattle.lam_tsai.specs.inside.Values.{level}
use Rattle.lam_tsai.proofs.FactorsMet.{meets-at-most-one}
use Rattle.lam_tsai.proofs.LevelHeld.{level-held}
use Rattle.lam_judge.specs.inside.Judged.{face_strain, matrices, strains, verdict_over}
use Rattle.lam_judge.specs.inside.Loads.{IsWithin}
use Rattle.lam_judge.proofs.truth.Failing.{fails-above-one}

enclosed-short : {A : Type 0} {n : Numbers A} → Lawful n → (scale : Scale) (w : Wall A) (load : Load) (c : Guess) → AreShort n (enclosed n scale c (residual n w (loads n.calc scale.q0 w.h load) c))
enclosed-short {A} {n} laws scale w load c =
    let r = radius n scale (residual n w (loads n.calc scale.q0 w.h load) c) in
    record {
      ex = around-short laws c.ex (over_up (5 * r) 2);
      ey = around-short laws c.ey (over_up (5 * r) 2);
      g = around-short laws c.g (4 * r);
      kx = around-short laws c.kx (5 * r);
      ky = around-short laws c.ky (5 * r);
      kg = around-short laws c.kg (8 * r);
    }

module _ {A : Type 0} {n : Numbers A} (laws : Lawful n) {stock : List Item} {numbers : List ItemNo} (plies : ArePlies (scale_of stock) stock numbers)
    (load : Load) (range : LoadInRange (scale_of stock).floor (wall_thickness (items_of stock numbers)) load) where
  abbrev wall : List Item
  wall = items_of stock numbers

  abbrev h : ℤ
  h = wall_thickness wall

  pub stands : StandsFor n (matrices n (scale_of stock) wall) (scale_of stock) stock numbers
  stands = stands-for laws plies

  unfoldable pub centre : Guess
  centre =
      let w = matrices n (scale_of stock) wall in
      solutions.centre n w (loads n.calc (scale_of stock).q0 w.h load) (guess n (eliminated n w) (loads n.calc (scale_of stock).q0 w.h load))

  -- every laminate strain is held
  pub held : HoldsEverySolution n (strains n (scale_of stock) wall load) wall load
  unfolding centre
  held = enclosed-holds laws stands load range centre

  pub short : AreShort n (strains n (scale_of stock) wall load)
  unfolding centre
  short = enclosed-short laws (scale_of stock) (matrices n (scale_of stock) wall) load centre

  module _ (z : ℤ) (within : IsWithin h z) where
    pub thick : pos 1 ≤ℤ h
    thick = let t = wall-thick stands in omega (arith, ints, t)

    pub small : unsigned_abs h ≤ 2 ^ 66
    small = let t = wall-thin stands in omega (arith, ints, t, thick)

    pub six : IsWithinSix n (face_strain n (scale_of stock) wall load z)
    six = let r = face-reach laws (strains n (scale_of stock) wall load) z h thick within.inner within.outer small short in record { x = r.ex; y = r.ey; s = r.g }

    pub strain-held : (f : LaminateStrain) → Solves wall load f → HoldsStrain n (face_strain n (scale_of stock) wall load z) (strain_at f z)
    strain-held f solves =
        let k = face-held laws (strains n (scale_of stock) wall load) z h thick within.inner within.outer small short f (held.each f solves) in
        record { x = k.ex; y = k.ey; s = k.g }

    module _ {i : Item} (is : IsItemOf (scale_of stock) i) (side : Side) (factor : ℤ) (asked : IsFactor factor) (f : LaminateStrain) (solves : Solves wall load f) where
      known : IsLevel n (level n i side (scale_of stock) (face_strain n (scale_of stock) wall load z) factor) (value_at i (side_of side) (strain_at f z) (whole factor))
      known = level-held laws is side (face_strain n (scale_of stock) wall load z) factor six (omega (arith, ints, asked.least)) (omega (arith, ints, asked.greatest)) (strain_at f z) (strain-held f solves)

      pub meets-there : verdict_over n (scale_of stock) wall load factor i side z ≡ Meets → RatioAtLeast i.lamina (side_stress i.lamina i.dir (side_of side) (strain_at f z)) (whole factor)
      unfolding verdict_over
      meets-there e = meets-at-most-one laws (level n i side (scale_of stock) (face_strain n (scale_of stock) wall load z) factor) _ known e

      pub fails-there : verdict_over n (scale_of stock) wall load factor i side z ≡ Fails → whole (pos 1) <ℚ value_at i (side_of side) (strain_at f z) (whole factor)
      unfolding verdict_over
      fails-there e = fails-above-one laws (level n i side (scale_of stock) (face_strain n (scale_of stock) wall load z) factor) _ known e
