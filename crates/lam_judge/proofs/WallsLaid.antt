-- What is known of a wall as it is computed.
use Rattle.std.proofs.Common.{◌≡◌, sym, subst, pos, ◌≤ℤ◌, List, FitsSigned, w64, rules, arith}
use Rattle.std.proofs.lemmas.Int.{ints}
use Rattle.lam_fraction.specs.numbers.Numbers.{Numbers, Lawful}
use Rattle.lam_number.specs.inside.FixLaws.{fix_lawful}
use Rattle.lam_stock.specs.declared.item.Item.{Item}
use Rattle.lam_stock.specs.declared.item.ItemNo.{ItemNo}
use Rattle.lam_stock.specs.declared.scale.Scale.{Scale}
use Rattle.lam_stock.specs.Scale.{scale_of}
use Rattle.lam_job.specs.Schedule.{items_of}
use Rattle.lam_wall.specs.Assembled.{ArePlies, IsWallOf, StandsFor}
use Rattle.lam_wall.specs.inside.Formulas.{assembled}
use Rattle.lam_wall.proofs.Assembled.{stands-for}
use Rattle.lam_wall.proofs.CatalogueWalls.{wall-thick, wall-thin}
use Rattle.lam_judge.specs.declared.layup.Laid.{Laid}
use Rattle.lam_judge.specs.declared.layup.Layup.{Layup}
use Rattle.lam_judge.specs.inside.Layups.{IsLaid, IsLayupOf}
use Rattle.lam_judge.specs.inside.Scales.{coarse, fine}

pub coarse-laws : Lawful coarse
coarse-laws = fix_lawful 28 (search rules)

pub fine-laws : Lawful fine
fine-laws = fix_lawful 60 (search rules)

module _ {A : Type 0} {n : Numbers A} (laws : Lawful n) {stock : List Item} {numbers : List ItemNo} {laid : Laid A} (plies : ArePlies (scale_of stock) stock numbers) (is : IsLaid n stock numbers laid) where
  pub laid-stands : StandsFor n laid.wall (scale_of stock) stock numbers
  laid-stands = subst (λ w. StandsFor n w (scale_of stock) stock numbers) (sym is.wall) (stands-for laws plies)

  pub laid-wall : (scale : Scale) → scale ≡ scale_of stock → IsWallOf n scale laid.wall
  laid-wall scale e = subst (λ (s : Scale). IsWallOf n s laid.wall) (sym e) (stock, numbers, laid-stands)

module _ {stock : List Item} {l : Layup} (is : IsLayupOf stock l) where
  stands : StandsFor coarse (assembled coarse.calc (scale_of stock).q0 (items_of stock l.plies)) (scale_of stock) stock l.plies
  stands = stands-for coarse-laws is.plies

  pub thick : pos 1 ≤ℤ l.h
  thick = let least = wall-thick stands in omega (arith, ints, least, is.thickness, stands.thickness)

  pub thin : l.h ≤ℤ pos 1280000
  thin = let most = wall-thin stands in omega (arith, ints, most, is.thickness, stands.thickness)

  pub thickness-fits : FitsSigned w64 l.h
  thickness-fits = omega (arith, ints, thick, thin)
