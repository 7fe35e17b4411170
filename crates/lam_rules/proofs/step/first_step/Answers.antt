use Rattle.std.proofs.Common.{◌≡◌, sym, ◌∙◌, ap, List, length, to_z, of_z, w64, arith}
use Rattle.std.proofs.lemmas.Int.{ints, to_z-of_z}
use Rattle.lam_stock.specs.declared.item.ItemNo.{ItemNo}
use Rattle.lam_job.specs.Schedule.{wall_of}
use Rattle.lam_job.specs.Wall.{wall_thickness}
use Rattle.lam_job.proofs.ThicknessSteps.{small_fits}
use Rattle.lam_rules.proofs.Growth.{fixed_none, none_slanted}
use Rattle.lam_rules.proofs.RunSteps.{ends_of_none}
use Rattle.lam_rules.proofs.step.first_step.Goals as goal

pub returns : goal.returns
returns c =
    let stock = c.args.stock.now in
    let job = c.args.job.now in
    let r = c.thickness.result in
    let least = c.thickness.ensures.least in
    let greatest = c.thickness.ensures.greatest in
    let fits : to_z w64 (of_z w64 r) ≡ r = to_z-of_z w64 r (small_fits r (omega (arith, ints, least)) (omega (arith, ints, greatest))) in
    let none = fixed_none job c.args.n in
    record {
      runs = c.new.ensures;
      short = (ends_of_none c.new.result.at_end).0 ((c.new.ensures.at_end c.new.result.at_end).1 (omega arith));
      slanted = none_slanted stock;
      places = sym (ap length none);
      thickness = fits ∙ c.thickness.ensures.value ∙ sym (ap (λ (l : List ItemNo). wall_thickness (wall_of stock job l)) none);
      least = omega (arith, ints, fits, least);
      greatest = omega (arith, ints, fits, greatest);
    }
