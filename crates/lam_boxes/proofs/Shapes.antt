-- What all completions have in common, as it is computed: how far it reaches, and what the calls are given.
use Rattle.std.proofs.Common.{◌≡◌, sym, ◌∙◌, ap, subst, ◌-◌, ◌<◌, ◌≤◌, ℤ, pos, ◌+ℤ◌, ◌*ℤ◌, ◌≤ℤ◌, List, length, arith}
use Rattle.std.proofs.lemmas.Int.{ints}
use Rattle.lam_fraction.specs.numbers.Numbers.{Numbers, Lawful}
use Rattle.lam_stock.specs.declared.item.Item.{Item}
use Rattle.lam_stock.specs.declared.item.ItemNo.{ItemNo}
use Rattle.lam_stock.specs.Scale.{scale_of}
use Rattle.lam_stock.specs.Stock.{IsKnown, IsStock}
use Rattle.lam_job.specs.JobData.{JobData}
use Rattle.lam_job.specs.Partial.{Partial, fixed_plies, half, open_places, thickest}
use Rattle.lam_job.specs.Schedule.{items_of}
use Rattle.lam_job.specs.Wall.{wall_thickness}
use Rattle.lam_lamina.specs.declared.stiffness.Sym3.{Sym3}
use Rattle.lam_rules.specs.Conditions.{IsPartial}
use Rattle.lam_rules.proofs.Growth.{half_within}
use Rattle.lam_boxes.specs.inside.Boxes.{shape_of}
use Rattle.lam_boxes.specs.inside.Extents.{least_thick, most_thick, thinnest}
use Rattle.lam_boxes.specs.inside.Extensions.{any_plies, extension, fixed_sum}
use Rattle.lam_boxes.specs.inside.Parts.{AreFixed, FitEach, IsShape, MatrixReaches, entry_reach, extension_reach, open_reach}
use Rattle.lam_boxes.proofs.Completions.{are-fixed, are-within, extension-reaches, fit-each, fits-each, fixed-known, least-is, most-is}
use Rattle.lam_boxes.proofs.HeldExtension.{any-reaches, fixed-reaches, together-reaches}
use Rattle.lam_boxes.proofs.Thicknesses.{thickest-above, thickest-below, thinnest-above, thinnest-below}

-- ---- of fixed plies, and so many others of one item

module _ {A : Type 0} {n : Numbers A} (laws : Lawful n) {h many : ℤ} {stock : List Item} {numbers : List ItemNo} (f : AreFixed h stock numbers) (e : FitEach many h stock) where
  abbrev q0 : ℤ
  q0 = (scale_of stock).q0

  fixed-far : MatrixReaches n entry_reach (fixed_sum n q0 h (items_of stock numbers))
  fixed-far = fixed-reaches laws q0 h (are-within f)

  open-far : MatrixReaches n open_reach (any_plies n q0 h many stock)
  open-far = any-reaches laws q0 h e.thickness many stock e.catalogue.some e.catalogue.few (fits-each laws e)

  pub fixed-reach : {m : Sym3 A} → m ≡ fixed_sum n q0 h (items_of stock numbers) → MatrixReaches n entry_reach m
  fixed-reach is = subst (MatrixReaches n entry_reach) (sym is) fixed-far

  pub open-reach : {m : Sym3 A} → m ≡ any_plies n q0 h many stock → MatrixReaches n open_reach m
  open-reach is = subst (MatrixReaches n open_reach) (sym is) open-far

  pub both-reach : {m : Sym3 A} → m ≡ extension n q0 h (items_of stock numbers) many stock → MatrixReaches n extension_reach m
  both-reach is = subst (MatrixReaches n extension_reach) (sym is) (together-reaches laws q0 h fixed-far open-far)

-- ---- of a partial schedule with open places

module _ (stock : List Item) (job : JobData) (p : Partial) (is : IsStock stock (scale_of stock)) (ok : IsPartial stock job p) (more : length p.prefix < half job p.n) where
  pub prefix-within : length p.prefix ≤ p.n
  prefix-within = let h = half_within job p.n ok.some in let w = ok.within in omega (arith, h, w)

  pub thick-least : (t : ℤ) → t ≡ thickest stock → pos 0 ≤ℤ t
  thick-least t e = subst (λ z. pos 0 ≤ℤ z) (sym e) (thickest-above stock)

  pub thick-greatest : (t : ℤ) → t ≡ thickest stock → t ≤ℤ pos 20000
  thick-greatest t e = subst (λ z. z ≤ℤ pos 20000) (sym e) (thickest-below stock is.limits)

  pub thin-least : (t : ℤ) → t ≡ thinnest stock → pos 0 ≤ℤ t
  thin-least t e = let h = thinnest-above stock is.limits in omega (arith, ints, e, h)

  pub thin-greatest : (t : ℤ) → t ≡ thinnest stock → t ≤ℤ pos 20000
  thin-greatest t e = subst (λ z. z ≤ℤ pos 20000) (sym e) (thinnest-below stock)

  -- by its fixed plies
  module _ (numbers : List ItemNo) (fixed : numbers ≡ fixed_plies job p) where
    pub numbers-known : IsKnown stock numbers
    numbers-known = subst (IsKnown stock) (sym fixed) (fixed-known stock job p ok.known)

    -- by how thick they are, how many places are open and how thick an item is
    module _ (own many t : ℤ) (own-is : own ≡ wall_thickness (items_of stock numbers)) (many-is : many ≡ pos (p.n - length numbers)) where
      pub most-filled : (h : ℤ) → t ≡ thickest stock → h ≡ own +ℤ many *ℤ t → h ≡ most_thick stock job p
      most-filled h e so =
          so ∙ (λ j. (own-is ∙ ap (λ (ns : List ItemNo). wall_thickness (items_of stock ns)) fixed) j +ℤ (many-is ∙ ap (λ (ns : List ItemNo). pos (p.n - length ns)) fixed) j *ℤ e j)

      pub least-filled : (h : ℤ) → t ≡ thinnest stock → h ≡ own +ℤ many *ℤ t → h ≡ least_thick stock job p
      least-filled h e so =
          so ∙ (λ j. (own-is ∙ ap (λ (ns : List ItemNo). wall_thickness (items_of stock ns)) fixed) j +ℤ (many-is ∙ ap (λ (ns : List ItemNo). pos (p.n - length ns)) fixed) j *ℤ e j)

    module _ (h many : ℤ) (h-is : h ≡ most_thick stock job p) (many-is : many ≡ pos (p.n - length numbers)) where
      many-open : many ≡ pos (open_places job p)
      many-open = many-is ∙ ap (λ (ns : List ItemNo). pos (p.n - length ns)) fixed

      pub numbers-fixed : AreFixed h stock numbers
      numbers-fixed = subst (λ z. AreFixed z stock numbers) (sym h-is) (subst (AreFixed (most_thick stock job p) stock) (sym fixed) (are-fixed stock job p is ok more))

      pub numbers-fit : FitEach many h stock
      numbers-fit = subst (λ z. FitEach z h stock) (sym many-open) (subst (λ z. FitEach (pos (open_places job p)) z stock) (sym h-is) (fit-each stock job p is ok more))

      pub numbers-extension : {A : Type 0} (n : Numbers A) (m : Sym3 A) → m ≡ extension n (scale_of stock).q0 h (items_of stock numbers) many stock
          → m ≡ (shape_of n stock job p).extension
      numbers-extension n m e = e ∙ (λ j. extension n (scale_of stock).q0 (h-is j) (items_of stock (fixed j)) (many-open j) stock)

  pub shape-is : {A : Type 0} {n : Numbers A} (laws : Lawful n) → IsShape n (shape_of n stock job p)
  shape-is laws = record {
    extension = extension-reaches stock job p is ok more laws;
    most = most-is stock job p is ok more;
    least = least-is stock job p is ok more;
  }
