use Rattle.std.proofs.Common.{rules, ◌≡◌, sym, ◌∙◌, ap, subst, ◌-◌, pos, List, length}
use Rattle.lam_fraction.specs.numbers.Numbers.{Lawful}
use Rattle.lam_fraction.proofs.numbers.Machine.{stored-64}
use Rattle.lam_number.specs.inside.FixLaws.{fix_lawful}
use Rattle.lam_number.specs.inside.FixNumbers.{fix_numbers}
use Rattle.lam_stock.specs.declared.item.Item.{Item}
use Rattle.lam_stock.specs.declared.item.ItemNo.{ItemNo}
use Rattle.lam_stock.specs.Scale.{scale_of}
use Rattle.lam_stock.specs.Stock.{IsStock}
use Rattle.lam_job.specs.Partial.{fixed_plies, thickest}
use Rattle.lam_job.specs.Schedule.{items_of}
use Rattle.lam_job.specs.Wall.{wall_thickness}
use Rattle.lam_boxes.specs.inside.Extents.{least_thick, most_thick, thinnest}
use Rattle.lam_boxes.specs.inside.Extensions.{extension}
use Rattle.lam_boxes.specs.inside.Parts.{AreFixed, FitEach, IsShape}
use Rattle.lam_boxes.proofs.Shapes.{least-filled, most-filled, numbers-extension, numbers-fit, numbers-fixed, numbers-known, shape-is, thick-greatest, thick-least, thin-greatest, thin-least}
use Rattle.lam_boxes.proofs.shape.shape_of.Goals as goal

pub thickness-own-requires : goal.thickness-own-requires
thickness-own-requires c =
    let stock = c.args.stock.now in
    let job = c.args.job.now in
    let p = c.args.partial.now in
    let is : IsStock stock (scale_of stock) = subst (IsStock stock) c.scale-scale.ensures.value c.scale-scale.ensures.stock in
    record { known = numbers-known stock job p is c.requires.partial c.requires.open c.fixed_plies-fixed.result c.fixed_plies-fixed.ensures.plies }

pub filled-most-requires-clause-t_least : goal.filled-most-requires-clause-t_least
filled-most-requires-clause-t_least c =
    let stock = c.args.stock.now in
    let job = c.args.job.now in
    let p = c.args.partial.now in
    let is : IsStock stock (scale_of stock) = subst (IsStock stock) c.scale-scale.ensures.value c.scale-scale.ensures.stock in
    let kept : stored-64 c.args.tables.now.thickest ≡ c.args.tables.now.thickest = search rules in
    let t : stored-64 c.args.tables.now.thickest ≡ thickest stock = kept ∙ c.requires.tables.thickest in
    thick-least stock job p is c.requires.partial c.requires.open (stored-64 c.args.tables.now.thickest) t

pub filled-most-requires-clause-t_greatest : goal.filled-most-requires-clause-t_greatest
filled-most-requires-clause-t_greatest c =
    let stock = c.args.stock.now in
    let job = c.args.job.now in
    let p = c.args.partial.now in
    let is : IsStock stock (scale_of stock) = subst (IsStock stock) c.scale-scale.ensures.value c.scale-scale.ensures.stock in
    let kept : stored-64 c.args.tables.now.thickest ≡ c.args.tables.now.thickest = search rules in
    let t : stored-64 c.args.tables.now.thickest ≡ thickest stock = kept ∙ c.requires.tables.thickest in
    thick-greatest stock job p is c.requires.partial c.requires.open (stored-64 c.args.tables.now.thickest) t

pub filled-least-requires-clause-t_least : goal.filled-least-requires-clause-t_least
filled-least-requires-clause-t_least c =
    let stock = c.args.stock.now in
    let job = c.args.job.now in
    let p = c.args.partial.now in
    let is : IsStock stock (scale_of stock) = subst (IsStock stock) c.scale-scale.ensures.value c.scale-scale.ensures.stock in
    let kept-2 : stored-64 c.args.tables.now.thinnest ≡ c.args.tables.now.thinnest = search rules in
    let t-2 : stored-64 c.args.tables.now.thinnest ≡ thinnest stock = kept-2 ∙ c.requires.tables.thinnest in
    thin-least stock job p is c.requires.partial c.requires.open (stored-64 c.args.tables.now.thinnest) t-2

pub filled-least-requires-clause-t_greatest : goal.filled-least-requires-clause-t_greatest
filled-least-requires-clause-t_greatest c =
    let stock = c.args.stock.now in
    let job = c.args.job.now in
    let p = c.args.partial.now in
    let is : IsStock stock (scale_of stock) = subst (IsStock stock) c.scale-scale.ensures.value c.scale-scale.ensures.stock in
    let kept-2 : stored-64 c.args.tables.now.thinnest ≡ c.args.tables.now.thinnest = search rules in
    let t-2 : stored-64 c.args.tables.now.thinnest ≡ thinnest stock = kept-2 ∙ c.requires.tables.thinnest in
    thin-greatest stock job p is c.requires.partial c.requires.open (stored-64 c.args.tables.now.thinnest) t-2

pub extension_of-requires-clause-fixed : goal.extension_of-requires-clause-fixed
extension_of-requires-clause-fixed c =
    let stock = c.args.stock.now in
    let job = c.args.job.now in
    let p = c.args.partial.now in
    let is : IsStock stock (scale_of stock) = subst (IsStock stock) c.scale-scale.ensures.value c.scale-scale.ensures.stock in
    let kept : stored-64 c.args.tables.now.thickest ≡ c.args.tables.now.thickest = search rules in
    let t : stored-64 c.args.tables.now.thickest ≡ thickest stock = kept ∙ c.requires.tables.thickest in
    let numbers = c.items-plies.result.now in
    let fixed : numbers ≡ fixed_plies job p = c.items-plies.ensures.items ∙ c.fixed_plies-fixed.ensures.plies in
    let own-kept : stored-64 c.thickness-own.result ≡ c.thickness-own.result = search rules in
    let own : stored-64 c.thickness-own.result ≡ wall_thickness (items_of stock numbers) = own-kept ∙ c.thickness-own.ensures.value ∙ ap (λ (ns : List ItemNo). wall_thickness (items_of stock ns)) (sym c.items-plies.ensures.items) in
    let many : stored-64 c.from-many.result ≡ pos (p.n - length numbers) = search rules in
    let most-kept : stored-64 c.filled-most.result ≡ c.filled-most.result = search rules in
    let most : stored-64 c.filled-most.result ≡ most_thick stock job p = most-filled stock job p is c.requires.partial c.requires.open numbers fixed (stored-64 c.thickness-own.result) (stored-64 c.from-many.result) (stored-64 c.args.tables.now.thickest) own many (stored-64 c.filled-most.result) t (most-kept ∙ c.filled-most.ensures) in
    subst (λ (s : List Item). AreFixed (stored-64 c.filled-most.result) s numbers) (sym c.items.ensures.items) (numbers-fixed stock job p is c.requires.partial c.requires.open numbers fixed (stored-64 c.filled-most.result) (stored-64 c.from-many.result) most many)

pub extension_of-requires-clause-fit : goal.extension_of-requires-clause-fit
extension_of-requires-clause-fit c =
    let stock = c.args.stock.now in
    let job = c.args.job.now in
    let p = c.args.partial.now in
    let is : IsStock stock (scale_of stock) = subst (IsStock stock) c.scale-scale.ensures.value c.scale-scale.ensures.stock in
    let kept : stored-64 c.args.tables.now.thickest ≡ c.args.tables.now.thickest = search rules in
    let t : stored-64 c.args.tables.now.thickest ≡ thickest stock = kept ∙ c.requires.tables.thickest in
    let numbers = c.items-plies.result.now in
    let fixed : numbers ≡ fixed_plies job p = c.items-plies.ensures.items ∙ c.fixed_plies-fixed.ensures.plies in
    let own-kept : stored-64 c.thickness-own.result ≡ c.thickness-own.result = search rules in
    let own : stored-64 c.thickness-own.result ≡ wall_thickness (items_of stock numbers) = own-kept ∙ c.thickness-own.ensures.value ∙ ap (λ (ns : List ItemNo). wall_thickness (items_of stock ns)) (sym c.items-plies.ensures.items) in
    let many : stored-64 c.from-many.result ≡ pos (p.n - length numbers) = search rules in
    let most-kept : stored-64 c.filled-most.result ≡ c.filled-most.result = search rules in
    let most : stored-64 c.filled-most.result ≡ most_thick stock job p = most-filled stock job p is c.requires.partial c.requires.open numbers fixed (stored-64 c.thickness-own.result) (stored-64 c.from-many.result) (stored-64 c.args.tables.now.thickest) own many (stored-64 c.filled-most.result) t (most-kept ∙ c.filled-most.ensures) in
    subst (λ (s : List Item). FitEach (stored-64 c.from-many.result) (stored-64 c.filled-most.result) s) (sym c.items.ensures.items) (numbers-fit stock job p is c.requires.partial c.requires.open numbers fixed (stored-64 c.filled-most.result) (stored-64 c.from-many.result) most many)

pub returns-clause-value : goal.returns-clause-value
returns-clause-value c =
    let stock = c.args.stock.now in
    let job = c.args.job.now in
    let p = c.args.partial.now in
    let is : IsStock stock (scale_of stock) = subst (IsStock stock) c.scale-scale.ensures.value c.scale-scale.ensures.stock in
    let kept : stored-64 c.args.tables.now.thickest ≡ c.args.tables.now.thickest = search rules in
    let t : stored-64 c.args.tables.now.thickest ≡ thickest stock = kept ∙ c.requires.tables.thickest in
    let numbers = c.items-plies.result.now in
    let fixed : numbers ≡ fixed_plies job p = c.items-plies.ensures.items ∙ c.fixed_plies-fixed.ensures.plies in
    let own-kept : stored-64 c.thickness-own.result ≡ c.thickness-own.result = search rules in
    let own : stored-64 c.thickness-own.result ≡ wall_thickness (items_of stock numbers) = own-kept ∙ c.thickness-own.ensures.value ∙ ap (λ (ns : List ItemNo). wall_thickness (items_of stock ns)) (sym c.items-plies.ensures.items) in
    let many : stored-64 c.from-many.result ≡ pos (p.n - length numbers) = search rules in
    let most-kept : stored-64 c.filled-most.result ≡ c.filled-most.result = search rules in
    let most : stored-64 c.filled-most.result ≡ most_thick stock job p = most-filled stock job p is c.requires.partial c.requires.open numbers fixed (stored-64 c.thickness-own.result) (stored-64 c.from-many.result) (stored-64 c.args.tables.now.thickest) own many (stored-64 c.filled-most.result) t (most-kept ∙ c.filled-most.ensures) in
    let kept-2 : stored-64 c.args.tables.now.thinnest ≡ c.args.tables.now.thinnest = search rules in
    let t-2 : stored-64 c.args.tables.now.thinnest ≡ thinnest stock = kept-2 ∙ c.requires.tables.thinnest in
    let least-kept : stored-64 c.filled-least.result ≡ c.filled-least.result = search rules in
    let least : stored-64 c.filled-least.result ≡ least_thick stock job p = least-filled stock job p is c.requires.partial c.requires.open numbers fixed (stored-64 c.thickness-own.result) (stored-64 c.from-many.result) (stored-64 c.args.tables.now.thinnest) own many (stored-64 c.filled-least.result) t-2 (least-kept ∙ c.filled-least.ensures) in
    let n = fix_numbers 60 in
    let e = numbers-extension stock job p is c.requires.partial c.requires.open numbers fixed (stored-64 c.filled-most.result) (stored-64 c.from-many.result) most many n c.extension_of.result
    (c.extension_of.ensures.value ∙ ap (λ (s : List Item). extension n (scale_of s).q0 (stored-64 c.filled-most.result) (items_of s numbers) (stored-64 c.from-many.result) s) c.items.ensures.items) in
    λ j. record { extension = e j; most = most j; least = least j }

pub returns-clause-shape : goal.returns-clause-shape
returns-clause-shape c =
    let stock = c.args.stock.now in
    let job = c.args.job.now in
    let p = c.args.partial.now in
    let is : IsStock stock (scale_of stock) = subst (IsStock stock) c.scale-scale.ensures.value c.scale-scale.ensures.stock in
    let laws : Lawful (fix_numbers 60) = fix_lawful 60 (search rules) in
    subst (IsShape (fix_numbers 60)) (sym (returns-clause-value c)) (shape-is stock job p is c.requires.partial c.requires.open laws)
