use Rattle.std.proofs.Common.{sym, ◌∙◌, ap, ap₂, subst, subst₂, ◌+◌, ◌*◌, ◌/◌, ◌^◌, ◌≤◌, pos, unsigned_abs}
use Rattle.lam_fraction.specs.Fraction.{whole, fraction, ◌+ℚ◌, ◌*ℚ◌, ◌≤ℚ◌}
use Rattle.lam_stock.proofs.StrengthBounds.{strengths_kept}
use Rattle.lam_direction.specs.Squares.{AreWithinSize}
use Rattle.lam_support.specs.Carried.{CarriesAtMost}
use Rattle.lam_support.specs.inside.Formulas as by
use Rattle.lam_support.specs.inside.Known.{OnCircle}
use Rattle.lam_support.proofs.Sides.{fixed}
use Rattle.lam_support.proofs.CapacityFacts.{circle_of, other_circle, bound, near, at_least_one, carried_fits, divisor_positive, other_size, stored_result, stored_size, stored_thickness, thin}
use Rattle.lam_support.proofs.item.capacity.Goals as goal

pub side-first-requires-clause-circle : goal.side-first-requires-clause-circle
side-first-requires-clause-circle c = subst OnCircle (sym c.squares-squares.ensures.value) (circle_of c.args.item.now.dir c.requires.direction)

pub side-second-requires-clause-circle : goal.side-second-requires-clause-circle
side-second-requires-clause-circle c =
    subst OnCircle (sym (c.other_side-other.ensures.value ∙ ap (by.other_side c.args.item.now.kind) c.squares-squares.ensures.value))
    (other_circle c.args.item.now.kind _ (circle_of c.args.item.now.dir c.requires.direction))

pub force-requires-clause-positive : goal.force-requires-clause-positive
force-requires-clause-positive c =
    let d = c.args.item.now.dir in
    let h = strengths_kept c.requires.limits in
    let least = c.requires.limits.range.rest.least_t in
    let squares = c.squares-squares.ensures.value in
    let within = subst AreWithinSize squares c.squares-squares.ensures.within in
    let rest = stored_result (record { sfits = c.low.type_inv }) ∙ c.low.ensures ∙ ap (λ s. fixed.low s.rest) c.surface_of-surface.ensures.value in
    let size = stored_size c.squares-squares.ensures.within ∙ ap (λ t. t.size) squares in
    let is = c.divisor.ensures ∙ (λ i. 1000 * unsigned_abs (size i) * (unsigned_abs (rest i) / 1024)) in
    subst (λ n. 1 ≤ n) (sym is) (divisor_positive h least c.args.w.now c.requires.direction within)

pub force-requires-clause-small : goal.force-requires-clause-small
force-requires-clause-small c =
    let l = c.args.item.now.lamina in
    let k = c.args.item.now.kind in
    let h = strengths_kept c.requires.limits in
    let range = c.requires.limits.range.rest in
    let squares = c.squares-squares.ensures.value in
    let within = subst AreWithinSize squares c.squares-squares.ensures.within in
    let other = c.other_side-other.ensures.value ∙ ap (by.other_side k) squares in
    let rest = stored_result (record { sfits = c.low.type_inv }) ∙ c.low.ensures ∙ ap (λ s. fixed.low s.rest) c.surface_of-surface.ensures.value in
    let size = stored_size c.squares-squares.ensures.within ∙ ap (λ t. t.size) squares in
    let divisor = c.divisor.ensures ∙ (λ i. 1000 * unsigned_abs (size i) * (unsigned_abs (rest i) / 1024)) in
    let carried = c.carried.ensures ∙ ap (λ z. unsigned_abs z * (c.side-first.result + c.side-second.result)) (stored_thickness range.least_t range.greatest_t) in
    let one = subst (λ z. c.side-first.result ≤ ((600 * unsigned_abs z) * 5000000) * 2 ^ 52) (ap (λ t. t.size) squares) c.side-first.ensures.part in
    let two = subst (λ z. c.side-second.result ≤ ((600 * unsigned_abs z) * 5000000) * 2 ^ 52) (ap (λ t. t.size) other ∙ other_size k _) c.side-second.ensures.part in
    subst₂ (λ n m. n ≤ 2 ^ 60 * m) (sym carried) (sym divisor) (carried_fits h range.least_t c.args.w.now c.requires.direction within c.side-first.result c.side-second.result (thin range.least_t range.greatest_t) one two)

pub returns-clause-value : goal.returns-clause-value
returns-clause-value c =
    let l = c.args.item.now.lamina in
    let k = c.args.item.now.kind in
    let range = c.requires.limits.range.rest in
    let squares = c.squares-squares.ensures.value in
    let other = c.other_side-other.ensures.value ∙ ap (by.other_side k) squares in
    let rest = stored_result (record { sfits = c.low.type_inv }) ∙ c.low.ensures ∙ ap (λ s. fixed.low s.rest) c.surface_of-surface.ensures.value in
    let size = stored_size c.squares-squares.ensures.within ∙ ap (λ t. t.size) squares in
    let divisor = c.divisor.ensures ∙ (λ i. 1000 * unsigned_abs (size i) * (unsigned_abs (rest i) / 1024)) in
    let one = c.side-first.ensures.value ∙ ap (λ t. by.side fixed l t c.args.w.now) squares in
    let two = c.side-second.ensures.value ∙ ap (λ t. by.side fixed l t c.args.w.now) other in
    let carried = c.carried.ensures ∙ (λ i. unsigned_abs (stored_thickness range.least_t range.greatest_t i) * (one i + two i)) in
    c.force.ensures ∙ ap₂ by.up carried divisor

pub returns-clause-least : goal.returns-clause-least
returns-clause-least c =
    let within = subst AreWithinSize c.squares-squares.ensures.value c.squares-squares.ensures.within in
    subst (λ n. 1 ≤ n) (sym (returns-clause-value c)) (at_least_one (strengths_kept c.requires.limits) c.requires.limits.range.rest.least_t c.args.w.now c.requires.direction within c.args.item.now.kind)

pub returns-clause-bound : goal.returns-clause-bound
returns-clause-bound c =
    let i = c.args.item.now in
    let within = subst AreWithinSize c.squares-squares.ensures.value c.squares-squares.ensures.within in
    subst (λ n. CarriesAtMost i.kind i.lamina i.dir c.args.w.now (whole (pos n))) (sym (returns-clause-value c))
    (bound (strengths_kept c.requires.limits) c.requires.limits.range.rest.least_t c.args.w.now c.requires.direction within i.kind)

pub returns-clause-near : goal.returns-clause-near
returns-clause-near c = λ v most.
    let within = subst AreWithinSize c.squares-squares.ensures.value c.squares-squares.ensures.within in
    subst (λ n. whole (pos n) ≤ℚ fraction (pos 1001) (pos 1000) *ℚ v +ℚ whole (pos 2)) (sym (returns-clause-value c))
    (near (strengths_kept c.requires.limits) c.requires.limits.range.rest.least_t c.args.w.now c.requires.direction within c.args.item.now.kind v most)
