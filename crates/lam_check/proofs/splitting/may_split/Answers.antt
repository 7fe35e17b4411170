use Rattle.std.proofs.Common.{◌≡◌, sym, ◌∙◌, ap, not, true, false}
use Rattle.lam_tree.specs.Closings.{MayBox}
use Rattle.lam_tree.specs.ForceBalance.{IsShort}
use Rattle.lam_bounds.specs.inside.Computed.{capacity_value}
use Rattle.lam_boxes.specs.inside.Boxes.{boxed}
use Rattle.lam_check.proofs.Options.{is_none_by, tests_none}
use Rattle.lam_check.proofs.Tried.{found_is_one, found_box_is_one, never_false}
use Rattle.lam_check.proofs.splitting.may_split.Goals as goal

pub returns-then-is_some : goal.returns-then-is_some
returns-then-is_some c = (
  (λ it. absurd (let n : false ≡ true = it in cc)),
  (λ may. absurd (found_is_one c.args.job.now.cases
      (λ case w. IsShort c.args.stock.now c.args.job.now c.args.partial.now case w (λ i. capacity_value i w))
      c.first_short.result (sym c.is_some.ensures ∙ c.if-is_some.true) c.first_short.ensures.some c.first_short.ensures.tried
      (λ k case is. (may.cases k case is).carried))),
)

pub returns-then-not-is_cheap : goal.returns-then-not-is_cheap
returns-then-not-is_cheap c = (
  (λ it. absurd (let n : false ≡ true = it in cc)),
  (λ may. absurd (let n : true ≡ false = sym (c.is_cheap.ensures.1 (λ k case is. (may.cases k case is).cheap)) ∙ c.if-not-is_cheap.true in cc)),
)

pub returns : goal.returns
returns c =
    let none = tests_none c.first_box.result c.is_none.result c.is_none.ensures in (
      (λ it. record {
        lawful = c.is_lawful.ensures.0 c.if-not-is_lawful.false;
        cases = λ k case is. record {
          carried = c.first_short.ensures.none (is_none_by c.first_short.result c.is_some.result c.is_some.ensures c.if-is_some.false) k case is;
          cheap = c.is_cheap.ensures.0 c.if-not-is_cheap.false k case is;
          unboxed = c.first_box.ensures.none (none.0 it) k case is;
        };
      }),
      (λ may. never_false c.is_none.result (λ some. found_box_is_one c.args.job.now.cases (MayBox c.args.job.now)
          (boxed c.args.stock.now c.args.job.now c.args.partial.now) c.first_box.result (c.is_none.ensures ∙ ap not some)
          c.first_box.ensures.some (λ k case is. (may.cases k case is).unboxed))),
    )
