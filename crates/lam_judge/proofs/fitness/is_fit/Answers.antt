use Rattle.std.proofs.Common.{◌≡◌, sym, ◌∙◌, subst, true, false, All}
use Rattle.lam_job.specs.Rules.{IsPalindrome, IsSlanted}
use Rattle.lam_job.specs.Schedule.{items_of}
use Rattle.lam_judge.proofs.fitness.is_fit.Goals as goal

pub returns : goal.returns
returns c =
    let same = c.items-plies.ensures.items in (
      (λ t. record {
        liner = λ carries. let e : false ≡ true = sym c.if-liner_carries.false ∙ c.liner_carries.ensures.1 carries in cc;
        symmetric = subst IsPalindrome same (c.is_palindrome.ensures.0 c.if-not-is_palindrome.false);
        straight = subst (λ plies. All (λ i. ¬ IsSlanted i) (items_of c.args.stock.now plies)) same (c.is_straight.ensures.0 t);
      }),
      (λ fit. c.is_straight.ensures.1 (subst (λ plies. All (λ i. ¬ IsSlanted i) (items_of c.args.stock.now plies)) (sym same) fit.straight)),
    )
