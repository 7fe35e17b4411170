-- The plies that a schedule word lists: 1 to 56, each of the catalogue.
use Rattle.std.proofs.Common.{◌≡◌, ℕ, suc, ◌+◌, ◌≤◌, Bool, true, false, cond, List, [], ◌∷◌, length, Option, Some, None, Ok, Err, refl, ap, subst, arith, nat_lt}
use Rattle.std.specs.Prelude.{filter_map, count_by, is_none, if◌then◌else◌, ◌==◌}
use Rattle.std.specs.List.{cons_option, position_from}
use Rattle.std.proofs.lemmas.Bool.Decides.{nat_tests}
use Rattle.std.proofs.lemmas.List.Splits.{length-slice_split}
use Rattle.lam_stock.specs.declared.item.Item.{Item}
use Rattle.lam_stock.specs.declared.item.ItemNo.{ItemNo}
use Rattle.lam_stock.specs.Stock.{IsKnown}
use Rattle.lam_job.specs.declared.limits.TheConstants.{MOST_PLIES}
use Rattle.lam_job.specs.JobData.{JobData}
use Rattle.lam_job.specs.JobOf.{item_named}
use Rattle.lam_job.specs.Schedule.{IsJobFor}
use Rattle.laminate.specs.declared.fault.ScheduleFault.TheVariants.{Many}
use Rattle.laminate.specs.Schedule.{is_unknown, names_of, plies_named, schedule_of, settled}
use Rattle.lam_judge.specs.Judgements.{IsSchedule}
use Rattle.laminate.proofs.JobFor.{all_ones, named_is_one}

-- names that are all known give as many plies
one_more : (stock : List Item) (o : Option ItemNo) (number : ℕ) (names : List (List ℕ))
    → cond (is_none o) (Some number) (position_from (is_unknown stock) (number + 1) names) ≡ None
    → (position_from (is_unknown stock) (number + 1) names ≡ None
    → length (filter_map (item_named stock) names) ≡ length names)
    → length (cons_option o (filter_map (item_named stock) names)) ≡ suc (length names)
one_more stock None number names e more = cc
one_more stock (Some i) number names e more = ap suc (more e)

as_many : (stock : List Item) (number : ℕ) (names : List (List ℕ)) → position_from (is_unknown stock) number names ≡ None
    → length (filter_map (item_named stock) names) ≡ length names
as_many stock number [] e = refl
as_many stock number (name ∷ names) e = one_more stock (item_named stock name) number names e (as_many stock (number + 1) names)

settled_ok : (o : Option ℕ) (plies listed : List ItemNo) → settled o plies ≡ Ok listed → (o ≡ None) × (plies ≡ listed)
settled_ok None plies listed e = let same : plies ≡ listed = cc in (refl, same)
settled_ok (Some number) plies listed e = cc

-- what is said of listed plies
pub record AreListed (stock : List Item) (listed : List ItemNo) : Type 0 where
  pub some : 1 ≤ length listed
  pub few : length listed ≤ MOST_PLIES
  pub known : IsKnown stock listed

of_names : (stock : List Item) (word : List ℕ) (listed : List ItemNo) → length (names_of word) ≤ MOST_PLIES
    → plies_named stock (names_of word) ≡ Ok listed → AreListed stock listed
of_names stock word listed few e =
    let names = names_of word in
    let (none, is) = settled_ok (position_from (is_unknown stock) 1 names) (filter_map (item_named stock) names) listed e in
    let long : length (filter_map (item_named stock) names) ≡ length names = as_many stock 1 names none in
    let number : length names ≡ count_by (λ c. c == 44) word + 1 = length-slice_split (λ c. c == 44) word in
    subst (λ (l : List ItemNo). AreListed stock l) is (
    record {
      some = omega (arith, long, number);
      few = omega (arith, long, few);
      known = all_ones stock (item_named stock) (named_is_one stock) names;
    }
    )

by_number : (stock : List Item) (word : List ℕ) (listed : List ItemNo) (test : Bool) → nat_lt MOST_PLIES (length (names_of word)) ≡ test
    → (if test then Err Many else plies_named stock (names_of word)) ≡ Ok listed → AreListed stock listed
by_number stock word listed true is e = cc
by_number stock word listed false is e = of_names stock word listed (not_more (length (names_of word)) is) e
  where
    not_more : (n : ℕ) → nat_lt MOST_PLIES n ≡ false → n ≤ MOST_PLIES
    not_more n h = grind (arith, nat_tests)

pub are_listed : (stock : List Item) (word : List ℕ) (listed : List ItemNo) → schedule_of stock word ≡ Ok listed → AreListed stock listed
unfolding schedule_of
are_listed stock [] listed e = cc
are_listed stock (c ∷ word) listed e = by_number stock (c ∷ word) listed (nat_lt MOST_PLIES (length (names_of (c ∷ word)))) refl e

pub is_schedule : (stock : List Item) (job : JobData) (word : List ℕ) (listed : List ItemNo) → IsJobFor stock job
    → schedule_of stock word ≡ Ok listed → IsSchedule stock job listed
is_schedule stock job word listed for e =
    let l = are_listed stock word listed e in record { job_for = for; some = l.some; few = l.few; known = l.known }
