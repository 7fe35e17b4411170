use Rattle.std.proofs.Common.{inl, inr, refl, sym}
use Rattle.laminate.proofs.ScheduleFacts.{is_schedule}
use Rattle.laminate.proofs.modes.analyse.analysis_of.Goals as goal

pub first_out-requires : goal.first_out-requires
first_out-requires c =
    is_schedule c.args.input.stock c.args.input.job c.args.schedule.now c.in-Ok.listed c.requires (sym c.in-Ok.ensures)

pub ratios-requires-clause-schedule : goal.ratios-requires-clause-schedule
ratios-requires-clause-schedule c =
    is_schedule c.args.input.stock c.args.input.job c.args.schedule.now c.in-Ok.listed c.requires (sym c.in-Ok.ensures)

pub returns-in-Err : goal.returns-in-Err
returns-in-Err c = (c.in-Err.fault, inl (sym c.in-Err.ensures), refl)

pub returns-in-Some : goal.returns-in-Some
returns-in-Some c = (_, inr (c.in-Ok.listed, c.in-Some.case, sym c.in-Ok.ensures, c.in-Some.ensures.first, refl), refl)

pub returns-in-Ok-new : goal.returns-in-Ok-new
returns-in-Ok-new c = (
  refl,
  sym c.in-Ok.ensures,
  record {
    schedule = is_schedule c.args.input.stock c.args.input.job c.args.schedule.now c.in-Ok.listed c.requires (sym c.in-Ok.ensures);
    range = c.in-None.ensures.none;
    printed = c.ratios.ensures.so;
  },
)
