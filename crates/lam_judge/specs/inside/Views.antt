-- What the model of the room of printed ratios shows of its fields.
use Rattle.std.specs.Prelude.{if◌then◌else◌, Some, None}
use Rattle.lam_judge.specs.declared.room.Room.TheInside as room
use Rattle.lam_judge.specs.Printed.{Printed}

abbrev pub printed_in : room.Inside → Printed
printed_in r = record { plies = r.plies; ratios = r.ratios.items; panels = if r.is_fit then Some r.panels.items else None }
