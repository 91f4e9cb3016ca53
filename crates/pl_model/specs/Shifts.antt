-- Shifts of instances.
use Rattle.std.specs.Prelude.{pos}
use Rattle.pl_units.specs.declared.Nm.{Nm}
use Rattle.pl_model.specs.declared.instances.Shift.{Shift}

abbrev pub shift_of : Nm → Nm → Shift
shift_of x y = record { x = x; y = y }

abbrev pub origin : Shift
origin = shift_of (record { 0 = pos 0 }) (record { 0 = pos 0 })
