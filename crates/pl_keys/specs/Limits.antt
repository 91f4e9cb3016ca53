-- What the code keeps of a row.
use Rattle.pl_keys.specs.declared.table.Limits.{Limits}
use Rattle.pl_keys.specs.Table.{Row}

abbrev pub limits : Row → Limits
limits row = record { least = row.least; greatest = row.greatest; default = row.default }
