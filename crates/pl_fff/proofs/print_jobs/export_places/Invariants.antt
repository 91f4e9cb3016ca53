use Rattle.std.proofs.Common.{◌≡◌, map, take}
use Rattle.std.specs.Option.{option_map}
use Rattle.pl_parts.specs.Parts.{object_data}
use Rattle.pl_fff.proofs.print_jobs.export_places.Given as goal

abbrev pub invariant-loop-number : goal.invariant-loop-number
invariant-loop-number l = l.parts.items ≡ map (option_map (object_data l.plate.config)) (take l.number l.plate.places)
