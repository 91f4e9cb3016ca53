use Rattle.std.proofs.Common.{◌≡◌, map, take}
use Rattle.std.specs.Option.{option_map}
use Rattle.pl_whole.specs.Printed.{data_in}
use Rattle.pl_whole.proofs.objects.all_parts.Given as goal

abbrev pub invariant-loop-place : goal.invariant-loop-place
invariant-loop-place l = l.parts.items ≡ map (option_map data_in) (take l.place-index l.objects)
