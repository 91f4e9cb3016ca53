use Rattle.std.proofs.Common.{◌≡◌, map, take}
use Rattle.std.specs.Option.{option_map}
use Rattle.pl_whole.specs.Printed.{printed_for}
use Rattle.pl_whole.proofs.objects.printed_objects.Given as goal

abbrev pub invariant-loop-place : goal.invariant-loop-place
invariant-loop-place l = l.objects.items ≡ map (option_map (printed_for l.plate.config)) (take l.place-index l.place-items)
