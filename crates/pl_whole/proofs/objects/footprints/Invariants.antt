use Rattle.std.proofs.Common.{◌≡◌, take}
use Rattle.std.specs.List.{filter_map}
use Rattle.std.specs.Option.{option_map}
use Rattle.pl_whole.specs.Printed.{footprint_of}
use Rattle.pl_whole.proofs.objects.footprints.Given as goal

abbrev pub invariant-loop-place : goal.invariant-loop-place
invariant-loop-place l = l.footprints.items ≡ filter_map (option_map footprint_of) (take l.place-index l.objects)
