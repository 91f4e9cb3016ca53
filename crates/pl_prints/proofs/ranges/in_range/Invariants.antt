use Rattle.std.proofs.Common.{take}
use Rattle.std.specs.List.{All}
use Rattle.std.specs.Option.{IfSome}
use Rattle.pl_options.specs.KeyMap.{IsOverrides}
use Rattle.pl_prints.proofs.ranges.in_range.Given as goal

abbrev pub invariant-loop-place : goal.invariant-loop-place
invariant-loop-place l = All (λ place. IfSome place (λ object. IsOverrides object.overrides)) (take l.place-index l.plate.places)
