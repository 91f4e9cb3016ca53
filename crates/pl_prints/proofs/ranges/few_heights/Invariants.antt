use Rattle.std.proofs.Common.{◌≤◌, ◌*◌, length, take}
use Rattle.std.specs.List.{flat_map, filter_map}
use Rattle.pl_values.specs.PrintValues.{tops_for}
use Rattle.pl_prints.proofs.ranges.few_heights.Given as goal

abbrev pub invariant-loop-place : goal.invariant-loop-place
invariant-loop-place l = length (flat_map (tops_for l.plate.config) (filter_map (λ place. place) (take l.place-index l.plate.places))) ≤ 100000 * l.place-index
