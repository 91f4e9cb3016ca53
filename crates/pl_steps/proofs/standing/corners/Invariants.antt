use Rattle.std.proofs.Common.{◌≡◌, map, take}
use Rattle.pl_values.specs.ObjectValues.{corner_for}
use Rattle.pl_steps.proofs.standing.corners.Given as goal

abbrev pub invariant-loop-shift : goal.invariant-loop-shift
invariant-loop-shift l = l.corners.items ≡ map corner_for (take l.shift-index l.shift-items)
