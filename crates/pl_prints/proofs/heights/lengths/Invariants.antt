use Rattle.std.proofs.Common.{◌≡◌, map, take}
use Rattle.pl_prints.specs.Heights.{nm_of}
use Rattle.pl_prints.proofs.heights.lengths.Given as goal

abbrev pub invariant-loop-number : goal.invariant-loop-number
invariant-loop-number l = l.lengths.items ≡ map nm_of (take l.number-index l.numbers)
