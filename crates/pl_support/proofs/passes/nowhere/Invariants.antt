use Rattle.std.proofs.Common.{◌≡◌, false, map}
use Rattle.std.specs.List.{range_with_len}
use Rattle.pl_support.specs.Support.{support_at}
use Rattle.pl_support.proofs.passes.nowhere.Given as goal

abbrev pub invariant-loop-k : goal.invariant-loop-k
invariant-loop-k l = l.planes.items ≡ map (support_at false false l.slices) (range_with_len 0 l.k)
