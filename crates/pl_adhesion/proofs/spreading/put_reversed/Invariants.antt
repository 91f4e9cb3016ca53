use Rattle.std.proofs.Common.{◌≡◌, ◌++◌, reverse, vec_len}
use Rattle.pl_adhesion.proofs.spreading.put_reversed.Given as goal

abbrev pub invariant-loop-last : goal.invariant-loop-last
invariant-loop-last l = l.found.items ++ reverse l.loops.items ≡ l.initial.found.items ++ reverse l.initial.loops.items

abbrev pub decreases-loop-last : goal.decreases-loop-last
decreases-loop-last l = vec_len l.loops
