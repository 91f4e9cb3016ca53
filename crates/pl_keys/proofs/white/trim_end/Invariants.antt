use Rattle.std.proofs.Common.{◌≡◌, length}
use Rattle.pl_keys.specs.Trim.{without_white_after}
use Rattle.pl_keys.proofs.white.trim_end.Given as goal

abbrev pub invariant-loop-rest : goal.invariant-loop-rest
invariant-loop-rest l = without_white_after l.text ≡ without_white_after l.rest

abbrev pub decreases-loop-rest : goal.decreases-loop-rest
decreases-loop-rest l = length l.rest
