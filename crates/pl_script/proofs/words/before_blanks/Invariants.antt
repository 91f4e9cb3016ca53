use Rattle.std.proofs.Common.{◌≡◌, length}
use Rattle.pl_script.specs.Lines.{before_blanks}
use Rattle.pl_script.proofs.words.before_blanks.Given as goal

abbrev pub invariant-loop-rest : goal.invariant-loop-rest
invariant-loop-rest l = before_blanks l.text ≡ before_blanks l.rest

abbrev pub decreases-loop-rest : goal.decreases-loop-rest
decreases-loop-rest l = length l.rest
