use Rattle.std.proofs.Common.{◌≡◌, drop}
use Rattle.pl_model.specs.Problem.{first_problem}
use Rattle.pl_model.proofs.problem.first_problem.Given as goal

abbrev pub invariant-loop-place : goal.invariant-loop-place
invariant-loop-place l = first_problem l.config 0 l.places ≡ first_problem l.config l.place (drop l.place l.places)
