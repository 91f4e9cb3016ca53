use Rattle.std.proofs.Common.{Some, None}
use Rattle.pl_model.proofs.Printing.{told_computed, computed_told}
use Rattle.pl_model.proofs.laws.the_least_place_has_the_problem.Goals as goal

pub returns-clause-problem : goal.returns-clause-problem
returns-clause-problem c = λ plate problem. (computed_told plate (Some problem), told_computed plate (Some problem))

pub returns-clause-none : goal.returns-clause-none
returns-clause-none c = λ plate. (computed_told plate None, told_computed plate None)
