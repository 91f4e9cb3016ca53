use Rattle.pl_bounds.proofs.Calls.{calls_are_commands}
use Rattle.pl_bounds.proofs.laws.calls_are_the_commands.Goals as goal

pub returns : goal.returns
returns g c = λ commands workers history done. calls_are_commands g.T.Technology.meaning commands workers history done
