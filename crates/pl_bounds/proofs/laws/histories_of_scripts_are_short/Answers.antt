use Rattle.std.proofs.Common.{arith}
use Rattle.pl_bounds.proofs.Once.{few_rises}
use Rattle.pl_bounds.proofs.Short.{short}
use Rattle.pl_bounds.proofs.Calls.{few_calls, changes_are_calls}
use Rattle.pl_bounds.proofs.laws.histories_of_scripts_are_short.Goals as goal

pub returns : goal.returns
returns g c = record {
  entries = λ script history few done.
      let most = short g.T.Technology.meaning g.met.T.Technology.laws history done.legal in
      let calls = few_calls g.T.Technology.meaning script history done in
      omega (arith, most, calls, changes_are_calls history, few);
  epochs = λ script history slot few done.
      let most = few_rises g.T.Technology.meaning g.met.T.Technology.laws history slot done.legal in
      let calls = few_calls g.T.Technology.meaning script history done in
      omega (arith, most, calls, changes_are_calls history, few);
}
