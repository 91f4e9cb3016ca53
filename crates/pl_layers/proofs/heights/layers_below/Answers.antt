use Rattle.std.proofs.Common.{arith}
use Rattle.pl_layers.proofs.Samples.{count_exact}
use Rattle.pl_layers.proofs.heights.layers_below.Goals as goal

pub returns-clause-exact : goal.returns-clause-exact
returns-clause-exact c = λ k. rw c.saturating_sub-room.ensures (count_exact c.args.first c.args.height c.args.tall k (omega arith) (omega arith))
