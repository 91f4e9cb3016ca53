use Rattle.std.proofs.Common.{None}
use Rattle.std.specs.FinMap as map
use Rattle.pl_options.proofs.Rounds.{Done}
use Rattle.pl_options.proofs.values.Values.copied.Given as goal

abbrev pub invariant-loop-key : goal.invariant-loop-key
invariant-loop-key l = Done (map.get l.copy) (map.get l.self) (λ _. None) l.key-index
