use Rattle.std.proofs.Common.{None}
use Rattle.std.specs.FinMap as map
use Rattle.std.specs.Option.{option_or}
use Rattle.pl_options.proofs.Rounds.{Done}
use Rattle.pl_options.proofs.config.Config.put_all.Given as goal

abbrev pub invariant-loop-key : goal.invariant-loop-key
invariant-loop-key l = record {
  config : Done (map.get l.self) (λ q. option_or (map.get l.fn.set.values q) (map.get l.fn.self q)) (map.get l.fn.self) l.key-index;
  rest : Done (map.get l.rest) (λ _. None) (map.get l.fn.set.values) l.key-index;
}
