use Rattle.std.proofs.Common.{Some, None}
use Rattle.std.specs.FinMap as map
use Rattle.pl_keys.specs.Values.{default_of}
use Rattle.pl_options.specs.KeyMap.{Fits}
use Rattle.pl_options.proofs.Rounds.{Done}
use Rattle.pl_options.proofs.config.Config.defaults.Given as goal

abbrev pub invariant-loop-key : goal.invariant-loop-key
invariant-loop-key l = record {
  round : Done (map.get l.values) (λ q. Some (default_of q)) (λ _. None) l.key-index;
  fits : Fits l.values;
}
