use Rattle.std.proofs.Common.{◌≡◌, ℕ, take}
use Rattle.std.specs.Prelude.{◌&&◌}
use Rattle.std.specs.List.{list_any}
use Rattle.pl_keys.specs.Keys.{keys, is_object_key}
use Rattle.pl_keys.specs.Steps.{has}
use Rattle.pl_model.specs.Effective.{effective}
use Rattle.pl_cascade.specs.Direct.{option_touches}
use Rattle.pl_cascade.proofs.options.options_steps.Given as goal

abbrev pub invariant-loop-key : goal.invariant-loop-key
invariant-loop-key l = (step : ℕ) → has l.steps step ≡ list_any (λ key. is_object_key key && option_touches (effective l.old l.place) (effective l.new l.place) step key) (take l.key-index keys)
