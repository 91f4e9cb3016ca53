use Rattle.std.proofs.Common.{◌≡◌, ℕ, take}
use Rattle.std.specs.Prelude.{◌&&◌, not}
use Rattle.std.specs.List.{list_any}
use Rattle.pl_keys.specs.Keys.{keys, is_object_key}
use Rattle.pl_keys.specs.Steps.{has}
use Rattle.std.specs.FinMap.{get}
use Rattle.pl_cascade.specs.Direct.{option_touches}
use Rattle.pl_cascade.proofs.options.settings_steps.Given as goal

abbrev pub invariant-loop-key : goal.invariant-loop-key
invariant-loop-key l = (step : ℕ) → has l.steps step ≡ list_any (λ key. not (is_object_key key) && option_touches (get l.old) (get l.new) step key) (take l.key-index keys)
