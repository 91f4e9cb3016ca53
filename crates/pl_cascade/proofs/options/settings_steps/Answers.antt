use Rattle.std.proofs.Common.{◌∙◌}
use Rattle.std.specs.Prelude.{◌&&◌, not}
use Rattle.pl_keys.specs.Keys.{is_object_key}
use Rattle.std.specs.FinMap.{get}
use Rattle.pl_cascade.specs.Direct.{option_touches, settings_touch}
use Rattle.pl_cascade.proofs.Searches.{all_keys}
use Rattle.pl_cascade.proofs.options.settings_steps.Goals as goal

pub returns : goal.returns
unfolding settings_touch
returns c step =
    c.loop-key.invariant step
    ∙ all_keys (λ key. not (is_object_key key) && option_touches (get c.args.old.now) (get c.args.new.now) step key) c.all_keys-key-items.result.now c.loop-key.key-index c.all_keys-key-items.ensures c.loop-key-test.false
