use Rattle.std.proofs.Common.{◌∙◌}
use Rattle.std.specs.Prelude.{◌&&◌}
use Rattle.pl_keys.specs.Keys.{is_object_key}
use Rattle.pl_model.specs.Effective.{effective}
use Rattle.pl_cascade.specs.Direct.{option_touches, options_touch}
use Rattle.pl_cascade.proofs.Searches.{all_keys}
use Rattle.pl_cascade.proofs.options.options_steps.Goals as goal

pub returns : goal.returns
unfolding options_touch
returns c step =
    c.loop-key.invariant step
    ∙ all_keys (λ key. is_object_key key && option_touches (effective c.args.old.now c.args.place) (effective c.args.new.now c.args.place) step key) c.all_keys-key-items.result.now c.loop-key.key-index c.all_keys-key-items.ensures c.loop-key-test.false
