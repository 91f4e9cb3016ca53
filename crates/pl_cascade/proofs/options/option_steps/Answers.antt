use Rattle.std.proofs.lemmas.Bool.{both_ways}
use Rattle.pl_model.specs.Effective.{effective}
use Rattle.pl_cascade.proofs.Differing.{same_touches, other_touches}
use Rattle.pl_cascade.proofs.options.option_steps.Goals as goal

pub returns-then-same : goal.returns-then-same
returns-then-same c step =
    same_touches (effective c.args.old.now c.args.place) (effective c.args.new.now c.args.place) step c.args.key _ _ _ c.effective.ensures.value c.effective-2.ensures.value (c.same.ensures.0 c.if-same.true) (c.empty.ensures step)

pub returns-else-same : goal.returns-else-same
returns-else-same c step =
    other_touches (effective c.args.old.now c.args.place) (effective c.args.new.now c.args.place) step c.args.key _ _ _ c.effective.ensures.value c.effective-2.ensures.value (λ e. both_ways _ c.if-same.false (c.same.ensures.1 e)) (c.direct_steps.ensures step)
