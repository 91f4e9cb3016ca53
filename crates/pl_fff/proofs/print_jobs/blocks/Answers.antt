use Rattle.std.proofs.Common.{◌∙◌, ap}
use Rattle.pl_values.specs.PrintValues.{block_for}
use Rattle.pl_prints.specs.Rounds.{block_in}
use Rattle.pl_steps.proofs.Each.{each_more}
use Rattle.pl_fff.proofs.print_jobs.blocks.Goals as goal

pub loop-change-preserved : goal.loop-change-preserved
loop-change-preserved c =
    each_more c.loop-change.change (block_for c.args.plate.now) c.loop-change.lists.items c.push.new.self.items c.of.result c.loop-change.invariant
    (c.of.ensures ∙ c.in_ok-tower.ensures.value ∙ ap (λ config. block_in config c.loop-change.change) c.config.ensures) c.in_ok-push.ensures.items
