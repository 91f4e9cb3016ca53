use Rattle.std.proofs.Common.{◌∙◌}
use Rattle.pl_prints.specs.Rounds.{block_in}
use Rattle.pl_steps.proofs.Each.{each_more}
use Rattle.pl_whole.proofs.around.blocks.Goals as goal

pub loop-change-preserved : goal.loop-change-preserved
loop-change-preserved c = each_more c.loop-change.change (block_in c.args.config.now) c.loop-change.blocks.items c.push.new.self.items c.of.result c.loop-change.invariant (c.of.ensures ∙ c.in_ok-tower.ensures.value) c.in_ok-push.ensures.items
