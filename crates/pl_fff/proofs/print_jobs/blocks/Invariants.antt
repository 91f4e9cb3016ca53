use Rattle.std.proofs.Common.{◌≡◌}
use Rattle.pl_values.specs.PrintValues.{block_for}
use Rattle.pl_steps.specs.Layers.{each}
use Rattle.pl_fff.proofs.print_jobs.blocks.Given as goal

abbrev pub invariant-loop-change : goal.invariant-loop-change
invariant-loop-change l = l.lists.items ≡ each l.change (block_for l.plate)
