use Rattle.std.proofs.Common.{◌≡◌, map}
use Rattle.std.specs.List.{range_with_len}
use Rattle.pl_prints.specs.Rounds.{block_in}
use Rattle.pl_whole.proofs.around.blocks.Given as goal

abbrev pub invariant-loop-change : goal.invariant-loop-change
invariant-loop-change l = l.blocks.items ≡ map (block_in l.config) (range_with_len 0 l.change)
