use Rattle.std.proofs.lemmas.Simd.{get_or-put_chunk_below}
use Rattle.pl_lanes.proofs.Blocks.{eroded_block}
use Rattle.pl_lanes.proofs.erode_block.Goals as goal

pub returns-clause-done : goal.returns-clause-done
returns-clause-done c k from to = eroded_block c.args.below.now c.args.row.now c.args.above.now c.args.out.now c.args.at k c.requires.low c.requires.within c.requires.below c.requires.above c.requires.room from to

pub returns-clause-others : goal.returns-clause-others
returns-clause-others c k low = get_or-put_chunk_below c.args.at c.args.out.now _ k 0 low
