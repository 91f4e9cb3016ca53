use Rattle.std.proofs.lemmas.Simd.{get_or-put_chunk_below}
use Rattle.std.specs.Prelude.{bit_and}
use Rattle.std.specs.Int.{bit_not, w64}
use Rattle.pl_lanes.proofs.Blocks.{block_word}
use Rattle.pl_lanes.proofs.minus_block.Goals as goal

pub returns-clause-done : goal.returns-clause-done
returns-clause-done c k low high = block_word bit_and (bit_not w64) c.args.row.now c.args.other.now c.args.out.now c.args.at k low high c.requires.within c.requires.same c.requires.room

pub returns-clause-others : goal.returns-clause-others
returns-clause-others c k low = get_or-put_chunk_below c.args.at c.args.out.now _ k 0 low
