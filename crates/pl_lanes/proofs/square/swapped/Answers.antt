use Rattle.std.proofs.Common.{arith, length-set}
use Rattle.pl_lanes.proofs.TurnLemmas.{swapped_more}
use Rattle.pl_lanes.proofs.square.swapped.Goals as goal

pub loop-at-preserved : goal.loop-at-preserved
loop-at-preserved c = record {
  room = simp length-set (c.loop-at.invariant.room);
  done = swapped_more c.loop-at.out c.args.square.now c.args.by c.args.halves c.loop-at.at c.swapped_at.result (omega (arith, c.loop-at.invariant.room, c.loop-at-test.true)) c.loop-at.invariant.done c.swapped_at.ensures;
}
