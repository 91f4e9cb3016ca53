use Rattle.std.proofs.Common.{arith}
use Rattle.pl_steps.proofs.Beds.{on_bed}
use Rattle.pl_steps.proofs.standing.corners.Goals as goal

pub corner_of-requires : goal.corner_of-requires
corner_of-requires c = on_bed c.args.object.now c.shifts-shift-items.result.now c.loop-shift.shift-index _ c.shifts-shift-items.ensures.shifts c.requires (omega arith)
