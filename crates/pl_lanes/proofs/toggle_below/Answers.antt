use Rattle.std.proofs.Common.{◌*◌, ◌/◌, ◌<◌, ◌≤◌, arith}
use Rattle.pl_lanes.proofs.ToggleLemmas.{toggled_done, toggled_each}
use Rattle.pl_lanes.proofs.toggle_below.Goals as goal

pub returns-else-left-gt0 : goal.returns-else-left-gt0
returns-else-left-gt0 c k within =
    let few : c.args.x ≤ 64 * c.loop-at.at = omega (arith, c.if-left-gt0.false) in
    toggled_each c.args.row.now c.loop-at.row c.loop-at.at c.args.x k c.loop-at.invariant.done c.loop-at.invariant.rest few

pub returns-after-loop-at : goal.returns-after-loop-at
returns-after-loop-at c k within =
    let word : k / 64 < c.loop-at.at = omega (arith, c.loop-at-test.false, c.loop-at.auto.row) in
    toggled_done c.args.row.now c.loop-at.row c.loop-at.at c.args.x k c.loop-at.invariant.done word
