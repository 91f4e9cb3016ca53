use Rattle.std.proofs.Common.{◌≤◌, ◌-◌, length}
use Rattle.pl_layers.specs.Near.{AllClose}
use Rattle.pl_layers.specs.Sweeps.{AreLeft}
use Rattle.pl_layers.proofs.sweep.take_in.Given as goal

abbrev pub invariant-loop-next : goal.invariant-loop-next
invariant-loop-next l = (l.next ≤ length l.order) × AllClose l.active.items × AreLeft l.quarter l.facets l.z.0 l.order l.next l.active.items

abbrev pub decreases-loop-next : goal.decreases-loop-next
decreases-loop-next l = length l.order - l.next
