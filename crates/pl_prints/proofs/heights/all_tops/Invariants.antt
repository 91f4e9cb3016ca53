use Rattle.std.proofs.Common.{◌≡◌, ◌≤◌, ◌*◌, length, take}
use Rattle.std.specs.List.{flat_map}
use Rattle.pl_prints.specs.Layers.{tops_in}
use Rattle.pl_prints.proofs.heights.all_tops.Given as goal

abbrev pub invariant-loop-object : goal.invariant-loop-object
invariant-loop-object l = (length l.tops.items ≤ 100000 * l.object-index) × (l.tops.items ≡ flat_map tops_in (take l.object-index l.objects))
