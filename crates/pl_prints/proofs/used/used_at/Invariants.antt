use Rattle.std.proofs.Common.{◌≡◌, ℕ, take}
use Rattle.pl_tower.specs.Tools.{has, IsToolSet}
use Rattle.pl_prints.specs.Layers.{has_printed}
use Rattle.pl_prints.proofs.used.used_at.Given as goal

abbrev pub invariant-loop-object : goal.invariant-loop-object
invariant-loop-object l = IsToolSet l.set × ((tool : ℕ) → has l.set tool ≡ has_printed (take l.object-index l.objects) l.top.0 tool)
