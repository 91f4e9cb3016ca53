use Rattle.std.proofs.Common.{◌≡◌, map, take}
use Rattle.pl_values.specs.PrintValues.{tool_set_of}
use Rattle.pl_prints.specs.Layers.{has_printed}
use Rattle.pl_prints.proofs.used.used_along.Given as goal

abbrev pub invariant-loop-top : goal.invariant-loop-top
invariant-loop-top l = l.used.items ≡ map (λ top. tool_set_of (has_printed l.objects top.0)) (take l.top-index l.tops)
