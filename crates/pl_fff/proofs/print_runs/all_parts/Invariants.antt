use Rattle.std.proofs.Common.{◌≡◌, take}
use Rattle.pl_fff.proofs.print_runs.all_parts.Given as goal

abbrev pub invariant-loop-place : goal.invariant-loop-place
invariant-loop-place l = l.parts.items ≡ take l.place-index l.objects
