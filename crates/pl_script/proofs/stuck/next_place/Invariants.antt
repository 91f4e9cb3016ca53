use Rattle.std.proofs.Common.{length, ◌-◌, ◌≡◌, ◌≤◌, ◌==◌, take}
use Rattle.std.specs.List.{count_by}
use Rattle.pl_script.specs.declared.script.Line.{Line as Written}
use Rattle.pl_script.proofs.stuck.next_place.Given as goal

abbrev pub invariant-loop-at : goal.invariant-loop-at
invariant-loop-at l = record {
  within : l.at ≤ length l.lines;
  passed : count_by (λ (line : Written). line.session == l.session) (take l.at l.lines) ≡ count_by (λ (line : Written). line.session == l.session) (take l.fn.from l.lines);
}

abbrev pub decreases-loop-at : goal.decreases-loop-at
decreases-loop-at l = length l.lines - l.at
