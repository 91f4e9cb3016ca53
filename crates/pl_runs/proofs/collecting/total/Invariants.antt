use Rattle.std.proofs.Common.{◌≡◌, ◌-◌, ◌^◌, map, min, sum, take}
use Rattle.pl_runs.proofs.collecting.total.Given as goal

abbrev pub invariant-loop-account : goal.invariant-loop-account
invariant-loop-account g l = l.runs ≡ min (sum (map (λ a. a.runs) (take l.account-index l.accounts))) (2 ^ 64 - 1)
