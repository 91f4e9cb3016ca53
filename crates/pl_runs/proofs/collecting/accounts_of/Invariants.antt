use Rattle.std.proofs.Common.{◌≡◌, ◌++◌, ◌+◌, ◌≤◌, length, map, vec_capacity, vec_len, Ok}
use Rattle.std.specs.Vec.Iter.{into_iter_items}
use Rattle.pl_runs.proofs.collecting.accounts_of.Given as goal

abbrev pub invariant-loop-result : goal.invariant-loop-result
invariant-loop-result g l = record {
  done : map (λ a. Ok a) l.accounts.items ++ into_iter_items l.result-iterator ≡ into_iter_items l.initial.result-iterator;
  room : vec_len l.accounts + length (into_iter_items l.result-iterator) ≤ vec_capacity l.accounts;
}
