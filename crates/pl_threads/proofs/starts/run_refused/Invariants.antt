use Rattle.std.proofs.Common.{◌≡◌, ◌++◌, ◌+◌, ◌≤◌, All, length, map, vec_capacity, vec_len}
use Rattle.std.specs.Vec.Iter.{into_iter_items}
use Rattle.pl_threads.specs.Starts.{CanRun, IsKept, outcome_promise, start_promise}
use Rattle.pl_threads.proofs.starts.run_refused.Given as goal

abbrev pub invariant-loop-start : goal.invariant-loop-start
invariant-loop-start g l =
    All (CanRun (λ f. g.F.FnOnce.pre f tt) (λ f e. g.F.FnOnce.post f tt e) g.P.Promise.kept_by) (into_iter_items l.start-iterator)
    × (map outcome_promise l.outcomes.items ++ map start_promise (into_iter_items l.start-iterator) ≡ map start_promise (into_iter_items l.initial.start-iterator))
    × All (IsKept g.P.Promise.kept_by) l.outcomes.items
    × (vec_len l.outcomes + length (into_iter_items l.start-iterator) ≤ vec_capacity l.outcomes)
