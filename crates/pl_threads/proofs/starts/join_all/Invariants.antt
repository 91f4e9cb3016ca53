use Rattle.std.proofs.Common.{◌≡◌, ◌++◌, ◌+◌, ◌≤◌, All, List, length, map, vec_capacity, vec_len}
use Rattle.std.specs.List.{AllZip}
use Rattle.std.specs.Vec.Iter.{into_iter_items}
use Rattle.pl_threads.specs.Starts.{IsKept, outcome_promise}
use Rattle.pl_threads.proofs.starts.join_all.Given as goal

abbrev pub invariant-loop-outcome : goal.invariant-loop-outcome
invariant-loop-outcome g l =
    All (IsKept g.P.Promise.kept_by) (into_iter_items l.outcome-iterator)
    × ((done : List g.row.P.Denot) × (done ++ map outcome_promise (into_iter_items l.outcome-iterator) ≡ map outcome_promise (into_iter_items l.initial.outcome-iterator)) × AllZip g.P.Promise.kept_by done l.all.items)
    × (vec_len l.all + length (into_iter_items l.outcome-iterator) ≤ vec_capacity l.all)
