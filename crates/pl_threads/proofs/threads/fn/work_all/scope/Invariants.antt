use Rattle.std.proofs.Common.{◌≡◌, ◌++◌, ◌+◌, ◌≤◌, All, length, map, vec_capacity, vec_len}
use Rattle.std.specs.Vec.Iter.{into_iter_items}
use Rattle.pl_threads.proofs.Starting.{value_of, May}
use Rattle.pl_threads.proofs.threads.fn.work_all.scope.Given as goal

abbrev pub invariant-loop-value : goal.invariant-loop-value
invariant-loop-value g l =
    All (λ w. g.W.Work.may w) (into_iter_items l.value-iterator)
    × (map value_of l.starts.items ++ into_iter_items l.value-iterator ≡ into_iter_items l.initial.value-iterator)
    × All (May (λ t. g.W.Work.may t.1) (λ t. t.1) g.W.Work.done) l.starts.items
    × (vec_len l.starts + length (into_iter_items l.value-iterator) ≤ vec_capacity l.starts)
