use Rattle.std.proofs.Common.{◌≤◌, arith, ◌∙◌}
use Rattle.pl_plant.proofs.Joining.{one_joined}
use Rattle.pl_plant.proofs.turn_tests.two_threads_make_ten_edits_each.Goals as goal

pub close-plant-requires-clause-all : goal.close-plant-requires-clause-all
close-plant-requires-clause-all g c n low high =
    let kept = c.in_ok-first.ensures.first in
    let none = kept.2 ∙ (c.split-second.ensures.first_joined ∙ c.in_ok-epochs.ensures.joined) in
    let is_two = c.in_ok-first.ensures.second.1 in
    let given = c.join.ensures.splits ∙ (kept.3 ∙ c.split-second.ensures.first_splits) in
    let start = c.in_ok-epochs.ensures.splits in
    let most : n ≤ 2 = omega arith in
    one_joined _ _ _ _ none c.join.ensures.joined is_two n low most
