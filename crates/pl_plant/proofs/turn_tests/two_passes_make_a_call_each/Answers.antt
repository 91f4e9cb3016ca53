use Rattle.std.proofs.Common.{◌≤◌, ◌+◌, arith, ap, ◌∙◌}
use Rattle.pl_plant.proofs.Joining.{one_joined}
use Rattle.pl_plant.proofs.turn_tests.two_passes_make_a_call_each.Goals as goal

pub close-plant-requires-clause-all : goal.close-plant-requires-clause-all
close-plant-requires-clause-all g c n low high =
    let none = c.call-edited.ensures.joined ∙ (c.split-second.ensures.first_joined ∙ c.in_ok-epochs.ensures.joined) in
    let is_two = c.call-applied.ensures.number ∙ (c.split-second.ensures.number ∙ ap (λ k. k + 2) c.in_ok-epochs.ensures.splits) in
    let given = c.join.ensures.splits ∙ (c.call-edited.ensures.splits ∙ c.split-second.ensures.first_splits) in
    let start = c.in_ok-epochs.ensures.splits in
    let most : n ≤ 2 = omega arith in
    one_joined _ _ _ _ none c.join.ensures.joined is_two n low most
