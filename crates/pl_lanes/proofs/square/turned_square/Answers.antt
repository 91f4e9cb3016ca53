use Rattle.pl_lanes.proofs.TurnLemmas.{halves_32, halves_16, halves_8, halves_4, halves_2, halves_1, step_32, step_16, step_8, step_4, step_2, step_1, turned_none, turned_all}
use Rattle.pl_lanes.proofs.square.turned_square.Goals as goal

pub swapped-by_32-requires : goal.swapped-by_32-requires
swapped-by_32-requires c = halves_32

pub swapped-by_16-requires : goal.swapped-by_16-requires
swapped-by_16-requires c = halves_16

pub swapped-by_8-requires : goal.swapped-by_8-requires
swapped-by_8-requires c = halves_8

pub swapped-by_4-requires : goal.swapped-by_4-requires
swapped-by_4-requires c = halves_4

pub swapped-by_2-requires : goal.swapped-by_2-requires
swapped-by_2-requires c = halves_2

pub swapped-requires : goal.swapped-requires
swapped-requires c = halves_1

pub returns : goal.returns
returns c =
    turned_all c.args.square.now c.swapped.result
    (step_1 c.args.square.now c.swapped-by_2.result c.swapped.result
    (step_2 c.args.square.now c.swapped-by_4.result c.swapped-by_2.result
    (step_4 c.args.square.now c.swapped-by_8.result c.swapped-by_4.result
    (step_8 c.args.square.now c.swapped-by_16.result c.swapped-by_8.result
    (step_16 c.args.square.now c.swapped-by_32.result c.swapped-by_16.result
    (step_32 c.args.square.now c.args.square.now c.swapped-by_32.result (turned_none c.args.square.now) c.swapped-by_32.ensures)
    c.swapped-by_16.ensures) c.swapped-by_8.ensures) c.swapped-by_4.ensures) c.swapped-by_2.ensures) c.swapped.ensures)
