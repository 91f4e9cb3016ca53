use Rattle.std.proofs.Common.{◌≡◌, IfOk, subst}
use Rattle.pl_gcode.specs.Gcode.{gcode_of}
use Rattle.pl_gcode.specs.Print.{Print}
use Rattle.pl_whole.proofs.WholeLemmas.{written, filled, made_print}
use Rattle.pl_whole.proofs.slicing.printed.Goals as goal

pub print_lists-requires-clause-around : goal.print_lists-requires-clause-around
print_lists-requires-clause-around c = c.in_ok-around.ensures.around

pub of-requires-2-clause-print : goal.of-requires-2-clause-print
of-requires-2-clause-print c = written c.args.plate.now c.in_ok-around.around c.in_ok-lists.lists c.in_range.ensures c.in_ok-around.ensures.around c.in_ok-around.ensures.few c.in_ok-objects.ensures.sixteen c.in_ok-lists.ensures

pub of-requires-2-clause-places : goal.of-requires-2-clause-places
of-requires-2-clause-places c = filled c.args.plate.now c.in_ok-places.places.items c.in_ok-lists.lists c.in_ok-places.ensures c.in_ok-lists.ensures

pub returns : goal.returns
returns c =
    let P : Print → Type 0 = λ print. IfOk c.gcode-2.result (λ text. text ≡ gcode_of print) in
    subst P (made_print c.args.plate.now c.of-2.result c.in_ok-lists.lists c.of-2.ensures c.in_ok-lists.ensures) c.gcode-2.ensures
