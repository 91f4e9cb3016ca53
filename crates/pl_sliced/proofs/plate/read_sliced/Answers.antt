use Rattle.pl_sliced.proofs.Meaning.{gives_plate, gives_taken, gives_refused, gives_named}
use Rattle.pl_sliced.proofs.plate.read_sliced.Goals as goal

pub returns-clause-plate : goal.returns-clause-plate
returns-clause-plate c = gives_plate c.args.bytes.now c.read_plate.result c.read_plate.ensures

pub returns-clause-taken : goal.returns-clause-taken
returns-clause-taken c = gives_taken c.args.bytes.now c.read_plate.result c.read_plate.ensures

pub returns-clause-refused : goal.returns-clause-refused
returns-clause-refused c = gives_refused c.args.bytes.now c.read_plate.result c.read_plate.ensures

pub returns-clause-named : goal.returns-clause-named
returns-clause-named c = gives_named c.args.bytes.now c.read_plate.result c.read_plate.ensures
