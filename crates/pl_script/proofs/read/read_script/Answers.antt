use Rattle.std.proofs.Common.{subst}
use Rattle.pl_script.specs.Lines.{lines_of}
use Rattle.pl_script.specs.Script.{script_in}
use Rattle.pl_script.specs.Reading.{Gives}
use Rattle.pl_script.proofs.OneReading.{gives_script, gives_taken, gives_refused, gives_named}
use Rattle.pl_script.proofs.read.read_script.Goals as goal

pub returns-clause-script : goal.returns-clause-script
returns-clause-script c = gives_script (lines_of c.args.bytes.now) c.read_whole.result (subst (λ lines. Gives c.read_whole.result (script_in lines)) c.of.ensures.lines c.read_whole.ensures)

pub returns-clause-taken : goal.returns-clause-taken
returns-clause-taken c = gives_taken (lines_of c.args.bytes.now) c.read_whole.result (subst (λ lines. Gives c.read_whole.result (script_in lines)) c.of.ensures.lines c.read_whole.ensures)

pub returns-clause-refused : goal.returns-clause-refused
returns-clause-refused c = gives_refused (lines_of c.args.bytes.now) c.read_whole.result (subst (λ lines. Gives c.read_whole.result (script_in lines)) c.of.ensures.lines c.read_whole.ensures)

pub returns-clause-named : goal.returns-clause-named
returns-clause-named c = gives_named (lines_of c.args.bytes.now) c.read_whole.result (subst (λ lines. Gives c.read_whole.result (script_in lines)) c.of.ensures.lines c.read_whole.ensures)
