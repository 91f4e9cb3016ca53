use Rattle.pl_script.specs.Lines.{lines_of}
use Rattle.pl_script.proofs.Texts.{script_read, breach_named}
use Rattle.pl_script.proofs.OneReading.{its_script, its_breach}
use Rattle.pl_script.proofs.laws.script_texts_have_one_reading.Goals as goal

pub returns-clause-scripts : goal.returns-clause-scripts
returns-clause-scripts c = λ bytes script. (its_script (lines_of bytes) script, script_read (lines_of bytes) script)

pub returns-clause-breaches : goal.returns-clause-breaches
returns-clause-breaches c = λ bytes line fault. (its_breach (lines_of bytes) line fault, breach_named (lines_of bytes) line fault)
