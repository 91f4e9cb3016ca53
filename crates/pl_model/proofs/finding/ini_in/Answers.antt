use Rattle.std.proofs.Common.{ap, sym, ◌∙◌, Err}
use Rattle.pl_model.specs.Finding.{ini_in, ini_read}
use Rattle.pl_model.proofs.Readings.{settings_read, breach_read}
use Rattle.pl_model.proofs.finding.ini_in.Goals as goal

pub returns-in-Ok : goal.returns-in-Ok
returns-in-Ok c = ap ini_in (sym c.bytes.ensures.bytes) ∙ ap ini_read (settings_read c.bytes.result.now c.in-Ok.set c.in-Ok.ensures.set)

pub returns-in-Err-Fault : goal.returns-in-Err-Fault
returns-in-Err-Fault c = ap ini_in (sym c.bytes.ensures.bytes) ∙ ap ini_read (breach_read c.bytes.result.now c.in-Err-Fault.line c.in-Err-Fault.fault (c.in-Err-Fault.ensures.refused c.in-Err-Fault.line c.in-Err-Fault.fault (ap Err c.in-Err-Fault.field-0-is)))
