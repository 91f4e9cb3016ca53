use Rattle.pl_keys.proofs.Fits.{answer_fits}
use Rattle.pl_keys.proofs.read.read_value.Goals as goal

pub returns-clause-fits : goal.returns-clause-fits
returns-clause-fits c = answer_fits c.args.key c.args.text.now c.read_trimmed.result (rw c.trim.ensures.trimmed at c.read_trimmed.ensures.said)
