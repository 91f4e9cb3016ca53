use Rattle.pl_tech.specs.Slots.{has}
use Rattle.pl_cascade.proofs.Differing.{touched_told}
use Rattle.pl_cascade.proofs.touching.touched_but.Goals as goal

pub returns : goal.returns
returns c k = touched_told c.args.old.now c.args.new.now (has c.direct.result) k _ c.direct.ensures (c.closure.ensures.exact k)
