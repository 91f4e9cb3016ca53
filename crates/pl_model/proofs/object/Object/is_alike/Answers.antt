use Rattle.pl_model.proofs.Same.{names_decided, alike_decided}
use Rattle.pl_model.proofs.object.Object.is_alike.Goals as goal

pub returns : goal.returns
returns c =
    alike_decided c.args.self.now c.args.other.now c.eq.result c.shifts.result.now c.shifts-2.result.now c.if-self-other.false
    (names_decided c.eq-names.result c.bytes.result.now c.bytes-2.result.now _ _ c.eq-names.ensures c.bytes.ensures c.bytes-2.ensures c.if-not-names.false) c.eq.ensures c.shifts.ensures.shifts c.shifts-2.ensures.shifts
