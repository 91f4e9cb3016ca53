use Rattle.std.proofs.Common.{ap, sym, ◌∙◌, arith}
use Rattle.pl_tech.specs.Slots.{has}
use Rattle.pl_plant.proofs.Clearing.{cleared_yes, cleared_no}
use Rattle.pl_plant.proofs.keeping.clear_all.Goals.{then-has, else-has}
use Rattle.pl_plant.proofs.keeping.clear_all.Goals as goal

pub loop-n-preserved : goal.loop-n-preserved
loop-n-preserved g c =
    let here = ap (has c.args.set) (sym c.of-slot.ensures) ∙ sym c.has.ensures in
    elim c.if-has.branch [
      | then-has w ↦ rw (w.kept-is, w.clear.ensures, c.of-slot.ensures) (cleared_yes c.args.set c.loop-n.n c.args.kept.now c.loop-n.kept (here ∙ w.if-has.true) c.loop-n.invariant)
      | else-has w ↦ rw w.kept-is (cleared_no c.args.set c.loop-n.n c.args.kept.now c.loop-n.kept (here ∙ w.if-has.false) c.loop-n.invariant)
    ]

pub returns : goal.returns
returns g c = λ k low. c.loop-n.invariant.done k (omega (arith, c.loop-n-test.false))
