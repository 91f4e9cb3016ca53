use Rattle.std.proofs.Common.{sym, subst}
use Rattle.pl_machine.specs.Machine.{MayCall}
use Rattle.pl_plant.proofs.Stands.{stands-left}
use Rattle.pl_plant.proofs.plant.Plant.leave.Goals as goal

pub invariant_of-self : goal.invariant_of-self
invariant_of-self g c =
    rw (c.leave.ensures.state, c.add.ensures)
    (stands-left g.T.Technology.meaning c.self.inside.state c.self.inside.journal.items c.self.inside.kept _ c.args.session (subst (λ v. MayCall v.state c.args.session) (sym c.self.view_is) c.requires.may) c.self.invariant)
