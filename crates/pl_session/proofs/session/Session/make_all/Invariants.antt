use Rattle.std.proofs.Common.{◌≡◌, map}
use Rattle.std.specs.Arc.{arc_value}
use Rattle.pl_session.specs.UnderWay.{IsOnItsWay, undone_in}
use Rattle.pl_session.proofs.session.Session.make_all.Given as goal

abbrev pub invariant-loop-slot : goal.invariant-loop-slot
invariant-loop-slot g l = record {
  commands : l.self.commands.items ≡ l.fn.self.commands.items;
  made : l.self.made ≡ l.fn.self.made;
  way : IsOnItsWay g.T.Technology.meaning (map arc_value l.self.commands.items) l.self.made l.self.plant (g.T.Technology.runs l.self.bench);
}

abbrev pub decreases-loop-slot : goal.decreases-loop-slot
decreases-loop-slot g l = undone_in l.self.plant.state
