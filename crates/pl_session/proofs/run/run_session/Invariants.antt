use Rattle.std.proofs.Common.{◌≡◌, map}
use Rattle.std.specs.Arc.{arc_value}
use Rattle.pl_session.specs.UnderWay.{IsOnItsWay}
use Rattle.pl_session.proofs.run.run_session.Given as goal

abbrev pub invariant-loop-made : goal.invariant-loop-made
invariant-loop-made g l = record {
  commands : l.session.commands.items ≡ l.fn.commands.items;
  made : l.session.made ≡ l._made;
  way : IsOnItsWay g.T.Technology.meaning (map arc_value l.session.commands.items) l.session.made l.session.plant (g.T.Technology.runs l.session.bench);
}
