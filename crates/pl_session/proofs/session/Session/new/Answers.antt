use Rattle.pl_session.proofs.Ways.{way_none}
use Rattle.pl_session.proofs.session.Session.new.Goals as goal

pub returns-clause-way : goal.returns-clause-way
returns-clause-way g c = way_none g.T.Technology.meaning _ c.in_ok-new.field-0 _ c.in_ok-new.ensures.state c.in_ok-new.ensures.journal c.bench.ensures
