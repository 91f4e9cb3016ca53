use Rattle.pl_demo.specs.Script.{session_text}
use Rattle.pl_demo.proofs.Growing.{each_more}
use Rattle.pl_demo.proofs.script.put_sessions.Goals as goal

pub loop-before-preserved : goal.loop-before-preserved
loop-before-preserved c = each_more (session_text c.args.n) c.args.text.now c.loop-before.text c.put_session.new.text c.loop-before.before c.loop-before.invariant c.in_ok-put_session.ensures
