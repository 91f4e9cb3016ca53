use Rattle.pl_demo.specs.Commands.{session_commands}
use Rattle.pl_demo.proofs.Relays.{sessions_more}
use Rattle.pl_demo.proofs.commands.sessions_in.Goals as goal

pub loop-before-preserved : goal.loop-before-preserved
loop-before-preserved c =
    sessions_more _ (session_commands c.args.n) c.loop-before.sessions.items c.push.new.self.items c.in_ok-session_in.field-0 c.loop-before.before
    c.loop-before.invariant c.in_ok-session_in.ensures c.in_ok-push.ensures.items
