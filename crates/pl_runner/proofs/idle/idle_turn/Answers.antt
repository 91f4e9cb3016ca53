use Rattle.std.proofs.Common.{arith, map}
use Rattle.std.proofs.lemmas.List.{length-map}
use Rattle.std.specs.Arc.{arc_value}
use Rattle.std.proofs.lemmas.Option.{slice_get_past}
use Rattle.pl_turn.specs.Passes.{own, seen}
use Rattle.pl_machine.specs.History.{replay}
use Rattle.pl_runner.proofs.Idling.{worker_made, bye_made, session_own, session_waits, if_ended}
use Rattle.pl_runner.proofs.idle.idle_turn.Goals as goal

pub returns-in-Worker-clause-made : goal.returns-in-Worker-clause-made
returns-in-Worker-clause-made g c =
    worker_made _ (own c.args.pass) (own c.worker_turn.result.1) c.args.made c.worker_turn.result.0 c.requires.made c.worker_turn.ensures.own

pub returns-then-made-commands-clause-own : goal.returns-then-made-commands-clause-own
returns-then-made-commands-clause-own g c =
    rw c.in-Session.is
    (session_own _ c.in-Session.session (map arc_value c.args.commands.now) c.args.made (own c.args.pass) (own c.session_turn.result.1) c.session_turn.result.0 (let l = length-map c.args.commands.now arc_value in omega (arith, l, c.if-made-commands.true)) c.session_turn.ensures.own)

pub returns-then-made-commands-clause-waits : goal.returns-then-made-commands-clause-waits
returns-then-made-commands-clause-waits g c =
    rw c.in-Session.is
    (session_waits g.T.Technology.meaning (replay g.T.Technology.meaning (seen c.session_turn.result.1)) c.args.sessions c.in-Session.session (map arc_value c.args.commands.now) c.args.made c.session_turn.result.0 (let l = length-map c.args.commands.now arc_value in omega (arith, l, c.if-made-commands.true)) c.session_turn.ensures.waits)

pub returns-else-made-commands-clause-made : goal.returns-else-made-commands-clause-made
returns-else-made-commands-clause-made g c =
    bye_made c.in-Session.session (own c.args.pass) (own c.bye_turn.result.1) c.args.made c.bye_turn.result.0 c.requires.made c.bye_turn.ensures.own

pub returns-else-made-commands-clause-last : goal.returns-else-made-commands-clause-last
returns-else-made-commands-clause-last g c =
    if_ended _ c.bye_turn.result.0 (slice_get_past (map arc_value c.args.commands.now) c.args.made (let l = length-map c.args.commands.now arc_value in omega (arith, l, c.if-made-commands.false)))
