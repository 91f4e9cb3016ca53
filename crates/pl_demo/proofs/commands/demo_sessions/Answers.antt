use Rattle.std.proofs.Common.{◌∙◌, ap, arith, map}
use Rattle.std.specs.Arc.{arc_value}
use Rattle.std.proofs.lemmas.List.{length-map}
use Rattle.pl_demo.specs.Commands.{demo_commands}
use Rattle.pl_demo.proofs.Relays.{few_given, callable_given}
use Rattle.pl_demo.proofs.commands.demo_sessions.Goals as goal

pub returns-clause-few : goal.returns-clause-few
returns-clause-few c =
    let few = few_given _ c.args.n (c.in_ok-sessions.ensures ∙ ap demo_commands c.from.ensures) in
    let count = length-map c.in_ok-sessions.sessions.items (λ own. map arc_value own.items) in
    omega (arith, few, count)

pub returns-clause-callable : goal.returns-clause-callable
returns-clause-callable c = callable_given _ c.args.n (c.in_ok-sessions.ensures ∙ ap demo_commands c.from.ensures)
