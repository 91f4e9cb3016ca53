use Rattle.pl_order.proofs.Staying.{stays, calls_counted}
use Rattle.pl_order.proofs.Steps.{no_bye_before}
use Rattle.std.proofs.Common.{None}
use Rattle.pl_ports.specs.declared.gate.Actor.TheVariants.{Session}
use Rattle.pl_order.proofs.calling.sessions_may_call.Goals as goal

pub returns : goal.returns
returns g c =
    let m = g.T.Technology.meaning in
    record {
      may = λ commands i seen order none. record {
        from_1 = order.actor_is.0;
        to_16 = order.actor_is.1;
        stays = stays m seen i order.actor_is.0 order.legal (λ before after is. none (before, after, is));
        free = order.work_is;
      };
      goes_on = λ commands i seen command order next said. no_bye_before m commands (Session i) seen None command order next said.0 said.1 said.2;
      calls = λ i seen from to legal. calls_counted m seen i from to legal;
    }
