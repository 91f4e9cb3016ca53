use Rattle.pl_demo.proofs.Relays.{is_relay, exports_last}
use Rattle.pl_demo.proofs.commands.demos_are_relays.Goals as goal

pub returns : goal.returns
returns c = record { relay = λ n. is_relay n; exports = λ n i from to. exports_last n i from to }
