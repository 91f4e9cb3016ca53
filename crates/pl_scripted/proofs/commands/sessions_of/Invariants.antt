use Rattle.std.proofs.Common.{◌≡◌}
use Rattle.std.specs.Prelude.{map}
use Rattle.std.specs.Arc.{arc_value}
use Rattle.pl_scripted.proofs.Each.{commands_to}
use Rattle.pl_scripted.proofs.commands.sessions_of.Given as goal

abbrev pub invariant-loop-k : goal.invariant-loop-k
invariant-loop-k l = map (λ s. map arc_value s.items) l.made.items ≡ commands_to l.all l.k
