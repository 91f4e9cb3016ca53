use Rattle.std.proofs.Common.{◌≡◌, map}
use Rattle.std.specs.List.{range_with_len}
use Rattle.std.specs.Arc.{arc_value}
use Rattle.pl_demo.specs.Commands.{session_commands}
use Rattle.pl_demo.proofs.commands.sessions_in.Given as goal

abbrev pub invariant-loop-before : goal.invariant-loop-before
invariant-loop-before l = map (λ own. map arc_value own.items) l.sessions.items ≡ map (session_commands l.n) (range_with_len 1 l.before)
