use Rattle.std.proofs.Common.{◌≡◌}
use Rattle.std.specs.Prelude.{map, take}
use Rattle.std.specs.Arc.{arc_value}
use Rattle.pl_scripted.specs.Commands.{session_commands}
use Rattle.pl_scripted.proofs.commands.commands_of.Given as goal

abbrev pub invariant-loop-line : goal.invariant-loop-line
invariant-loop-line l = map arc_value l.made.items ≡ session_commands (take l.line-index l.lines) l.session
