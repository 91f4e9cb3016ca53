-- Ways that a mode is looked for.
use Rattle.std.specs.Prelude.{Bool, not}
use Rattle.pl_machine.specs.declared.look.Look.{Look}
use Rattle.pl_machine.specs.declared.look.Look.TheVariants.{Held, Started, Done}
use Rattle.pl_machine.specs.declared.entry.Mode.{Mode}
use Rattle.pl_machine.specs.Machine.{is_invalid, is_started, is_done}

unfoldable pub looks : Look → Mode → Bool
looks Held mode = not (is_invalid mode)
looks Started mode = is_started mode
looks Done mode = is_done mode
