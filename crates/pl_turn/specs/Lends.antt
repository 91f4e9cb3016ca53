-- What a write through `value` leaves.
use Rattle.pl_turn.specs.declared.turned.Turned.{Ghosts}
use Rattle.pl_turn.specs.declared.turn.Out.{Out}

-- the turn with another value
abbrev pub with_value : {L X E H : Type 0} {g : Ghosts X E H} → Out L X E H g → X → Out L X E H g
with_value t x = record t { value = x }
