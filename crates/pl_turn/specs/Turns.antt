-- The words for a turn.
use Rattle.std.specs.Borrow.{Bor}
use Rattle.pl_turn.specs.declared.turned.Turned.{Ghosts}
use Rattle.pl_turn.specs.declared.lock.Pass.{Pass}
use Rattle.pl_turn.specs.declared.lock.TurnLock.{TurnLock}
use Rattle.pl_turn.specs.declared.turn.Out.{Out}
use Rattle.pl_turn.specs.Passes.{IsOf}

module _ {L X E H : Type 0} {g : Ghosts X E H} where
  -- the pass with which it was taken
  abbrev pub taker : Out L X E H g → Pass X E H g
  taker t = t.held.pass.value

  -- the value as it was taken
  abbrev pub taken : Out L X E H g → X
  taken t = t.held.taken.value

  -- the value as it is now
  abbrev pub value_of : Out L X E H g → X
  value_of t = t.value

-- the turn is one of the lock that it borrows
abbrev pub IsAtItsLock : {X E H : Type 0} {g : Ghosts X E H} → Out (Bor (TurnLock X E H)) X E H g → Type 0
IsAtItsLock t = IsOf t.lock.now t.held.pass.value
