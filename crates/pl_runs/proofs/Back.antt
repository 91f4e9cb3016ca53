-- From the seat of a runner to its account.
use Rattle.std.proofs.Common.{◌≡◌, ℕ, List, ap, sym, subst, ◌∙◌, Option, Some, None}
use Rattle.std.specs.Prelude.{MatchOption}
use Rattle.pl_tech.specs.Technology.{Meaning}
use Rattle.pl_ports.specs.declared.gate.Actor.{Actor}
use Rattle.pl_turn.specs.declared.turned.Turned.{Ghosts}
use Rattle.pl_turn.specs.declared.lock.TurnLock.{TurnLock}
use Rattle.pl_turn.specs.declared.lock.Pass.{Pass}
use Rattle.pl_epochs.specs.declared.seats.TableName.{TableName}
use Rattle.pl_machine.specs.declared.entry.Command.{Command}
use Rattle.pl_machine.specs.declared.entry.Entry.{Entry}
use Rattle.pl_machine.specs.Tickets.{number_of}
use Rattle.pl_plant.specs.declared.plant.Plant.{Plant}
use Rattle.pl_order.specs.Ended.{commands_for}
use Rattle.pl_runner.specs.declared.runner.Runner.{Runner}
use Rattle.pl_runs.specs.Seats.{IsAccount, IsSeated}
use Rattle.pl_runs.specs.Went.{HasComeBack, HasEndedWith, MayStart}

module _ {T P E R O J B H : Type 0} {g : Ghosts (Plant T P E R O J B) (Entry T P E R O J B) H} (m : Meaning P E R O) (job_value : J → O) (runs : B → ℕ) where
  -- a runner with a seat may start, there where its crew runs
  pub may_start : (lock at : TurnLock (Plant T P E R O J B) (Entry T P E R O J B) H) (table by : TableName) (commands : List (Command E)) (actor : Actor) (o : Option (Runner T P E R O J B (Entry T P E R O J B) H g)) → at ≡ lock → by ≡ table
      → IsSeated m job_value runs lock table commands actor o → MatchOption o ⊥ (λ r. (r.actor ≡ actor) × MayStart m job_value runs at by r)
  may_start lock at table by commands actor None here there seat = seat
  may_start lock at table by commands actor (Some r) here there seat =
      (seat.0, subst (λ l. MayStart m job_value runs l by r) (sym here) (subst (λ t. MayStart m job_value runs lock t r) (sym there) seat.1))

  module _ (lock : TurnLock (Plant T P E R O J B) (Entry T P E R O J B) H) (table : TableName) (script : ℕ → List (Command E)) (actor : Actor) where
    -- what has come back is an account of that seat, and its runner has ended with its commands
    pub has_account : (at : TurnLock (Plant T P E R O J B) (Entry T P E R O J B) H) (o : Option (Runner T P E R O J B (Entry T P E R O J B) H g)) (by : Actor) (p : Pass (Plant T P E R O J B) (Entry T P E R O J B) H g) (n : ℕ) → at ≡ lock
        → IsSeated m job_value runs lock table (commands_for script actor) actor o → MatchOption o ⊥ (λ r. HasComeBack m at r by p n)
        → (by ≡ actor) × IsAccount lock by p × HasEndedWith m lock (commands_for script by) by p n
    has_account at None by p n here seat back = absurd seat
    has_account at (Some r) by p n here seat back =
        let is : by ≡ actor = back.0 ∙ seat.0 in
        let ended : HasEndedWith m lock (commands_for script by) by p n = subst (λ l. HasEndedWith m l (commands_for script by) by p n) here
        (subst (λ cs. HasEndedWith m at cs by p n) (seat.2 ∙ ap (commands_for script) (sym is)) back.1) in
        (is, (ended.lock_is, ended.number_is, ended.joined_are, λ one. back.2 ∙ seat.3 (ap number_of (sym is) ∙ one)), ended)
