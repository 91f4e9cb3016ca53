-- Who takes part in a run, and which passes nobody uses.
use Rattle.std.specs.Prelude.{◌≡◌, ◌≢◌, ◌⊎◌, ℕ, ◌<◌, ◌≤◌, List, [], ◌∷◌, length, All, AllPairs, Any, MatchOption, Option, Some, None}
use Rattle.pl_tech.specs.Technology.{Meaning}
use Rattle.pl_ports.specs.declared.gate.Actor.{Actor}
use Rattle.pl_ports.specs.declared.gate.Actor.TheVariants.{Session}
use Rattle.pl_turn.specs.declared.turned.Turned.{Ghosts}
use Rattle.pl_turn.specs.declared.lock.TurnLock.{TurnLock}
use Rattle.pl_turn.specs.declared.lock.Pass.{Pass}
use Rattle.pl_turn.specs.Passes.{IsOf, joined, number, splits}
use Rattle.pl_epochs.specs.declared.seats.TableName.{TableName}
use Rattle.pl_machine.specs.declared.entry.Command.{Command}
use Rattle.pl_machine.specs.declared.entry.Entry.{Entry}
use Rattle.pl_machine.specs.Tickets.{number_of}
use Rattle.pl_session.specs.Complete.{TakesPart}
use Rattle.pl_plant.specs.declared.plant.Plant.{Plant}
use Rattle.pl_runner.specs.declared.runner.Runner.{Runner}
use Rattle.pl_runner.specs.Running.{commands_of, known_by}
use Rattle.pl_runs.specs.Places.{AreFresh, IsFresh}
use Rattle.pl_runs.specs.Script.{IsCallable}
use Rattle.pl_runs.specs.Went.{MayStart}

-- each of the numbers below n, from 2, is that of an actor who takes part or of an idle pass; no actor is there twice, and each
-- session with a command is there
pub record AreSeated {E : Type 0} (commands : ℕ → List (Command E)) (workers n : ℕ) (actors : List Actor) (idle : List ℕ) : Type 0 where
  pub part : All (TakesPart commands workers) actors
  pub low : All (λ a. number_of a < n) actors
  pub different : AllPairs (λ a b. a ≢ b) actors
  pub cover : (k : ℕ) → 2 ≤ k → k < n → Any (λ a. number_of a ≡ k) actors ⊎ Any (λ i. i ≡ k) idle
  pub sessions : (i : ℕ) → 1 ≤ i → i < n → i ≤ 16 → commands i ≢ [] → Any (λ a. a ≡ Session i) actors

-- each of the numbers from 2 to 24 is that of an actor or of an idle pass
abbrev pub HasAll : List Actor → List ℕ → Type 0
HasAll actors idle = (n : ℕ) → 2 ≤ n → n < 25 → Any (λ a. number_of a ≡ n) actors ⊎ Any (λ i. i ≡ n) idle

-- the first actor is session 1, and the others have higher numbers
abbrev pub BeginsWithOne : List Actor → Type 0
BeginsWithOne [] = ⊥
BeginsWithOne (a ∷ rest) = (a ≡ Session 1) × All (λ b. 2 ≤ number_of b) rest

module _ {X E H : Type 0} {g : Ghosts X E H} where
  -- the first pass is idle, after 23 others were split off it, and all actors have higher numbers; or session 1 has it
  abbrev pub HasFirst : TurnLock X E H → Option (Pass X E H g) → List Actor → Type 0
  HasFirst lock None actors = BeginsWithOne actors
  HasFirst lock (Some p) actors = IsFresh lock 1 p × (splits p ≡ 23) × All (λ b. 2 ≤ number_of b) actors

  -- session 1 alone has a seat, or has no command
  abbrev pub IsFirstSeated : {C : Type 0} → Option (Pass X E H g) → List Actor → List (Command C) → Type 0
  IsFirstSeated None actors commands = (actors ≡ Session 1 ∷ []) × (commands ≢ [])
  IsFirstSeated (Some p) actors commands = (actors ≡ []) × (commands ≡ [])

  -- the pass of an actor, without joined ones; the first one after 23 others were split off it
  abbrev pub IsAccount : TurnLock X E H → Actor → Pass X E H g → Type 0
  IsAccount lock actor p = IsOf lock p × (number p ≡ number_of actor) × (joined p ≡ []) × (number_of actor ≡ 1 → splits p ≡ 23)

module _ {T P E R O J B H : Type 0} {g : Ghosts (Plant T P E R O J B) (Entry T P E R O J B) H} (m : Meaning P E R O) where
  -- a runner of this actor that may be run, with these commands; that of session 1 has the first pass, after 23 others were split off
  abbrev pub IsSeated : (J → O) → (B → ℕ) → TurnLock (Plant T P E R O J B) (Entry T P E R O J B) H → TableName → List (Command E) → Actor → Option (Runner T P E R O J B (Entry T P E R O J B) H g) → Type 0
  IsSeated job_value runs lock table commands actor o = MatchOption o ⊥ (λ r. (r.actor ≡ actor) × MayStart m job_value runs lock table r × (commands_of r ≡ commands) × (number_of actor ≡ 1 → (known_by r).splits ≡ 23))

  -- such a runner, that runs at that lock and that table
  abbrev pub HasSeat : (J → O) → (B → ℕ) → TurnLock (Plant T P E R O J B) (Entry T P E R O J B) H → TableName → List (Command E) → TurnLock (Plant T P E R O J B) (Entry T P E R O J B) H → TableName → Actor → Option (Runner T P E R O J B (Entry T P E R O J B) H g) → Type 0
  HasSeat job_value runs lock table commands at by actor o = (at ≡ lock) × (by ≡ table) × IsSeated job_value runs lock table commands actor o

module _ {X E H : Type 0} {g : Ghosts X E H} where
  -- what a seat takes: a number from 1 to 24, a pass of that number that has done nothing, the first one after 23 others were split off
  -- it, a reader of the table, and commands that may be called
  pub record MaySit {C : Type 0} (lock : TurnLock X E H) (table : TableName) (workers seat : ℕ) (commands : List (Command C)) (pass : Pass X E H g) (reads : TableName) : Type 0 where
    pub within : (1 ≤ seat) × (seat ≤ 24)
    pub few_workers : workers ≤ 8
    pub fresh : IsFresh lock seat pass
    pub first_split : seat ≡ 1 → splits pass ≡ 23
    pub reader : reads ≡ table
    pub callable : IsCallable commands

  -- what the seats take before the first is given: fresh passes of the numbers 1 and 2 to 24, a reader, and commands that may be called
  pub record MayBegin {C : Type 0} (lock : TurnLock X E H) (table : TableName) (workers : ℕ) (sessions : List (List (Command C))) (first : Pass X E H g) (rest : List (Pass X E H g)) (reads : TableName) : Type 0 where
    pub few_workers : workers ≤ 8
    pub callable : All IsCallable sessions
    pub first_fresh : IsFresh lock 1 first
    pub first_split : splits first ≡ 23
    pub rest_fresh : AreFresh lock 2 rest
    pub long : length rest ≡ 23
    pub reader : reads ≡ table
