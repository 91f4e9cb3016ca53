-- When a session's call is no step, and what it is given.
use Rattle.std.specs.Prelude.{◌≡◌, ◌≢◌, ℕ, ◌<◌, ◌≤◌, true, Option, None, Some}
use Rattle.pl_tech.specs.Technology.{Meaning}
use Rattle.pl_machine.specs.declared.entry.Mode.TheVariants.{Done}
use Rattle.pl_machine.specs.declared.entry.Command.{Command}
use Rattle.pl_machine.specs.declared.entry.Command.TheVariants.{Edit, Apply, Export, After}
use Rattle.pl_machine.specs.declared.entry.Reply.{Reply}
use Rattle.pl_machine.specs.declared.entry.Answer.{Answer}
use Rattle.pl_machine.specs.declared.entry.Answer.TheVariants.{Now, NotYet, Behind}
use Rattle.pl_machine.specs.Machine.{Machine, mode_of, calls_of, Replies}

-- the session that a command waits for is from 1 to 16
abbrev pub NamesSession : {E : Type 0} → Command E → Type 0
NamesSession (After session calls) = (1 ≤ session) × (session ≤ 16)
NamesSession command = Unit {0}

-- the commands that may want memory
abbrev pub TakesMemory : {E : Type 0} → Command E → Type 0
TakesMemory (Edit e) = Unit {0}
TakesMemory Apply = Unit {0}
TakesMemory Export = Unit {0}
TakesMemory command = ⊥

-- the session that is waited for has made n calls, and more are wanted
abbrev pub WaitsForCalls : {P E : Type 0} → Machine P → Command E → ℕ → Type 0
WaitsForCalls st (After session wanted) n = (n ≡ calls_of st session) × (n < wanted)
WaitsForCalls st command n = ⊥

module _ {P E R O : Type 0} (m : Meaning P E R O) where
  -- each present slot is Done
  abbrev pub IsWhole : Machine P → Type 0
  IsWhole st = (k : ℕ) → m.present st.applied k ≡ true → mode_of st k ≡ Done

  -- the slot is the least present one that is not Done
  pub record IsUndone (st : Machine P) (slot : ℕ) : Type 0 where
    pub present : m.present st.applied slot ≡ true
    pub undone : mode_of st slot ≢ Done
    pub least : (k : ℕ) → k < slot → m.present st.applied k ≡ true → mode_of st k ≡ Done

  -- an export of a plate without problem waits for this slot
  abbrev pub IsNotYet : Machine P → ℕ → Type 0
  IsNotYet st slot = (m.problem st.applied ≡ None) × IsUndone st slot

  abbrev pub WaitsForSlot : Machine P → Command E → ℕ → Type 0
  WaitsForSlot st Export slot = IsNotYet st slot
  WaitsForSlot st command slot = ⊥

  -- the result of slot 99 is given where an export is to hand it out
  abbrev pub IsGiven : Machine P → Command E → Option O → Type 0
  IsGiven st Export given = m.problem st.applied ≡ None → mode_of st 99 ≡ Done → given ≡ Some (m.value st.applied 99)
  IsGiven st command given = Unit {0}

module _ {T P E R O J B : Type 0} where
  abbrev pub MatchAnswer : Answer T P E R O J B → (Reply T P E R O J B → Type 0) → (ℕ → Type 0) → (ℕ → Type 0) → Type 0
  MatchAnswer (Now reply) F G H = F reply
  MatchAnswer (NotYet slot) F G H = G slot
  MatchAnswer (Behind n) F G H = H n

  -- where the call is no step, the machine has none; where it is one, nothing is waited for
  abbrev pub Excludes : Meaning P E R O → Machine P → Command E → Answer T P E R O J B → Type 0
  Excludes m st command (Now reply) = ((k : ℕ) → ¬ WaitsForSlot m st command k) × ((n : ℕ) → ¬ WaitsForCalls st command n)
  Excludes m st command (NotYet slot) = (reply : Reply T P E R O J B) → ¬ Replies m st command reply
  Excludes m st command (Behind n) = (reply : Reply T P E R O J B) → ¬ Replies m st command reply
