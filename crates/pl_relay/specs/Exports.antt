-- What exports answer.
use Rattle.std.specs.Prelude.{◌≡◌, ℕ, Bool, true, false, List, [], ◌∷◌, ◌++◌, count_by, filter}
use Rattle.std.specs.Prelude.{Option, None, Some}
use Rattle.std.specs.List.{filter_map}
use Rattle.pl_tech.specs.declared.problem.Problem.{Problem}
use Rattle.pl_tech.specs.Technology.{Meaning}
use Rattle.pl_ports.specs.declared.gate.Actor.{Actor}
use Rattle.pl_machine.specs.declared.entry.Command.{Command}
use Rattle.pl_machine.specs.declared.entry.Command.TheVariants.{Edit, Apply, Export, Status, Cancel, After}
use Rattle.pl_machine.specs.declared.entry.Reply.{Reply}
use Rattle.pl_machine.specs.declared.entry.Reply.TheVariants.{Gcode, Refused}
use Rattle.pl_machine.specs.declared.entry.What.{What}
use Rattle.pl_machine.specs.declared.entry.What.TheVariants.{Call, Start, Finish, Late, Bye}
use Rattle.pl_machine.specs.declared.entry.Entry.{Entry}
use Rattle.pl_machine.specs.Plates.{Both}
use Rattle.pl_session.specs.Complete.{is_session}

module _ {E : Type 0} where
  abbrev pub is_export : Command E → Bool
  is_export Export = true
  is_export (Edit e) = false
  is_export Apply = false
  is_export Status = false
  is_export Cancel = false
  is_export (After session calls) = false

  -- the commands have one export, which is the last of them
  pub record EndsInExport (commands : List (Command E)) : Type 0 where
    pub one : count_by is_export commands ≡ 1
    pub front : List (Command E)
    pub last : commands ≡ front ++ Export ∷ []

module _ {P E R O : Type 0} (m : Meaning P E R O) where
  -- the plates after a command: an edit alone changes the edited one, an apply alone the applied one
  abbrev pub plates_by : Both P → Command E → Both P
  plates_by plates (Edit e) = record plates { edited = m.edited plates.edited e }
  plates_by plates Apply = record plates { applied = plates.edited }
  plates_by plates Export = plates
  plates_by plates Status = plates
  plates_by plates Cancel = plates
  plates_by plates (After session calls) = plates

  abbrev pub plates_from : Both P → List (ℕ × Command E) → Both P
  plates_from plates [] = plates
  plates_from plates (call ∷ calls) = plates_from (plates_by plates call.1) calls

  -- the plate that is edited and the one that is applied after these calls, from the blank plate on
  abbrev pub plates_after : List (ℕ × Command E) → Both P
  plates_after calls = plates_from (record { edited = m.blank; applied = m.blank }) calls

  abbrev pub plate_after : List (ℕ × Command E) → P
  plate_after calls = (plates_after calls).edited

  abbrev pub applied_after : List (ℕ × Command E) → P
  applied_after calls = (plates_after calls).applied

module _ {T P E R O J B : Type 0} where
  abbrev pub reply_with : Option Problem → O → Reply T P E R O J B
  reply_with (Some problem) output = Refused problem
  reply_with None output = Gcode output

  -- what an export answers where this plate is applied: its problem, or else its G-code
  abbrev pub export_reply : Meaning P E R O → P → Reply T P E R O J B
  export_reply m plate = reply_with (m.problem plate) (m.value plate 99)

  abbrev pub export_entry : Actor → Reply T P E R O J B → Entry T P E R O J B
  export_entry actor reply = record { actor = actor; what = Call Export reply }

  abbrev pub reply_if : Bool → Reply T P E R O J B → Option (Reply T P E R O J B)
  reply_if true reply = Some reply
  reply_if false reply = None

  -- the reply of a call of an export
  abbrev pub export_in : What T P E R O J B → Option (Reply T P E R O J B)
  export_in (Call command reply) = reply_if (is_export command) reply
  export_in (Start slot epoch) = None
  export_in (Finish slot epoch) = None
  export_in (Late slot since now) = None
  export_in Bye = None

  -- the replies of a session's exports, in order
  abbrev pub exports_of : ℕ → List (Entry T P E R O J B) → List (Reply T P E R O J B)
  exports_of i history = filter_map (λ e. export_in e.what) (filter (λ e. is_session i e.actor) history)
