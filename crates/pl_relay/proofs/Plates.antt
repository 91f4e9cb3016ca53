-- The plates of a replay are those after its calls, and what follows for its exports.
use Rattle.std.proofs.Common.{◌≡◌, ℕ, List, [], ◌∷◌, ◌++◌, refl, ap, sym, ◌∙◌}
use Rattle.pl_ports.specs.declared.gate.Actor.{Actor}
use Rattle.pl_ports.specs.declared.gate.Actor.TheVariants.{Session, Worker}
use Rattle.pl_tech.specs.Technology.{Meaning}
use Rattle.pl_machine.specs.declared.entry.Command.{Command}
use Rattle.pl_machine.specs.declared.entry.Command.TheVariants.{Edit, Apply, Export, Status, Cancel, After}
use Rattle.pl_machine.specs.declared.entry.Reply.{Reply}
use Rattle.pl_machine.specs.declared.entry.Reply.TheVariants.{Edited, Unchanged, Changed, Invalidated, Cancelled, Modes, Gcode, Refused, Passed}
use Rattle.pl_machine.specs.declared.entry.What.{What}
use Rattle.pl_machine.specs.declared.entry.What.TheVariants.{Call, Start, Finish, Late, Bye}
use Rattle.pl_machine.specs.declared.entry.Entry.{Entry}
use Rattle.pl_machine.specs.Plates.{Both}
use Rattle.pl_machine.specs.Machine.{Machine, Allows, Replies, blank, next, after_command}
use Rattle.pl_machine.specs.History.{replay, replay_from, IsLegal}
use Rattle.pl_machine.proofs.Runs.{run_split}
use Rattle.pl_relay.specs.Relay.{calls_made}
use Rattle.pl_relay.specs.Exports.{plates_by, plates_from, applied_after, reply_with, export_reply, export_entry}

module _ {P E R O : Type 0} (m : Meaning P E R O) where
  -- the two plates of a state
  abbrev both : Machine P → Both P
  both st = record { edited = st.edited; applied = st.applied }

  command_plates : (st : Machine P) (c : Command E) → both (after_command m st c) ≡ plates_by m (both st) c
  command_plates st (Edit e) = refl
  command_plates st Apply = refl
  command_plates st Export = refl
  command_plates st Status = refl
  command_plates st Cancel = refl
  command_plates st (After session calls) = refl

  pub plates_append : (plates : Both P) (xs ys : List (ℕ × Command E)) → plates_from m plates (xs ++ ys) ≡ plates_from m (plates_from m plates xs) ys
  plates_append plates [] ys = refl
  plates_append plates (x ∷ xs) ys = plates_append (plates_by m plates x.1) xs ys

  module _ {T J B : Type 0} where
    step_plates : (st : Machine P) (a : Actor) (w : What T P E R O J B) (es : List (Entry T P E R O J B))
        → plates_from m (both (next m st a w)) (calls_made es) ≡ plates_from m (both st) (calls_made (record { actor = a; what = w } ∷ es))
    step_plates st a (Call c reply) es = ap (λ plates. plates_from m plates (calls_made es)) (command_plates st c)
    step_plates st a (Start slot epoch) es = refl
    step_plates st a (Finish slot epoch) es = refl
    step_plates st a (Late slot since now) es = refl
    step_plates st a Bye es = refl

    run_plates : (st : Machine P) (es : List (Entry T P E R O J B)) → both (replay_from m st es) ≡ plates_from m (both st) (calls_made es)
    run_plates st [] = refl
    run_plates st (e ∷ es) = run_plates (next m st e.actor e.what) es ∙ step_plates st e.actor e.what es

    applied_is : (es : List (Entry T P E R O J B)) → (replay m es).applied ≡ applied_after m (calls_made es)
    applied_is es = ap (λ plates. plates.applied) (run_plates (blank m) es)

    -- the reply of an export that the machine makes
    replied : (st : Machine P) (reply : Reply T P E R O J B) → Replies m st Export reply → reply ≡ export_reply m st.applied
    replied st (Gcode o) may = ap Gcode may.2 ∙ ap (λ p. reply_with p (m.value st.applied 99)) (sym may.0)
    replied st (Refused p) may = ap (λ q. reply_with q (m.value st.applied 99)) (sym may)
    replied st (Edited r) may = absurd may
    replied st Unchanged may = absurd may
    replied st Changed may = absurd may
    replied st (Invalidated set) may = absurd may
    replied st (Cancelled n) may = absurd may
    replied st (Modes present started finished) may = absurd may
    replied st Passed may = absurd may

    by_session : (st : Machine P) (a : Actor) (reply : Reply T P E R O J B) → Allows m st a (Call Export reply) → Replies m st Export reply
    by_session st (Session i) reply may = may.1
    by_session st (Worker k) reply may = absurd may

    pub answers : (before after : List (Entry T P E R O J B)) (a : Actor) (reply : Reply T P E R O J B) → IsLegal m (before ++ export_entry a reply ∷ after)
        → reply ≡ export_reply m (applied_after m (calls_made before))
    answers before after a reply legal =
        let may = (run_split m (blank m) before (export_entry a reply ∷ after) legal).1.0 in
        replied (replay m before) reply (by_session (replay m before) a reply may) ∙ ap (export_reply m) (applied_is before)
