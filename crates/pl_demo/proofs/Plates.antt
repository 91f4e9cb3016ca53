-- The plates after the sessions of a demo, and what its exports tell.
use Rattle.std.specs.Prelude.{codes}
use Rattle.std.specs.Fmt.{decimal}
use Rattle.std.proofs.Common.{◌≡◌, ℕ, zero, suc, ◌-◌, ◌≤◌, ◌==◌, Bool, true, false, cond, List, [], ◌∷◌, ◌++◌, Option, Some, None, refl, ap, ◌∙◌, arith}
use Rattle.pl_tech.specs.Technology.{Meaning}
use Rattle.pl_tech.specs.declared.problem.Problem.{Problem}
use Rattle.pl_edit.specs.declared.edit.Edit.{Edit}
use Rattle.pl_machine.specs.declared.entry.Command.TheVariants.{Apply, Export, After}
use Rattle.pl_machine.specs.declared.entry.Entry.{Entry}
use Rattle.pl_machine.specs.Plates.{Both}
use Rattle.pl_relay.specs.Relay.{calls_by, relay_calls}
use Rattle.pl_relay.specs.Exports.{plates_from, plates_after, applied_after, reply_with, export_reply, exports_of}
use Rattle.pl_relay.proofs.Plates.{plates_append}
use Rattle.pl_runs.specs.Script.{commands_at}
use Rattle.pl_demo.specs.Lines.{line_of}
use Rattle.pl_demo.specs.Numbers.{sessions_of, calls_of, each_of}
use Rattle.pl_demo.specs.Commands.{edits_of, edit_commands, demo_commands}
use Rattle.pl_demo.specs.Summary.{session_line, summary_by, after_edits, plate_after, length_by, gcode_length, reply_length, first_length}
use Rattle.pl_demo.proofs.Relays.{own}

module _ {P R O : Type 0} (m : Meaning P Edit R O) where
  -- the edited plate and the applied one are the same
  abbrev both_are : P → Both P
  both_are plate = record { edited = plate; applied = plate }

  session_plates : (first : Bool) (i before calls n k : ℕ) (plate : P)
      → plates_from m (both_are plate) (calls_by i (cond first [] (After before calls ∷ []) ++ (edit_commands n k ++ Apply ∷ Export ∷ []))) ≡ both_are (after_edits m plate (edits_of n k))
  session_plates true i before calls n k plate = refl
  session_plates false i before calls n k plate = refl

  plates_are : (n k : ℕ) → k ≤ sessions_of n → plates_after m (relay_calls (commands_at (demo_commands n)) k) ≡ both_are (plate_after m n k)
  plates_are n zero within = refl
  plates_are n (suc k) within =
      plates_append m (both_are m.blank) (relay_calls (commands_at (demo_commands n)) k) (calls_by (suc k) (commands_at (demo_commands n) (suc k)))
      ∙ ap (λ plates. plates_from m plates (calls_by (suc k) (commands_at (demo_commands n) (suc k)))) (plates_are n k (omega (arith, within)))
      ∙ ap (λ commands. plates_from m (both_are (plate_after m n k)) (calls_by (suc k) commands)) (own n (suc k) (omega arith) within)
      ∙ session_plates (suc k == 1) (suc k) (suc k - 1) (calls_of (suc k - 1)) n (suc k) (plate_after m n k)

  reply_tells : (T J B : Type 0) (problem : Option Problem) (output : O) → reply_length m {T = T} {J = J} {B = B} (reply_with problem output) ≡ length_by m problem output
  reply_tells T J B None output = refl
  reply_tells T J B (Some problem) output = refl

  module _ {T J B : Type 0} where
    -- a session's export tells of the plate after its edits and those before
    pub tells : (n i : ℕ) (history : List (Entry T P Edit R O J B)) → i ≤ sessions_of n
        → exports_of i history ≡ export_reply m (applied_after m (relay_calls (commands_at (demo_commands n)) i)) ∷ [] → first_length m (exports_of i history) ≡ gcode_length m (plate_after m n i)
    tells n i history to exports =
        ap (first_length m) exports ∙ ap (λ (plates : Both P). reply_length m {T = T} {J = J} {B = B} (export_reply m plates.applied)) (plates_are n i to)
        ∙ reply_tells T J B (m.problem (plate_after m n i)) (m.value (plate_after m n i) 99)

each_same : {A : Type 0} (f g : ℕ → List A) (k : ℕ) → ((i : ℕ) → 1 ≤ i → i ≤ k → f i ≡ g i) → each_of f k ≡ each_of g k
each_same f g zero same = refl
each_same f g (suc k) same =
    ap (λ l. l ++ f (suc k)) (each_same f g k (λ i from to. same i from (omega (arith, to)))) ∙ ap (λ l. each_of g k ++ l) (same (suc k) (omega arith) (omega arith))

-- the summary depends on what the sessions' exports tell alone
pub same_summaries : (n : ℕ) (f g : ℕ → Option ℕ) → ((i : ℕ) → 1 ≤ i → i ≤ sessions_of n → f i ≡ g i) → summary_by n f ≡ summary_by n g
same_summaries n f g same =
    ap (λ (l : List ℕ). line_of (codes "demo" ∷ decimal n ∷ []) ++ (l ++ line_of (codes "ok" ∷ [])))
    (each_same (λ i. session_line i (f i)) (λ i. session_line i (g i)) (sessions_of n) (λ i from to. ap (session_line i) (same i from to)))
