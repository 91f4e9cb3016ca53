-- What the top call answers.
use Rattle.std.proofs.Common.{◌≡◌, ◌≤◌, ℕ, List, ◌++◌, length, refl, ap, sym, subst, ◌∙◌, arith, ◌≢◌, Option, Some, None, Ok, Err, inl, inr, ◌⊎◌}
use Rattle.std.specs.Prelude.{String, IfSome}
use Rattle.std.specs.Global.{Global}
use Rattle.std.specs.Io.KnownBytes.{Consumes, Appends, IsAtEnd}
use Rattle.std.proofs.lemmas.List.{append-nil}
use Rattle.pl_units.specs.declared.Refusal.{Refusal}
use Rattle.pl_units.specs.declared.Refusal.TheVariants.{Fault}
use Rattle.pl_ports.specs.Causes.{TookMore, AppendsFront}
use Rattle.pl_ports.specs.declared.ends.ReadStop.{ReadStop}
use Rattle.pl_script.specs.declared.fault.ScriptFault.{ScriptFault}
use Rattle.pl_script.specs.Outcomes.{and_then}
use Rattle.pl_script.specs.Reading.{Refuses}
use Rattle.pl_script.specs.Script.{Script, Breach, script_of}
use Rattle.pl_model.specs.Contents.{Contents}
use Rattle.pl_model.specs.Problem.{problem_of}
use Rattle.pl_model.proofs.Printing.{told_computed}
use Rattle.pl_sliced.specs.declared.fault.SliceFault.{SliceFault}
use Rattle.pl_sliced.specs.declared.fault.SliceFault.TheVariants as fault
use Rattle.pl_sliced.specs.Plates.{of_script, sliced_of}
use Rattle.pl_sliced.specs.Slicing.{IsSliced}
use Rattle.pl_sliced.specs.Reading as slices
use Rattle.pl_plater.specs.declared.status.Status.{Status}
use Rattle.pl_plater.specs.declared.words.Task.{Task}
use Rattle.pl_plater.specs.declared.words.Task.TheVariants.{Run, Slice}
use Rattle.pl_plater.specs.Words.{task_of, OnTask}
use Rattle.pl_plater.specs.Status.{IsBeforeWriting, IsAfterReading, script_status, slice_status, stop_status}
use Rattle.pl_session.specs.Complete.{runs_of}
use Rattle.pl_slots.specs.Fff.{fff_meaning}
use Rattle.pl_transcript.specs.Entries.{transcript}
use Rattle.pl_scripted.specs.Commands.{IsOfOne}
use Rattle.pl_plater.specs.Headline.{limit, Meaning, meaning_of, IsCause, Answers, IsInput, EndsWell, History, IsHistoryOf, IsTranscript, Wrote, WroteFront, WritesFront}

-- what holds of the command that was told
pub on_task : (words : List (String Global)) (told : Option Task) (task : Task) (P : Task → Type 0) → told ≡ task_of words → told ≡ Some task → P task → OnTask words P
on_task words told task P is e h = subst (λ (t : Option Task). IfSome t P) (sym e ∙ is) h

-- what holds of all that was read holds of what the source had
pub whole_text : (old new : Option (List ℕ)) (text : List ℕ) (P : List ℕ → Type 0) → Consumes old new text → IsAtEnd new → P text → IfSome old P
whole_text None new text P taken end h = tt
whole_text (Some bytes) None text P taken end h = absurd taken
whole_text (Some bytes) (Some rest) text P taken end h = subst P (sym (taken ∙ ap (λ l. text ++ l) end ∙ append-nil text)) h

pub script_is : (bytes : List ℕ) (script : Script) → script_of bytes ≡ Ok script → meaning_of Run bytes ≡ Ok script
script_is bytes script e = ap of_script e

breach_answers : (task : Task) (bytes : List ℕ) (line : ℕ) (why : SliceFault) → length bytes ≤ limit → meaning_of task bytes ≡ Err (record { line = line; fault = why }) → IsCause task line why bytes
breach_answers task bytes line why short e = inr (record { short = short; reading = e })

-- an input that was refused
pub answers_refusal : (refusal : Refusal ScriptFault) (status : Status) (bytes : List ℕ) → length bytes ≤ limit → status ≡ script_status refusal → Refuses refusal (script_of bytes) → Answers Run status bytes
answers_refusal (Fault line why) status bytes short e h =
    subst (λ (s : Status). Answers Run s bytes) (sym e) (breach_answers Run bytes line (fault.Script why) short (ap of_script h))
answers_refusal Refusal.NoMemory status bytes short e h = subst (λ (s : Status). Answers Run s bytes) (sym e) tt

pub answers_slice_refusal : (refusal : Refusal SliceFault) (status : Status) (bytes : List ℕ) → length bytes ≤ limit → status ≡ slice_status refusal → slices.Refuses (sliced_of bytes) refusal → Answers Slice status bytes
answers_slice_refusal (Fault line why) status bytes short e h = subst (λ (s : Status). Answers Slice s bytes) (sym e) (breach_answers Slice bytes line why short h)
answers_slice_refusal Refusal.NoMemory status bytes short e h = subst (λ (s : Status). Answers Slice s bytes) (sym e) tt

-- the plate of a text has no problem
pub no_problem : (bytes : List ℕ) (plate : Contents) → IsSliced bytes plate → problem_of plate ≡ None
no_problem bytes plate sliced = told_computed plate None sliced.printable

-- an input that was read
pub answers_read : (task : Task) (status : Status) (bytes : List ℕ) (meaning : Meaning task) → IsAfterReading status → length bytes ≤ limit → meaning_of task bytes ≡ Ok meaning → Answers task status bytes
answers_read task Status.Done bytes meaning h short e = (short, meaning, e)
answers_read task Status.WriteFault bytes meaning h short e = tt
answers_read task Status.NoMemory bytes meaning h short e = tt
answers_read task Status.Usage bytes meaning h short e = absurd h
answers_read task Status.ReadFault bytes meaning h short e = absurd h
answers_read task (Status.Refused line why) bytes meaning h short e = absurd h

pub front_of_input : (task : Task) (bytes : List ℕ) (meaning : Meaning task) (before after : Option (List ℕ)) (Same : Type 0) → meaning_of task bytes ≡ Ok meaning → Same ⊎ WroteFront task meaning before after → Same ⊎ WritesFront task bytes before after
front_of_input task bytes meaning before after Same e (inl same) = inl same
front_of_input task bytes meaning before after Same e (inr front) = inr (record { meaning = meaning; reading = e; wrote = front })

pub not_usage : (status : Status) → IsAfterReading status → status ≢ Status.Usage
not_usage status h e = subst IsAfterReading e h

pub not_read : (status : Status) → IsAfterReading status → status ≢ Status.ReadFault
not_read status h e = subst IsAfterReading e h

pub not_before : (status : Status) → IsAfterReading status → IsBeforeWriting status → ⊥
not_before Status.Done h b = b
not_before Status.WriteFault h b = b
not_before Status.NoMemory h b = b
not_before Status.Usage h b = h
not_before Status.ReadFault h b = h
not_before (Status.Refused line why) h b = h

-- an input of which nothing failed is done, unless memory ran out
ends_well : (task : Task) (status : Status) (bytes : List ℕ) → status ≢ Status.Usage → status ≢ Status.ReadFault → status ≢ Status.WriteFault → Answers task status bytes → IsInput task bytes → EndsWell status
ends_well task Status.Done bytes u r w h s = inl refl
ends_well task Status.NoMemory bytes u r w h s = inr refl
ends_well task Status.Usage bytes u r w h s = absurd (u refl)
ends_well task Status.ReadFault bytes u r w h s = absurd (r refl)
ends_well task Status.WriteFault bytes u r w h s = absurd (w refl)
ends_well task (Status.Refused line why) bytes u r w (inl h) s = absurd (omega (arith, h.long, s.0))
ends_well task (Status.Refused line why) bytes u r w (inr h) s = absurd (cc (h.reading, s.2))

pub completes : (task : Task) (left : Option (List ℕ)) (status : Status) (Reads Writes : Type 0) → status ≢ Status.Usage → (status ≡ Status.ReadFault → Reads) → (status ≡ Status.WriteFault → Writes) → IfSome left (Answers task status)
    → IfSome left (λ bytes. IsInput task bytes → (Reads → ⊥) → (Writes → ⊥) → EndsWell status)
completes task None status Reads Writes u r w h = tt
completes task (Some bytes) status Reads Writes u r w h = λ input reads writes. ends_well task status bytes u (λ e. reads (r e)) (λ e. writes (w e)) h input

long_cause : (task : Task) (old new : Option (List ℕ)) → TookMore old new limit → IfSome old (IsCause task 0 (fault.Script ScriptFault.TooLong))
long_cause task None new h = tt
long_cause task (Some bytes) None h = absurd h
long_cause task (Some bytes) (Some rest) h = inl (record { line_is = refl; fault_is = refl; long = omega arith })

anything : (old : Option (List ℕ)) (P : List ℕ → Type 0) → ((bytes : List ℕ) → P bytes) → IfSome old P
anything None P h = tt
anything (Some bytes) P h = h bytes

-- reading that stopped
pub answers_stop : (task : Task) (stop : ReadStop) (status : Status) (old new : Option (List ℕ)) → status ≡ stop_status stop → (stop ≡ ReadStop.TooLong → TookMore old new limit) → IfSome old (Answers task status)
answers_stop task ReadStop.Failed status old new e long = subst (λ (s : Status). IfSome old (Answers task s)) (sym e) (anything old (Answers task (stop_status ReadStop.Failed)) (λ bytes. tt))
answers_stop task ReadStop.TooLong status old new e long = subst (λ (s : Status). IfSome old (Answers task s)) (sym e) (long_cause task old new (long refl))
answers_stop task ReadStop.NoMemory status old new e long = subst (λ (s : Status). IfSome old (Answers task s)) (sym e) (anything old (Answers task (stop_status ReadStop.NoMemory)) (λ bytes. tt))

-- the transcript of a script's history, and a front of it
module _ (script : Script) (old new : Option (List ℕ)) (history written : History) (runs : ℕ) (done : IsHistoryOf script history)
    (alone : IsOfOne script → (other : History) → IsHistoryOf script other → other ≡ history) (counted : runs ≡ runs_of history) (whole : written ≡ history) where
  told : IsTranscript script (transcript fff_meaning written runs)
  told = record { history = history; complete = done; alone = alone; is = rw (whole, counted) refl }

  pub all_of_history : Appends old new (transcript fff_meaning written runs) → Wrote Run script old new
  all_of_history all = record { text = transcript fff_meaning written runs; output = told; written = all }

  pub front_of_history : AppendsFront old new (transcript fff_meaning written runs) → WroteFront Run script old new
  front_of_history front = record { text = transcript fff_meaning written runs; output = told; written = front }
