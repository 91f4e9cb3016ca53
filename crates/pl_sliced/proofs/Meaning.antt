-- Each text means one plate that can be printed, or has one first fault.
use Rattle.std.proofs.Common.{◌≡◌, ◌⊎◌, inl, inr, ℕ, ◌+◌, Option, Some, None, Result, Ok, Err, List, length, codes, refl, sym, ap, subst, ◌∙◌}
use Rattle.std.specs.Result.{IfOk, MatchResult}
use Rattle.pl_units.specs.declared.Refusal.{Refusal}
use Rattle.pl_units.specs.declared.Refusal.TheVariants.{Fault, NoMemory}
use Rattle.std.specs.Option.{option_map_or}
use Rattle.pl_stl.specs.declared.mesh.Facet.{Facet}
use Rattle.pl_stl.specs.declared.fault.StlFault.{StlFault}
use Rattle.pl_stl.specs.Reading.{Breach, mesh_of}
use Rattle.pl_stl.specs.Reading as stl
use Rattle.pl_stl.proofs.Once.{reads_breach}
use Rattle.pl_options.specs.declared.fault.IniFault.{IniFault}
use Rattle.pl_options.specs.Settings.{Settings}
use Rattle.pl_tech.specs.declared.problem.Problem.{Problem}
use Rattle.pl_edit.specs.Data.{Data}
use Rattle.pl_edit.specs.declared.edit.Edit.{Edit}
use Rattle.pl_edit.specs.declared.edit.Edit.TheVariants.{Load, Ini}
use Rattle.pl_edit.specs.declared.reply.EditReply.{EditReply}
use Rattle.pl_edit.specs.declared.reply.EditReply.TheVariants as reply
use Rattle.pl_edit.specs.declared.reply.EditRefusal.{EditRefusal}
use Rattle.pl_edit.specs.declared.reply.EditRefusal.TheVariants.{BadStl, BadIni}
use Rattle.pl_model.specs.Contents.{Contents, blank, with_place, fresh}
use Rattle.pl_model.specs.Finding.{mesh_read, ini_read, free_place}
use Rattle.pl_model.specs.Outcomes.{Outcome, given, plate_after, reply_of, edited, edit_reply}
use Rattle.pl_model.specs.Problem.{problem_of}
use Rattle.pl_model.specs.Settings.{IniBreach, breach, ini_of, put_over}
use Rattle.pl_model.proofs.Edits.{told_computed, same_told}
use Rattle.pl_model.proofs.Plates.{no_places}
use Rattle.pl_model.proofs.Printing as printing
use Rattle.pl_model.proofs.Readings.{breach_read, read_breach}
use Rattle.pl_script.specs.Outcomes.{and_then}
use Rattle.pl_script.specs.Lines.{lines_of}
use Rattle.pl_script.specs.Script as script
use Rattle.pl_script.proofs.OneReading.{ok_is}
use Rattle.pl_sliced.specs.declared.text.Part.{Part}
use Rattle.pl_sliced.specs.declared.text.SliceText.{SliceText}
use Rattle.pl_sliced.specs.declared.fault.SliceFault.{SliceFault}
use Rattle.pl_sliced.specs.declared.fault.SliceFault.TheVariants as fault
use Rattle.pl_sliced.specs.Text.{slice_text_of}
use Rattle.pl_sliced.specs.Grammar.{IsSliceText}
use Rattle.pl_sliced.specs.Plates.{SliceBreach, broken, of_script, block_fault, made, configured, loaded, sound, plate_of, sliced_of}
use Rattle.pl_sliced.specs.Slicing.{IsConfigured, none, put, IsLoaded, IsSliced, IsFirstFault, line, settings, mesh, problem}
use Rattle.pl_sliced.specs.Reading.{Refuses}
use Rattle.pl_sliced.proofs.Texts.{text_read, breach_named}
use Rattle.pl_sliced.proofs.OneReading.{its_text, its_breach}

-- an edit by its reply

made_by : (plate : Contents) (number : ℕ) (edit : Edit) (answer : EditReply) (told : Option (ℕ × SliceFault)) → answer ≡ edit_reply plate edit → block_fault answer ≡ told
    → made plate number edit ≡ option_map_or (λ t. broken (number + t.0) t.1) told (Ok (edited plate edit))
made_by plate number edit answer told is e = ap (λ t. option_map_or (λ t. broken (number + t.0) t.1) t (Ok (edited plate edit))) (ap block_fault (sym is) ∙ e)

-- the settings

abbrev ini_outcome : Contents → Result Settings IniBreach → Result Outcome EditRefusal
ini_outcome plate read = given (ini_read read) (λ set. Ok (record { plate = record plate { config = put_over set.values plate.config }; reply = reply.Set set.taken set.passed }))

places_kept : (plate : Contents) (read : Result Settings IniBreach) → (plate_after plate (ini_outcome plate read)).places ≡ plate.places
places_kept plate (Ok set) = refl
places_kept plate (Err (breach number why)) = refl

ini_put : (plate : Contents) (block : Data) (set : Settings) → ini_of block.bytes ≡ Ok set → reply.Set set.taken set.passed ≡ edit_reply plate (Ini block)
ini_put plate block set e = ap (λ read. reply_of (ini_outcome plate read)) (sym e)

ini_bad : (plate : Contents) (block : Data) (number : ℕ) (why : IniFault) → ini_of block.bytes ≡ Err (breach number why) → reply.Refused (BadIni number why) ≡ edit_reply plate (Ini block)
ini_bad plate block number why e = ap (λ read. reply_of (ini_outcome plate read)) (sym e)

sixteen : (plate : Contents) → plate.places ≡ blank.places → length plate.places ≡ 16
sixteen plate e = (no_places plate.places e).sixteen

-- they change no place
config_places : (part : Option Part) (plate : Contents) → IsConfigured part plate → plate.places ≡ blank.places
config_places _ _ none = refl
config_places _ _ (put part taken passed plate is) = ap (λ p. p.places) (told_computed blank (Ini part.block) (reply.Set taken passed) plate (sixteen blank refl) is).1 ∙ places_kept blank (ini_of part.block.bytes)

config_read : (part : Option Part) (plate : Contents) → IsConfigured part plate → configured part ≡ Ok plate
config_read _ _ none = refl
config_read _ _ (put part taken passed plate is) =
    let told = told_computed blank (Ini part.block) (reply.Set taken passed) plate (sixteen blank refl) is in
    made_by blank part.line (Ini part.block) (reply.Set taken passed) None told.0 refl ∙ ap Ok (sym told.1)

config_put : (part : Part) (set : Settings) → ini_of part.block.bytes ≡ Ok set → IsConfigured (Some part) (edited blank (Ini part.block))
config_put part set e = put part set.taken set.passed _ (same_told blank (Ini part.block) (reply.Set set.taken set.passed) _ (sixteen blank refl) (ini_put blank part.block set e, refl))

-- the mesh

abbrev mesh_name : List ℕ
mesh_name = codes "mesh"

abbrev mesh_outcome : Contents → Result (List Facet) Breach → Result ℕ EditRefusal → Result Outcome EditRefusal
mesh_outcome plate read place = given (mesh_read read) (λ facets. given place (λ place. Ok (record { plate = with_place plate place (Some (fresh mesh_name facets)); reply = reply.Object place })))

mesh_put : (plate : Contents) (block : Data) (facets : List Facet) → plate.places ≡ blank.places → mesh_of block.bytes ≡ Ok facets → reply.Object 0 ≡ edit_reply plate (Load mesh_name block)
mesh_put plate block facets empty e =
    sym (ap (λ read. reply_of (mesh_outcome plate read (free_place plate.places))) e ∙ ap (λ place. reply_of (mesh_outcome plate (Ok facets) place)) (ap free_place empty))

mesh_bad : (plate : Contents) (block : Data) (number : ℕ) (why : StlFault) → mesh_of block.bytes ≡ Err (stl.breach number why) → reply.Refused (BadStl number why) ≡ edit_reply plate (Load mesh_name block)
mesh_bad plate block number why e = ap (λ read. reply_of (mesh_outcome plate read (free_place plate.places))) (sym e)

-- a text

loaded_read : (text : SliceText) (plate : Contents) (is : IsLoaded text plate) → plate_of text ≡ sound text.mesh.line plate
loaded_read text plate is =
    let told = told_computed is.configured (Load mesh_name text.mesh.block) (reply.Object is.place) plate (sixteen is.configured (config_places text.settings is.configured is.settings)) is.mesh in
    ap (λ said. and_then said (λ p. and_then (loaded text.mesh p) (sound text.mesh.line))) (config_read text.settings is.configured is.settings)
    ∙ ap (λ said. and_then said (sound text.mesh.line)) (made_by is.configured text.mesh.line (Load mesh_name text.mesh.block) (reply.Object is.place) None told.0 refl ∙ ap Ok (sym told.1))

text_means : (bytes : List ℕ) (text : SliceText) → IsSliceText (lines_of bytes) text → sliced_of bytes ≡ plate_of text
text_means bytes text lines = ap (λ said. and_then (of_script said) plate_of) (text_read (lines_of bytes) text lines)

pub plate_read : (bytes : List ℕ) (plate : Contents) → IsSliced bytes plate → sliced_of bytes ≡ Ok plate
plate_read bytes plate is =
    text_means bytes is.text is.lines
    ∙ loaded_read is.text plate is.loaded
    ∙ ap (λ o. option_map_or (λ why. broken is.text.mesh.line (fault.Problem why)) o (Ok plate)) (printing.told_computed plate None is.printable)

pub fault_named : (bytes : List ℕ) (number : ℕ) (why : SliceFault) → IsFirstFault bytes number why → sliced_of bytes ≡ broken number why
fault_named bytes _ _ (line number why is) = ap (λ said. and_then (of_script said) plate_of) (breach_named (lines_of bytes) number why is)
fault_named bytes _ _ (settings text part number why lines there is) =
    text_means bytes text lines
    ∙ ap (λ said. and_then said (λ p. and_then (loaded text.mesh p) (sound text.mesh.line)))
    (ap configured there ∙ made_by blank part.line (Ini part.block) (reply.Refused (BadIni number why)) (Some (number, fault.Ini why)) (ini_bad blank part.block number why (breach_read part.block.bytes number why is)) refl)
fault_named bytes _ _ (mesh text plate number why lines config is) =
    text_means bytes text lines
    ∙ ap (λ said. and_then said (λ p. and_then (loaded text.mesh p) (sound text.mesh.line))) (config_read text.settings plate config)
    ∙ ap (λ said. and_then said (sound text.mesh.line))
    (made_by plate text.mesh.line (Load mesh_name text.mesh.block) (reply.Refused (BadStl number why)) (Some (number, fault.Stl why)) (mesh_bad plate text.mesh.block number why ((reads_breach text.mesh.block.bytes number why).1 is)) refl)
fault_named bytes _ _ (problem text plate why lines is has) =
    text_means bytes text lines
    ∙ loaded_read text plate is
    ∙ ap (λ o. option_map_or (λ why. broken text.mesh.line (fault.Problem why)) o (Ok plate)) (printing.told_computed plate (Some why) has)

-- every text has its meaning

abbrev pub Means : List ℕ → Type 0
Means bytes = MatchResult (sliced_of bytes) (IsSliced bytes) (λ b. IsFirstFault bytes b.line b.fault)

plate_means : (bytes : List ℕ) (plate : Contents) → IsSliced bytes plate → Means bytes
plate_means bytes plate h = subst (λ said. MatchResult said (IsSliced bytes) (λ b. IsFirstFault bytes b.line b.fault)) (sym (plate_read bytes plate h)) h

fault_means : (bytes : List ℕ) (number : ℕ) (why : SliceFault) → IsFirstFault bytes number why → Means bytes
fault_means bytes number why h = subst (λ said. MatchResult said (IsSliced bytes) (λ b. IsFirstFault bytes b.line b.fault)) (sym (fault_named bytes number why h)) h

module _ (bytes : List ℕ) where
  module _ (text : SliceText) (lines : IsSliceText (lines_of bytes) text) where
    by_problem : (plate : Contents) → IsLoaded text plate → (found : Option Problem) → problem_of plate ≡ found → Means bytes
    by_problem plate is None e = plate_means bytes plate (record { text = text; lines = lines; loaded = is; printable = printing.computed_told plate None e })
    by_problem plate is (Some why) e = fault_means bytes text.mesh.line (fault.Problem why) (problem text plate why lines is (printing.computed_told plate (Some why) e))

    by_mesh : (plate : Contents) → IsConfigured text.settings plate → (read : Result (List Facet) Breach) → mesh_of text.mesh.block.bytes ≡ read → Means bytes
    by_mesh plate config (Err (stl.breach number why)) e =
        fault_means bytes (text.mesh.line + number) (fault.Stl why) (mesh text plate number why lines config ((reads_breach text.mesh.block.bytes number why).0 e))
    by_mesh plate config (Ok facets) e =
        let empty = config_places text.settings plate config in
        let after = edited plate (Load mesh_name text.mesh.block) in
        by_problem after (record {
          configured = plate;
          settings = config;
          place = 0;
          mesh = same_told plate (Load mesh_name text.mesh.block) (reply.Object 0) after (sixteen plate empty) (mesh_put plate text.mesh.block facets empty e, refl);
        }) (problem_of after) refl

    by_ini : (part : Part) → text.settings ≡ Some part → (read : Result Settings IniBreach) → ini_of part.block.bytes ≡ read → Means bytes
    by_ini part there (Err (breach number why)) e =
        fault_means bytes (part.line + number) (fault.Ini why) (settings text part number why lines there (read_breach part.block.bytes number why e))
    by_ini part there (Ok set) e =
        let plate = edited blank (Ini part.block) in
        by_mesh plate (subst (λ (o : Option Part). IsConfigured o plate) (sym there) (config_put part set e)) (mesh_of text.mesh.block.bytes) refl

    by_settings : (part : Option Part) → text.settings ≡ part → Means bytes
    by_settings None there = by_mesh blank (subst (λ (o : Option Part). IsConfigured o blank) (sym there) none) (mesh_of text.mesh.block.bytes) refl
    by_settings (Some part) there = by_ini part there (ini_of part.block.bytes) refl

  by_text : (said : Result SliceText script.Breach) → slice_text_of bytes ≡ said → Means bytes
  by_text (Ok text) e = by_settings text (its_text (lines_of bytes) text e) text.settings refl
  by_text (Err b) e = fault_means bytes b.line (fault.Script b.fault) (line b.line b.fault (its_breach (lines_of bytes) b.line b.fault e))

  pub one_meaning : Means bytes
  one_meaning = by_text (slice_text_of bytes) refl

pub its_plate : (bytes : List ℕ) (plate : Contents) → sliced_of bytes ≡ Ok plate → IsSliced bytes plate
its_plate bytes plate e = subst (λ said. MatchResult said (IsSliced bytes) (λ b. IsFirstFault bytes b.line b.fault)) e (one_meaning bytes)

pub its_fault : (bytes : List ℕ) (number : ℕ) (why : SliceFault) → sliced_of bytes ≡ broken number why → IsFirstFault bytes number why
its_fault bytes number why e = subst (λ said. MatchResult said (IsSliced bytes) (λ b. IsFirstFault bytes b.line b.fault)) e (one_meaning bytes)

-- what a call gives, in the words of the text

abbrev refusal : ℕ → SliceFault → Result Contents SliceBreach → Refusal SliceFault
refusal number why (Ok plate) = Fault number why
refusal number why (Err b) = Fault b.line b.fault

abbrev pub Gives : List ℕ → Result Contents (Refusal SliceFault) → Type 0
Gives bytes result = MatchResult result (λ plate. sliced_of bytes ≡ Ok plate) (Refuses (sliced_of bytes))

module _ (bytes : List ℕ) where
  pub gives_plate : (result : Result Contents (Refusal SliceFault)) → Gives bytes result → IfOk result (IsSliced bytes)
  gives_plate (Ok plate) g = its_plate bytes plate g
  gives_plate (Err e) g = tt

  pub gives_taken : (result : Result Contents (Refusal SliceFault)) → Gives bytes result → (plate : Contents) → IsSliced bytes plate → MatchResult result (λ read. read ≡ plate) (λ e. e ≡ NoMemory)
  gives_taken (Ok read) g plate h = ok_is (sliced_of bytes) read plate g (plate_read bytes plate h)
  gives_taken (Err (Fault number why)) g plate h =
      let both : broken number why ≡ Ok plate = sym g ∙ plate_read bytes plate h in
      absurd (cc)
  gives_taken (Err NoMemory) g plate h = refl

  pub gives_refused : (result : Result Contents (Refusal SliceFault)) → Gives bytes result → (number : ℕ) (why : SliceFault) → result ≡ Err (Fault number why) → IsFirstFault bytes number why
  gives_refused result g number why e = its_fault bytes number why (subst (λ r. Gives bytes r) e g)

  pub gives_named : (result : Result Contents (Refusal SliceFault)) → Gives bytes result → (number : ℕ) (why : SliceFault) → IsFirstFault bytes number why → MatchResult result (λ _. ⊥) (λ e. (e ≡ Fault number why) ⊎ (e ≡ NoMemory))
  gives_named (Ok plate) g number why h =
      let both : Ok plate ≡ broken number why = sym g ∙ fault_named bytes number why h in
      absurd (cc)
  gives_named (Err (Fault other more)) g number why h = inl (ap (λ said. refusal other more said) (sym g ∙ fault_named bytes number why h))
  gives_named (Err NoMemory) g number why h = inr refl
