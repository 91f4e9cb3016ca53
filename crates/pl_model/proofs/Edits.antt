-- What an edit is told to make, and the outcome that is computed.
use Rattle.std.proofs.Common.{◌≡◌, inl, inr, Bool, true, false, cond, true≢false, ℕ, zero, suc, ◌<◌, ◌≤◌, ◌==◌, arith, Option, Some, None, Result, Ok, Err, List, [], ◌∷◌, length, slice_get, position, ok_or, IfOk, refl, sym, ap, subst, ◌∙◌, le-ltb, lt-ltb, ltb-true, ltb-false, eq-eqb, ne_eqb, eqb-true}
use Rattle.std.specs.Option.{is_none}
use Rattle.std.proofs.lemmas.Bool.{cases_lt, eqb-false}
use Rattle.std.proofs.lemmas.Option.{slice_get-get_or, slice_get_past, slice_get_cases, get_or_from_slice_get, slice_get_within}
use Rattle.pl_stl.specs.declared.mesh.Facet.{Facet}
use Rattle.pl_stl.specs.declared.fault.StlFault.{StlFault}
use Rattle.pl_stl.specs.Reading.{Breach}
use Rattle.pl_stl.specs.Reading as stl
use Rattle.pl_stl.proofs.Once.{reads_text, reads_breach}
use Rattle.pl_keys.specs.declared.value.Value.{Value}
use Rattle.pl_keys.specs.declared.value.ValueFault.{ValueFault}
use Rattle.pl_keys.specs.declared.value.ValueFault.TheVariants as fault
use Rattle.pl_options.specs.Settings.{Settings}
use Rattle.pl_options.specs.declared.fault.IniFault.{IniFault}
use Rattle.pl_edit.specs.declared.edit.Edit.{Edit}
use Rattle.pl_edit.specs.declared.edit.Edit.TheVariants.{Load, Reload, Delete, Copy, Move, Drop, Turn, Set, Override, Unset, Ini}
use Rattle.pl_edit.specs.declared.reply.EditReply.{EditReply}
use Rattle.pl_edit.specs.declared.reply.EditReply.TheVariants as reply
use Rattle.pl_edit.specs.declared.reply.EditRefusal.{EditRefusal}
use Rattle.pl_edit.specs.declared.reply.EditRefusal.TheVariants.{NoObject, NoInstance, UnknownKey, NotObjectKey, BadValue, OutOfRange, BadStl, BadIni, FullObjects, FullInstances, LastInstance}
use Rattle.pl_model.specs.declared.instances.Shift.{Shift}
use Rattle.pl_model.specs.declared.object.Object.{Object}
use Rattle.pl_model.specs.Places.{place_in, ArePlaces}
use Rattle.pl_model.specs.Shifts.{origin}
use Rattle.pl_model.specs.Contents.{Contents}
use Rattle.pl_model.specs.Settings.{IniBreach, breach}
use Rattle.pl_model.specs.Finding.{value_read, mesh_read, ini_read}
use Rattle.pl_model.specs.Outcomes.{Outcome, Changed, given, outcome, plate_after, reply_of, edited, edit_reply}
use Rattle.pl_model.specs.Editing.{IsEdited, IsAt, IsEmpty, HasNone, AreFilled, IsLeastEmpty, place_named}
use Rattle.pl_model.specs.Editing as told
use Rattle.pl_model.proofs.Positions.{first_found, none_found, first_is, none_is}
use Rattle.pl_model.proofs.Readings.{settings_read, breach_read, read_settings, read_breach}

-- ---- places

place_at : (places : List (Option Object)) (place : ℕ) (object : Object) → IsAt places place object → place_in places place ≡ Some object
place_at places place object h = get_or_from_slice_get places place (Some object) None h

at_place : (places : List (Option Object)) (place : ℕ) (object : Object) → place_in places place ≡ Some object → IsAt places place object
at_place [] place object e = cc
at_place (o ∷ places) zero object e = ap Some e
at_place (o ∷ places) (suc i) object e = at_place places i object e

past : (places : List (Option Object)) (place : ℕ) → length places ≤ place → place_in places place ≡ None
past [] place h = refl
past (o ∷ places) zero h = absurd (omega arith)
past (o ∷ places) (suc i) h = past places i (omega arith)

place_none : (places : List (Option Object)) (place : ℕ) → length places ≡ 16 → HasNone places place → place_in places place ≡ None
place_none places place l (inl empty) = get_or_from_slice_get places place None None empty
place_none places place l (inr above) = past places place (omega arith)

none_place : (places : List (Option Object)) (place : ℕ) → length places ≡ 16 → place_in places place ≡ None → HasNone places place
none_place places place l e = elim (cases_lt place 16) [
  | inl below ↦ let inside : place < length places = omega arith in inl (slice_get-get_or places place None inside ∙ ap Some e)
  | inr above ↦ inr (omega arith)
]

empty_one : (o : Option Object) → is_none o ≡ true → o ≡ None
empty_one None e = refl
empty_one (Some object) e = absurd (true≢false (sym e))

filled_one : (o : Option Object) → is_none o ≡ false → (object : Object) × (o ≡ Some object)
filled_one None e = absurd (true≢false e)
filled_one (Some object) e = (object, refl)

filled_below : (places : List (Option Object)) (count : ℕ) → count ≤ length places → ((k : ℕ) (o : Option Object) → k < count → slice_get places k ≡ Some o → is_none o ≡ false) → AreFilled places count
filled_below places count l h place below =
    let inside : place < length places = omega arith in
    let here = slice_get-get_or places place None inside in
    let is = filled_one (place_in places place) (h place (place_in places place) below here) in
    (is.0, here ∙ ap Some is.1)

is_filled : (places : List (Option Object)) (count k : ℕ) (o : Option Object) → AreFilled places count → k < count → slice_get places k ≡ Some o → is_none o ≡ false
is_filled places count k o h below here =
    let is = h k below in
    let same : o ≡ Some is.0 = cc (here, is.1) in
    ap is_none same

least_empty : (places : List (Option Object)) (place : ℕ) → position is_none places ≡ Some place → IsLeastEmpty places place
least_empty places place e =
    let f = first_found is_none places place e in
    let inside : place < length places = slice_get_within places place f.0 f.1.there in
    record {
      empty = f.1.there ∙ ap Some (empty_one f.0 f.1.passes);
      filled = filled_below places place (omega arith) f.1.before;
    }

empty_least : (places : List (Option Object)) (place : ℕ) → IsLeastEmpty places place → position is_none places ≡ Some place
empty_least places place h = first_is is_none places place None (record { there = h.empty; passes = refl; before = λ k o below here. is_filled places place k o h.filled below here })

all_filled : (places : List (Option Object)) → length places ≡ 16 → position is_none places ≡ None → AreFilled places 16
all_filled places l e = filled_below places 16 (omega arith) (λ k o below here. none_found is_none places e k o here)

filled_all : (places : List (Option Object)) → length places ≡ 16 → AreFilled places 16 → position is_none places ≡ None
filled_all places l h = none_is is_none places (λ k o here. let inside = slice_get_within places k o here in is_filled places 16 k o h (omega arith) here)

-- ---- what is told is computed

empty_there : (places : List (Option Object)) (q p : ℕ) → Some q ≡ Some p → place_in places p ≡ None → place_in places q ≡ None
empty_there places q p e h = let same : q ≡ p = cc e in ap (place_in places) same ∙ h

no_object : (old : Contents) (edit : Edit) (place : ℕ) → place_named edit ≡ Some place → place_in old.places place ≡ None → outcome old edit ≡ Err NoObject
no_object old (Load name block) place e h = cc
no_object old (Reload q block) place e h = rw (empty_there old.places q place e h) refl
no_object old (Delete q) place e h = rw (empty_there old.places q place e h) refl
no_object old (Copy q x y) place e h = rw (empty_there old.places q place e h) refl
no_object old (Move q instance x y) place e h = rw (empty_there old.places q place e h) refl
no_object old (Drop q instance) place e h = rw (empty_there old.places q place e h) refl
no_object old (Turn q quarter) place e h = rw (empty_there old.places q place e h) refl
no_object old (Set key text) place e h = cc
no_object old (Override q key text) place e h = rw (empty_there old.places q place e h) refl
no_object old (Unset q key) place e h = rw (empty_there old.places q place e h) refl
no_object old (Ini block) place e h = cc

past_end : (shifts : List Shift) (instance : ℕ) → slice_get shifts instance ≡ None → length shifts ≤ instance
past_end shifts instance e = elim (slice_get_cases shifts instance).1 [ inl h ↦ absurd (cc (e, h.2)) | inr h ↦ h.0 ]

more_than_one : (count instance : ℕ) → instance < count → (count ≡ 1 → ⊥) → 1 < count
more_than_one count instance below apart = omega arith

shift_there : (shifts : List Shift) (instance : ℕ) → instance < length shifts → (shift : Shift) × (slice_get shifts instance ≡ Some shift)
shift_there shifts instance h = (_, slice_get-get_or shifts instance origin h)

pub told_computed : (old : Contents) (edit : Edit) (answer : EditReply) (new : Contents) → length old.places ≡ 16 → IsEdited old edit answer new → (answer ≡ edit_reply old edit) × (new ≡ edited old edit)
told_computed old edit answer new l (told.no_object e place named none) =
    let is = no_object old e place named (place_none old.places place l none) in (ap reply_of (sym is), ap (plate_after old) (sym is))
told_computed old edit answer new l (told.loaded name block mesh place reads least) = rw ((reads_text block.bytes mesh).1 reads, empty_least old.places place least) (refl, refl)
told_computed old edit answer new l (told.load_bad name block line why breaks) = rw ((reads_breach block.bytes line why).1 breaks) (refl, refl)
told_computed old edit answer new l (told.load_full name block mesh reads full) = rw ((reads_text block.bytes mesh).1 reads, filled_all old.places l full) (refl, refl)
told_computed old edit answer new l (told.reloaded place block object mesh at reads) = rw (place_at old.places place object at, (reads_text block.bytes mesh).1 reads) (refl, refl)
told_computed old edit answer new l (told.reload_bad place block object line why at breaks) = rw (place_at old.places place object at, (reads_breach block.bytes line why).1 breaks) (refl, refl)
told_computed old edit answer new l (told.deleted place object at) = rw (place_at old.places place object at) (refl, refl)
told_computed old edit answer new l (told.copied place x y object at room) = rw (place_at old.places place object at, lt-ltb (length object.instances) 16 room) (refl, refl)
told_computed old edit answer new l (told.copy_full place x y object at full) = rw (place_at old.places place object at, le-ltb (length object.instances) 16 full) (refl, refl)
told_computed old edit answer new l (told.moved place instance x y object at inside) = rw (place_at old.places place object at, (shift_there object.instances instance inside).1) (refl, refl)
told_computed old edit answer new l (told.move_missing place instance x y object at past) = rw (place_at old.places place object at, slice_get_past object.instances instance past) (refl, refl)
told_computed old edit answer new l (told.dropped place instance object at inside more) =
    let several : (length object.instances == 1) ≡ false = ne_eqb (length object.instances) 1 (λ one. omega arith) in
    rw (place_at old.places place object at, (shift_there object.instances instance inside).1, several) (refl, refl)
told_computed old edit answer new l (told.drop_missing place instance object at past) = rw (place_at old.places place object at, slice_get_past object.instances instance past) (refl, refl)
told_computed old edit answer new l (told.drop_last place instance object at inside one) =
    rw (place_at old.places place object at, (shift_there object.instances instance inside).1, eq-eqb (length object.instances) 1 one) (refl, refl)
told_computed old edit answer new l (told.turned place quarter object at) = rw (place_at old.places place object at) (refl, refl)
told_computed old edit answer new l (told.set key text option value named reads) = rw (named, reads) (refl, refl)
told_computed old edit answer new l (told.set_unknown key text unknown) = rw unknown (refl, refl)
told_computed old edit answer new l (told.set_bad key text option named reads) = rw (named, reads) (refl, refl)
told_computed old edit answer new l (told.set_far key text option named reads) = rw (named, reads) (refl, refl)
told_computed old edit answer new l (told.overridden place key text object option value at named own reads) = rw (place_at old.places place object at, named, own, reads) (refl, refl)
told_computed old edit answer new l (told.override_unknown place key text object at unknown) = rw (place_at old.places place object at, unknown) (refl, refl)
told_computed old edit answer new l (told.override_whole place key text object option at named whole) = rw (place_at old.places place object at, named, whole) (refl, refl)
told_computed old edit answer new l (told.override_bad place key text object option at named own reads) = rw (place_at old.places place object at, named, own, reads) (refl, refl)
told_computed old edit answer new l (told.override_far place key text object option at named own reads) = rw (place_at old.places place object at, named, own, reads) (refl, refl)
told_computed old edit answer new l (told.unset place key object option at named own) = rw (place_at old.places place object at, named, own) (refl, refl)
told_computed old edit answer new l (told.unset_unknown place key object at unknown) = rw (place_at old.places place object at, unknown) (refl, refl)
told_computed old edit answer new l (told.unset_whole place key object option at named whole) = rw (place_at old.places place object at, named, whole) (refl, refl)
told_computed old edit answer new l (told.configured block settings reads) = rw (settings_read block.bytes settings reads) (refl, refl)
told_computed old edit answer new l (told.ini_bad block line why breaks) = rw (breach_read block.bytes line why breaks) (refl, refl)

-- ---- what is computed is told

module _ (old : Contents) (edit : Edit) where
  -- the outcome is told
  abbrev Fits : Result Outcome EditRefusal → Type 0
  Fits result = IsEdited old edit (reply_of result) (plate_after old result)

  abbrev Refuses : EditRefusal → Type 0
  Refuses refusal = IsEdited old edit (reply.Refused refusal) old

  option_fits : {X : Type 0} (o : Option X) (refusal : EditRefusal) (next : X → Result Outcome EditRefusal) → ((x : X) → o ≡ Some x → Fits (next x)) → (o ≡ None → Refuses refusal) → Fits (given (ok_or o refusal) next)
  option_fits (Some x) refusal next some none = some x refl
  option_fits None refusal next some none = none refl

  mesh_fits : (r : Result (List Facet) Breach) (next : List Facet → Result Outcome EditRefusal) → ((mesh : List Facet) → r ≡ Ok mesh → Fits (next mesh))
      → ((line : ℕ) (why : StlFault) → r ≡ Err (stl.breach line why) → Refuses (BadStl line why)) → Fits (given (mesh_read r) next)
  mesh_fits (Ok mesh) next ok err = ok mesh refl
  mesh_fits (Err (stl.breach line why)) next ok err = err line why refl

  value_fits : (r : Result Value ValueFault) (next : Value → Result Outcome EditRefusal) → ((value : Value) → r ≡ Ok value → Fits (next value)) → (r ≡ Err fault.BadValue → Refuses BadValue)
      → (r ≡ Err fault.OutOfRange → Refuses OutOfRange) → Fits (given (value_read r) next)
  value_fits (Ok value) next ok bad far = ok value refl
  value_fits (Err fault.BadValue) next ok bad far = bad refl
  value_fits (Err fault.OutOfRange) next ok bad far = far refl

  ini_fits : (r : Result Settings IniBreach) (next : Settings → Result Outcome EditRefusal) → ((settings : Settings) → r ≡ Ok settings → Fits (next settings))
      → ((line : ℕ) (why : IniFault) → r ≡ Err (breach line why) → Refuses (BadIni line why)) → Fits (given (ini_read r) next)
  ini_fits (Ok settings) next ok err = ok settings refl
  ini_fits (Err (breach line why)) next ok err = err line why refl

  -- the same of what becomes of an object
  module _ (finish : Changed → Result Outcome EditRefusal) where
    abbrev Ends : Result Changed EditRefusal → Type 0
    Ends result = Fits (given result finish)

    option_ends : {X : Type 0} (o : Option X) (refusal : EditRefusal) (next : X → Result Changed EditRefusal) → ((x : X) → o ≡ Some x → Ends (next x)) → (o ≡ None → Refuses refusal) → Ends (given (ok_or o refusal) next)
    option_ends (Some x) refusal next some none = some x refl
    option_ends None refusal next some none = none refl

    mesh_ends : (r : Result (List Facet) Breach) (next : List Facet → Result Changed EditRefusal) → ((mesh : List Facet) → r ≡ Ok mesh → Ends (next mesh))
        → ((line : ℕ) (why : StlFault) → r ≡ Err (stl.breach line why) → Refuses (BadStl line why)) → Ends (given (mesh_read r) next)
    mesh_ends (Ok mesh) next ok err = ok mesh refl
    mesh_ends (Err (stl.breach line why)) next ok err = err line why refl

    value_ends : (r : Result Value ValueFault) (next : Value → Result Changed EditRefusal) → ((value : Value) → r ≡ Ok value → Ends (next value)) → (r ≡ Err fault.BadValue → Refuses BadValue)
        → (r ≡ Err fault.OutOfRange → Refuses OutOfRange) → Ends (given (value_read r) next)
    value_ends (Ok value) next ok bad far = ok value refl
    value_ends (Err fault.BadValue) next ok bad far = bad refl
    value_ends (Err fault.OutOfRange) next ok bad far = far refl

    if_ends : {X : Type 0} (b : Bool) (x : X) (refusal : EditRefusal) (next : X → Result Changed EditRefusal) → (b ≡ true → Ends (next x)) → (b ≡ false → Refuses refusal)
        → Ends (given (cond b (Ok x) (Err refusal)) next)
    if_ends true x refusal next yes_ no_ = yes_ refl
    if_ends false x refusal next yes_ no_ = no_ refl

    unless_ends : {X : Type 0} (b : Bool) (x : X) (refusal : EditRefusal) (next : X → Result Changed EditRefusal) → (b ≡ true → Refuses refusal) → (b ≡ false → Ends (next x))
        → Ends (given (cond b (Err refusal) (Ok x)) next)
    unless_ends true x refusal next yes_ no_ = yes_ refl
    unless_ends false x refusal next yes_ no_ = no_ refl

module _ (old : Contents) (l : length old.places ≡ 16) where
  missing : (edit : Edit) (place : ℕ) → place_named edit ≡ Some place → place_in old.places place ≡ None → Refuses old edit NoObject
  missing edit place named none = told.no_object edit place named (none_place old.places place l none)

  own : (key text : List ℕ) (place : ℕ) → Fits old (Override place key text) (outcome old (Override place key text))
  own key text place =
      option_fits old (Override place key text) _ NoObject _
      (λ object e.
      let at = at_place old.places place object e in
      option_ends old (Override place key text) _ _ UnknownKey _
      (λ option named.
      if_ends old (Override place key text) _ _ option NotObjectKey _
      (λ own.
      value_ends old (Override place key text) _ _ _ (λ value reads. told.overridden place key text object option value at named own reads)
      (λ reads. told.override_bad place key text object option at named own reads) (λ reads. told.override_far place key text object option at named own reads))
      (λ whole. told.override_whole place key text object option at named whole))
      (λ unknown. told.override_unknown place key text object at unknown))
      (λ none. missing (Override place key text) place refl none)

  pub computed_told : (edit : Edit) → Fits old edit (outcome old edit)
  computed_told (Load name block) =
      mesh_fits old (Load name block) _ _
      (λ mesh reads.
      let text = (reads_text block.bytes mesh).0 reads in
      option_fits old (Load name block) _ FullObjects _ (λ place e. told.loaded name block mesh place text (least_empty old.places place e))
      (λ full. told.load_full name block mesh text (all_filled old.places l full)))
      (λ line why reads. told.load_bad name block line why ((reads_breach block.bytes line why).0 reads))
  computed_told (Reload place block) =
      option_fits old (Reload place block) _ NoObject _
      (λ object e.
      let at = at_place old.places place object e in
      mesh_ends old (Reload place block) _ _ _ (λ mesh reads. told.reloaded place block object mesh at ((reads_text block.bytes mesh).0 reads))
      (λ line why reads. told.reload_bad place block object line why at ((reads_breach block.bytes line why).0 reads)))
      (λ none. missing (Reload place block) place refl none)
  computed_told (Delete place) =
      option_fits old (Delete place) _ NoObject _ (λ object e. told.deleted place object (at_place old.places place object e)) (λ none. missing (Delete place) place refl none)
  computed_told (Copy place x y) =
      option_fits old (Copy place x y) _ NoObject _
      (λ object e.
      let at = at_place old.places place object e in
      if_ends old (Copy place x y) _ _ (length object.instances) FullInstances _ (λ room. told.copied place x y object at (ltb-true (length object.instances) 16 room))
      (λ full. told.copy_full place x y object at (ltb-false (length object.instances) 16 full)))
      (λ none. missing (Copy place x y) place refl none)
  computed_told (Move place instance x y) =
      option_fits old (Move place instance x y) _ NoObject _
      (λ object e.
      let at = at_place old.places place object e in
      option_ends old (Move place instance x y) _ _ NoInstance _ (λ shift there. told.moved place instance x y object at (slice_get_within object.instances instance shift there))
      (λ none. told.move_missing place instance x y object at (past_end object.instances instance none)))
      (λ none. missing (Move place instance x y) place refl none)
  computed_told (Drop place instance) =
      option_fits old (Drop place instance) _ NoObject _
      (λ object e.
      let at = at_place old.places place object e in
      option_ends old (Drop place instance) _ _ NoInstance _
      (λ shift there.
      let inside = slice_get_within object.instances instance shift there in
      unless_ends old (Drop place instance) _ _ (length object.instances) LastInstance _ (λ one. told.drop_last place instance object at inside (eqb-true (length object.instances) 1 one))
      (λ several. let apart = eqb-false (length object.instances) 1 several in told.dropped place instance object at inside (more_than_one (length object.instances) instance inside apart)))
      (λ none. told.drop_missing place instance object at (past_end object.instances instance none)))
      (λ none. missing (Drop place instance) place refl none)
  computed_told (Turn place quarter) =
      option_fits old (Turn place quarter) _ NoObject _ (λ object e. told.turned place quarter object (at_place old.places place object e)) (λ none. missing (Turn place quarter) place refl none)
  computed_told (Set key text) =
      option_fits old (Set key text) _ UnknownKey _
      (λ option named.
      value_fits old (Set key text) _ _ (λ value reads. told.set key text option value named reads) (λ reads. told.set_bad key text option named reads)
      (λ reads. told.set_far key text option named reads))
      (λ unknown. told.set_unknown key text unknown)
  computed_told (Override place key text) = own key text place
  computed_told (Unset place key) =
      option_fits old (Unset place key) _ NoObject _
      (λ object e.
      let at = at_place old.places place object e in
      option_ends old (Unset place key) _ _ UnknownKey _
      (λ option named.
      if_ends old (Unset place key) _ _ option NotObjectKey _ (λ own. told.unset place key object option at named own) (λ whole. told.unset_whole place key object option at named whole))
      (λ unknown. told.unset_unknown place key object at unknown))
      (λ none. missing (Unset place key) place refl none)
  computed_told (Ini block) =
      ini_fits old (Ini block) _ _ (λ settings reads. told.configured block settings (read_settings block.bytes settings reads))
      (λ line why reads. told.ini_bad block line why (read_breach block.bytes line why reads))

pub same_told : (old : Contents) (edit : Edit) (answer : EditReply) (new : Contents) → length old.places ≡ 16 → (answer ≡ edit_reply old edit) × (new ≡ edited old edit) → IsEdited old edit answer new
same_told old edit answer new l h =
    subst (λ p. IsEdited old edit p new) (sym h.0) (subst (λ p. IsEdited old edit (edit_reply old edit) p) (sym h.1) (computed_told old l edit))

pub told_result : {E : Type 0} (old new : Contents) (edit : Edit) (result : Result EditReply E) → ArePlaces old.places → IfOk result (λ answer. answer ≡ edit_reply old edit)
    → IfOk result (λ _. new ≡ edited old edit) → IfOk result (λ answer. IsEdited old edit answer new)
told_result old new edit (Ok answer) places reply plate = same_told old edit answer new places.sixteen (reply, plate)
told_result old new edit (Err e) places reply plate = tt
