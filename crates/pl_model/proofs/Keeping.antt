-- What an edit keeps of the meshes.
use Rattle.std.proofs.Common.{◌≡◌, ◌≢◌, ℕ, ◌==◌, true, false, List, ◌∷◌, [], Option, Some, None, Result, Ok, Err, slice_set, refl, sym, ap, ◌∙◌, zero, suc}
use Rattle.std.specs.Result.{IfOk}
use Rattle.std.specs.Option.{option_map, ok_or}
use Rattle.std.proofs.lemmas.Bool.Decides.{Decides-eqb}
use Rattle.std.proofs.lemmas.List.{get_or-set_other}
use Rattle.pl_stl.specs.declared.mesh.Facet.{Facet}
use Rattle.pl_edit.specs.Data.{Data}
use Rattle.pl_edit.specs.declared.edit.Edit.{Edit}
use Rattle.pl_edit.specs.declared.edit.Edit.TheVariants.{Load, Reload, Delete, Copy, Move, Drop, Turn, Set, Override, Unset, Ini}
use Rattle.pl_edit.specs.declared.reply.EditReply.TheVariants as reply
use Rattle.pl_edit.specs.declared.reply.EditRefusal.{EditRefusal}
use Rattle.pl_edit.specs.declared.reply.EditRefusal.TheVariants.{NoObject}
use Rattle.pl_model.specs.declared.object.Object.{Object}
use Rattle.pl_model.specs.declared.instances.Shift.{Shift}
use Rattle.pl_model.specs.Shifts.{shift_of}
use Rattle.pl_model.specs.Places.{place_in}
use Rattle.pl_model.specs.Contents.{Contents, with_place, fresh}
use Rattle.pl_model.specs.Finding.{object_at, instance_at, key_in, object_key, value_in, mesh_in, ini_in, free_place, room_in, others_in}
use Rattle.pl_model.specs.Outcomes.{Outcome, Changed, given, as_done, done, reloaded, copied, moved, dropped, turned, overridden, unset, in_object, set, configured, plate_after, reply_of, edited, edit_reply}
use Rattle.pl_model.specs.Meshes.{mesh_at, HaveOneMesh, may_change}

-- ---- what goes on

goes_on : {X Y : Type 0} (P : Y → Type 0) (x : Result X EditRefusal) (next : X → Result Y EditRefusal) → ((v : X) → x ≡ Ok v → IfOk (next v) P) → IfOk (given x next) P
goes_on P (Ok v) next h = h v refl
goes_on P (Err r) next h = tt

-- ---- one object

abbrev KeepsMesh : Object → Result Changed EditRefusal → Type 0
KeepsMesh object made = IfOk made (λ (c : Changed). c.object.mesh ≡ object.mesh)

copied_keeps : (shift : Shift) (object : Object) → KeepsMesh object (copied shift object)
copied_keeps shift object = goes_on (λ (c : Changed). c.object.mesh ≡ object.mesh) (room_in object) _ (λ _ _. refl)

moved_keeps : (instance : ℕ) (shift : Shift) (object : Object) → KeepsMesh object (moved instance shift object)
moved_keeps instance shift object = goes_on (λ (c : Changed). c.object.mesh ≡ object.mesh) (instance_at object instance) _ (λ _ _. refl)

dropped_keeps : (instance : ℕ) (object : Object) → KeepsMesh object (dropped instance object)
dropped_keeps instance object =
    goes_on (λ (c : Changed). c.object.mesh ≡ object.mesh) (instance_at object instance) _ (λ _ _. goes_on (λ (c : Changed). c.object.mesh ≡ object.mesh) (others_in object) _ (λ _ _. refl))

overridden_keeps : (key text : List ℕ) (object : Object) → KeepsMesh object (overridden key text object)
overridden_keeps key text object =
    goes_on (λ (c : Changed). c.object.mesh ≡ object.mesh) (key_in key) _ (λ k _.
    goes_on (λ (c : Changed). c.object.mesh ≡ object.mesh) (object_key k) _ (λ k2 _.
    goes_on (λ (c : Changed). c.object.mesh ≡ object.mesh) (value_in k2 text) _ (λ _ _. refl)))

unset_keeps : (key : List ℕ) (object : Object) → KeepsMesh object (unset key object)
unset_keeps key object =
    goes_on (λ (c : Changed). c.object.mesh ≡ object.mesh) (key_in key) _ (λ k _. goes_on (λ (c : Changed). c.object.mesh ≡ object.mesh) (object_key k) _ (λ _ _. refl))

-- ---- one place

there : (o : Option Object) (object : Object) → ok_or o NoObject ≡ Ok object → o ≡ Some object
there (Some other) object e = cc
there None object e = cc

other_place : (places : List (Option Object)) (place p : ℕ) (o : Option Object) → p ≢ place → mesh_at places p ≡ mesh_at (slice_set places place o) p
other_place places place p o apart = ap (option_map (λ (x : Object). x.mesh)) (sym (get_or-set_other places place p o None apart))

-- a place is set to an object of the mesh that it had
same_there : (places : List (Option Object)) (place p : ℕ) (o : Option Object) → option_map (λ (x : Object). x.mesh) o ≡ mesh_at places place → mesh_at places p ≡ mesh_at (slice_set places place o) p
same_there [] place p o e = refl
same_there (x ∷ xs) zero zero o e = sym e
same_there (x ∷ xs) zero (suc p) o e = refl
same_there (x ∷ xs) (suc place) zero o e = refl
same_there (x ∷ xs) (suc place) (suc p) o e = same_there xs place p o e

abbrev KeepsAt : Contents → ℕ → Outcome → Type 0
KeepsAt plate p made = HaveOneMesh plate made.plate p

after_it : (plate : Contents) (p : ℕ) (made : Result Outcome EditRefusal) → IfOk made (KeepsAt plate p) → HaveOneMesh plate (plate_after plate made) p
after_it plate p (Ok made) h = h
after_it plate p (Err r) h = refl

object_kept : (plate : Contents) (place p : ℕ) (change : Object → Result Changed EditRefusal) → ((object : Object) → KeepsMesh object (change object)) → IfOk (in_object plate place change) (KeepsAt plate p)
object_kept plate place p change keeps =
    goes_on (KeepsAt plate p) (object_at plate.places place) _ (λ object at.
    goes_on (KeepsAt plate p) (change object) _ (λ changed made.
    let mesh : changed.object.mesh ≡ object.mesh = kept (change object) object changed made (keeps object) in
    let stood : place_in plate.places place ≡ Some object = there (place_in plate.places place) object at in
    same_there plate.places place p (Some changed.object) (ap Some mesh ∙ ap (option_map (λ (x : Object). x.mesh)) (sym stood))))
  where
    kept : (r : Result Changed EditRefusal) (object : Object) (changed : Changed) → r ≡ Ok changed → KeepsMesh object r → changed.object.mesh ≡ object.mesh
    kept (Ok c) object changed e h = cc
    kept (Err r) object changed e h = cc

set_kept : (plate : Contents) (key text : List ℕ) (p : ℕ) → IfOk (set plate key text) (KeepsAt plate p)
set_kept plate key text p = goes_on (KeepsAt plate p) (key_in key) _ (λ k _. goes_on (KeepsAt plate p) (value_in k text) _ (λ _ _. refl))

configured_kept : (plate : Contents) (block : Data) (p : ℕ) → IfOk (configured plate block) (KeepsAt plate p)
configured_kept plate block p = goes_on (KeepsAt plate p) (ini_in block.bytes) _ (λ _ _. refl)

unlike : (place p : ℕ) → (place == p) ≡ false → p ≢ place
unlike place p e same = false≢true-here (sym e ∙ ap (λ q. place == q) same ∙ itself place)
  where
    itself : (n : ℕ) → (n == n) ≡ true
    itself n = (Decides-eqb n n).1 refl

    false≢true-here : false ≡ true → ⊥
    false≢true-here e = cc

-- a load changes the place that it answers
load_apart : (plate : Contents) (name : List ℕ) (block : Data) (p : ℕ) → may_change (Load name block) (edit_reply plate (Load name block)) p ≡ false → HaveOneMesh plate (edited plate (Load name block)) p
load_apart plate name block p = by_mesh (mesh_in block.bytes)
  where
    by_place : (mesh : List Facet) (found : Result ℕ EditRefusal) → may_change (Load name block) (reply_of (given found (λ place. Ok (record { plate = with_place plate place (Some (fresh name mesh)); reply = reply.Object place })))) p ≡ false
        → HaveOneMesh plate (plate_after plate (given found (λ place. Ok (record { plate = with_place plate place (Some (fresh name mesh)); reply = reply.Object place })))) p
    by_place mesh (Ok place) e = other_place plate.places place p (Some (fresh name mesh)) (unlike place p e)
    by_place mesh (Err r) e = refl

    by_mesh : (read : Result (List Facet) EditRefusal) → may_change (Load name block) (reply_of (given read (λ mesh. given (free_place plate.places) (λ place. Ok (record { plate = with_place plate place (Some (fresh name mesh)); reply = reply.Object place }))))) p ≡ false
        → HaveOneMesh plate (plate_after plate (given read (λ mesh. given (free_place plate.places) (λ place. Ok (record { plate = with_place plate place (Some (fresh name mesh)); reply = reply.Object place }))))) p
    by_mesh (Ok mesh) e = by_place mesh (free_place plate.places) e
    by_mesh (Err r) e = refl

-- a reload that is done changes its place, and a refused one none
reload_apart : (plate : Contents) (place : ℕ) (block : Data) (p : ℕ) → may_change (Reload place block) (edit_reply plate (Reload place block)) p ≡ false → HaveOneMesh plate (edited plate (Reload place block)) p
reload_apart plate place block p = by_object (object_at plate.places place)
  where
    by_mesh : (object : Object) (read : Result (List Facet) EditRefusal)
        → may_change (Reload place block) (reply_of (given (given read (λ mesh. as_done (record object { mesh = mesh }))) (λ changed. Ok (record { plate = with_place plate place (Some changed.object); reply = changed.reply })))) p ≡ false
        → HaveOneMesh plate (plate_after plate (given (given read (λ mesh. as_done (record object { mesh = mesh }))) (λ changed. Ok (record { plate = with_place plate place (Some changed.object); reply = changed.reply })))) p
    by_mesh object (Ok mesh) e = other_place plate.places place p (Some (record object { mesh = mesh })) (unlike place p e)
    by_mesh object (Err r) e = refl

    by_object : (found : Result Object EditRefusal)
        → may_change (Reload place block) (reply_of (given found (λ object. given (reloaded block object) (λ changed. Ok (record { plate = with_place plate place (Some changed.object); reply = changed.reply }))))) p ≡ false
        → HaveOneMesh plate (plate_after plate (given found (λ object. given (reloaded block object) (λ changed. Ok (record { plate = with_place plate place (Some changed.object); reply = changed.reply }))))) p
    by_object (Ok object) e = by_mesh object (mesh_in block.bytes) e
    by_object (Err r) e = refl

-- and so with a delete
delete_apart : (plate : Contents) (place p : ℕ) → may_change (Delete place) (edit_reply plate (Delete place)) p ≡ false → HaveOneMesh plate (edited plate (Delete place)) p
delete_apart plate place p = by_object (object_at plate.places place)
  where
    by_object : (found : Result Object EditRefusal) → may_change (Delete place) (reply_of (given found (λ object. done (with_place plate place None)))) p ≡ false
        → HaveOneMesh plate (plate_after plate (given found (λ object. done (with_place plate place None)))) p
    by_object (Ok object) e = other_place plate.places place p None (unlike place p e)
    by_object (Err r) e = refl

pub others_keep : (plate : Contents) (edit : Edit) (p : ℕ) → may_change edit (edit_reply plate edit) p ≡ false → HaveOneMesh plate (edited plate edit) p
others_keep plate (Load name block) p e = load_apart plate name block p e
others_keep plate (Reload place block) p e = reload_apart plate place block p e
others_keep plate (Delete place) p e = delete_apart plate place p e
others_keep plate (Copy place x y) p e = after_it plate p _ (object_kept plate place p (copied (shift_of x y)) (copied_keeps (shift_of x y)))
others_keep plate (Move place instance x y) p e = after_it plate p _ (object_kept plate place p _ (moved_keeps instance (shift_of x y)))
others_keep plate (Drop place instance) p e = after_it plate p _ (object_kept plate place p _ (dropped_keeps instance))
others_keep plate (Turn place quarter) p e = after_it plate p _ (object_kept plate place p (turned quarter) (λ _. refl))
others_keep plate (Set key text) p e = after_it plate p _ (set_kept plate key text p)
others_keep plate (Override place key text) p e = after_it plate p _ (object_kept plate place p _ (overridden_keeps key text))
others_keep plate (Unset place key) p e = after_it plate p _ (object_kept plate place p _ (unset_keeps key))
others_keep plate (Ini block) p e = after_it plate p _ (configured_kept plate block p)
