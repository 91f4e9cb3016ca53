-- Breaches of blocks stand within them.
use Rattle.std.proofs.Common.{ℕ, ◌+◌, ◌-◌, ◌==◌, ◌≤◌, ◌^◌, Option, Some, None, Result, Ok, Err, List, [], ◌∷◌, ◌++◌, length, map, All, sym, subst, ◌∙◌, inl, inr, arith}
use Rattle.std.specs.List.{sum_by, position}
use Rattle.std.specs.Option.{IfSome, ok_or, is_none}
use Rattle.std.proofs.lemmas.Bool.{cases_Bool, cond-true, cond-false}
use Rattle.std.proofs.lemmas.List.{length-map}
use Rattle.std.proofs.lemmas.List.Elements.{All-nil, All-cons, All-append, All-head, All-tail}
use Rattle.std.proofs.lemmas.List.Sums.{sum_by-cons, sum_by-take-le, count_by-le-length}
use Rattle.std.proofs.lemmas.List.Splits.{length-slice_split}
use Rattle.pl_stl.specs.declared.mesh.Facet.{Facet}
use Rattle.pl_stl.specs.declared.form.Place.{Place}
use Rattle.pl_stl.specs.declared.form.Place.TheVariants as at
use Rattle.pl_stl.specs.Tokens.{Token, tokens, tokens_from, is_white_space, line_end, ended, last_line}
use Rattle.pl_stl.specs.Reading.{State, Breach, Next, start, step, moved, bind, run, some_facets, finished, mesh_of}
use Rattle.pl_stl.specs.Reading as stl
use Rattle.pl_options.specs.declared.fault.IniFault.{IniFault}
use Rattle.pl_options.specs.Lines.{lines_of, line_of}
use Rattle.pl_options.specs.Settings.{Settings, settings_of}
use Rattle.pl_edit.specs.Data.{Data}
use Rattle.pl_edit.specs.declared.edit.Edit.TheVariants.{Load, Ini}
use Rattle.pl_edit.specs.declared.reply.EditReply.TheVariants as reply
use Rattle.pl_edit.specs.declared.reply.EditRefusal.TheVariants.{FullObjects}
use Rattle.pl_model.specs.Contents.{Contents, with_place, fresh}
use Rattle.pl_model.specs.Finding.{mesh_read, ini_read}
use Rattle.pl_model.specs.Outcomes.{given, reply_of, edit_reply}
use Rattle.pl_model.specs.Settings.{IniBreach, breach, before, said_from, settings_by, ini_of, put_over}
use Rattle.pl_sliced.specs.Plates.{block_fault}

-- settings texts

abbrev pub IsNear : {X : Type 0} → ℕ → Result X IniBreach → Type 0
IsNear most (Ok x) = Unit {0}
IsNear most (Err (breach line why)) = line ≤ most

before_near : {X : Type 0} (most : ℕ) (line : X) (said : Result (List X) IniBreach) → IsNear most said → IsNear most (before line said)
before_near most line (Ok lines) h = tt
before_near most line (Err (breach number why)) h = h

said_near : {X : Type 0} (most number : ℕ) (said : List (Result X IniFault)) → number + length said ≤ most + 1 → IsNear most (said_from number said)
said_near most number [] le = tt
said_near most number (Ok line ∷ rest) le = before_near most line (said_from (number + 1) rest) (said_near most (number + 1) rest (omega (arith, le)))
said_near most number (Err why ∷ rest) le = omega (arith, le)

settings_near : {X : Type 0} (most : ℕ) (f : List X → Settings) (said : Result (List X) IniBreach) → IsNear most said → IsNear most (settings_by f said)
settings_near most f (Ok lines) h = tt
settings_near most f (Err (breach number why)) h = h

ini_near : (bytes : List ℕ) → IsNear (length bytes + 1) (ini_of bytes)
ini_near bytes =
    let count = length-map (lines_of bytes) line_of ∙ length-slice_split (λ b. b == 10) bytes in
    let few = count_by-le-length (λ b. b == 10) bytes in
    settings_near (length bytes + 1) settings_of (said_from 1 (map line_of (lines_of bytes))) (said_near (length bytes + 1) 1 (map line_of (lines_of bytes)) (omega (arith, count, few)))

pub settings_few : (plate : Contents) (block : Data) → length block.bytes ≤ 2 ^ 28 → IfSome (block_fault (edit_reply plate (Ini block))) (λ told. told.0 ≤ 2 ^ 29)
settings_few plate block short = by (ini_of block.bytes) (ini_near block.bytes)
  where
    by : (read : Result Settings IniBreach) → IsNear (length block.bytes + 1) read
        → IfSome (block_fault (reply_of (given (ini_read read) (λ set. Ok (record { plate = record plate { config = put_over set.values plate.config }; reply = reply.Set set.taken set.passed }))))) (λ told. told.0 ≤ 2 ^ 29)
    by (Ok set) near = tt
    by (Err (breach line why)) near = omega (arith, near, short)

-- meshes

abbrev pub IsNearMesh : {X : Type 0} → ℕ → Result X Breach → Type 0
IsNearMesh most (Ok x) = Unit {0}
IsNearMesh most (Err (stl.breach line why)) = line ≤ most

some_near : (most last : ℕ) (mesh : List Facet) → last ≤ most → IsNearMesh most (some_facets last mesh)
some_near most last [] le = le
some_near most last (f ∷ fs) le = tt

finished_near : (most last : ℕ) (place : Place) (mesh : List Facet) → last ≤ most → IsNearMesh most (finished last place mesh)
finished_near most last at.Outside mesh le = some_near most last mesh le
finished_near most last (at.Tail tail) mesh le = some_near most last mesh le
finished_near most last (at.Title title) mesh le = le
finished_near most last at.Facets mesh le = le
finished_near most last (at.Inside count f) mesh le = le

moved_near : (most last line : ℕ) (mesh : List Facet) (ts : List Token) (next : Next) → ((s : State) → IsNearMesh most (run last s ts)) → line ≤ most → IsNearMesh most (bind (moved mesh line next) (λ s. run last s ts))
moved_near most last line mesh ts (Ok p) go le = go _
moved_near most last line mesh ts (Err why) go le = le

run_near : (most last : ℕ) (s : State) (ts : List Token) → last ≤ most → All (λ t. t.line ≤ most) ts → IsNearMesh most (run last s ts)
run_near most last s [] le h = finished_near most last s.place s.mesh le
run_near most last s (t ∷ ts) le h =
    moved_near most last t.line s.mesh ts (step s.place (length s.mesh) t.word t.line) (λ s'. run_near most last s' ts le (All-tail (λ t. t.line ≤ most) t ts h)) (All-head (λ t. t.line ≤ most) t ts h)

ended_near : (most line : ℕ) (word : List ℕ) → line ≤ most → All (λ t. t.line ≤ most) (ended line word)
ended_near most line [] le = All-nil (λ t. t.line ≤ most)
ended_near most line (b ∷ bs) le = All-cons (λ t. t.line ≤ most) (record { word = b ∷ bs; line = line }) [] le (All-nil (λ t. t.line ≤ most))

one_end : (b : ℕ) → line_end b ≤ 1
one_end b =
    elim (cases_Bool (b == 10)) [
      | inl is ↦ omega (arith, cond-true {A = ℕ} (b == 10) 1 0 is)
      | inr other ↦ omega (arith, cond-false {A = ℕ} (b == 10) 1 0 other)
    ]

tokens_near : (most line : ℕ) (word bytes : List ℕ) → line + length bytes ≤ most → All (λ t. t.line ≤ most) (tokens_from line word bytes)
tokens_near most line word [] le = ended_near most line word (omega (arith, le))
tokens_near most line word (b ∷ bs) le =
    elim (cases_Bool (is_white_space b)) [
      | inl white ↦
          subst (λ ts. All (λ t. t.line ≤ most) ts) (sym (cond-true (is_white_space b) _ _ white))
          (All-append (λ t. t.line ≤ most) (ended line word) (tokens_from (line + line_end b) [] bs) (ended_near most line word (omega (arith, le))) (tokens_near most (line + line_end b) [] bs (omega (arith, le, one_end b))))
      | inr dark ↦ subst (λ ts. All (λ t. t.line ≤ most) ts) (sym (cond-false (is_white_space b) _ _ dark)) (tokens_near most line (word ++ b ∷ []) bs (omega (arith, le)))
    ]

ends_few : (bytes : List ℕ) → sum_by line_end bytes ≤ length bytes
ends_few [] = omega arith
ends_few (b ∷ bs) = omega (arith, sum_by-cons line_end b bs, one_end b, ends_few bs)

mesh_near : (bytes : List ℕ) → IsNearMesh (length bytes + 1) (mesh_of bytes)
mesh_near bytes =
    run_near (length bytes + 1) (last_line bytes) start (tokens bytes) (omega (arith, sum_by-take-le line_end bytes (length bytes - 1), ends_few bytes)) (tokens_near (length bytes + 1) 1 [] bytes (omega arith))

pub mesh_few : (plate : Contents) (name : List ℕ) (block : Data) → length block.bytes ≤ 2 ^ 28 → IfSome (block_fault (edit_reply plate (Load name block))) (λ told. told.0 ≤ 2 ^ 29)
mesh_few plate name block short = by (mesh_of block.bytes) (position is_none plate.places) (mesh_near block.bytes)
  where
    by : (read : Result (List Facet) Breach) (place : Option ℕ) → IsNearMesh (length block.bytes + 1) read
        → IfSome (block_fault (reply_of (given (mesh_read read) (λ mesh. given (ok_or place FullObjects) (λ place. Ok (record { plate = with_place plate place (Some (fresh name mesh)); reply = reply.Object place })))))) (λ told. told.0 ≤ 2 ^ 29)
    by (Ok mesh) (Some place) near = tt
    by (Ok mesh) None near = tt
    by (Err (stl.breach line why)) place near = omega (arith, near, short)
