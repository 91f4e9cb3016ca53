-- Reading goes on behind the lines of a text for slicing, and stops at a first breach.
use Rattle.std.proofs.Common.{◌≡◌, ℕ, zero, suc, ◌+◌, true, false, if◌then◌else◌, Option, Some, None, is_some, Result, Ok, Err, List, [], ◌∷◌, ◌++◌, length, drop, take, All, refl, sym, ap, ◌∙◌, append_assoc, append-nil, arith, length-append, nat_lt}
use Rattle.std.specs.List.{position_or_len}
use Rattle.std.specs.Option.{option_map, option_map_or, ok_or}
use Rattle.std.proofs.lemmas.Bool.{cond-true, cond-false}
use Rattle.std.proofs.lemmas.Bool.Decides.{nat_tests}
use Rattle.pl_edit.specs.Data.{Data}
use Rattle.pl_script.specs.declared.fault.ScriptFault.{ScriptFault}
use Rattle.pl_script.specs.declared.fault.ScriptFault.TheVariants.{BadLine, SameData, CutData}
use Rattle.pl_script.specs.Outcomes.{and_then, mapped}
use Rattle.pl_script.specs.Lines.{line_words}
use Rattle.pl_script.specs.Script.{Breach, breach, is_block_end, is_data, data_name, body_of, with_ends, block_after, is_head}
use Rattle.pl_script.specs.Grammar.{IsBlock}
use Rattle.pl_script.proofs.BlockBodies.{first_end, drop_body, no_end}
use Rattle.pl_script.proofs.Resumed.{counts_is, passed_is, data_counts}
use Rattle.pl_script.proofs.Texts.{body_is, part_first, longer}
use Rattle.pl_sliced.specs.declared.text.Kind.{Kind}
use Rattle.pl_sliced.specs.declared.text.Part.{Part}
use Rattle.pl_sliced.specs.declared.text.Found.{Found}
use Rattle.pl_sliced.specs.declared.text.SliceText.{SliceText}
use Rattle.pl_sliced.specs.Text.{kind_of, nothing, part_of, with_part, with_block, with_named, with_line, blocks_in, ended, slice_text_in}
use Rattle.pl_sliced.specs.Grammar.{IsBeginning, head, passed, block, IsSliceText, IsFault, no_block, bad_name, other_name, same, cut, IsFirstBreach, no_lines, no_head, bad_line, no_mesh}
use Rattle.pl_sliced.proofs.Blocks.{line_passed, line_refused, block_read}

-- what a line says, by its words

line_is : (found : Found) (number : ℕ) (words lines : List (List ℕ)) → is_data words ≡ true → with_line found number words lines ≡ and_then (data_name words) (with_named found number lines)
line_is found number words lines e = cond-true (is_data words) _ _ e

named_is : (found : Found) (number : ℕ) (words lines : List (List ℕ)) (name : List ℕ) (kind : Option Kind) → is_data words ≡ true → data_name words ≡ Ok name → kind_of name ≡ kind
    → with_line found number words lines ≡ option_map_or (with_block found number lines name) kind (Err BadLine)
named_is found number words lines name kind starts named is =
    line_is found number words lines starts ∙ ap (λ said. and_then said (with_named found number lines)) named ∙ ap (λ o. option_map_or (with_block found number lines name) o (Err BadLine)) is

block_is : (found : Found) (number : ℕ) (words lines : List (List ℕ)) (name : List ℕ) (kind : Kind) (part : Option Part) → is_data words ≡ true → data_name words ≡ Ok name → kind_of name ≡ Some kind → part_of found kind ≡ part
    → with_line found number words lines ≡ (if is_some part then Err SameData else mapped (λ b. with_part found kind (record { line = number; block = b })) (block_after lines name))
block_is found number words lines name kind part starts named is there =
    named_is found number words lines name (Some kind) starts named is
    ∙ ap (λ o. if is_some o then Err SameData else mapped (λ b. with_part found kind (record { line = number; block = b })) (block_after lines name)) there

no_body : (lines : List (List ℕ)) → All (λ line. is_block_end line ≡ false) lines → body_of lines ≡ None
no_body lines none = ap (option_map (λ n. take n lines)) (cond-false (nat_lt (position_or_len is_block_end lines) (length lines)) _ _ (grind (arith, nat_tests, no_end lines none)))

pub fault_is : (found : Found) (number : ℕ) (line : List ℕ) (rest : List (List ℕ)) (fault : ScriptFault) → IsFault found line rest fault → with_line found number (line_words line) rest ≡ Err fault
fault_is found number line rest _ (no_block e) = cond-false (is_data (line_words line)) _ _ e
fault_is found number line rest fault (bad_name _ starts named) = line_is found number (line_words line) rest starts ∙ ap (λ said. and_then said (with_named found number rest)) named
fault_is found number line rest _ (other_name name starts named other) = named_is found number (line_words line) rest name None starts named other
fault_is found number line rest _ (same name kind part starts named is there) = block_is found number (line_words line) rest name kind (Some part) starts named is there
fault_is found number line rest _ (cut name kind starts named is there none) =
    block_is found number (line_words line) rest name kind None starts named is there
    ∙ ap (λ o. mapped (λ b. with_part found kind (record { line = number; block = b })) (ok_or (option_map (λ body. record { name = name; bytes = with_ends body }) o) CutData)) (no_body rest none)

part_is : (found : Found) (number : ℕ) (part : List (List ℕ)) (data_block : Data) (kind : Kind) (is : IsBlock part data_block) (rest : List (List ℕ)) → kind_of data_block.name ≡ Some kind → part_of found kind ≡ None
    → with_line found number (line_words is.first) (is.body ++ is.last ∷ rest) ≡ Ok (with_part found kind (record { line = number; block = data_block }))
part_is found number part data_block kind is rest named new =
    block_is found number (line_words is.first) (is.body ++ is.last ∷ rest) data_block.name kind None is.data_line is.name named new
    ∙ ap (λ o. mapped (λ b. with_part found kind (record { line = number; block = b })) (ok_or (option_map (λ body. record { name = data_block.name; bytes = with_ends body }) o) CutData)) (body_is is.body is.last rest is.inner is.end)
    ∙ ap (λ b. Ok (with_part found kind (record { line = number; block = record { name = data_block.name; bytes = b } }))) (sym is.bytes)

-- where the lines go on

abbrev pub finish : ℕ → Result Found Breach → Result SliceText Breach
finish last said = and_then said (λ found. ended last found.settings found.mesh)

abbrev resume : ℕ → ℕ → Found → List (List ℕ) → Result SliceText Breach
resume last number found rest = finish last (blocks_in zero number found rest)

same_resume : (found : Found) (rest : List (List ℕ)) (k l m n : ℕ) → k ≡ l → m ≡ n → resume k m found rest ≡ resume l n found rest
same_resume found rest k l m n p q = λ i. resume (p i) (q i) found rest

resume_part : (last number : ℕ) (found : Found) (part : List (List ℕ)) (data_block : Data) (kind : Kind) (is : IsBlock part data_block) (rest : List (List ℕ)) → kind_of data_block.name ≡ Some kind → part_of found kind ≡ None
    → resume last number found (is.first ∷ (is.body ++ is.last ∷ rest)) ≡ resume last (number + length part) (with_part found kind (record { line = number; block = data_block })) rest
resume_part last number found part data_block kind is rest named new =
    let lines = is.body ++ is.last ∷ rest in
    let more = with_part found kind (record { line = number; block = data_block }) in
    let at : position_or_len is_block_end lines ≡ length is.body = first_end is.body is.last rest is.inner is.end in
    let long : length part ≡ suc (length (is.body ++ is.last ∷ [])) = ap length is.all in
    let count : (number + 1) + (position_or_len is_block_end lines + 1) ≡ number + length part = omega (arith, at, long, length-append is.body (is.last ∷ [])) in
    let left : drop (position_or_len is_block_end lines + 1) lines ≡ rest = ap (λ n. drop (n + 1) lines) at ∙ drop_body is.body is.last rest in
    ap (finish last) (block_read number found more is.first lines (data_counts (line_words is.first) is.data_line) (part_is found number part data_block kind is rest named new))
    ∙ (λ i. resume last (count i) more (left i))

pub resumed : (lines : List (List ℕ)) (found : Found) → IsBeginning lines found → (rest : List (List ℕ)) → slice_text_in (lines ++ rest) ≡ resume (length (lines ++ rest)) (length lines + 1) found rest
resumed _ _ (head line h) rest = cond-true (is_head (line_words line)) _ _ h ∙ same_resume nothing rest _ _ 2 2 (omega arith) refl
resumed _ _ (passed before found line h e) rest =
    ap slice_text_in (append_assoc before (line ∷ []) rest)
    ∙ resumed before found h (line ∷ rest)
    ∙ ap (finish (length (before ++ line ∷ rest))) (line_passed (length before + 1) found line rest (passed_is line e))
    ∙ same_resume found rest _ _ _ _ (ap length (sym (append_assoc before (line ∷ []) rest))) (sym (longer before line))
resumed _ _ (block before found part data_block kind h is named new) rest =
    ap slice_text_in (part_first before part data_block is rest)
    ∙ resumed before found h (is.first ∷ (is.body ++ is.last ∷ rest))
    ∙ resume_part (length (before ++ (is.first ∷ (is.body ++ is.last ∷ rest)))) (length before + 1) found part data_block kind is rest named new
    ∙ same_resume _ rest _ _ _ _ (ap length (sym (part_first before part data_block is rest))) (omega (arith, length-append before part))

at_end : (lines : List (List ℕ)) (found : Found) → IsBeginning lines found → slice_text_in lines ≡ ended (length lines) found.settings found.mesh
at_end lines found h =
    ap slice_text_in (sym (append-nil lines)) ∙ resumed lines found h [] ∙ ap (λ ls. ended (length ls) found.settings found.mesh) (append-nil lines)

-- the blocks of a text for slicing are read
pub text_read : (lines : List (List ℕ)) (text : SliceText) → IsSliceText lines text → slice_text_in lines ≡ Ok text
text_read lines text h = at_end lines (record { settings = text.settings; mesh = Some text.mesh }) h

-- a first breach is named
pub breach_named : (lines : List (List ℕ)) (number : ℕ) (fault : ScriptFault) → IsFirstBreach lines number fault → slice_text_in lines ≡ breach number fault
breach_named _ _ _ no_lines = refl
breach_named _ _ _ (no_head line rest e) = cond-false (is_head (line_words line)) _ _ e
breach_named _ _ _ (bad_line before found line rest fault h e is) =
    resumed before found h (line ∷ rest)
    ∙ ap (finish (length (before ++ line ∷ rest))) (line_refused (length before + 1) found line rest fault (counts_is line e) (fault_is found (length before + 1) line rest fault is))
breach_named _ _ _ (no_mesh lines found h none) = at_end lines found h ∙ ap (ended (length lines) found.settings) none
