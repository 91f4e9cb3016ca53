-- Each text has one reading: the blocks of its lines, or their first breach.
use Rattle.std.proofs.Common.{◌≡◌, ℕ, zero, suc, ◌+◌, ◌≤◌, nat_lt, take, true, false, Option, Some, None, Result, Ok, Err, List, [], ◌∷◌, ◌++◌, length, All, inl, inr, refl, sym, ap, subst, ◌∙◌, append_assoc, append-nil, arith}
use Rattle.std.specs.Result.{MatchResult}
use Rattle.std.specs.List.{position_or_len}
use Rattle.std.specs.Option.{option_map, ok_or}
use Rattle.std.proofs.lemmas.Bool.{cases_Bool, cond-true, cond-false}
use Rattle.std.proofs.lemmas.Bool.Decides.{nat_tests}
use Rattle.std.proofs.lemmas.List.Elements.{All-from_get_or}
use Rattle.std.proofs.lemmas.List.Sums.{fails_before_first}
use Rattle.pl_edit.specs.Data.{Data}
use Rattle.pl_script.specs.declared.fault.ScriptFault.{ScriptFault}
use Rattle.pl_script.specs.declared.fault.ScriptFault.TheVariants.{NoHead, BadLine, SameData, CutData, NoData}
use Rattle.pl_script.specs.Lines.{line_words}
use Rattle.pl_script.specs.Script.{breach, is_block_end, is_data, data_name, with_ends, body_of, block_after, is_head}
use Rattle.pl_script.specs.Grammar.{counts}
use Rattle.pl_script.proofs.OneReading.{named_found}
use Rattle.pl_script.proofs.OneReading as script
use Rattle.pl_sliced.specs.declared.text.Kind.{Kind}
use Rattle.pl_sliced.specs.declared.text.Part.{Part}
use Rattle.pl_sliced.specs.declared.text.Found.{Found}
use Rattle.pl_sliced.specs.declared.text.SliceText.{SliceText}
use Rattle.pl_sliced.specs.Text.{kind_of, nothing, part_of, slice_text_in}
use Rattle.pl_sliced.specs.Grammar.{IsBeginning, head, passed, block, IsSliceText, IsFault, no_block, bad_name, other_name, same, cut, IsFirstBreach, no_lines, no_head, bad_line, no_mesh}
use Rattle.pl_sliced.proofs.Texts.{text_read, breach_named}

-- the lines are those of a text for slicing, or have a first breach, as they are read
abbrev pub Reads : List (List ℕ) → Type 0
Reads lines = MatchResult (slice_text_in lines) (IsSliceText lines) (λ b. IsFirstBreach lines b.line b.fault)

text_reads : (lines : List (List ℕ)) (text : SliceText) → IsSliceText lines text → Reads lines
text_reads lines text h = subst (λ said. MatchResult said (IsSliceText lines) (λ b. IsFirstBreach lines b.line b.fault)) (sym (text_read lines text h)) h

breach_reads : (lines : List (List ℕ)) (number : ℕ) (fault : ScriptFault) → IsFirstBreach lines number fault → Reads lines
breach_reads lines number fault h = subst (λ said. MatchResult said (IsSliceText lines) (λ b. IsFirstBreach lines b.line b.fault)) (sym (breach_named lines number fault h)) h

-- at the end there is a mesh or none
end_reads : (lines : List (List ℕ)) (found : Found) → IsBeginning lines found → Reads lines
end_reads lines found h = by found.mesh refl
  where
    by : (mesh : Option Part) → found.mesh ≡ mesh → Reads lines
    by None e = breach_reads lines (length lines) NoData (no_mesh lines found h e)
    by (Some part) e = text_reads lines (record { settings = found.settings; mesh = part }) (subst (λ (m : Option Part). IsBeginning lines (record { settings = found.settings; mesh = m })) e h)

-- the block of a name has it

abbrev name_in : List ℕ → Result Data ScriptFault → List ℕ
name_in name (Ok data_block) = data_block.name
name_in name (Err fault) = name

block_name : (lines : List (List ℕ)) (name : List ℕ) (data_block : Data) → block_after lines name ≡ Ok data_block → name ≡ data_block.name
block_name lines name data_block e = by (body_of lines) e
  where
    by : (body : Option (List (List ℕ))) → ok_or (option_map (λ b. record { name = name; bytes = with_ends b }) body) CutData ≡ Ok data_block → name ≡ data_block.name
    by None e = absurd (cc)
    by (Some body) e = ap (name_in name) e

-- a block that is not read has no end

abbrev fault_in : ScriptFault → Result Data ScriptFault → ScriptFault
fault_in other (Ok data_block) = other
fault_in other (Err fault) = fault

all_fail : (lines : List (List ℕ)) → length lines ≤ position_or_len is_block_end lines → All (λ line. is_block_end line ≡ false) lines
all_fail lines le = All-from_get_or (λ line. is_block_end line ≡ false) lines [] (λ i lt. fails_before_first is_block_end lines i [] (omega (arith, lt, le)))

no_block_after : (lines : List (List ℕ)) (name : List ℕ) (fault : ScriptFault) → block_after lines name ≡ Err fault → (CutData ≡ fault) × All (λ line. is_block_end line ≡ false) lines
no_block_after lines name fault e =
    let read : Option ℕ → Result Data ScriptFault = λ at. ok_or (option_map (λ b. record { name = name; bytes = with_ends b }) (option_map (λ n. take n lines) at)) CutData in
    elim (cases_Bool (nat_lt (position_or_len is_block_end lines) (length lines))) [
      | inl within ↦
          let both : Err fault ≡ read (Some (position_or_len is_block_end lines)) = sym e ∙ ap read (cond-true (nat_lt (position_or_len is_block_end lines) (length lines)) _ _ within) in
          absurd (cc)
      | inr without ↦
          let none : block_after lines name ≡ Err CutData = ap read (cond-false (nat_lt (position_or_len is_block_end lines) (length lines)) _ _ without) in
          (ap (fault_in fault) (sym none ∙ e), all_fail lines (grind (arith, nat_tests, without)))
    ]

-- on from the blocks of lines, where any such lines with so many further ones are read

abbrev pub GoesOn : ℕ → Type 0
GoesOn most = (before : List (List ℕ)) (found : Found) (rest : List (List ℕ)) → length rest ≤ most → IsBeginning before found → Reads (before ++ rest)

module _ (most : ℕ) (go_on : GoesOn most) (before : List (List ℕ)) (found : Found) (line : List ℕ) (rest : List (List ℕ)) (fewer : length rest ≤ most) (h : IsBeginning before found) where
  faulty : counts line ≡ true → (fault : ScriptFault) → IsFault found line rest fault → Reads (before ++ line ∷ rest)
  faulty here fault is = breach_reads (before ++ line ∷ rest) (length before + 1) fault (bad_line before found line rest fault h here is)

  by_block : (name : List ℕ) (kind : Kind) → counts line ≡ true → is_data (line_words line) ≡ true → data_name (line_words line) ≡ Ok name → kind_of name ≡ Some kind → part_of found kind ≡ None
      → (said : Result Data ScriptFault) → block_after rest name ≡ said → Reads (before ++ line ∷ rest)
  by_block name kind here starts named is new (Ok data_block) e =
      let read : script.Found [] line rest data_block = named_found [] line rest data_block name starts named refl e in
      subst Reads (append_assoc before read.part read.rest ∙ ap (λ ls. before ++ ls) (sym read.all))
      (go_on (before ++ read.part) _ read.rest (omega (arith, read.shorter, fewer)) (block before found read.part data_block kind h read.is (ap kind_of (sym (block_name rest name data_block e)) ∙ is) new))
  by_block name kind here starts named is new (Err fault) e =
      let none = no_block_after rest name fault e in
      faulty here fault (subst (IsFault found line rest) none.0 (cut name kind starts named is new none.1))

  by_part : (name : List ℕ) (kind : Kind) → counts line ≡ true → is_data (line_words line) ≡ true → data_name (line_words line) ≡ Ok name → kind_of name ≡ Some kind
      → (part : Option Part) → part_of found kind ≡ part → Reads (before ++ line ∷ rest)
  by_part name kind here starts named is None e = by_block name kind here starts named is e (block_after rest name) refl
  by_part name kind here starts named is (Some part) e = faulty here SameData (same name kind part starts named is e)

  by_kind : (name : List ℕ) → counts line ≡ true → is_data (line_words line) ≡ true → data_name (line_words line) ≡ Ok name → (kind : Option Kind) → kind_of name ≡ kind → Reads (before ++ line ∷ rest)
  by_kind name here starts named None e = faulty here BadLine (other_name name starts named e)
  by_kind name here starts named (Some kind) e = by_part name kind here starts named e (part_of found kind) refl

  by_name : counts line ≡ true → is_data (line_words line) ≡ true → (said : Result (List ℕ) ScriptFault) → data_name (line_words line) ≡ said → Reads (before ++ line ∷ rest)
  by_name here starts (Ok name) e = by_kind name here starts e (kind_of name) refl
  by_name here starts (Err fault) e = faulty here fault (bad_name fault starts e)

  pub line_reads : Reads (before ++ line ∷ rest)
  line_reads =
      elim (cases_Bool (counts line)) [
        | inl here ↦ elim (cases_Bool (is_data (line_words line))) [
          | inl starts ↦ by_name here starts (data_name (line_words line)) refl
          | inr other ↦ faulty here BadLine (no_block other)
        ]
        | inr over ↦ subst Reads (append_assoc before (line ∷ []) rest) (go_on (before ++ line ∷ []) found rest fewer (passed before found line h over))
      ]

pub reads_on : (most : ℕ) → GoesOn most
reads_on most before found [] le h = subst Reads (sym (append-nil before)) (end_reads before found h)
reads_on zero before found (line ∷ rest) le h = absurd (omega (arith, le))
reads_on (suc most) before found (line ∷ rest) le h = line_reads most (reads_on most) before found line rest (omega (arith, le)) h

pub one_reading : (lines : List (List ℕ)) → Reads lines
one_reading [] = no_lines
one_reading (line ∷ lines) =
    elim (cases_Bool (is_head (line_words line))) [
      | inl first ↦ reads_on (length lines) (line ∷ []) nothing lines (omega arith) (head line first)
      | inr other ↦ breach_reads (line ∷ lines) 1 NoHead (no_head line lines other)
    ]

pub its_text : (lines : List (List ℕ)) (text : SliceText) → slice_text_in lines ≡ Ok text → IsSliceText lines text
its_text lines text e = subst (λ said. MatchResult said (IsSliceText lines) (λ b. IsFirstBreach lines b.line b.fault)) e (one_reading lines)

pub its_breach : (lines : List (List ℕ)) (number : ℕ) (fault : ScriptFault) → slice_text_in lines ≡ breach number fault → IsFirstBreach lines number fault
its_breach lines number fault e = subst (λ said. MatchResult said (IsSliceText lines) (λ b. IsFirstBreach lines b.line b.fault)) e (one_reading lines)
