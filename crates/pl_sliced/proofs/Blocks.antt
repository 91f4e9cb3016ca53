-- The blocks of a text, a line at a time.
use Rattle.std.proofs.Common.{◌≡◌, ℕ, zero, suc, ◌+◌, ◌<◌, nat_lt, Bool, true, false, if◌then◌else◌, Option, Some, None, is_some, Result, Ok, Err, List, [], ◌∷◌, length, drop, inl, inr, refl, sym, ap, ◌∙◌, arith, add-zero}
use Rattle.std.specs.List.{position_or_len}
use Rattle.std.specs.Option.{option_map, option_map_or, ok_or}
use Rattle.std.proofs.lemmas.Bool.{cases_Bool, cond-true, cond-false}
use Rattle.std.proofs.lemmas.Bool.Decides.{nat_tests}
use Rattle.pl_edit.specs.Data.{Data}
use Rattle.pl_script.specs.declared.fault.ScriptFault.{ScriptFault}
use Rattle.pl_script.specs.declared.fault.ScriptFault.TheVariants.{BadLine, SameData, CutData}
use Rattle.pl_script.specs.declared.lines.LinesLeft.{LinesLeft}
use Rattle.pl_script.specs.Outcomes.{and_then, mapped}
use Rattle.pl_script.specs.Lines.{line_words, is_passed_over}
use Rattle.pl_script.specs.Script.{at, is_block_end, is_data, data_name, body_of, with_ends, block_after}
use Rattle.pl_script.specs.Reading.{lines_left, number_left, IsAfterBlock}
use Rattle.pl_sliced.specs.declared.text.Kind.{Kind}
use Rattle.pl_sliced.specs.declared.text.Found.{Found}
use Rattle.pl_sliced.specs.Text.{kind_of, part_of, with_part, with_block, with_named, with_line, blocks_in}

-- the lines of the last block are passed over
pub behind_block : (within number : ℕ) (found : Found) (lines : List (List ℕ)) → blocks_in within number found lines ≡ blocks_in zero (number + within) found (drop within lines)
behind_block zero number found lines = ap (λ n. blocks_in zero n found lines) (sym (add-zero number))
behind_block (suc within) number found [] = refl
behind_block (suc within) number found (line ∷ lines) =
    let same : (number + 1) + within ≡ number + suc within = omega arith in
    behind_block within (number + 1) found lines ∙ ap (λ n. blocks_in zero n found (drop within lines)) same

pub line_passed : (number : ℕ) (found : Found) (line : List ℕ) (lines : List (List ℕ)) → is_passed_over (line_words line) ≡ true → blocks_in zero number found (line ∷ lines) ≡ blocks_in zero (number + 1) found lines
line_passed number found line lines e = cond-true (is_passed_over (line_words line)) _ _ e

line_counts : (number : ℕ) (found : Found) (line : List ℕ) (lines : List (List ℕ)) → is_passed_over (line_words line) ≡ false
    → blocks_in zero number found (line ∷ lines) ≡ and_then (at number (with_line found number (line_words line) lines)) (λ more. blocks_in (position_or_len is_block_end lines + 1) (number + 1) more lines)
line_counts number found line lines e = cond-false (is_passed_over (line_words line)) _ _ e

pub line_refused : (number : ℕ) (found : Found) (line : List ℕ) (lines : List (List ℕ)) (fault : ScriptFault) → is_passed_over (line_words line) ≡ false → with_line found number (line_words line) lines ≡ Err fault
    → blocks_in zero number found (line ∷ lines) ≡ Err (record { line = number; fault = fault })
line_refused number found line lines fault counts is =
    line_counts number found line lines counts
    ∙ ap (λ said. and_then (at number said) (λ more. blocks_in (position_or_len is_block_end lines + 1) (number + 1) more lines)) is

pub block_read : (number : ℕ) (found more : Found) (line : List ℕ) (lines : List (List ℕ)) → is_passed_over (line_words line) ≡ false → with_line found number (line_words line) lines ≡ Ok more
    → blocks_in zero number found (line ∷ lines) ≡ blocks_in zero ((number + 1) + (position_or_len is_block_end lines + 1)) more (drop (position_or_len is_block_end lines + 1) lines)
block_read number found more line lines counts is =
    line_counts number found line lines counts
    ∙ ap (λ said. and_then (at number said) (λ m. blocks_in (position_or_len is_block_end lines + 1) (number + 1) m lines)) is
    ∙ behind_block (position_or_len is_block_end lines + 1) (number + 1) more lines

pub block_taken : (number : ℕ) (found more : Found) (line : List ℕ) (before after : LinesLeft) → is_passed_over (line_words line) ≡ false → with_line found number (line_words line) (lines_left before) ≡ Ok more
    → IsAfterBlock before after → number_left before ≡ number + 1
    → blocks_in zero number found (line ∷ lines_left before) ≡ blocks_in zero (number_left after) more (lines_left after)
block_taken number found more line before after counts is rest next =
    block_read number found more line (lines_left before) counts is
    ∙ ap (λ n. blocks_in zero n more (drop (position_or_len is_block_end (lines_left before) + 1) (lines_left before))) (ap (λ n. n + (position_or_len is_block_end (lines_left before) + 1)) (sym next) ∙ sym rest.number)
    ∙ ap (λ lines. blocks_in zero (number_left after) more lines) (sym rest.lines)

-- the end of a block that was read comes

abbrev Ends : List (List ℕ) → Type 0
Ends lines = position_or_len is_block_end lines < length lines

block_ends : (lines : List (List ℕ)) (name : List ℕ) (block : Data) → block_after lines name ≡ Ok block → Ends lines
block_ends lines name block e =
    elim (cases_Bool (nat_lt (position_or_len is_block_end lines) (length lines))) [
      | inl within ↦ grind (arith, nat_tests, within)
      | inr without ↦
          let none : body_of lines ≡ None = ap (option_map _) (cond-false (nat_lt (position_or_len is_block_end lines) (length lines)) _ _ without) in
          let both : Err CutData ≡ Ok block = sym (ap (λ o. ok_or (option_map (λ body. record { name = name; bytes = with_ends body }) o) CutData) none) ∙ e in
          absurd (cc)
    ]

mapped_ends : (lines : List (List ℕ)) (name : List ℕ) (f : Data → Found) (more : Found) (said : Result Data ScriptFault) → block_after lines name ≡ said → mapped f said ≡ Ok more → Ends lines
mapped_ends lines name f more (Ok block) is e = block_ends lines name block is
mapped_ends lines name f more (Err fault) is e = absurd (cc)

pub line_ends : (found more : Found) (number : ℕ) (words lines : List (List ℕ)) → with_line found number words lines ≡ Ok more → Ends lines
line_ends found more number words lines e = by_data (is_data words) e
  where
    by_same : (name : List ℕ) (kind : Kind) (same : Bool) → (if same then Err SameData else mapped (λ block. with_part found kind (record { line = number; block = block })) (block_after lines name)) ≡ Ok more → Ends lines
    by_same name kind true e = absurd (cc)
    by_same name kind false e = mapped_ends lines name (λ block. with_part found kind (record { line = number; block = block })) more (block_after lines name) refl e

    by_kind : (name : List ℕ) (kind : Option Kind) → option_map_or (with_block found number lines name) kind (Err BadLine) ≡ Ok more → Ends lines
    by_kind name None e = absurd (cc)
    by_kind name (Some kind) e = by_same name kind (is_some (part_of found kind)) e

    by_name : (said : Result (List ℕ) ScriptFault) → and_then said (with_named found number lines) ≡ Ok more → Ends lines
    by_name (Ok name) e = by_kind name (kind_of name) e
    by_name (Err fault) e = absurd (cc)

    by_data : (b : Bool) → (if b then and_then (data_name words) (with_named found number lines) else Err BadLine) ≡ Ok more → Ends lines
    by_data true e = by_name (data_name words) e
    by_data false e = absurd (cc)
