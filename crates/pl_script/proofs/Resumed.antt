-- Reading, from a line of a script on.
use Rattle.std.proofs.Common.{◌≡◌, ℕ, zero, ◌+◌, Bool, true, false, not, ◌&&◌, Some, None, Result, Ok, Err, List, [], ◌∷◌, ◌++◌, length, codes, drop, refl, sym, ap, ◌∙◌, append_assoc, length-append}
use Rattle.std.specs.List.{position_or_len}
use Rattle.std.specs.Str.{bytes_eq}
use Rattle.std.proofs.lemmas.Bool.{cond-false}
use Rattle.std.proofs.lemmas.Slice.Eq.{bytes_eq-Decides}
use Rattle.pl_edit.specs.Data.{Data}
use Rattle.pl_script.specs.declared.script.Line.{Line}
use Rattle.pl_script.specs.declared.fault.ScriptFault.{ScriptFault}
use Rattle.pl_script.specs.Outcomes.{and_then, mapped}
use Rattle.pl_script.specs.Lines.{line_text, line_words, is_passed_over, begins_comment}
use Rattle.pl_script.specs.Script.{Script, Breach, breach, at, command_of, commands_in, is_block_end, is_data, block_in, body_in, with_workers, workers_in, at_workers, after_head}
use Rattle.pl_script.specs.Grammar.{counts, is_workers, is_empty}
use Rattle.pl_script.proofs.Bodies.{body_passed, body_commands, body_block, body_data, head_passed, head_line, commands_passed, commands_line}

-- a line that counts is not passed over
pub counts_is : (line : List ℕ) → counts line ≡ true → is_passed_over (line_words line) ≡ false
counts_is line e = by (is_passed_over (line_words line)) e
  where
    by : (b : Bool) → not b ≡ true → b ≡ false
    by true e = absurd (cc)
    by false e = refl

pub passed_is : (line : List ℕ) → counts line ≡ false → is_passed_over (line_words line) ≡ true
passed_is line e = by (is_passed_over (line_words line)) e
  where
    by : (b : Bool) → not b ≡ false → b ≡ true
    by true e = refl
    by false e = absurd (cc)

-- what is read behind so many lines with these blocks and command lines
abbrev pub behind : ℕ → List Data → List Line → List (List ℕ) → Result (List Data × List Line) Breach
behind number blocks [] rest = body_in zero number blocks rest
behind number blocks (c ∷ cs) rest = mapped (λ more. (blocks, (c ∷ cs) ++ more)) (commands_in blocks (length (c ∷ cs)) number rest)

-- what is read behind lines of a script, of which only the head counts or not
abbrev pub resume : Bool → ℕ → Script → List (List ℕ) → Result Script Breach
resume true number script rest = after_head number rest
resume false number script rest = with_workers script.workers (behind number script.blocks script.lines rest)

-- a line that is passed over

behind_passed : (number : ℕ) (blocks : List Data) (lines : List Line) (line : List ℕ) (rest : List (List ℕ)) → counts line ≡ false → behind number blocks lines (line ∷ rest) ≡ behind (number + 1) blocks lines rest
behind_passed number blocks [] line rest e = body_passed number blocks line rest (passed_is line e)
behind_passed number blocks (c ∷ cs) line rest e = ap (mapped (λ more. (blocks, (c ∷ cs) ++ more))) (commands_passed blocks (length (c ∷ cs)) number line rest (passed_is line e))

pub resume_passed : (only : Bool) (number : ℕ) (script : Script) (line : List ℕ) (rest : List (List ℕ)) → counts line ≡ false → resume only number script (line ∷ rest) ≡ resume only (number + 1) script rest
resume_passed true number script line rest e = head_passed number line rest (passed_is line e)
resume_passed false number script line rest e = ap (with_workers script.workers) (behind_passed number script.blocks script.lines line rest e)

-- a line that gives the workers

pub resume_workers : (number : ℕ) (script : Script) (line : List ℕ) (rest : List (List ℕ)) (workers : ℕ) → counts line ≡ true → workers_in (line_words line) ≡ Ok (Some workers) → script.blocks ≡ [] → script.lines ≡ []
    → resume true number script (line ∷ rest) ≡ resume false (number + 1) (record { workers = workers; blocks = script.blocks; lines = script.lines }) rest
resume_workers number script line rest workers e is no_blocks no_lines =
    head_line number line rest (counts_is line e)
    ∙ ap (λ said. and_then (at number said) (λ found. at_workers found number line rest)) is
    ∙ ap (λ blocks. with_workers workers (behind (number + 1) blocks [] rest)) (sym no_blocks)
    ∙ ap (λ lines. with_workers workers (behind (number + 1) script.blocks lines rest)) (sym no_lines)

pub resume_bad_workers : (number : ℕ) (script : Script) (line : List ℕ) (rest : List (List ℕ)) (fault : ScriptFault) → counts line ≡ true → workers_in (line_words line) ≡ Err fault → resume true number script (line ∷ rest) ≡ breach number fault
resume_bad_workers number script line rest fault e is = head_line number line rest (counts_is line e) ∙ ap (λ said. and_then (at number said) (λ found. at_workers found number line rest)) is

-- any other line that counts

no_workers_in : (words : List (List ℕ)) → is_workers words ≡ false → workers_in words ≡ Ok None
no_workers_in [] e = refl
no_workers_in (word ∷ words) e = cond-false (bytes_eq word (codes "workers")) _ _ e

pub resume_other : (only : Bool) (number : ℕ) (script : Script) (line : List ℕ) (rest : List (List ℕ)) → counts line ≡ true → (only && is_workers (line_words line)) ≡ false → (only ≡ true → (script.workers ≡ 0) × (script.blocks ≡ []) × (script.lines ≡ []))
    → resume only number script (line ∷ rest) ≡ with_workers script.workers (behind number script.blocks script.lines (line ∷ rest))
resume_other true number script line rest e other h =
    let bare = h refl in
    head_line number line rest (counts_is line e)
    ∙ ap (λ said. and_then (at number said) (λ found. at_workers found number line rest)) (no_workers_in (line_words line) other)
    ∙ ap (λ n. with_workers n (behind number [] [] (line ∷ rest))) (sym bare.0)
    ∙ ap (λ blocks. with_workers script.workers (behind number blocks [] (line ∷ rest))) (sym bare.1)
    ∙ ap (λ lines. with_workers script.workers (behind number script.blocks lines (line ∷ rest))) (sym bare.2)
resume_other false number script line rest e other h = refl

-- a line that begins a block

pub data_counts : (words : List (List ℕ)) → is_data words ≡ true → is_passed_over words ≡ false
data_counts [] e = absurd (cc)
data_counts (word ∷ words) e = ap begins_comment ((bytes_eq-Decides word (codes "data")).0 e)

pub workers_count : (words : List (List ℕ)) → is_workers words ≡ true → is_passed_over words ≡ false
workers_count [] e = absurd (cc)
workers_count (word ∷ words) e = ap begins_comment ((bytes_eq-Decides word (codes "workers")).0 e)

pub behind_block_read : (number : ℕ) (blocks : List Data) (line : List ℕ) (rest : List (List ℕ)) (block : Data) → is_data (line_words line) ≡ true → block_in blocks (line_words line) rest ≡ Ok block
    → behind number blocks [] (line ∷ rest) ≡ behind ((number + 1) + (position_or_len is_block_end rest + 1)) (blocks ++ block ∷ []) [] (drop (position_or_len is_block_end rest + 1) rest)
behind_block_read number blocks line rest block starts is = body_block number blocks line rest block (data_counts (line_words line) starts) starts is

pub behind_bad_block : (number : ℕ) (blocks : List Data) (line : List ℕ) (rest : List (List ℕ)) (fault : ScriptFault) → is_data (line_words line) ≡ true → block_in blocks (line_words line) rest ≡ Err fault → behind number blocks [] (line ∷ rest) ≡ breach number fault
behind_bad_block number blocks line rest fault starts is =
    body_data number blocks line rest (data_counts (line_words line) starts) starts
    ∙ ap (λ said. and_then (at number said) (λ block. body_in (position_or_len is_block_end rest + 1) (number + 1) (blocks ++ block ∷ []) rest)) is

-- a command line

mapped_more : {A : Type 0} (f : List Line → A) (g : List Line → List Line) (said : Result (List Line) Breach) → mapped f (mapped g said) ≡ mapped (λ more. f (g more)) said
mapped_more f g (Ok more) = refl
mapped_more f g (Err e) = refl

mapped_alike : {A : Type 0} (f g : List Line → A) (said : Result (List Line) Breach) → ((more : List Line) → f more ≡ g more) → mapped f said ≡ mapped g said
mapped_alike f g (Ok more) h = ap Ok (h more)
mapped_alike f g (Err e) h = refl

one_command : (blocks : List Data) (before number : ℕ) (line : List ℕ) (rest : List (List ℕ)) (c : Line) → counts line ≡ true → command_of blocks before number (line_text line) ≡ Ok c
    → commands_in blocks before number (line ∷ rest) ≡ mapped (λ more. c ∷ more) (commands_in blocks (before + 1) (number + 1) rest)
one_command blocks before number line rest c e is =
    commands_line blocks before number line rest (counts_is line e)
    ∙ ap (λ said. and_then (at number said) (λ first. mapped (λ more. first ∷ more) (commands_in blocks (before + 1) (number + 1) rest))) is

no_command : (blocks : List Data) (before number : ℕ) (line : List ℕ) (rest : List (List ℕ)) (fault : ScriptFault) → counts line ≡ true → command_of blocks before number (line_text line) ≡ Err fault → commands_in blocks before number (line ∷ rest) ≡ breach number fault
no_command blocks before number line rest fault e is =
    commands_line blocks before number line rest (counts_is line e)
    ∙ ap (λ said. and_then (at number said) (λ first. mapped (λ more. first ∷ more) (commands_in blocks (before + 1) (number + 1) rest))) is

pub behind_command : (number : ℕ) (blocks : List Data) (lines : List Line) (line : List ℕ) (rest : List (List ℕ)) (c : Line) → counts line ≡ true → (is_empty lines && is_data (line_words line)) ≡ false → command_of blocks (length lines) number (line_text line) ≡ Ok c
    → behind number blocks lines (line ∷ rest) ≡ behind (number + 1) blocks (lines ++ c ∷ []) rest
behind_command number blocks [] line rest c e other is =
    body_commands number blocks line rest (counts_is line e) other
    ∙ ap (mapped (λ found. (blocks, found))) (one_command blocks zero number line rest c e is)
    ∙ mapped_more (λ found. (blocks, found)) (λ more. c ∷ more) (commands_in blocks (zero + 1) (number + 1) rest)
behind_command number blocks (d ∷ ds) line rest c e other is =
    ap (mapped (λ more. (blocks, (d ∷ ds) ++ more))) (one_command blocks (length (d ∷ ds)) number line rest c e is)
    ∙ mapped_more (λ more. (blocks, (d ∷ ds) ++ more)) (λ more. c ∷ more) (commands_in blocks (length (d ∷ ds) + 1) (number + 1) rest)
    ∙ mapped_alike _ (λ more. (blocks, ((d ∷ ds) ++ c ∷ []) ++ more)) (commands_in blocks (length (d ∷ ds) + 1) (number + 1) rest) (λ more. ap (λ ls. (blocks, ls)) (sym (append_assoc (d ∷ ds) (c ∷ []) more)))
    ∙ ap (λ n. mapped (λ more. (blocks, ((d ∷ ds) ++ c ∷ []) ++ more)) (commands_in blocks n (number + 1) rest)) (sym (length-append (d ∷ ds) (c ∷ [])))

pub behind_bad_command : (number : ℕ) (blocks : List Data) (lines : List Line) (line : List ℕ) (rest : List (List ℕ)) (fault : ScriptFault) → counts line ≡ true → (is_empty lines && is_data (line_words line)) ≡ false → command_of blocks (length lines) number (line_text line) ≡ Err fault
    → behind number blocks lines (line ∷ rest) ≡ breach number fault
behind_bad_command number blocks [] line rest fault e other is =
    body_commands number blocks line rest (counts_is line e) other
    ∙ ap (mapped (λ found. (blocks, found))) (no_command blocks zero number line rest fault e is)
behind_bad_command number blocks (d ∷ ds) line rest fault e other is = ap (mapped (λ more. (blocks, (d ∷ ds) ++ more))) (no_command blocks (length (d ∷ ds)) number line rest fault e is)
