-- A script line by line.
use Rattle.std.proofs.Common.{◌≡◌, ℕ, zero, suc, ◌+◌, true, false, Result, Ok, Err, List, [], ◌∷◌, ◌++◌, length, drop, refl, sym, ap, ◌∙◌, append_assoc, arith, add-zero, length-append}
use Rattle.std.specs.List.{position_or_len}
use Rattle.std.proofs.lemmas.Bool.{cond-true, cond-false}
use Rattle.pl_edit.specs.Data.{Data}
use Rattle.pl_script.specs.declared.script.Line.{Line}
use Rattle.pl_script.specs.declared.lines.LinesLeft.{LinesLeft}
use Rattle.pl_script.specs.Reading.{lines_left, number_left, IsAfterBlock}
use Rattle.std.specs.Result.{OnOk}
use Rattle.pl_script.specs.Outcomes.{and_then, mapped}
use Rattle.pl_script.specs.Lines.{line_text, line_words, is_passed_over}
use Rattle.pl_script.specs.Script.{Breach, at, command_of, commands_in, is_block_end, is_data, block_in, body_in, workers_in, at_workers, after_head}

-- the lines of the last block are passed over
pub behind_block : (within number : ℕ) (blocks : List Data) (lines : List (List ℕ)) → body_in within number blocks lines ≡ body_in zero (number + within) blocks (drop within lines)
behind_block zero number blocks lines = ap (λ n. body_in zero n blocks lines) (sym (add-zero number))
behind_block (suc within) number blocks [] = refl
behind_block (suc within) number blocks (line ∷ lines) =
    let same : (number + 1) + within ≡ number + suc within = omega arith in
    behind_block within (number + 1) blocks lines ∙ ap (λ n. body_in zero n blocks (drop within lines)) same

pub body_passed : (number : ℕ) (blocks : List Data) (line : List ℕ) (lines : List (List ℕ)) → is_passed_over (line_words line) ≡ true → body_in zero number blocks (line ∷ lines) ≡ body_in zero (number + 1) blocks lines
body_passed number blocks line lines e = cond-true (is_passed_over (line_words line)) _ _ e

pub body_data : (number : ℕ) (blocks : List Data) (line : List ℕ) (lines : List (List ℕ)) → is_passed_over (line_words line) ≡ false → is_data (line_words line) ≡ true
    → body_in zero number blocks (line ∷ lines) ≡ and_then (at number (block_in blocks (line_words line) lines)) (λ block. body_in (position_or_len is_block_end lines + 1) (number + 1) (blocks ++ block ∷ []) lines)
body_data number blocks line lines counts starts = cond-false (is_passed_over (line_words line)) _ _ counts ∙ cond-true (is_data (line_words line)) _ _ starts

pub body_commands : (number : ℕ) (blocks : List Data) (line : List ℕ) (lines : List (List ℕ)) → is_passed_over (line_words line) ≡ false → is_data (line_words line) ≡ false
    → body_in zero number blocks (line ∷ lines) ≡ mapped (λ found. (blocks, found)) (commands_in blocks zero number (line ∷ lines))
body_commands number blocks line lines counts other = cond-false (is_passed_over (line_words line)) _ _ counts ∙ cond-false (is_data (line_words line)) _ _ other

pub body_block : (number : ℕ) (blocks : List Data) (line : List ℕ) (lines : List (List ℕ)) (block : Data) → is_passed_over (line_words line) ≡ false → is_data (line_words line) ≡ true → block_in blocks (line_words line) lines ≡ Ok block
    → body_in zero number blocks (line ∷ lines) ≡ body_in zero ((number + 1) + (position_or_len is_block_end lines + 1)) (blocks ++ block ∷ []) (drop (position_or_len is_block_end lines + 1) lines)
body_block number blocks line lines block counts starts is =
    body_data number blocks line lines counts starts
    ∙ ap (λ said. and_then (at number said) (λ b. body_in (position_or_len is_block_end lines + 1) (number + 1) (blocks ++ b ∷ []) lines)) is
    ∙ behind_block (position_or_len is_block_end lines + 1) (number + 1) (blocks ++ block ∷ []) lines

pub head_passed : (number : ℕ) (line : List ℕ) (lines : List (List ℕ)) → is_passed_over (line_words line) ≡ true → after_head number (line ∷ lines) ≡ after_head (number + 1) lines
head_passed number line lines e = cond-true (is_passed_over (line_words line)) _ _ e

pub head_line : (number : ℕ) (line : List ℕ) (lines : List (List ℕ)) → is_passed_over (line_words line) ≡ false
    → after_head number (line ∷ lines) ≡ and_then (at number (workers_in (line_words line))) (λ found. at_workers found number line lines)
head_line number line lines e = cond-false (is_passed_over (line_words line)) _ _ e

pub commands_passed : (blocks : List Data) (before number : ℕ) (line : List ℕ) (lines : List (List ℕ)) → is_passed_over (line_words line) ≡ true → commands_in blocks before number (line ∷ lines) ≡ commands_in blocks before (number + 1) lines
commands_passed blocks before number line lines e = cond-true (is_passed_over (line_words line)) _ _ e

pub commands_line : (blocks : List Data) (before number : ℕ) (line : List ℕ) (lines : List (List ℕ)) → is_passed_over (line_words line) ≡ false
    → commands_in blocks before number (line ∷ lines) ≡ and_then (at number (command_of blocks before number (line_text line))) (λ first. mapped (λ more. first ∷ more) (commands_in blocks (before + 1) (number + 1) lines))
commands_line blocks before number line lines e = cond-false (is_passed_over (line_words line)) _ _ e

mapped_twice : (found : List Line) (first : Line) (said : Result (List Line) Breach) → mapped (λ more. found ++ more) (mapped (λ more. first ∷ more) said) ≡ mapped (λ more. (found ++ first ∷ []) ++ more) said
mapped_twice found first (Ok more) = ap Ok (sym (append_assoc found (first ∷ []) more))
mapped_twice found first (Err e) = refl

-- a command was read
pub command_taken : (blocks : List Data) (found : List Line) (number : ℕ) (line : List ℕ) (lines : List (List ℕ)) (first : Line) → is_passed_over (line_words line) ≡ false → command_of blocks (length found) number (line_text line) ≡ Ok first
    → mapped (λ more. found ++ more) (commands_in blocks (length found) number (line ∷ lines)) ≡ mapped (λ more. (found ++ first ∷ []) ++ more) (commands_in blocks (length (found ++ first ∷ [])) (number + 1) lines)
command_taken blocks found number line lines first counts is =
    ap (mapped (λ more. found ++ more)) (commands_line blocks (length found) number line lines counts ∙ ap (λ said. and_then (at number said) (λ f. mapped (λ more. f ∷ more) (commands_in blocks (length found + 1) (number + 1) lines))) is)
    ∙ mapped_twice found first (commands_in blocks (length found + 1) (number + 1) lines)
    ∙ ap (λ n. mapped (λ more. (found ++ first ∷ []) ++ more) (commands_in blocks n (number + 1) lines)) (sym (length-append found (first ∷ [])))

-- a block was read
pub block_taken : (number : ℕ) (blocks more : List Data) (line : List ℕ) (before after : LinesLeft) (block : Data) → is_passed_over (line_words line) ≡ false → is_data (line_words line) ≡ true
    → block_in blocks (line_words line) (lines_left before) ≡ Ok block → more ≡ blocks ++ block ∷ [] → IsAfterBlock before after → number_left before ≡ number + 1
    → body_in zero number blocks (line ∷ lines_left before) ≡ body_in zero (number_left after) more (lines_left after)
block_taken number blocks more line before after block counts starts is adds rest next =
    body_block number blocks line (lines_left before) block counts starts is
    ∙ ap (λ n. body_in zero n (blocks ++ block ∷ []) (drop (position_or_len is_block_end (lines_left before) + 1) (lines_left before))) (ap (λ n. n + (position_or_len is_block_end (lines_left before) + 1)) (sym next) ∙ sym rest.number)
    ∙ ap (λ lines. body_in zero (number_left after) (blocks ++ block ∷ []) lines) (sym rest.lines)
    ∙ ap (λ b. body_in zero (number_left after) b (lines_left after)) (sym adds)

pub line_taken : {E : Type 0} (blocks : List Data) (found more : List Line) (number : ℕ) (line : List ℕ) (first : Line) (result : Result (Unit {0}) E) → is_passed_over (line_words line) ≡ false → command_of blocks (length found) number (line_text line) ≡ Ok first
    → OnOk result (more ≡ found ++ first ∷ [])
    → OnOk result ((rest : List (List ℕ)) → mapped (λ m. found ++ m) (commands_in blocks (length found) number (line ∷ rest)) ≡ mapped (λ m. more ++ m) (commands_in blocks (length more) (number + 1) rest))
line_taken blocks found more number line first (Ok u) counts is adds =
    λ (rest : List (List ℕ)). command_taken blocks found number line rest first counts is ∙ ap (λ ls. mapped (λ m. ls ++ m) (commands_in blocks (length ls) (number + 1) rest)) (sym adds)
line_taken blocks found more number line first (Err e) counts is adds = tt
