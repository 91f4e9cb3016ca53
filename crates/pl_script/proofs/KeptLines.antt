-- What the command lines of a script keep.
use Rattle.std.proofs.Common.{◌≡◌, ℕ, ◌+◌, ◌<◌, ◌≤◌, nat_lt, Option, Some, None, Result, Ok, Err, List, [], ◌∷◌, length, All, inl, inr, sym, subst, arith, ◌==◌, Bor}
use Rattle.std.specs.Result.{IfOk}
use Rattle.std.specs.Option.{option_map_or}
use Rattle.std.specs.List.{slice_split}
use Rattle.std.proofs.lemmas.Bool.{cases_Bool, cond-true, cond-false}
use Rattle.std.proofs.lemmas.Bool.Decides.{nat_tests}
use Rattle.std.proofs.lemmas.List.Elements.{All-nil, All-cons, All-head, All-tail}
use Rattle.pl_edit.specs.Data.{Data}
use Rattle.pl_script.specs.declared.script.Line.{Line}
use Rattle.pl_script.specs.declared.lines.LinesLeft.{LinesLeft}
use Rattle.pl_script.specs.declared.fault.ScriptFault.{ScriptFault}
use Rattle.pl_script.specs.declared.fault.ScriptFault.TheVariants.{BadSession, TooMany}
use Rattle.pl_script.specs.Lines.{line_text, line_words, words_of, after_word, is_passed_over}
use Rattle.pl_script.specs.Forms.{session_of}
use Rattle.pl_script.specs.Orders.{order_of}
use Rattle.pl_script.specs.Script.{at, command_in, command_of, commands_in}
use Rattle.pl_script.specs.Kept.{IsInLine, IsWord, IsSession, IsLine, AreLines, HasBlock, HaveBlocks}
use Rattle.pl_script.specs.Reading.{lines_left}
use Rattle.pl_script.proofs.Keeping.{some_or, some_fact, ok_then, ok_mapped, ok_where, ok_fact, text_in_line, after_word_in_line, are_words, lines_in_line}
use Rattle.pl_script.proofs.KeptOrders.{Keeps, order_keeps, session_range}

-- a command line, and that fewer than 10,000 were before it
pub record KeepsLine (blocks : List Data) (before : ℕ) (line : Line) : Type 0 where
  pub is : IsLine line
  pub block : HasBlock blocks line.command
  pub few : before < 10000

at_ok : {X : Type 0} (P : X → Type 0) (number : ℕ) (said : Result X ScriptFault) → IfOk said P → IfOk (at number said) P
at_ok P number (Ok x) h = h
at_ok P number (Err fault) h = tt

module _ (blocks : List Data) (before number : ℕ) where
  command_in_keeps : (words : List (List ℕ)) (text : List ℕ) → All IsWord words → IsInLine text → IfOk (command_in blocks before number words text) (KeepsLine blocks before)
  command_in_keeps [] text h line = tt
  command_in_keeps (word ∷ words) text h line =
      some_or (KeepsLine blocks before) (session_of word) _ BadSession (λ s is_s.
      ok_then (KeepsLine blocks before) (order_of blocks words (after_word text)) _ (λ o is_o.
      let keeps : Keeps blocks o = ok_fact (Keeps blocks) _ o is_o (order_keeps blocks words (after_word text) (All-tail IsWord word words h) (after_word_in_line text line)) in
      ok_where (KeepsLine blocks before) (nat_lt before 10000) (Ok (record { number = number; session = s; command = o })) TooMany (λ few.
      record { is = record { session = some_fact IsSession _ s is_s (session_range word); order = keeps.0 }; block = keeps.1; few = grind (arith, nat_tests, few) })))

  pub command_keeps : (text : List ℕ) → IsInLine text → IfOk (command_of blocks before number text) (KeepsLine blocks before)
  command_keeps text line = command_in_keeps (words_of text) text (are_words text line) line

-- command lines, after so many others
pub record KeepLines (blocks : List Data) (before : ℕ) (found : List Line) : Type 0 where
  pub few : before ≤ 10000 → before + length found ≤ 10000
  pub each : All IsLine found
  pub blocks_too : HaveBlocks blocks found

none_found : (blocks : List Data) (before : ℕ) → KeepLines blocks before []
none_found blocks before = record { few = λ le. omega (arith, le); each = All-nil IsLine; blocks_too = All-nil (λ line. HasBlock blocks line.command) }

one_more : (blocks : List Data) (before : ℕ) (first : Line) (more : List Line) → KeepsLine blocks before first → KeepLines blocks (before + 1) more → KeepLines blocks before (first ∷ more)
one_more blocks before first more h rest = record {
  few = λ le. omega (arith, h.few, rest.few (omega (arith, h.few)));
  each = All-cons IsLine first more h.is rest.each;
  blocks_too = All-cons (λ line. HasBlock blocks line.command) first more h.block rest.blocks_too;
}

pub commands_keep : (blocks : List Data) (before number : ℕ) (lines : List (List ℕ)) → All IsInLine lines → IfOk (commands_in blocks before number lines) (KeepLines blocks before)
commands_keep blocks before number [] h = none_found blocks before
commands_keep blocks before number (line ∷ lines) h =
    let rest : All IsInLine lines = All-tail IsInLine line lines h in
    elim (cases_Bool (is_passed_over (line_words line))) [
      | inl passed ↦ subst (λ r. IfOk r (KeepLines blocks before)) (sym (cond-true (is_passed_over (line_words line)) _ _ passed)) (commands_keep blocks before (number + 1) lines rest)
      | inr counts ↦
          subst (λ r. IfOk r (KeepLines blocks before)) (sym (cond-false (is_passed_over (line_words line)) _ _ counts))
          (ok_then (KeepLines blocks before) (at number (command_of blocks before number (line_text line))) _ (λ first is_first.
          ok_mapped (KeepLines blocks before) (commands_in blocks (before + 1) (number + 1) lines) _ (λ more is_more.
          one_more blocks before first more
          (ok_fact (KeepsLine blocks before) _ first is_first (at_ok (KeepsLine blocks before) number _ (command_keeps blocks before number (line_text line) (text_in_line line (All-head IsInLine line lines h)))))
          (ok_fact (KeepLines blocks (before + 1)) _ more is_more (commands_keep blocks (before + 1) (number + 1) lines rest)))))
    ]

left_in_line : (lines : LinesLeft) → All IsInLine (lines_left lines)
left_in_line lines = by lines.rest
  where
    by : (rest : Option (Bor (List ℕ))) → All IsInLine (option_map_or (λ r. slice_split (λ b. b == 10) r.now) rest [])
    by None = All-nil IsInLine
    by (Some rest) = lines_in_line rest.now

-- what was read to the end
pub lines_keep : (blocks : List Data) (number : ℕ) (lines : LinesLeft) (found : List Line) → commands_in blocks 0 number (lines_left lines) ≡ Ok found → AreLines found × HaveBlocks blocks found
lines_keep blocks number lines found e =
    let keep : KeepLines blocks 0 found = ok_fact (KeepLines blocks 0) _ found e (commands_keep blocks 0 number (lines_left lines) (left_in_line lines)) in
    (record { few = omega (arith, keep.few (omega arith)); each = keep.each }, keep.blocks_too)
