use Rattle.std.proofs.Common.{◌≡◌, ◌∙◌, ◌+◌, false, length, ap, sym, arith}
use Rattle.std.specs.List.{position_or_len}
use Rattle.std.proofs.lemmas.List.{length-drop}
use Rattle.pl_script.specs.Lines.{line_words, is_passed_over}
use Rattle.pl_script.specs.Script.{is_block_end}
use Rattle.pl_script.specs.Reading.{lines_left}
use Rattle.pl_sliced.proofs.Blocks.{block_taken, line_ends}
use Rattle.pl_sliced.proofs.read.take_line.Goals as goal

pub returns-in-Ok-clause-taken : goal.returns-in-Ok-clause-taken
returns-in-Ok-clause-taken c =
    let counts : is_passed_over (line_words c.args.line.now) ≡ false = sym c.is_passed_over.ensures ∙ c.if-is_passed_over.false in
    block_taken c.args.number c.args.found.now c.take_block.new.found c.args.line.now c.args.lines.now c.take_block.new.lines counts c.in-Ok.ensures.taken c.in-Ok.ensures.rest c.requires.number

pub returns-in-Ok-clause-end : goal.returns-in-Ok-clause-end
returns-in-Ok-clause-end c =
    let lines = lines_left c.args.lines.now in
    let ends = line_ends c.args.found.now c.take_block.new.found c.args.number (line_words c.args.line.now) lines c.in-Ok.ensures.taken in
    let left = ap length c.in-Ok.ensures.rest.lines ∙ length-drop (position_or_len is_block_end lines + 1) lines in
    omega (arith, ends, left, c.in-Ok.ensures.rest.number)
