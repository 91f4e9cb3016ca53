use Rattle.std.proofs.Common.{◌≡◌, ◌∙◌, true, false, arith, sym}
use Rattle.std.proofs.lemmas.Bool.Decides.{nat_tests}
use Rattle.pl_script.specs.Lines.{line_words, is_passed_over}
use Rattle.pl_script.specs.Script.{is_data}
use Rattle.pl_script.proofs.Bodies.{block_taken}
use Rattle.pl_script.proofs.read.block_line.Goals as goal

pub returns-in-Ok-clause-taken : goal.returns-in-Ok-clause-taken
returns-in-Ok-clause-taken c =
    let counts : is_passed_over (line_words c.args.line.now) ≡ false = sym c.is_passed_over.ensures ∙ c.if-is_passed_over.false in
    let starts : is_data (line_words c.args.line.now) ≡ true = grind (arith, nat_tests, c.if-not-is_data.false, c.is_data.ensures) in
    let block = c.in-Ok.ensures.taken in
    block_taken c.args.number c.args.blocks.now c.take_block.new.blocks c.args.line.now c.args.lines.now c.take_block.new.lines block.0 counts starts block.1 block.2 c.in-Ok.ensures.rest c.requires.number
