use Rattle.std.proofs.Common.{◌≡◌, ◌∙◌, Ok, false, length, sym}
use Rattle.pl_script.specs.Lines.{line_text, line_words, is_passed_over}
use Rattle.pl_script.specs.Script.{command_of}
use Rattle.pl_script.proofs.Bodies.{line_taken}
use Rattle.pl_script.proofs.read.take_line.Goals as goal

pub returns-in-Ok-clause-ok : goal.returns-in-Ok-clause-ok
returns-in-Ok-clause-ok c =
    let counts : is_passed_over (line_words c.args.line.now) ≡ false = sym c.is_passed_over.ensures ∙ c.if-is_passed_over.false in
    let is : command_of c.args.blocks.now (length c.args.found.now.items) c.args.number (line_text c.args.line.now) ≡ Ok c.in-Ok.line = cc (c.in-Ok.ensures) in
    line_taken c.args.blocks.now c.args.found.now.items c.add_line.new.found.items c.args.number c.args.line.now c.in-Ok.line c.add_line.result counts is c.add_line.ensures.ok
