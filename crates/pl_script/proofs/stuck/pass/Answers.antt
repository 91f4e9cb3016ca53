use Rattle.std.proofs.Common.{◌∙◌, arith, ap, sym}
use Rattle.pl_script.specs.Rotation.{can_come, part_of}
use Rattle.pl_script.proofs.Ways.{way_passed}
use Rattle.pl_script.proofs.stuck.pass.Goals as goal

pub returns-in-Some-clause-way : goal.returns-in-Some-clause-way
returns-in-Some-clause-way c =
    let progress = c.next_line.new.progress in
    way_passed c.args.lines.now progress c.from-at.result c.args.session c.in-Some.line.now (omega arith) c.requires.session c.from-at.ensures c.next_line.ensures.way c.in-Some.ensures.place c.in-Some.ensures.own
    (sym c.in-Some.ensures.line) (sym (c.can_come.ensures ∙ ap (can_come (part_of progress)) c.get.ensures) ∙ c.if-can_come.true)
