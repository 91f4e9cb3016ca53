use Rattle.std.proofs.Common.{◌≡◌, ◌∙◌, ap, subst, sym}
use Rattle.pl_script.specs.Rotation.{stuck_line}
use Rattle.pl_script.proofs.Courses.{Tells}
use Rattle.pl_script.proofs.Sessions.{each_of}
use Rattle.pl_script.proofs.Rounds.{line_tells}
use Rattle.pl_script.proofs.stuck.stuck_line.Goals as goal

pub returns-clause-free : goal.returns-clause-free
returns-clause-free c =
    let told : c.least_left.result ≡ stuck_line c.args.lines.now = c.least_left.ensures ∙ ap stuck_line c.all.ensures.lines in
    (subst (Tells c.args.lines.now) (sym told) (line_tells c.args.lines.now (each_of c.args.lines.now c.all.ensures.kept.each))).free

pub returns-clause-stuck : goal.returns-clause-stuck
returns-clause-stuck c =
    let told : c.least_left.result ≡ stuck_line c.args.lines.now = c.least_left.ensures ∙ ap stuck_line c.all.ensures.lines in
    (subst (Tells c.args.lines.now) (sym told) (line_tells c.args.lines.now (each_of c.args.lines.now c.all.ensures.kept.each))).stuck
