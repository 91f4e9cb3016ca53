use Rattle.std.proofs.Common.{◌∙◌, sym, refl, arith}
use Rattle.pl_script.specs.Rotation.{part_of}
use Rattle.pl_script.proofs.Ways.{left_none, least_more}
use Rattle.pl_script.proofs.stuck.least_next.Goals as goal

pub loop-session-init : goal.loop-session-init
loop-session-init c = record { way = c.requires; same = refl; least = sym (left_none c.args.lines.now (part_of c.args.progress.now)) }

pub loop-session-preserved : goal.loop-session-preserved
loop-session-preserved c = record {
  way = c.next_line.ensures.way;
  same = c.next_line.ensures.same ∙ c.loop-session.invariant.same;
  least =
      c.lesser-least.ensures
      ∙ least_more c.args.lines.now c.next_line.new.progress.passed c.args.progress.now.passed c.loop-session.session c.loop-session.least c.next_line.result (c.next_line.ensures.same ∙ c.loop-session.invariant.same) (omega arith) c.next_line.ensures.line c.loop-session.invariant.least;
}
