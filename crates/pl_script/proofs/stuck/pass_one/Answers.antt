use Rattle.std.proofs.Common.{◌≡◌, ◌∙◌}
use Rattle.pl_script.proofs.Ways.{rests_on}
use Rattle.pl_script.proofs.stuck.pass_one.Goals as goal

pub loop-session-preserved : goal.loop-session-preserved
loop-session-preserved c =
    let same : c.pass.new.progress.passed ≡ c.loop-session.progress.passed = c.pass.ensures.same c.if-pass.false in
    record {
      way = c.pass.ensures.way;
      same = same ∙ c.loop-session.invariant.same;
      rests = rests_on c.args.lines.now c.pass.new.progress.passed c.loop-session.progress.passed c.loop-session.session same c.loop-session.invariant.rests (c.pass.ensures.rests c.if-pass.false);
    }
