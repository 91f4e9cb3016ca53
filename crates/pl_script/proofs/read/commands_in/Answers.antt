use Rattle.std.proofs.Common.{refl, rules, arith}
use Rattle.std.proofs.lemmas.Result.{err_from_is_err_and}
use Rattle.pl_script.specs.Reading.{number_left}
use Rattle.pl_script.proofs.KeptLines.{lines_keep}
use Rattle.pl_script.proofs.Steps.{commands_step, commands_refused, commands_done}
use Rattle.pl_script.proofs.read.commands_in.Goals as goal

pub loop-line-preserved : goal.loop-line-preserved
loop-line-preserved c = record {
  same =
      commands_step _ c.args.blocks.now c.loop-line.found.items c.take_line.new.found.items c.loop-line.lines c.next.new.self c.in-Some.line.now c.loop-line.number c.loop-line.invariant.same c.in-Some.ensures.some c.loop-line.invariant.number c.in-Some.ensures.number
      c.in_ok-take_line.ensures.ok;
  room = record { first = omega (arith, c.in-Some.ensures.number); last = omega (arith, c.in-Some.ensures.number, c.in-Some.ensures.size, c.loop-line.invariant.room.last) };
  number = search rules;
}

pub returns-in_err-take_line-clause-lines : goal.returns-in_err-take_line-clause-lines
returns-in_err-take_line-clause-lines c =
    let p = err_from_is_err_and c.from_residual.result c.from_residual.ensures.1 in
    rw (p.1, p.2)
    (commands_refused _ c.args.blocks.now c.loop-line.found.items c.loop-line.lines c.next.new.self c.in-Some.line.now c.loop-line.number _ c.loop-line.invariant.same c.in-Some.ensures.some c.loop-line.invariant.number c.in_err-take_line.ensures.err)

pub of-requires : goal.of-requires
of-requires c = (lines_keep c.args.blocks.now (number_left c.args.lines) c.args.lines c.loop-line.found.items (commands_done _ c.args.blocks.now c.loop-line.found.items c.loop-line.found.items c.loop-line.lines c.loop-line.invariant.same c.in_default.ensures.none refl)).0

pub returns-clause-lines : goal.returns-clause-lines
returns-clause-lines c = commands_done _ c.args.blocks.now c.loop-line.found.items _ c.loop-line.lines c.loop-line.invariant.same c.in_default.ensures.none c.of.ensures

pub returns-clause-blocks : goal.returns-clause-blocks
returns-clause-blocks c = (lines_keep c.args.blocks.now (number_left c.args.lines) c.args.lines c.of.result (commands_done _ c.args.blocks.now c.loop-line.found.items _ c.loop-line.lines c.loop-line.invariant.same c.in_default.ensures.none c.of.ensures)).1
