use Rattle.std.proofs.Common.{◌+◌, ◌-◌, ◌≡◌, ◌∙◌, ◌++◌, ◌∷◌, [], ap, sym, arith, length, length-append}
use Rattle.pl_script.specs.Reading.{lines_left, number_left}
use Rattle.pl_script.proofs.BlockBodies.{line_read_as, body_ends, body_found, rest_found, none_found}
use Rattle.pl_script.proofs.read.body_of.Goals as goal

pub returns-then-is_block_end-clause-body : goal.returns-then-is_block_end-clause-body
returns-then-is_block_end-clause-body c =
    body_found (lines_left c.args.lines.now) (lines_left c.loop-line.lines) (lines_left c.next.new.self) c.loop-line.bytes c.in-Some.line.now _ c.loop-line.invariant.lines c.in-Some.ensures.some (sym c.is_block_end.ensures ∙ c.if-is_block_end.true)

pub returns-then-is_block_end-clause-rest : goal.returns-then-is_block_end-clause-rest
returns-then-is_block_end-clause-rest c =
    let end = sym c.is_block_end.ensures ∙ c.if-is_block_end.true in
    let ends = body_ends (lines_left c.args.lines.now) (lines_left c.loop-line.lines) (lines_left c.next.new.self) c.loop-line.bytes c.in-Some.line.now _ c.loop-line.invariant.lines c.in-Some.ensures.some end in
    record {
      lines = rest_found (lines_left c.args.lines.now) (lines_left c.loop-line.lines) (lines_left c.next.new.self) c.loop-line.bytes c.in-Some.line.now _ c.loop-line.invariant.lines c.in-Some.ensures.some end;
      number = omega (arith, ends, c.in-Some.ensures.number, c.loop-line.invariant.later);
      room = record { first = omega (arith, c.in-Some.ensures.number); last = omega (arith, c.in-Some.ensures.number, c.in-Some.ensures.size, c.loop-line.invariant.room.last) };
    }

pub loop-line-preserved : goal.loop-line-preserved
loop-line-preserved c =
    let text : c.append-in-Some.new.self ≡ (c.loop-line.bytes ++ c.in-Some.line.now) ++ 10 ∷ [] = c.in_ok-append-2.ensures.ok ∙ ap (λ bytes. bytes ++ 10 ∷ []) c.in_ok-append.ensures.ok in
    let longer : length c.append-in-Some.new.self ≡ length c.loop-line.bytes + length c.in-Some.line.now + 1 = ap length text ∙ simp length-append in
    let count : number_left c.next.new.self - number_left c.args.lines.now ≡ (number_left c.loop-line.lines - number_left c.args.lines.now) + 1 = omega (arith, c.in-Some.ensures.number, c.loop-line.invariant.later) in
    record {
      lines = line_read_as (lines_left c.args.lines.now) (lines_left c.loop-line.lines) (lines_left c.next.new.self) c.loop-line.bytes c.in-Some.line.now _ _ _ c.loop-line.invariant.lines c.in-Some.ensures.some (sym c.is_block_end.ensures ∙ c.if-is_block_end.false) text count;
      later = omega (arith, c.in-Some.ensures.number, c.loop-line.invariant.later);
      room = record { first = omega (arith, c.in-Some.ensures.number); last = omega (arith, c.in-Some.ensures.number, c.in-Some.ensures.size, c.loop-line.invariant.room.last) };
      size = omega (arith, longer, c.loop-line.invariant.size, c.in-Some.ensures.size);
    }

pub returns-clause-body : goal.returns-clause-body
returns-clause-body c = none_found (lines_left c.args.lines.now) (lines_left c.loop-line.lines) c.loop-line.bytes _ c.loop-line.invariant.lines c.in_default.ensures.none
