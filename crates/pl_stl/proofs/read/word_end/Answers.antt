use Rattle.std.proofs.Common.{◌+◌, ℕ, drop, get_or, arith, ap, sym, ◌∙◌}
use Rattle.std.specs.List.{between}
use Rattle.std.proofs.lemmas.List.{drop_more}
use Rattle.std.proofs.lemmas.List.Sums.{sum_by_more}
use Rattle.std.proofs.lemmas.List.Edits.{between_more}
use Rattle.pl_stl.specs.Tokens.{tokens_from, line_end}
use Rattle.pl_stl.proofs.Scan.{dark, dark_line}
use Rattle.pl_stl.proofs.read.word_end.Goals as goal

pub loop-i-preserved : goal.loop-i-preserved
loop-i-preserved c =
    let bytes = c.args.bytes.now in
    let b : ℕ = get_or c.args.bytes.now c.loop-i.i 0 in
    let is = sym c.is_white.ensures ∙ c.if-not-is_white.true in
    let lines = sum_by_more line_end c.args.bytes.now c.loop-i.i 0 c.loop-i-test.true in
    record {
      begun = omega arith;
      within = omega arith;
      rest = λ line.
          ap (λ w. tokens_from line w (drop (c.loop-i.i + 1) c.args.bytes.now)) (between_more c.args.bytes.now c.args.from c.loop-i.i 0 c.loop-i.invariant.begun c.loop-i-test.true)
          ∙ sym (dark line (between c.args.from c.loop-i.i c.args.bytes.now) (drop (c.loop-i.i + 1) c.args.bytes.now) (get_or c.args.bytes.now c.loop-i.i 0) is)
          ∙ sym (ap (λ bs. tokens_from line (between c.args.from c.loop-i.i c.args.bytes.now) bs) (drop_more c.args.bytes.now c.loop-i.i 0 c.loop-i-test.true))
          ∙ c.loop-i.invariant.rest line;
      line = omega (arith, lines, c.loop-i.invariant.line, dark_line (get_or c.args.bytes.now c.loop-i.i 0) is);
    }
