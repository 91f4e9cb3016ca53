use Rattle.std.proofs.Common.{◌≡◌, ◌==◌, false, get_or, take_all, eq-eqb, arith}
use Rattle.std.proofs.lemmas.Bool.Decides.{nat_tests}
use Rattle.std.proofs.lemmas.List.{take_rest}
use Rattle.std.proofs.lemmas.List.Elements.{All-more}
use Rattle.std.proofs.lemmas.List.Splits.{slice_split_none}
use Rattle.pl_script.proofs.Parted.{slice_split_read}
use Rattle.pl_script.proofs.lines.cut.Goals as goal

pub returns-then-byte-eq10-clause-parts : goal.returns-then-byte-eq10-clause-parts
returns-then-byte-eq10-clause-parts c = rw take_rest (slice_split_read (λ b. b == 10) c.args.text.now c.loop-at.at 0 c.loop-at-test.true (eq-eqb _ 10 c.if-byte-eq10.true) c.loop-at.invariant)

pub loop-at-preserved : goal.loop-at-preserved
loop-at-preserved c =
    let other : (get_or c.args.text.now c.loop-at.at 0 == 10) ≡ false = grind (arith, nat_tests, c.if-byte-eq10.false) in
    All-more (λ b. (b == 10) ≡ false) c.args.text.now c.loop-at.at 0 c.loop-at-test.true c.loop-at.invariant other

pub returns-clause-parts : goal.returns-clause-parts
returns-clause-parts c = slice_split_none _ _ (rw (take_all _ _ c.loop-at-test.false) at c.loop-at.invariant)
