use Rattle.std.proofs.Common.{◌≡◌, ◌+◌, ◌-◌, rules, ap, sym, ◌∙◌, arith}
use Rattle.pl_lanes.specs.Bits.{is_set}
use Rattle.pl_grid.proofs.Cases.{by_lt}
use Rattle.pl_grid.proofs.words.alike_from.Goals as goal

pub loop-count-preserved : goal.loop-count-preserved
loop-count-preserved c =
    let same : c.bit.result ≡ c.bit-first.result = search rules in record {
      some = omega (arith, c.loop-count.invariant.some);
      most = omega (arith, c.alike_in_word-count-in-loop-count.ensures.most, c.loop-count-test.true);
      alike = λ k less. by_lt k c.loop-count.count (λ low. c.loop-count.invariant.alike k low)
          (λ high.
          let place : c.args.at + k ≡ c.args.at + c.loop-count.count + (k - c.loop-count.count) = omega (arith, high) in
          ap (λ i. is_set c.args.words.now i) place ∙ c.alike_in_word-count-in-loop-count.ensures.alike (k - c.loop-count.count) (omega (arith, high, less)) ∙ sym c.bit.ensures ∙ same ∙ c.bit-first.ensures);
    }
