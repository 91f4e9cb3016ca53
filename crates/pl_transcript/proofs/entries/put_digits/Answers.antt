use Rattle.std.proofs.Common.{rules, refl, ap, ◌∙◌, ◌++◌}
use Rattle.std.specs.Fmt.{decimal}
use Rattle.pl_transcript.proofs.Flow.{writes_after, stop_before}
use Rattle.pl_transcript.proofs.entries.put_digits.Goals as goal

pub returns-in_err-put-clause-written : goal.returns-in_err-put-clause-written
returns-in_err-put-clause-written g c = (search rules, stop_before _ _ _ _ (decimal c.args.number) _ c.in_err-put.ensures.written.1 (refl))

pub returns-clause-written : goal.returns-clause-written
returns-clause-written g c = writes_after c.put-2.result _ _ _ _ _ _ _ _ _ c.in_ok-put.ensures.written.0 c.put-2.ensures.written (ap (λ l. c.args.before.now ++ l) (c.bytes.ensures ∙ c.whole.ensures))
