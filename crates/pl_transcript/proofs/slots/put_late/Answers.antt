use Rattle.std.proofs.Common.{rules, refl, ◌∙◌, ◌∷◌, codes}
use Rattle.std.specs.Fmt.{decimal}
use Rattle.pl_transcript.proofs.Flow.{writes_after, stop_before}
use Rattle.pl_transcript.proofs.Spaced.{late_parts}
use Rattle.pl_transcript.proofs.slots.put_late.Goals as goal

pub returns-in_err-put_step-clause-written : goal.returns-in_err-put_step-clause-written
returns-in_err-put_step-clause-written g c = (search rules, stop_before _ _ _ _ (32 ∷ decimal c.args.now) _ c.in_err-put_step.ensures.written.1 (late_parts (codes "late") (g.T.Technology.meaning.name c.args.slot) (decimal c.args.since) (decimal c.args.now) (decimal c.args.now) refl))

pub returns-clause-written : goal.returns-clause-written
returns-clause-written g c = writes_after c.put_word.result _ _ _ _ _ _ _ _ _ c.in_ok-put_step.ensures.written.0 c.put_word.ensures.written (late_parts (codes "late") (g.T.Technology.meaning.name c.args.slot) (decimal c.args.since) c.bytes.result.now (decimal c.args.now) (c.bytes.ensures ∙ c.whole.ensures))
