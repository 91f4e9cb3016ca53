use Rattle.std.proofs.Common.{rules, ◌∷◌, codes, arith}
use Rattle.pl_transcript.proofs.Flow.{writes_after, stop_before}
use Rattle.pl_transcript.proofs.Spaced.{gcode_parts}
use Rattle.pl_transcript.proofs.replies.put_gcode.Goals as goal

pub returns-in_err-put_number-clause-written : goal.returns-in_err-put_number-clause-written
returns-in_err-put_number-clause-written g c = (search rules, stop_before _ _ _ _ (10 ∷ c.args.bytes.now) _ c.in_err-put_number.ensures.written.1 (gcode_parts _ (codes "gcode") c.args.bytes.now (omega arith)))

pub returns-clause-written : goal.returns-clause-written
returns-clause-written g c = writes_after c.put_bytes.result _ _ _ _ _ _ _ _ _ c.in_ok-put_number.ensures.written.0 c.put_bytes.ensures.written (gcode_parts _ (codes "gcode") c.args.bytes.now (omega arith))
