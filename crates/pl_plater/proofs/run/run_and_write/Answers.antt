use Rattle.std.proofs.Common.{inr}
use Rattle.pl_plater.proofs.Tops.{front_of_history}
use Rattle.pl_plater.proofs.run.run_and_write.Goals as goal

pub returns-in-Ok-put_transcript-clause-front : goal.returns-in-Ok-put_transcript-clause-front
returns-in-Ok-put_transcript-clause-front g c =
    inr (front_of_history c.args.script.now _ _ c.in-Ok.ended.journal.items c.deref.result.now c.in-Ok.ended.runs c.in-Ok.ensures.complete c.in-Ok.ensures.alone c.in-Ok.ensures.runs c.deref.ensures.value c.put_transcript.ensures.front)

pub returns-in-Err-Failed-clause-front : goal.returns-in-Err-Failed-clause-front
returns-in-Err-Failed-clause-front g c =
    inr (front_of_history c.args.script.now _ _ c.in-Ok.ended.journal.items c.deref.result.now c.in-Ok.ended.runs c.in-Ok.ensures.complete c.in-Ok.ensures.alone c.in-Ok.ensures.runs c.deref.ensures.value c.put_transcript.ensures.front)

pub returns-clause-front : goal.returns-clause-front
returns-clause-front g c =
    inr (front_of_history c.args.script.now _ _ c.in-Ok.ended.journal.items c.deref.result.now c.in-Ok.ended.runs c.in-Ok.ensures.complete c.in-Ok.ensures.alone c.in-Ok.ensures.runs c.deref.ensures.value c.put_transcript.ensures.front)
