use Rattle.std.proofs.Common.{◌≡◌, ◌⊎◌, Err, ap, subst}
use Rattle.pl_plater.specs.declared.words.Task.TheVariants.{Slice}
use Rattle.pl_plater.specs.Headline.{Answers, Writes, WritesFront}
use Rattle.pl_plater.proofs.Tops.{whole_text, answers_stop}
use Rattle.pl_plater.proofs.slice.slice_once.Goals as goal

pub returns-in-Ok-clause-answer : goal.returns-in-Ok-clause-answer
returns-in-Ok-clause-answer g c =
    whole_text _ _ c.in-Ok.text (Answers Slice c.slice.result) c.in-Ok.ensures.all c.in-Ok.ensures.end (subst (Answers Slice c.slice.result) c.bytes.ensures c.slice.ensures.answer)

pub returns-in-Ok-clause-done : goal.returns-in-Ok-clause-done
returns-in-Ok-clause-done g c = λ e.
    whole_text _ _ c.in-Ok.text (λ bytes. Writes Slice bytes (g.K.Sink.held c.args.sink.now) (g.K.Sink.held c.slice.new.sink)) c.in-Ok.ensures.all c.in-Ok.ensures.end
    (subst (λ bytes. Writes Slice bytes (g.K.Sink.held c.args.sink.now) (g.K.Sink.held c.slice.new.sink)) c.bytes.ensures (c.slice.ensures.done e))

pub returns-in-Ok-clause-front : goal.returns-in-Ok-clause-front
returns-in-Ok-clause-front g c =
    whole_text _ _ c.in-Ok.text (λ bytes. (c.slice.new.sink ≡ c.args.sink.now) ⊎ WritesFront Slice bytes (g.K.Sink.held c.args.sink.now) (g.K.Sink.held c.slice.new.sink)) c.in-Ok.ensures.all c.in-Ok.ensures.end
    (subst (λ bytes. (c.slice.new.sink ≡ c.args.sink.now) ⊎ WritesFront Slice bytes (g.K.Sink.held c.args.sink.now) (g.K.Sink.held c.slice.new.sink)) c.bytes.ensures c.slice.ensures.front)

pub returns-in-Err-clause-answer : goal.returns-in-Err-clause-answer
returns-in-Err-clause-answer g c = answers_stop Slice c.in-Err.stop c.unread.result _ _ c.unread.ensures (λ e. c.in-Err.ensures.too_long (ap Err e))
