use Rattle.pl_plater.specs.declared.words.Task.TheVariants.{Slice}
use Rattle.pl_plater.proofs.Tops.{answers_read, front_of_input}
use Rattle.pl_plater.proofs.slice.slice.Goals as goal

pub returns-in-Ok-clause-answer : goal.returns-in-Ok-clause-answer
returns-in-Ok-clause-answer g c = answers_read Slice c.slice_and_write.result c.args.bytes.now c.in-Ok.plate c.slice_and_write.ensures.ended c.requires c.in-Ok.ensures.reading

pub returns-in-Ok-clause-done : goal.returns-in-Ok-clause-done
returns-in-Ok-clause-done g c = λ e. record { meaning = c.in-Ok.plate; reading = c.in-Ok.ensures.reading; wrote = c.slice_and_write.ensures.done e }

pub returns-in-Ok-clause-front : goal.returns-in-Ok-clause-front
returns-in-Ok-clause-front g c = front_of_input Slice c.args.bytes.now c.in-Ok.plate _ _ _ c.in-Ok.ensures.reading c.slice_and_write.ensures.front
