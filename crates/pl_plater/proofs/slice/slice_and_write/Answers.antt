use Rattle.std.proofs.Common.{◌∙◌, ap, Err, inr}
use Rattle.pl_plater.proofs.slice.slice_and_write.Goals as goal

pub unreachable-requires : goal.unreachable-requires
unreachable-requires g c =
    let told = (c.slice_whole.ensures.problem c.in-Err-Problem.field-0-0).0 (c.in-Err-Problem.is ∙ ap Err c.in-Err-Problem.field-0-is) in
    cc (told, c.requires)

pub returns-in-Ok-put_all-clause-done : goal.returns-in-Ok-put_all-clause-done
returns-in-Ok-put_all-clause-done g c = λ e. record { text = c.bytes.result.now; output = c.bytes.ensures ∙ c.in-Ok.ensures.text; written = c.in-Ok-put_all.ensures.all }

pub returns-in-Ok-put_all-clause-front : goal.returns-in-Ok-put_all-clause-front
returns-in-Ok-put_all-clause-front g c = inr (record { text = c.bytes.result.now; output = c.bytes.ensures ∙ c.in-Ok.ensures.text; written = c.put_all.ensures.front })
