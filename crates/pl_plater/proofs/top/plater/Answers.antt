use Rattle.std.proofs.Common.{◌∙◌, ap, Some}
use Rattle.std.specs.Prelude.{IfSome}
use Rattle.pl_ports.specs.Causes.{Rose}
use Rattle.pl_plater.specs.declared.words.Task.TheVariants.{Run, Slice}
use Rattle.pl_plater.specs.Headline.{IsInput, EndsWell}
use Rattle.pl_plater.proofs.Tops.{on_task}
use Rattle.pl_plater.proofs.top.plater.Goals as goal

pub returns-in-Some-Run-clause-complete : goal.returns-in-Some-Run-clause-complete
returns-in-Some-Run-clause-complete g c =
    on_task c.args.words.now c.task_of.result Run
    (λ task. IfSome (g.S.Source.left c.args.source.now) (λ bytes. IsInput task bytes → ¬ Rose (g.S.Source.faults c.args.source.now) (g.S.Source.faults c.run.new.source) → ¬ Rose (g.K.Sink.faults c.args.sink.now) (g.K.Sink.faults c.run.new.sink) → EndsWell c.run.result))
    c.task_of.ensures (c.in-Some-Run.is ∙ ap Some c.in-Some-Run.field-0-is) c.run.ensures.complete

pub returns-in-Some-Slice-clause-complete : goal.returns-in-Some-Slice-clause-complete
returns-in-Some-Slice-clause-complete g c =
    on_task c.args.words.now c.task_of.result Slice
    (λ task. IfSome (g.S.Source.left c.args.source.now) (λ bytes. IsInput task bytes → ¬ Rose (g.S.Source.faults c.args.source.now) (g.S.Source.faults c.slice_once.new.source) → ¬ Rose (g.K.Sink.faults c.args.sink.now) (g.K.Sink.faults c.slice_once.new.sink) → EndsWell c.slice_once.result))
    c.task_of.ensures (c.in-Some-Slice.is ∙ ap Some c.in-Some-Slice.field-0-is) c.slice_once.ensures.complete
