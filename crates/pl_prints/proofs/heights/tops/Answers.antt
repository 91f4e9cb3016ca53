use Rattle.std.proofs.Common.{◌∙◌, ap}
use Rattle.std.proofs.lemmas.Result.{IfOk-weaker}
use Rattle.pl_prints.specs.Heights.{heights_in}
use Rattle.pl_prints.proofs.FewLemmas.{heights_printed}
use Rattle.pl_prints.proofs.heights.tops.Goals as goal

pub returns-clause-tops : goal.returns-clause-tops
returns-clause-tops c =
    IfOk-weaker c.heights_of_layers.result _ _
    (λ tops is. is ∙ ap heights_in (c.deref.ensures.value ∙ c.in_ok-objects.ensures.layers) ∙ heights_printed c.args.plate.now)
    c.heights_of_layers.ensures.tops
