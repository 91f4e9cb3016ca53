use Rattle.std.proofs.lemmas.Result.{IfOk-weaker}
use Rattle.pl_prints.proofs.OrderLemmas.{few_lengths}
use Rattle.pl_prints.proofs.heights.heights_of_layers.Goals as goal

pub returns-clause-few : goal.returns-clause-few
returns-clause-few c =
    IfOk-weaker c.lengths.result _ _
    (λ tops is. few_lengths c.in_ok-numbers.numbers.items c.put_in_order.new.numbers.items c.deref.result.now tops.items c.in_ok-numbers.ensures.few c.put_in_order.ensures c.deref.ensures.value is)
    c.lengths.ensures
