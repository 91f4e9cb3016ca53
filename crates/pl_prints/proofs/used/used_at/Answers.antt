use Rattle.pl_prints.proofs.ToolLemmas.{printed_more, printed_all}
use Rattle.pl_prints.proofs.used.used_at.Goals as goal

pub loop-object-preserved : goal.loop-object-preserved
loop-object-preserved c = (
  c.with_object-set.ensures.set,
  λ tool. printed_more c.args.objects.now c.loop-object.object-index c.object-item.result c.args.top.now.0 tool c.loop-object.set c.with_object-set.result c.loop-object-test.true c.object-item.is (c.loop-object.invariant.1 tool) (c.with_object-set.ensures.value tool),
)

pub returns : goal.returns
returns c = printed_all c.args.objects.now c.loop-object.object-index c.args.top.now.0 c.loop-object.set c.loop-object-test.false c.loop-object.invariant.0 c.loop-object.invariant.1
