use Rattle.std.proofs.Common.{◌∙◌, arith}
use Rattle.std.proofs.lemmas.Result.{IfOk-weaker}
use Rattle.pl_fill.proofs.SurfaceLemmas.{top_all, top_some}
use Rattle.pl_fill.proofs.surface.top_cells.Goals as goal

pub returns-then-slices-above : goal.returns-then-slices-above
returns-then-slices-above c = IfOk-weaker c.whole.result _ _ (λ p e. e ∙ top_all c.args.slices.now c.args.inner.now c.args.k (omega arith)) c.whole.ensures

pub returns : goal.returns
returns c = IfOk-weaker c.minus.result _ _ (λ p e. e ∙ top_some c.args.slices.now c.args.inner.now c.index-slices-above.result c.args.k (omega arith) c.index-slices-above.is) c.minus.ensures
