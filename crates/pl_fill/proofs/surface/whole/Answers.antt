use Rattle.std.proofs.Common.{◌∙◌}
use Rattle.std.proofs.lemmas.Result.{IfOk-weaker}
use Rattle.pl_fill.proofs.SurfaceLemmas.{own_plane}
use Rattle.pl_fill.proofs.surface.whole.Goals as goal

pub returns : goal.returns
returns c = IfOk-weaker c.copied.result _ _ (λ p e. e ∙ own_plane c.args.plane.now c.bounds-bounds.ensures.full) c.copied.ensures
