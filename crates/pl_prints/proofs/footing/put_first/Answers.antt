use Rattle.std.proofs.Common.{sym}
use Rattle.pl_fill.specs.Surfaces.{layer_at}
use Rattle.pl_prints.proofs.FootLemmas.{put_nothing, no_first}
use Rattle.pl_prints.proofs.footing.put_first.Goals as goal

pub returns-in_default : goal.returns-in_default
returns-in_default c = put_nothing c.args.floor.now (layer_at c.args.layers.now 0) c.args.x c.args.y c.requires.floor.full (no_first c.args.layers.now (sym c.in_default.ensures.value))
