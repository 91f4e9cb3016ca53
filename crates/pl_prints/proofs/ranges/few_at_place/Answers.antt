use Rattle.pl_prints.proofs.FewLemmas.{few_at}
use Rattle.pl_prints.proofs.ranges.few_at_place.Goals as goal

pub returns-in-Some : goal.returns-in-Some
returns-in-Some c = few_at c.args.config.now c.args.place.now c.in-Some.object c.in-Some.is c.few_layers.ensures
