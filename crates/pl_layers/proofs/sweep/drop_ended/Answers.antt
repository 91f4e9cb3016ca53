use Rattle.std.proofs.Common.{rules, not}
use Rattle.std.proofs.lemmas.Fn.{filter_same}
use Rattle.pl_layers.specs.Sweeps.{ends_by}
use Rattle.pl_layers.proofs.sweep.drop_ended.Goals as goal

pub returns : goal.returns
returns c = filter_same _ (λ f. not (ends_by c.args.z.now.0 f)) _ (λ x b f' k. search rules) _ _ c.retain.ensures.filtered
