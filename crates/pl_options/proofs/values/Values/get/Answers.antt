use Rattle.std.proofs.Common.{◌∙◌, ap, sym}
use Rattle.std.specs.FinMap as map
use Rattle.pl_options.proofs.KeyMaps.{get-entries}
use Rattle.pl_options.proofs.values.Values.get.Goals as goal

pub returns : goal.returns
returns c = c.get.ensures.value ∙ sym (get-entries _ c.args.key) ∙ ap (λ m. map.get m c.args.key) c.self.view_is
