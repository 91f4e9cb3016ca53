use Rattle.std.proofs.Common.{◌∙◌, ap, sym}
use Rattle.std.specs.FinMap as map
use Rattle.pl_options.proofs.KeyMaps.{get-entries, entries_removed}
use Rattle.pl_options.proofs.values.Values.take.Goals as goal

pub returns-clause-value : goal.returns-clause-value
returns-clause-value c = c.shift_remove.ensures.value ∙ sym (get-entries _ c.args.key) ∙ ap (λ m. map.get m c.args.key) c.self.view_is

pub returns-clause-rest : goal.returns-clause-rest
returns-clause-rest c = entries_removed _ _ c.args.key c.shift_remove.ensures.updates.0 ∙ ap (λ m. map.remove m c.args.key) c.self.view_is
