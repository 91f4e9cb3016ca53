use Rattle.std.proofs.Common.{◌≡◌, ◌∙◌, ap, sym, None, is_some, true≢false}
use Rattle.std.specs.FinMap as map
use Rattle.pl_options.proofs.KeyMaps.{get-entries, entries_put}
use Rattle.pl_options.proofs.values.Values.put.Goals as goal

pub returns-in_err-insert-clause-there : goal.returns-in_err-insert-clause-there
returns-in_err-insert-clause-there c there =
    let none : map.get c.args.self.now c.args.key ≡ None =
    ap (λ m. map.get m c.args.key) (sym c.self.view_is) ∙ get-entries _ c.args.key ∙ c.in_err-insert.ensures.absent in
    absurd (true≢false (sym there ∙ ap is_some none))

pub returns-clause-ok : goal.returns-clause-ok
returns-clause-ok c = entries_put _ _ c.args.key c.args.value c.in_ok-insert.ensures.updates.0 ∙ ap (λ m. map.insert m c.args.key c.args.value) c.self.view_is
