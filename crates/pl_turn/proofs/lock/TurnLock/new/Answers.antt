use Rattle.std.proofs.Common.{◌≡◌, List, [], ◌∷◌, ◌++◌, Option, Some, sym, ap, subst, ◌∙◌}
use Rattle.atomic_table.specs.Table.{opening}
use Rattle.pl_turn.specs.Rule.{Turning, opening_view}
use Rattle.pl_turn.proofs.Closing.{opens}
use Rattle.pl_turn.proofs.lock.TurnLock.new.Goals as goal

pub new-requires : goal.new-requires
new-requires g c =
    let X : Type 0 = g.row.V.Denot in
    let t = g.V.Turned in
    let x : X = c.args.value in
    let there = t.home c.of-about.result.value in
    let items : c.push.new.self.items ≡ Some x ∷ [] = c.in_default.ensures.items ∙ ap (λ (l : List (Option X)). l ++ Some x ∷ []) c.new-slots.ensures.items in
    subst (λ (l : List (Option X)). Turning t.history t.home t.caller there (opening (0 ∷ 0 ∷ []) l (opening_view there))) (sym items)
    (opens t.history t.home t.caller there x c.requires (ap t.home (sym c.of-about.ensures)))
