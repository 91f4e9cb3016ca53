use Rattle.std.proofs.Common.{ℕ, Vec, Global, sym, ap, ◌∙◌, cond, [], ◌∷◌, ◌++◌}
use Rattle.pl_tower.proofs.OrderLemmas.{members_at}
use Rattle.pl_tower.proofs.order.first_tool.Goals as goal
use Rattle.pl_tower.proofs.order.first_tool.Goals.{then-has+in_ok-push, else-has}

pub returns : goal.returns
returns c =
    let items = λ (v : Vec ℕ Global). v.items in
    let at = members_at c.args.used c.args.current c.has.ensures.tools in
    elim c.if-has.branch [
      | then-has+in_ok-push w ↦
          ap items w.tools-is
          ∙ w.in_ok-push.ensures.items
          ∙ ap (λ tools. tools ++ c.args.current ∷ []) c.new-tools.ensures.items
          ∙ ap (λ b. cond b (c.args.current ∷ []) []) w.if-has.ensures.value
          ∙ sym at
      | else-has w ↦ ap items w.tools-is ∙ c.new-tools.ensures.items ∙ ap (λ b. cond b (c.args.current ∷ []) []) w.if-has.ensures.value ∙ sym at
    ]
