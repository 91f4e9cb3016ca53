use Rattle.std.proofs.Common.{◌≡◌, ℕ, Vec, Global, ◌++◌, ◌∷◌, [], sym, ap, ◌∙◌, append-nil, append_assoc, arith}
use Rattle.pl_tower.proofs.OrderLemmas.{others_below, others_none, others_more, others_all}
use Rattle.pl_tower.proofs.order.put_others.Goals as goal
use Rattle.pl_tower.proofs.order.put_others.Goals.{then-is_other+in_ok-push, else-is_other}

pub loop-tool-init : goal.loop-tool-init
loop-tool-init c = sym (append-nil c.args.tools.now.items) ∙ ap (λ ts. c.args.tools.now.items ++ ts) (sym (others_none c.args.current c.args.used))

pub loop-tool-preserved : goal.loop-tool-preserved
loop-tool-preserved c =
    let items = λ (v : Vec ℕ Global). v.items in
    let more = others_more c.args.current c.args.used c.loop-tool.tool in
    elim c.if-is_other.branch [
      | then-is_other+in_ok-push w ↦
          ap items w.tools-is
          ∙ w.in_ok-push.ensures.items
          ∙ ap (λ ts. ts ++ c.loop-tool.tool ∷ []) c.loop-tool.invariant
          ∙ append_assoc c.args.tools.now.items (others_below c.args.current c.args.used c.loop-tool.tool) (c.loop-tool.tool ∷ [])
          ∙ ap (λ ts. c.args.tools.now.items ++ ts) (sym (more _ w.if-is_other.ensures))
      | else-is_other w ↦
          ap items w.tools-is
          ∙ c.loop-tool.invariant
          ∙ ap (λ ts. c.args.tools.now.items ++ ts) (sym (append-nil (others_below c.args.current c.args.used c.loop-tool.tool)) ∙ sym (more _ w.if-is_other.ensures))
    ]

pub returns : goal.returns
returns c =
    let last : c.loop-tool.tool ≡ 4 = omega arith in
    c.loop-tool.invariant ∙ ap (λ ts. c.args.tools.now.items ++ ts) (ap (others_below c.args.current c.args.used) last ∙ others_all c.args.current c.args.used)
