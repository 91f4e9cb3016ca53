use Rattle.std.proofs.Common.{◌≡◌, ℕ, List, IfOk, ◌∙◌, subst}
use Rattle.pl_tower.specs.Heights.{tools_along}
use Rattle.pl_prints.proofs.ToolLemmas.{used_is}
use Rattle.pl_prints.proofs.used.tools.Goals as goal

pub returns : goal.returns
returns c =
    let P : List ℕ → Type 0 = λ used. IfOk c.tools_of_heights.result (λ tools. tools.items ≡ tools_along 0 used) in
    subst P (used_is c.args.plate.now c.deref.result.now c.args.tops.now c.deref-2.result.now (c.deref.ensures.value ∙ c.in_ok-layers.ensures.layers) c.requires (c.deref-2.ensures.value ∙ c.in_ok-used.ensures)) c.tools_of_heights.ensures
