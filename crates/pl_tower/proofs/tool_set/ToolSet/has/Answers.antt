use Rattle.std.proofs.Common.{◌≡◌, ◌≤◌, nat_lt, false, sym, ◌∙◌, arith}
use Rattle.std.proofs.lemmas.Bool.Decides.{nat_tests}
use Rattle.pl_tower.proofs.SetLemmas.{is_tool_set}
use Rattle.pl_tower.proofs.tool_set.ToolSet.has.Goals as goal

pub returns-else-tool-lt4-clause-value : goal.returns-else-tool-lt4-clause-value
returns-else-tool-lt4-clause-value c =
    let far : 4 ≤ c.args.tool = omega arith in
    let test : nat_lt c.args.tool 4 ≡ false = grind (arith, nat_tests) in
    test ∙ sym (rw (← c.self.view_is) (is_tool_set c.self.inside.bits c.self.invariant c.args.tool far))

pub returns-else-tool-lt4-clause-tools : goal.returns-else-tool-lt4-clause-tools
returns-else-tool-lt4-clause-tools c = rw (← c.self.view_is) (is_tool_set c.self.inside.bits c.self.invariant)

pub returns-then-tool-lt4-clause-tools : goal.returns-then-tool-lt4-clause-tools
returns-then-tool-lt4-clause-tools c = rw (← c.self.view_is) (is_tool_set c.self.inside.bits c.self.invariant)
