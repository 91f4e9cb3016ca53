use Rattle.std.proofs.Common.{◌*◌, ◌^◌, ◌%◌}
use Rattle.std.proofs.lemmas.Nat.{or_lt}
use Rattle.pl_tower.proofs.SetLemmas.{has-with, one_below}
use Rattle.pl_tower.proofs.tool_set.ToolSet.with.Goals as goal

pub invariant_of-result : goal.invariant_of-result
invariant_of-result c = or_lt 4 c.self.inside.bits (1 * 2 ^ c.args.tool % 256) c.self.invariant (one_below c.args.tool c.requires)

pub returns : goal.returns
returns c = λ t. rw (← c.self.view_is) (has-with c.self.inside.bits c.args.tool t c.requires)
