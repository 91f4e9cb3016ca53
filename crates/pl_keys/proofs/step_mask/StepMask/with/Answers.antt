use Rattle.std.proofs.Common.{◌*◌, ◌^◌, ◌%◌}
use Rattle.std.proofs.lemmas.Nat.{or_lt}
use Rattle.pl_keys.proofs.Masks.{has-with, one_below}
use Rattle.pl_keys.proofs.step_mask.StepMask.with.Goals as goal

pub invariant_of-result : goal.invariant_of-result
invariant_of-result c = or_lt 10 c.self.inside.bits (1 * 2 ^ c.args.kind % 65536) c.self.invariant (one_below c.args.kind c.requires)

pub returns : goal.returns
returns c = λ step. rw (← c.self.view_is) (has-with c.self.inside.bits c.args.kind step c.requires)
