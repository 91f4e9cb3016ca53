use Rattle.std.proofs.Common.{ℕ, ◌+◌, ◌++◌, length, ap, ◌∙◌, arith, length-append}
use Rattle.std.proofs.lemmas.Slice.{take-put_mid}
use Rattle.std.proofs.Math.Seq.{take-append_seam}
use Rattle.pl_slots.proofs.names.put_both.Goals as goal

pub returns-clause-name : goal.returns-clause-name
returns-clause-name c = rw (c.copy_from_slice.ensures.after, c.copy_from_slice-2.ensures.after) (take-put_mid (length c.args.first.now) _ _ c.args.second.now (length c.args.first.now + length c.args.second.now) (omega arith) (omega (arith, length-append {A = ℕ})) ∙ ap (λ l. l ++ c.args.second.now) (take-append_seam c.args.first.now _))
