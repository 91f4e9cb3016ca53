use Rattle.std.proofs.Common.{◌≡◌, ℕ, nat_lt}
use Rattle.std.specs.Prelude.{◌&&◌}
use Rattle.pl_tech.specs.Slots.{has}
use Rattle.pl_cascade.specs.Slots.{is_present, print_needs}
use Rattle.pl_cascade.proofs.needing.needs_of_print.Given as goal

abbrev pub invariant-loop-number : goal.invariant-loop-number
invariant-loop-number l = (k : ℕ) → has l.slots k ≡ (nat_lt k l.number && (is_present l.plate k && print_needs l.step k))
