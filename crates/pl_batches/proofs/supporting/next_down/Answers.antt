use Rattle.std.proofs.Common.{◌≡◌, ℕ, ◌+◌, ◌-◌, ◌≤◌, true, false, length, ap, ◌∙◌, arith}
use Rattle.std.proofs.lemmas.Bool.Decides.{nat_tests}
use Rattle.pl_support.specs.Support.{support_at}
use Rattle.pl_batches.specs.Passes.{from_top}
use Rattle.pl_batches.proofs.Lists.{at_each}
use Rattle.pl_batches.proofs.supporting.next_down.Goals as goal

pub cells_below-requires-clause-above : goal.cells_below-requires-clause-above
cells_below-requires-clause-above c =
    let n : ℕ = length c.args.slices.now in
    let m : ℕ = length c.args.found.now in
    let some : 1 ≤ m = grind (arith, nat_tests) in
    let up : n - 1 - (m - 1) ≡ n - 1 - m + 1 = omega arith in
    at_each m (from_top n (support_at true false c.args.slices.now)) c.args.found.now (m - 1) c.index-found-found.result c.requires.found (omega arith) c.index-found-found.is ∙ ap (support_at true false c.args.slices.now) up
