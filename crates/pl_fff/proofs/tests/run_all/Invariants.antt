use Rattle.std.proofs.Common.{◌≡◌, ℕ, ◌<◌, true, Some}
use Rattle.pl_tech.specs.Kept.{kept_at}
use Rattle.pl_fff.proofs.tests.run_all.Given as goal

abbrev pub invariant-loop-number : goal.invariant-loop-number
invariant-loop-number g l = (n : ℕ) → n < l.number → g.T.Technology.meaning.present l.plate n ≡ true → kept_at l.kept n ≡ Some (g.T.Technology.meaning.value l.plate n)
