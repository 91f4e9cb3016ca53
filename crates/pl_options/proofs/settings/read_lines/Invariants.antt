use Rattle.std.proofs.Common.{◌≡◌, length, map}
use Rattle.pl_options.specs.Settings.{Sets}
use Rattle.pl_options.proofs.settings.read_lines.Given as goal

abbrev pub invariant-loop-line : goal.invariant-loop-line
invariant-loop-line l = record {
  can : (goal.iterator-loop-line).can_next l.line-iterator;
  finite : (goal.iterator-loop-line).is_finite l.line-iterator;
  read : Sets (map (λ line. line.now) l.yielded) l.set;
  number : l.number ≡ length l.yielded;
}
