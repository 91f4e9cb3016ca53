use Rattle.std.proofs.Common.{◌≡◌, ◌+◌, ◌<◌, ◌^◌, drop}
use Rattle.pl_units.specs.Numeral.{digits_after}
use Rattle.pl_stl.proofs.plain.digits.Given as goal

abbrev pub invariant-loop-b : goal.invariant-loop-b
invariant-loop-b l = record {
  rest : digits_after l.number (drop l.b-index l.text) ≡ digits_after l.start l.text;
  small : l.number < 10 ^ (l.before + l.b-index);
}
