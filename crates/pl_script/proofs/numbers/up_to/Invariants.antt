use Rattle.std.proofs.Common.{◌≡◌, ◌≤◌, drop}
use Rattle.pl_units.specs.Numeral.{written, digits_after}
use Rattle.pl_script.proofs.numbers.up_to.Given as goal

abbrev pub invariant-loop-digit : goal.invariant-loop-digit
invariant-loop-digit l = record { same : written l.digits ≡ digits_after l.number (drop l.digit-index l.digits); few : l.number ≤ l.most }
