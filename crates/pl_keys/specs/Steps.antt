-- The ten kinds of step, and sets of them. A set is kept as a number, of which bit k says whether step k is in the set.
use Rattle.std.specs.Prelude.{ℕ, ◌==◌, Bool}
use Rattle.std.specs.Int.{bit_at}

abbrev pub slice : ℕ
slice = 0

abbrev pub perimeters : ℕ
perimeters = 1

abbrev pub prepare : ℕ
prepare = 2

abbrev pub infill : ℕ
infill = 3

abbrev pub ironing : ℕ
ironing = 4

abbrev pub support : ℕ
support = 5

abbrev pub tower : ℕ
tower = 6

abbrev pub skirt : ℕ
skirt = 7

abbrev pub brim : ℕ
brim = 8

abbrev pub export : ℕ
export = 9

-- whether the set has the step
abbrev pub has : ℕ → ℕ → Bool
has mask step = bit_at mask step == 1
