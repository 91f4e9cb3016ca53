-- How much filament a move takes.
use Rattle.std.specs.Prelude.{ℕ, ◌*◌, ◌/◌}

-- the area of the filament's section: pi is 355/113, and the radius is half the diameter
abbrev pub area_of : ℕ → ℕ
area_of diameter = 355 * diameter * diameter / 452

-- in 0.00001 mm of filament, rounded down: lengths in nanometres, tracks 400,000 nm wide
abbrev pub extrusion_of : ℕ → ℕ → ℕ → ℕ → ℕ
extrusion_of len height diameter percent = len * 400000 * height * percent / (area_of diameter * 1000)
