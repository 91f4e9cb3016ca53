-- What holds of each print that is written.
use Rattle.std.specs.Prelude.{◌≡◌, ℕ, ◌<◌, ◌≤◌, pos, ◌≤ℤ◌, length, Contains, Some}
use Rattle.pl_units.specs.declared.Nm.{Nm}
use Rattle.pl_gcode.specs.Print.{Print}
use Rattle.pl_gcode.specs.Gcode.{gap}

-- the height of a track is from 1 to 1,000,000 nm
pub record IsTrack (height : Nm) : Type 0 where
  pub low : pos 1 ≤ℤ height.0
  pub high : height.0 ≤ℤ pos 1000000

-- of the heights, the places and the layers that a print has
pub record IsPrint (p : Print) : Type 0 where
  -- a height has one to four tools
  pub tooled : (i : ℕ) → i < length p.heights → 1 ≤ length (p.tools i)
  pub few_tools : (i : ℕ) → i < length p.heights → length (p.tools i) ≤ 4
  -- the first height, and the rise from each height to the next, are tracks
  pub gaps : (i : ℕ) → i < length p.heights → IsTrack (gap p i)
  -- what a place has at a height is one of its layers, and each of these is a track
  pub layered : (place i k : ℕ) → Contains p.places place → i < length p.heights → p.layer_at place i ≡ Some k → k < p.layers place
  pub tracks : (place k : ℕ) → Contains p.places place → k < p.layers place → IsTrack (p.layer_height place k)
