-- The bytes of the results of slots.
use Rattle.std.specs.Prelude.{ℕ, List, []}
use Rattle.pl_slots.specs.declared.output.FffOutput.{FffOutput}
use Rattle.pl_slots.specs.declared.output.FffOutput.TheVariants.{Gcode}

-- the bytes of a result: those of the G-code, and none of any other
abbrev pub output_bytes : FffOutput → List ℕ
output_bytes (Gcode text) = text
output_bytes _ = []
