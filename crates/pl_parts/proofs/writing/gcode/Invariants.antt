use Rattle.std.proofs.Common.{◌≡◌, ◌++◌}
use Rattle.std.specs.List.{flat_map, range_with_len}
use Rattle.pl_gcode.specs.Gcode.{head_text, height_text}
use Rattle.pl_parts.specs.Parts.{print_from}
use Rattle.pl_parts.proofs.writing.gcode.Given as goal

abbrev pub invariant-loop-i : goal.invariant-loop-i
invariant-loop-i l = l.text ≡ head_text (print_from l.parts).settings ++ flat_map (height_text (print_from l.parts)) (range_with_len 0 l.i)
