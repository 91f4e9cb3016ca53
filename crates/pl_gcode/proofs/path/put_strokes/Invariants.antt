use Rattle.std.proofs.Common.{drop}
use Rattle.std.specs.List.{flat_map}
use Rattle.pl_gcode.specs.Paths.{stroke_path}
use Rattle.pl_gcode.proofs.Written.{Written}
use Rattle.pl_gcode.proofs.path.put_strokes.Given as goal

abbrev pub invariant-loop-stroke : goal.invariant-loop-stroke
invariant-loop-stroke l = Written l.initial.out l.out (flat_map (stroke_path l.settings l.pace l.by) l.strokes) (flat_map (stroke_path l.settings l.pace l.by) (drop l.stroke-index l.strokes))
