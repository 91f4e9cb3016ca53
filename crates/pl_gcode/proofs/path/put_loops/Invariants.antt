use Rattle.std.proofs.Common.{drop}
use Rattle.std.specs.List.{flat_map}
use Rattle.pl_gcode.specs.Paths.{loop_path}
use Rattle.pl_gcode.proofs.Written.{Written}
use Rattle.pl_gcode.proofs.path.put_loops.Given as goal

abbrev pub invariant-loop-path : goal.invariant-loop-path
invariant-loop-path l = Written l.initial.out l.out (flat_map (loop_path l.settings l.pace l.by) l.loops) (flat_map (loop_path l.settings l.pace l.by) (drop l.path-index l.loops))
