use Rattle.std.proofs.Common.{drop}
use Rattle.std.specs.List.{flat_map}
use Rattle.pl_gcode.specs.Gcode.{place_text}
use Rattle.pl_gcode.proofs.Written.{Written}
use Rattle.pl_gcode.proofs.object.put_objects.Given as goal

abbrev pub invariant-loop-place : goal.invariant-loop-place
invariant-loop-place g l =
    Written l.initial.out l.out (flat_map (place_text (g.P.Parts.print l.parts) l.i l.tool) l.place-items) (flat_map (place_text (g.P.Parts.print l.parts) l.i l.tool) (drop l.place-index l.place-items))
