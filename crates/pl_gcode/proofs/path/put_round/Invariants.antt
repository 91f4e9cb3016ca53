use Rattle.std.proofs.Common.{◌++◌, [], ◌∷◌, drop, map}
use Rattle.pl_gcode.specs.Paths.{extrude_along, shifted_corner}
use Rattle.pl_gcode.proofs.Written.{Written}
use Rattle.pl_gcode.proofs.path.put_round.Given as goal

abbrev pub invariant-loop-corner : goal.invariant-loop-corner
invariant-loop-corner l =
    Written l.initial.out l.out (extrude_along l.settings l.pace (shifted_corner l.by l.first) (map (shifted_corner l.by) (l.others ++ l.first ∷ []))) (extrude_along l.settings l.pace l.from (map (shifted_corner l.by) (drop l.corner-index l.others ++ l.first ∷ [])))
