use Rattle.std.proofs.Common.{◌≡◌, drop}
use Rattle.std.specs.List.{flat_map, enumerate_from}
use Rattle.pl_gcode.specs.Gcode.{instance_text}
use Rattle.pl_gcode.proofs.Written.{Written}
use Rattle.pl_gcode.proofs.object.put_instances.Given as goal

abbrev pub invariant-loop-by : goal.invariant-loop-by
invariant-loop-by g l = record {
  numbered : l.number ≡ l.by-index;
  written : Written l.initial.out l.out (flat_map (instance_text (g.P.Parts.print l.parts) l.place l.k) (enumerate_from 0 l.by-items)) (flat_map (instance_text (g.P.Parts.print l.parts) l.place l.k) (enumerate_from l.by-index (drop l.by-index l.by-items)));
}
