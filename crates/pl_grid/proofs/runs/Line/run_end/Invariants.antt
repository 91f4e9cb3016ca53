use Rattle.std.proofs.Common.{◌≡◌, ◌+◌, ◌-◌, ◌≤◌, drop}
use Rattle.std.specs.List.{prefix_len}
use Rattle.pl_grid.specs.Lines.{line_cells, line_length}
use Rattle.pl_grid.proofs.runs.Line.run_end.Given as goal

abbrev pub invariant-loop-end : goal.invariant-loop-end
invariant-loop-end l = (l.end + prefix_len (λ b. b) (drop l.end (line_cells l.self.along l.self.plane.now l.self.line)) ≡ l.first + prefix_len (λ b. b) (drop l.first (line_cells l.self.along l.self.plane.now l.self.line))) × (l.length ≡ line_length l.self.along l.self.plane.now.bounds) × (l.end ≤ l.length)

abbrev pub decreases-loop-end : goal.decreases-loop-end
decreases-loop-end l = l.length - l.end
