use Rattle.std.proofs.Common.{◌≡◌, ◌≤◌, ◌+◌, ◌-◌, [], length, take, drop, sum_by}
use Rattle.pl_stl.specs.Tokens.{tokens_from, line_end, last_line}
use Rattle.pl_stl.specs.Reading.{run, mesh_of}
use Rattle.pl_stl.specs.Reader.{state_of}
use Rattle.pl_stl.proofs.read.read_facets.Given as goal

abbrev pub invariant-loop-start : goal.invariant-loop-start
invariant-loop-start l = record {
  within : l.start ≤ length l.bytes;
  line : l.line ≡ 1 + sum_by line_end (take l.start l.bytes);
  small : l.line ≤ l.start + 1;
  rest : run (last_line l.bytes) (state_of l.reader) (tokens_from l.line [] (drop l.start l.bytes)) ≡ mesh_of l.bytes;
}

abbrev pub decreases-loop-start : goal.decreases-loop-start
decreases-loop-start l = length l.bytes - l.start
