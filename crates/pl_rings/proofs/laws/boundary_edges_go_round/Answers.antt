use Rattle.pl_rings.proofs.EdgeLaws.{next_permutes_sides, cycles_partition_sides}
use Rattle.pl_rings.proofs.laws.boundary_edges_go_round.Goals as goal

pub returns : goal.returns
returns c = record { permuted = next_permutes_sides; partition = cycles_partition_sides }
