use Rattle.std.proofs.Common.{◌≡◌, IfOk, subst}
use Rattle.pl_grid.specs.Planes.{Cells}
use Rattle.pl_prints.proofs.RoomLemmas.{footprints_placed, footing_is}
use Rattle.pl_prints.proofs.footing.ground_plane.Goals as goal

pub footing_plane-requires : goal.footing_plane-requires
footing_plane-requires c = footprints_placed c.args.plate.now c.args.footprints.now c.requires.printable c.requires.footprints

pub returns : goal.returns
returns c = let P : Cells → Type 0 = λ cells. IfOk c.footing_plane.result (λ p. p ≡ cells) in subst P (footing_is c.args.plate.now c.args.footprints.now c.requires.footprints) c.footing_plane.ensures
