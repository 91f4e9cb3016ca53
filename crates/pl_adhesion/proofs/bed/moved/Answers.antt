use Rattle.std.proofs.Common.{◌+ℤ◌, arith, subst}
use Rattle.std.proofs.lemmas.Int.{ints}
use Rattle.pl_grid.specs.Extent.{IsExtent, IsNear}
use Rattle.pl_adhesion.proofs.BedLemmas.{inside_near}
use Rattle.pl_adhesion.proofs.bed.moved.Goals as goal

pub returns-clause-y : goal.returns-clause-y
returns-clause-y c =
    let box : IsExtent c.args.room = subst IsExtent c.room.view_is c.room.invariant in
    let near : IsNear (c.args.cell.now.x +ℤ c.args.shift.now.x) (c.args.cell.now.y +ℤ c.args.shift.now.y) = inside_near _ _ _ box c.requires in
    omega (arith, ints)
