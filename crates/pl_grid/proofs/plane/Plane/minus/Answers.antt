use Rattle.std.proofs.Common.{◌&&◌, not}
use Rattle.pl_grid.proofs.PackedLemmas.{both_is}
use Rattle.pl_grid.proofs.plane.Plane.minus.Goals as goal

pub returns : goal.returns
returns c = both_is (λ a b. a && not b) c.args.self.now c.args.other.now c.self.inside.bounds c.other.inside.bounds c.self.inside.words.items c.other.inside.words.items c.deref.result.now c.deref-2.result.now c.in_ok-words.words.items c.self.view_is c.other.view_is c.requires c.self.invariant.room c.deref.ensures.value c.deref-2.ensures.value c.in_ok-words.ensures.bits
