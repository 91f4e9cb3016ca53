use Rattle.std.proofs.Common.{ap}
use Rattle.pl_grid.specs.Extent.{Extent}
use Rattle.pl_grid.proofs.Turning.{IsPacked-turned, transposed_is}
use Rattle.pl_grid.proofs.plane.Plane.transposed.Goals as goal

pub invariant_of-result : goal.invariant_of-result
invariant_of-result c = IsPacked-turned c.self.inside.bounds c.turned-turned.result c.self.inside.words.items c.deref.result.now c.in_ok-words.words.items c.row_words.result c.row_words-2.result c.bounds.inside.cols c.self.invariant c.turned-turned.ensures c.deref.ensures.value c.row_words.ensures c.row_words-2.ensures (ap (λ (e : Extent). e.cols) c.bounds.view_is) c.in_ok-words.ensures.len c.in_ok-words.ensures.bits

pub returns : goal.returns
returns c = transposed_is c.args.self.now c.self.inside.bounds c.turned-turned.result c.self.inside.words.items c.deref.result.now c.in_ok-words.words.items c.row_words.result c.row_words-2.result c.bounds.inside.cols c.self.view_is c.turned-turned.ensures c.deref.ensures.value c.row_words.ensures c.row_words-2.ensures (ap (λ (e : Extent). e.cols) c.bounds.view_is) c.in_ok-words.ensures.bits
