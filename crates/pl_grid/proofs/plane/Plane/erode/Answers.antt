use Rattle.std.proofs.Common.{◌*◌, length, ap, ◌∙◌}
use Rattle.pl_grid.specs.Extent.{Extent}
use Rattle.pl_grid.specs.Packed.{stays_at, words_of}
use Rattle.pl_grid.proofs.RowParts.{at_call}
use Rattle.pl_grid.proofs.RowCells.{eroded_is, IsPacked-eroded}
use Rattle.pl_grid.proofs.plane.Plane.erode.Goals as goal

pub invariant_of-result : goal.invariant_of-result
invariant_of-result c = IsPacked-eroded c.self.inside.bounds c.self.inside.words.items c.in_ok-words.words.items c.self.invariant (c.in_ok-words.ensures.len ∙ ap length c.deref.ensures.value)
    (at_call (λ ws n j i. stays_at ws n (j * n) i) c.self.inside.words.items c.deref.result.now c.in_ok-words.words.items c.row_words.result (words_of c.self.inside.bounds.cols) c.bounds.inside.rows c.self.inside.bounds.rows c.deref.ensures.value c.row_words.ensures (ap (λ (e : Extent). e.rows) c.bounds.view_is) c.in_ok-words.ensures.bits)

pub returns : goal.returns
returns c = eroded_is c.args.self.now c.self.inside.bounds c.self.inside.words.items c.in_ok-words.words.items c.self.view_is c.self.invariant
    (at_call (λ ws n j i. stays_at ws n (j * n) i) c.self.inside.words.items c.deref.result.now c.in_ok-words.words.items c.row_words.result (words_of c.self.inside.bounds.cols) c.bounds.inside.rows c.self.inside.bounds.rows c.deref.ensures.value c.row_words.ensures (ap (λ (e : Extent). e.rows) c.bounds.view_is) c.in_ok-words.ensures.bits)
