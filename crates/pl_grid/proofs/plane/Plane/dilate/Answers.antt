use Rattle.std.proofs.Common.{◌*◌, ◌&&◌, length, ap, ◌∙◌}
use Rattle.std.specs.Prelude.{nat_lt}
use Rattle.pl_grid.specs.Extent.{Extent}
use Rattle.pl_grid.specs.Packed.{comes_at, words_of}
use Rattle.pl_grid.proofs.RowParts.{at_call}
use Rattle.pl_grid.proofs.RowCells.{dilated_is, IsPacked-dilated}
use Rattle.pl_grid.proofs.plane.Plane.dilate.Goals as goal

pub invariant_of-result : goal.invariant_of-result
invariant_of-result c = IsPacked-dilated c.self.inside.bounds c.self.inside.words.items c.in_ok-words.words.items c.bounds.inside.cols c.self.invariant (ap (λ (e : Extent). e.cols) c.bounds.view_is) (c.in_ok-words.ensures.len ∙ ap length c.deref.ensures.value)
    (at_call (λ ws n j i. nat_lt i c.bounds.inside.cols && comes_at ws n (j * n) i) c.self.inside.words.items c.deref.result.now c.in_ok-words.words.items c.row_words.result (words_of c.self.inside.bounds.cols) c.bounds.inside.rows c.self.inside.bounds.rows c.deref.ensures.value c.row_words.ensures (ap (λ (e : Extent). e.rows) c.bounds.view_is) c.in_ok-words.ensures.bits)

pub returns : goal.returns
returns c = dilated_is c.args.self.now c.self.inside.bounds c.self.inside.words.items c.in_ok-words.words.items c.bounds.inside.cols c.self.view_is c.self.invariant (ap (λ (e : Extent). e.cols) c.bounds.view_is)
    (at_call (λ ws n j i. nat_lt i c.bounds.inside.cols && comes_at ws n (j * n) i) c.self.inside.words.items c.deref.result.now c.in_ok-words.words.items c.row_words.result (words_of c.self.inside.bounds.cols) c.bounds.inside.rows c.self.inside.bounds.rows c.deref.ensures.value c.row_words.ensures (ap (λ (e : Extent). e.rows) c.bounds.view_is) c.in_ok-words.ensures.bits)
