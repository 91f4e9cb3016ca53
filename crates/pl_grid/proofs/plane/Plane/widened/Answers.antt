use Rattle.std.proofs.Common.{◌+◌, ◌*◌, ap, ◌∙◌}
use Rattle.pl_grid.specs.Extent.{Extent, grown}
use Rattle.pl_grid.specs.Planes.{Cells}
use Rattle.pl_grid.specs.Packed.{is_widened, words_of}
use Rattle.pl_grid.proofs.RowParts.{at_call}
use Rattle.pl_grid.proofs.RowCells.{widened_is, IsPacked-widened}
use Rattle.pl_grid.proofs.plane.Plane.widened.Goals as goal

pub invariant_of-result : goal.invariant_of-result
invariant_of-result c = IsPacked-widened c.args.self.now c.self.inside.bounds c.grown-grown.result c.self.inside.words.items c.in_ok-words.words.items c.args.by c.self.view_is c.self.invariant (c.grown-grown.ensures ∙ ap (λ (q : Cells). grown c.args.by q.bounds) c.self.view_is)
    (c.in_ok-words.ensures.len ∙ ap (λ (e : Extent). (e.rows + 2 * c.args.by) * c.row_words-2.result) c.bounds.view_is ∙ ap (λ n. (c.self.inside.bounds.rows + 2 * c.args.by) * n) c.row_words-2.ensures)
    (λ j i hj hi. at_call (λ ws n j i. is_widened ws c.row_words.result c.args.by j i) c.self.inside.words.items c.deref.result.now c.in_ok-words.words.items c.row_words-2.result (words_of c.grown-grown.result.cols) (c.bounds.inside.rows + 2 * c.args.by) (c.self.inside.bounds.rows + 2 * c.args.by) c.deref.ensures.value c.row_words-2.ensures (ap (λ (e : Extent). e.rows + 2 * c.args.by) c.bounds.view_is) c.in_ok-words.ensures.bits j i hj hi
    ∙ ap (λ n. is_widened c.self.inside.words.items n c.args.by j i) c.row_words.ensures)

pub returns : goal.returns
returns c = widened_is c.args.self.now c.self.inside.bounds c.grown-grown.result c.self.inside.words.items c.in_ok-words.words.items c.args.by c.self.view_is c.self.invariant (c.grown-grown.ensures ∙ ap (λ (q : Cells). grown c.args.by q.bounds) c.self.view_is)
    (λ j i hj hi. at_call (λ ws n j i. is_widened ws c.row_words.result c.args.by j i) c.self.inside.words.items c.deref.result.now c.in_ok-words.words.items c.row_words-2.result (words_of c.grown-grown.result.cols) (c.bounds.inside.rows + 2 * c.args.by) (c.self.inside.bounds.rows + 2 * c.args.by) c.deref.ensures.value c.row_words-2.ensures (ap (λ (e : Extent). e.rows + 2 * c.args.by) c.bounds.view_is) c.in_ok-words.ensures.bits j i hj hi
    ∙ ap (λ n. is_widened c.self.inside.words.items n c.args.by j i) c.row_words.ensures)
