use Rattle.std.proofs.Common.{◌+◌, ◌*◌, ◌∙◌}
use Rattle.pl_grid.proofs.PackedLemmas.{is_set-zeros}
use Rattle.pl_grid.proofs.rows.widen_words.Goals as goal

pub put_moved_rows-requires-clause-none : goal.put_moved_rows-requires-clause-none
put_moved_rows-requires-clause-none c k = is_set-zeros c.deref_mut.result.now ((c.args.rows + 2 * c.args.by) * c.args.wide) k (c.deref_mut.ensures.value ∙ c.in_ok-out.ensures)
