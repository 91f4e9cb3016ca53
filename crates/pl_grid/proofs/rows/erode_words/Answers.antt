use Rattle.std.proofs.Common.{◌≡◌, ◌+◌, ◌*◌, length, ap, ◌∙◌}
use Rattle.std.proofs.lemmas.List.{with_items_is}
use Rattle.std.proofs.lemmas.Simd.{length-replicate}
use Rattle.pl_lanes.specs.Bits.{is_set}
use Rattle.pl_grid.specs.Packed.{stays_at}
use Rattle.pl_grid.proofs.PackedLemmas.{is_set-zeros}
use Rattle.pl_grid.proofs.RowParts.{at_count}
use Rattle.pl_grid.proofs.rows.erode_words.Goals as goal

pub erode_rows-requires-clause-none : goal.erode_rows-requires-clause-none
erode_rows-requires-clause-none c k = is_set-zeros c.deref.result.now c.args.count k (c.deref.ensures.value ∙ c.in_ok-none.ensures)

pub returns-clause-bits : goal.returns-clause-bits
returns-clause-bits c j i hj hi =
    let count : length c.deref.result.now ≡ c.args.count = ap length (c.deref.ensures.value ∙ c.in_ok-none.ensures) ∙ length-replicate c.args.count 0 in
    ap (λ l. is_set l (64 * (j * c.args.count) + i)) (with_items_is c.in_ok-out.out c.erode_rows.new.out (c.erode_rows.auto.out ∙ c.deref_mut.ensures.len))
    ∙ at_count (λ n j i. stays_at c.args.words.now n (j * n) i) c.erode_rows.new.out (length c.deref.result.now) c.args.count c.args.rows count c.erode_rows.ensures j i hj hi
