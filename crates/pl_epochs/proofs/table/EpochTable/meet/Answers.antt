use Rattle.std.proofs.Common.{arith, refl, ap, sym, subst, ◌∙◌}
use Rattle.pl_epochs.specs.declared.view.View.{View}
use Rattle.pl_epochs.specs.declared.view.View.TheVariants.{Writes}
use Rattle.pl_epochs.specs.Rule.{counts_of, notes_of, AtMost, AllAtMost}
use Rattle.pl_epochs.proofs.Keeps.{joins_note, compares, same_table}
use Rattle.pl_epochs.proofs.table.EpochTable.meet.Goals as goal

pub join_seat-requires : goal.join_seat-requires
join_seat-requires c = let sized = c.args.self.now.sized in let note = c.reader-seat.result.reads in
    let other = same_table c.reader-seat.ensures.table.1 in let own = same_table c.requires.reader_table in
    (same_table c.requires.writer_table, other ∙ own, note.1, omega arith, joins_note _ _ _ _ c.args.writer.now.writes.0 note.0)

pub load-requires : goal.load-requires
load-requires c = let sized = c.args.self.now.sized in let e = ap (λ m. m.0) c.join_seat.ensures.2 in let own = same_table c.requires.writer_table in
    (c.join_seat.ensures.0 ∙ own, omega arith, compares _ _ _ (e ∙ sym (λ i. Writes (counts_of (e i)) (notes_of (e i)))))

pub returns-clause-below : goal.returns-clause-below
returns-clause-below c = let e = ap (λ m. m.0) c.join_seat.ensures.2 in
    let all = subst (λ (v : View). AllAtMost (notes_of v) (counts_of v)) e c.load.ensures.2.1 in
    subst (λ l. AtMost l (counts_of c.args.writer.now.seat.me.0)) c.reader-seat.ensures.numbers.1 (all 0 _ refl)
