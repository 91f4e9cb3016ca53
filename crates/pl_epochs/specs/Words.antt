-- The words for a table of epochs and its seats.
use Rattle.std.specs.Prelude.{ℕ, List, slice_index}
use Rattle.atomic_table.specs.Seated.{TableId}
use Rattle.pl_epochs.specs.declared.seats.WriterSeat.{WriterSeat}
use Rattle.pl_epochs.specs.declared.seats.ReaderSeat.{ReaderSeat}
use Rattle.pl_epochs.specs.declared.seats.TableName.{TableName}
use Rattle.pl_epochs.specs.declared.table.EpochTable.{EpochTable}
use Rattle.pl_epochs.specs.Rule.{counts_of, numbers_of}

-- the name of the table of an id
abbrev pub named : TableId → TableName
named t = record { of = record {}; table_id = t }

-- the name of the table
abbrev pub table_of : EpochTable → TableName
table_of epochs = named epochs.board.shared.table_id

-- the table whose words the writer raises
abbrev pub writes_at : WriterSeat → TableName
writes_at w = named w.seat.table_id

-- the table whose words the reader loads
abbrev pub reads_at : ReaderSeat → TableName
reads_at r = named r.seat.table_id

-- the writer's count of each slot, which is the slot's word
abbrev pub counts : WriterSeat → List ℕ
counts w = counts_of w.seat.me.0

-- the writer's count of one slot
abbrev pub count_of : WriterSeat → ℕ → ℕ
count_of w slot = slice_index (counts w) slot

-- the number of each slot that the reader has read last, 0 where it has read none
abbrev pub numbers : ReaderSeat → List ℕ
numbers r = numbers_of r.seat.me.0

-- the number of one slot that the reader has read last
abbrev pub has_read : ReaderSeat → ℕ → ℕ
has_read r slot = slice_index (numbers r) slot
