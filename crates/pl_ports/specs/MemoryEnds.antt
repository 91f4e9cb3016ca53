-- What callers see of the ends in memory.
use Rattle.std.specs.Prelude.{ℕ, List, drop}
use Rattle.pl_ports.specs.declared.memory.MemorySource.{MemorySource}
use Rattle.pl_ports.specs.declared.memory.MemorySink.{MemorySink}

abbrev pub source_left : MemorySource → List ℕ
source_left s = drop s.at s.bytes

abbrev pub source_calls : MemorySource → ℕ
source_calls s = s.plan.calls

abbrev pub source_faults : MemorySource → ℕ
source_faults s = s.plan.faults

abbrev pub source_piece : MemorySource → ℕ
source_piece s = s.plan.piece

abbrev pub source_failing : MemorySource → List ℕ
source_failing s = s.plan.failing.items

abbrev pub sink_held : MemorySink → List ℕ
sink_held s = s.bytes.items

abbrev pub sink_calls : MemorySink → ℕ
sink_calls s = s.plan.calls

abbrev pub sink_faults : MemorySink → ℕ
sink_faults s = s.plan.faults

abbrev pub sink_piece : MemorySink → ℕ
sink_piece s = s.plan.piece

abbrev pub sink_failing : MemorySink → List ℕ
sink_failing s = s.plan.failing.items
