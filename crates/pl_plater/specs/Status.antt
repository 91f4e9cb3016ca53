-- What a status says.
use Rattle.std.specs.Prelude.{ℕ, ⊤}
use Rattle.pl_units.specs.declared.Refusal.{Refusal}
use Rattle.pl_units.specs.declared.Refusal.TheVariants.{Fault}
use Rattle.pl_ports.specs.declared.ends.ReadStop.{ReadStop}
use Rattle.pl_script.specs.declared.fault.ScriptFault.{ScriptFault}
use Rattle.pl_sliced.specs.declared.fault.SliceFault.{SliceFault}
use Rattle.pl_sliced.specs.declared.fault.SliceFault.TheVariants.{Script}
use Rattle.pl_plater.specs.declared.status.Status.{Status}
use Rattle.pl_plater.specs.declared.status.Status.TheVariants.{Done, Usage, Refused, ReadFault, WriteFault, NoMemory}

abbrev pub code_of : Status → ℕ
code_of Done = 0
code_of Usage = 2
code_of (Refused line fault) = 3
code_of ReadFault = 4
code_of WriteFault = 5
code_of NoMemory = 6

-- the answers that come before anything is written
abbrev pub IsBeforeWriting : Status → Type 0
IsBeforeWriting Usage = ⊤
IsBeforeWriting (Refused line fault) = ⊤
IsBeforeWriting ReadFault = ⊤
IsBeforeWriting _ = ⊥

-- the answers that come once an input is read
abbrev pub IsAfterReading : Status → Type 0
IsAfterReading Done = ⊤
IsAfterReading WriteFault = ⊤
IsAfterReading NoMemory = ⊤
IsAfterReading _ = ⊥

-- the status where a script was refused
abbrev pub script_status : Refusal ScriptFault → Status
script_status (Fault line fault) = Refused line (Script fault)
script_status Refusal.NoMemory = NoMemory

-- the status where a text for slicing was refused
abbrev pub slice_status : Refusal SliceFault → Status
slice_status (Fault line fault) = Refused line fault
slice_status Refusal.NoMemory = NoMemory

-- the status where reading stopped
abbrev pub stop_status : ReadStop → Status
stop_status ReadStop.Failed = ReadFault
stop_status ReadStop.TooLong = Refused 0 (Script ScriptFault.TooLong)
stop_status ReadStop.NoMemory = NoMemory
