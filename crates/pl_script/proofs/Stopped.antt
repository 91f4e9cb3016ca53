-- What a refusal of a part says of the whole.
use Rattle.std.proofs.Common.{ℕ, Result, ap}
use Rattle.pl_units.specs.declared.Refusal.{Refusal}
use Rattle.pl_units.specs.declared.Refusal.TheVariants.{Fault, NoMemory}
use Rattle.pl_script.specs.declared.fault.ScriptFault.{ScriptFault}
use Rattle.pl_script.specs.declared.fault.LineStop.{LineStop}
use Rattle.pl_script.specs.declared.fault.LineStop.TheVariants as stop
use Rattle.pl_script.specs.Outcomes.{and_then, mapped}
use Rattle.pl_script.specs.Script.{Breach, at}
use Rattle.pl_script.specs.Reading.{Stops, Refuses, at_line}

pub stops_mapped : {X Y : Type 0} (e : LineStop) (f : X → Y) (said : Result X ScriptFault) → Stops e said → Stops e (mapped f said)
stops_mapped (stop.Fault fault) f said h = ap (mapped f) h
stops_mapped stop.NoMemory f said h = tt

pub stops_and_then : {X Y : Type 0} (e : LineStop) (said : Result X ScriptFault) (next : X → Result Y ScriptFault) → Stops e said → Stops e (and_then said next)
stops_and_then (stop.Fault fault) said next h = ap (λ s. and_then s next) h
stops_and_then stop.NoMemory said next h = tt

pub refuses_mapped : {X Y : Type 0} (e : Refusal ScriptFault) (f : X → Y) (said : Result X Breach) → Refuses e said → Refuses e (mapped f said)
refuses_mapped (Fault number fault) f said h = ap (mapped f) h
refuses_mapped NoMemory f said h = tt

-- the stop of a line is the refusal at its number
pub stops_at : {X Y : Type 0} (e : LineStop) (number : ℕ) (said : Result X ScriptFault) (next : X → Result Y Breach) → Stops e said → Refuses (at_line number e) (and_then (at number said) next)
stops_at (stop.Fault fault) number said next h = ap (λ s. and_then (at number s) next) h
stops_at stop.NoMemory number said next h = tt
