-- What a call that writes through a buffer leaves: the bytes of the sink, those that wait in the buffer, and the count of faults.
use Rattle.std.specs.Prelude.{◌≡◌, ◌≤◌, ℕ, List, ◌++◌, Option, Result, Err, OnOk}
use Rattle.std.specs.Io.KnownBytes.{Appends}
use Rattle.pl_ports.specs.Causes.{Rose, AppendsFront}
use Rattle.pl_ports.specs.declared.ends.SinkStop.{SinkStop}

-- a text came after what waited: some of both went to the sink, and the rest waits
abbrev pub Grew : Option (List ℕ) → List ℕ → Option (List ℕ) → List ℕ → List ℕ → Type 0
Grew held waiting held' waiting' text = (sent : List ℕ) × Appends held held' sent × (waiting ++ text ≡ sent ++ waiting')

-- a front of what waited and of the text went to the sink, and at Ok the whole text came
abbrev pub Writes : {V E : Type 0} → Result V E → Option (List ℕ) → List ℕ → Option (List ℕ) → List ℕ → List ℕ → Type 0
Writes result held waiting held' waiting' text = OnOk result (Grew held waiting held' waiting' text) × AppendsFront held held' (waiting ++ text)

-- faults are counted at a failure, and none at Ok
abbrev pub Counts : {V : Type 0} → Result V SinkStop → ℕ → ℕ → Type 0
Counts result before now = (result ≡ Err SinkStop.Failed → Rose before now) × OnOk result (now ≡ before) × (before ≤ now)
