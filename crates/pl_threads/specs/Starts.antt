-- What became of the start of a thread that promised something.
use Rattle.pl_threads.specs.declared.starts.Outcome.{Outcome}
use Rattle.pl_threads.specs.declared.starts.Outcome.TheVariants.{Coming, There}
use Rattle.pl_threads.specs.declared.starts.Start.{Start}
use Rattle.pl_threads.specs.declared.starts.Start.TheVariants.{Runs, Refused}

module _ {E P : Type 0} where
  module _ {F : Type 0} where
    -- what the thread was to keep
    abbrev pub start_promise : Start E P F → P
    start_promise (Runs h) = h.promise
    start_promise (Refused f p) = p.value

    -- what was refused may be run, and what it gives keeps the promise
    abbrev pub CanRun : (F → Type 0) → (F → E → Type 0) → (P → E → Type 0) → Start E P F → Type 0
    CanRun pre post kept (Runs h) = Unit {0}
    CanRun pre post kept (Refused f p) = pre f × ((e : E) → post f e → kept p.value e)

  -- what the thread was to keep, or what has run keeps
  abbrev pub outcome_promise : Outcome E P → P
  outcome_promise (Coming h) = h.promise
  outcome_promise (There e p) = p.value

  -- what has run keeps its promise
  abbrev pub IsKept : (P → E → Type 0) → Outcome E P → Type 0
  IsKept kept (Coming h) = Unit {0}
  IsKept kept (There e p) = kept p.value e
