-- A run that goes on by one step.
use Rattle.std.proofs.Common.{◌≡◌, List, [], ◌∷◌, ◌++◌, refl}
use Rattle.pl_tech.specs.Technology.{Meaning}
use Rattle.pl_machine.specs.declared.entry.Entry.{Entry}
use Rattle.pl_machine.specs.Machine.{Machine, Allows, next}
use Rattle.pl_machine.specs.History.{replay_from, IsRunFrom}

module _ {P E R O : Type 0} (m : Meaning P E R O) {T J B : Type 0} where
  pub replay_from-append : (st : Machine P) (es : List (Entry T P E R O J B)) (e : Entry T P E R O J B)
      → replay_from m st (es ++ e ∷ []) ≡ next m (replay_from m st es) e.actor e.what
  replay_from-append st [] e = refl
  replay_from-append st (x ∷ es) e = replay_from-append (next m st x.actor x.what) es e

  pub run_goes_on : (st : Machine P) (es : List (Entry T P E R O J B)) (e : Entry T P E R O J B)
      → IsRunFrom m st es → Allows m (replay_from m st es) e.actor e.what → IsRunFrom m st (es ++ e ∷ [])
  run_goes_on st [] e run may = (may, tt)
  run_goes_on st (x ∷ es) e run may = (run.0, run_goes_on (next m st x.actor x.what) es e run.1 may)

  -- a run in two parts: the second goes on from the first, and the whole ends where it ends
  pub run_split : (st : Machine P) (xs ys : List (Entry T P E R O J B)) → IsRunFrom m st (xs ++ ys) → IsRunFrom m st xs × IsRunFrom m (replay_from m st xs) ys
  run_split st [] ys run = (tt, run)
  run_split st (x ∷ xs) ys run = let r = run_split (next m st x.actor x.what) xs ys run.1 in ((run.0, r.0), r.1)

  pub replay_split : (st : Machine P) (xs ys : List (Entry T P E R O J B)) → replay_from m st (xs ++ ys) ≡ replay_from m (replay_from m st xs) ys
  replay_split st [] ys = refl
  replay_split st (x ∷ xs) ys = replay_split (next m st x.actor x.what) xs ys
