-- The starts of threads.
use Rattle.pl_threads.specs.declared.starts.Start.{Start}
use Rattle.pl_threads.specs.declared.starts.Start.TheVariants.{Runs, Refused}
use Rattle.pl_threads.specs.declared.threads.Began.{Began}
use Rattle.pl_threads.specs.Starts.{CanRun, start_promise}

module _ {W D F : Type 0} where
  -- the value whose thread was to start, as it was then
  abbrev pub value_of : Start D (Began W D) F → W
  value_of s = (start_promise s).before.value

  -- what was refused may be run: it took in a value, and comes to what the work on that may come to
  abbrev pub May : (F → Type 0) → (F → W) → (W → D → Type 0) → Start D (Began W D) F → Type 0
  May pre of done s = CanRun pre (λ f d. done (of f) d) (λ (p : Began W D) d. done p.before.value d) s

-- what was refused may be run under another condition that follows, and comes to less
pub can_widen : {E P F : Type 0} (pre may : F → Type 0) (post came : F → E → Type 0) (kept : P → E → Type 0) → ((f : F) → pre f → may f) → ((f : F) (e : E) → came f e → post f e) → (s : Start E P F) → CanRun pre post kept s → CanRun may came kept s
can_widen pre may post came kept up down (Runs h) c = tt
can_widen pre may post came kept up down (Refused f p) c = (up f c.0, λ e q. c.1 e (down f e q))
