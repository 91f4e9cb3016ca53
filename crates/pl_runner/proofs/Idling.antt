-- What the turn of a runner without work adds to its calls, and why it waits.
use Rattle.std.proofs.Common.{◌≡◌, ℕ, ◌+◌, ◌<◌, inl, inr, List, [], ◌∷◌, ◌++◌, length, ap, subst, ◌∙◌, Some, arith}
use Rattle.std.specs.List.{slice_get}
use Rattle.std.specs.Prelude.{IfSome}
use Rattle.std.proofs.lemmas.Option.{slice_get_cases}
use Rattle.std.proofs.lemmas.List.{length-append}
use Rattle.pl_tech.specs.Technology.{Meaning}
use Rattle.pl_ports.specs.declared.gate.Actor.{Actor}
use Rattle.pl_ports.specs.declared.gate.Actor.TheVariants.{Session}
use Rattle.pl_machine.specs.declared.entry.Command.{Command}
use Rattle.pl_machine.specs.declared.entry.Entry.{Entry}
use Rattle.pl_machine.specs.Machine.{Machine}
use Rattle.pl_machine.specs.Tickets.{start_of}
use Rattle.pl_order.specs.Order.{bye_of, calls_in}
use Rattle.pl_order.proofs.Own.{calls_append}
use Rattle.pl_runner.specs.declared.looked.Looked.{Looked}
use Rattle.pl_runner.specs.declared.looked.Looked.TheVariants.{Called, Begun, Ended, Waits, NoMemory}
use Rattle.pl_runner.specs.Looked.{MatchLooked, IfEnded, IfWaits}
use Rattle.pl_runner.specs.Causes.{GrewByCall, HasCalled, RunnerWaits, SessionWaits}
use Rattle.pl_runner.proofs.Went.{calls_begun}

-- within a list there is an element
pub some_at : {A : Type 0} (xs : List A) (k : ℕ) → k < length xs → (x : A) × (slice_get xs k ≡ Some x)
some_at xs k within = elim (slice_get_cases xs k).1 [
  | inl some ↦ (some.0, some.2)
  | inr past ↦ absurd (omega (arith, within, past.0))
]

module _ {T P E R O J B : Type 0} where
  calls_left : (i : ℕ) (own own' : List (Entry T P E R O J B)) (k : ℕ) → length (calls_in own) ≡ k → own' ≡ own ++ bye_of (Session i) ∷ [] → length (calls_in own') ≡ k
  calls_left i own own' k made is =
      let more = ap (λ l. length (calls_in l)) is ∙ ap length (calls_append own (bye_of (Session i) ∷ [])) ∙ length-append (calls_in own) [] in
      omega (arith, more, made)

  calls_same : (own own' : List (Entry T P E R O J B)) (k : ℕ) → length (calls_in own) ≡ k → own' ≡ own → length (calls_in own') ≡ k
  calls_same own own' k made is = ap (λ l. length (calls_in l)) is ∙ made

  -- how many calls a runner has made after its turn, where it makes none
  pub worker_made : (actor : Actor) (own own' : List (Entry T P E R O J B)) (k : ℕ) (looked : Looked T P E R O J B) → length (calls_in own) ≡ k
      → MatchLooked looked ⊥ (λ t _. own' ≡ own ++ start_of actor t.slot t.epoch ∷ []) (own' ≡ own) (own' ≡ own) (own' ≡ own)
      → MatchLooked looked (length (calls_in own') ≡ k + 1) (λ _ _. length (calls_in own') ≡ k) (length (calls_in own') ≡ k) (length (calls_in own') ≡ k) (length (calls_in own') ≡ k)
  worker_made actor own own' k Called made none = absurd none
  worker_made actor own own' k (Begun t job) made is = calls_begun actor t.slot t.epoch own own' k made is
  worker_made actor own own' k Ended made is = calls_same own own' k made is
  worker_made actor own own' k Waits made is = calls_same own own' k made is
  worker_made actor own own' k NoMemory made is = calls_same own own' k made is

  pub bye_made : (i : ℕ) (own own' : List (Entry T P E R O J B)) (k : ℕ) (looked : Looked T P E R O J B) → length (calls_in own) ≡ k
      → MatchLooked looked ⊥ (λ _ _. ⊥) (own' ≡ own ++ bye_of (Session i) ∷ []) ⊥ (own' ≡ own)
      → MatchLooked looked (length (calls_in own') ≡ k + 1) (λ _ _. length (calls_in own') ≡ k) (length (calls_in own') ≡ k) (length (calls_in own') ≡ k) (length (calls_in own') ≡ k)
  bye_made i own own' k Called made none = absurd none
  bye_made i own own' k (Begun t job) made none = absurd none
  bye_made i own own' k Ended made is = calls_left i own own' k made is
  bye_made i own own' k Waits made none = absurd none
  bye_made i own own' k NoMemory made is = calls_same own own' k made is

  -- a session that called has called its next command
  pub session_own : (X : Type 0) (i : ℕ) (commands : List (Command E)) (k : ℕ) (own own' : List (Entry T P E R O J B)) (looked : Looked T P E R O J B) → k < length commands
      → MatchLooked looked (IfSome (slice_get commands k) (λ command. GrewByCall i command own own')) (λ t _. own' ≡ own ++ start_of (Session i) t.slot t.epoch ∷ []) ⊥ (own' ≡ own) (own' ≡ own)
      → MatchLooked looked (HasCalled (Session i) (slice_get commands k) own own') (λ t _. own' ≡ own ++ start_of (Session i) t.slot t.epoch ∷ []) X (own' ≡ own) (own' ≡ own)
  session_own X i commands k own own' Called within grew =
      let next = some_at commands k within in
      (next.0, next.1, subst (λ o. IfSome o (λ command. GrewByCall i command own own')) next.1 grew)
  session_own X i commands k own own' (Begun t job) within is = is
  session_own X i commands k own own' Ended within none = absurd none
  session_own X i commands k own own' Waits within is = is
  session_own X i commands k own own' NoMemory within is = is

  -- and one that waits, waits for what its next command waits for
  pub session_waits : (m : Meaning P E R O) (st : Machine P) (sessions i : ℕ) (commands : List (Command E)) (k : ℕ) (looked : Looked T P E R O J B) → k < length commands
      → IfWaits looked (IfSome (slice_get commands k) (SessionWaits m st)) → IfWaits looked (RunnerWaits m st (Session i) (slice_get commands k) sessions)
  session_waits m st sessions i commands k Called within waits = tt
  session_waits m st sessions i commands k (Begun t job) within waits = tt
  session_waits m st sessions i commands k Ended within waits = tt
  session_waits m st sessions i commands k Waits within waits =
      let next = some_at commands k within in
      (next.0, next.1, subst (λ o. IfSome o (SessionWaits m st)) next.1 waits)
  session_waits m st sessions i commands k NoMemory within waits = tt

  pub if_ended : (X : Type 0) (looked : Looked T P E R O J B) → X → IfEnded looked X
  if_ended X Called x = tt
  if_ended X (Begun t job) x = tt
  if_ended X Ended x = x
  if_ended X Waits x = tt
  if_ended X NoMemory x = tt
