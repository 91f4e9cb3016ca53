-- One number more is seated.
use Rattle.std.proofs.Common.{◌≡◌, ◌≢◌, ◌⊎◌, ℕ, suc, ◌<◌, ◌≤◌, ◌+◌, List, [], ◌∷◌, ◌++◌, map, get_or, refl, ap, sym, subst, ◌∙◌, arith, inl, inr, ⊎_elim, drop, Option, Some, None}
use Rattle.std.specs.Prelude.{All, Any}
use Rattle.std.proofs.lemmas.Bool.{cases_lt}
use Rattle.std.proofs.lemmas.List.{get_or-drop, map-append}
use Rattle.std.proofs.lemmas.List.Elements.{All-cons, All-push, All-weaker, All-nil}
use Rattle.std.proofs.lemmas.List.Quantifiers.{all_pairs_push}
use Rattle.pl_ports.specs.declared.gate.Actor.{Actor}
use Rattle.pl_ports.specs.declared.gate.Actor.TheVariants.{Session, Worker}
use Rattle.pl_turn.specs.declared.turned.Turned.{Ghosts}
use Rattle.pl_turn.specs.declared.lock.TurnLock.{TurnLock}
use Rattle.pl_turn.specs.declared.lock.Pass.{Pass}
use Rattle.pl_machine.specs.declared.entry.Command.{Command}
use Rattle.pl_machine.specs.Tickets.{number_of}
use Rattle.pl_session.specs.Complete.{TakesPart}
use Rattle.pl_order.specs.Ended.{commands_for}
use Rattle.pl_runs.specs.Places.{IsFresh, IsIdle}
use Rattle.pl_runs.specs.Script.{commands_at}
use Rattle.pl_runs.specs.Seats.{AreSeated, BeginsWithOne, HasFirst, IsFirstSeated}
use Rattle.pl_runs.proofs.Lists.{all_from_map, any_left, any_push, drop_one}

below_or_there : (k n : ℕ) → k < n + 1 → (k < n) ⊎ (k ≡ n)
below_or_there k n lt = ⊎_elim (λ (low : k < n). inl low) (λ (high : n ≤ k). inr (omega arith)) (cases_lt k n)

module _ {E : Type 0} where
  -- the commands of an actor are those of its number
  pub commands_are : (script : ℕ → List (Command E)) (commands : List (Command E)) (n : ℕ) (a : Actor) → script n ≡ commands → number_of a ≡ n → commands_for (λ _. commands) a ≡ commands_for script a
  commands_are script commands n (Session i) is number = sym is ∙ ap script (sym number)
  commands_are script commands n (Worker k) is number = refl

  pub part_is : (script : ℕ → List (Command E)) (commands : List (Command E)) (workers n : ℕ) (a : Actor) → script n ≡ commands → number_of a ≡ n → TakesPart (λ _. commands) workers a → TakesPart script workers a
  part_is script commands workers n (Session i) is number (low, high, some) = (low, high, λ none. some (commands_are script commands n (Session i) is number ∙ none))
  part_is script commands workers n (Worker k) is number part = part

  -- who takes part as the number of a session is that session
  pub session_is : (script : ℕ → List (Command E)) (workers i : ℕ) (a : Actor) → TakesPart script workers a → number_of a ≡ i → i ≤ 16 → a ≡ Session i
  session_is script workers i (Session j) part number small = ap Session number
  session_is script workers i (Worker k) part number small = let low : 1 ≤ k = part.0 in absurd (omega arith)

  -- who takes part as number 1 is session 1, which has a command
  pub first_is : (commands : List (Command E)) (workers : ℕ) (a : Actor) → number_of a ≡ 1 → TakesPart (λ _. commands) workers a → (a ≡ Session 1) × (commands ≢ [])
  first_is commands workers (Session i) number part = (ap Session number, part.2)
  first_is commands workers (Worker k) number part = let low : 1 ≤ k = part.0 in absurd (omega (arith, low, number))

  module _ (commands : ℕ → List (Command E)) (workers : ℕ) where
    pub seated_none : (n : ℕ) → n ≤ 1 → AreSeated commands workers n [] []
    seated_none n small = record {
      part = All-nil (TakesPart commands workers);
      low = All-nil (λ a. number_of a < n);
      different = λ i j d lt within. absurd (omega arith);
      cover = λ k low high. absurd (omega arith);
      sessions = λ i one low high some. absurd (omega arith);
    }

    pub seated_actor : (n : ℕ) (actors : List Actor) (idle : List ℕ) (a : Actor) → AreSeated commands workers n actors idle → number_of a ≡ n → TakesPart commands workers a → AreSeated commands workers (n + 1) (actors ++ a ∷ []) idle
    seated_actor n actors idle a s is part = record {
      part = All-push (TakesPart commands workers) actors a s.part part;
      low = All-push (λ b. number_of b < n + 1) actors a (All-weaker (λ b. number_of b < n) (λ b. number_of b < n + 1) (λ b lt. omega (arith, lt)) actors s.low) (omega (arith, is));
      different = all_pairs_push (λ b c. b ≢ c) actors a s.different (λ k d lt e. let low = s.low k d lt in let same = ap number_of e in absurd (omega (arith, low, same, is)));
      cover = λ k low high. ⊎_elim
          (λ (before : k < n). ⊎_elim
          (λ (by : Any (λ b. number_of b ≡ k) actors). inl (any_left (λ b. number_of b ≡ k) actors (a ∷ []) by))
          (λ (by : Any (λ i. i ≡ k) idle). inr by)
          (s.cover k low before))
          (λ (there : k ≡ n). inl (any_push (λ b. number_of b ≡ k) actors a (is ∙ sym there)))
          (below_or_there k n high);
      sessions = λ i one low small some. ⊎_elim
          (λ (before : i < n). any_left (λ b. b ≡ Session i) actors (a ∷ []) (s.sessions i one before small some))
          (λ (there : i ≡ n). any_push (λ b. b ≡ Session i) actors a (session_is commands workers i a part (is ∙ sym there) small))
          (below_or_there i n low);
    }

    pub seated_idle : (n : ℕ) (actors : List Actor) (idle : List ℕ) (p : ℕ) → AreSeated commands workers n actors idle → p ≡ n → (n ≤ 16 → commands n ≡ []) → AreSeated commands workers (n + 1) actors (idle ++ p ∷ [])
    seated_idle n actors idle p s is none = record {
      part = s.part;
      low = All-weaker (λ b. number_of b < n) (λ b. number_of b < n + 1) (λ b lt. omega (arith, lt)) actors s.low;
      different = s.different;
      cover = λ k low high. ⊎_elim
          (λ (before : k < n). ⊎_elim
          (λ (by : Any (λ b. number_of b ≡ k) actors). inl by)
          (λ (by : Any (λ i. i ≡ k) idle). inr (any_left (λ i. i ≡ k) idle (p ∷ []) by))
          (s.cover k low before))
          (λ (there : k ≡ n). inr (any_push (λ i. i ≡ k) idle p (is ∙ sym there)))
          (below_or_there k n high);
      sessions = λ i one low small some. ⊎_elim
          (λ (before : i < n). s.sessions i one before small some)
          (λ (there : i ≡ n). absurd (some (ap commands there ∙ none (subst (λ j. j ≤ 16) there small))))
          (below_or_there i n low);
    }

    -- number 1 is not idle: its pass is kept by itself
    pub seated_first : commands 1 ≡ [] → AreSeated commands workers 2 [] []
    seated_first none = record {
      part = All-nil (TakesPart commands workers);
      low = All-nil (λ a. number_of a < 2);
      different = λ i j d lt within. absurd (omega arith);
      cover = λ k low high. absurd (omega arith);
      sessions = λ i one low high some. let is : i ≡ 1 = omega arith in absurd (some (ap commands is ∙ none));
    }

begins_more : (actors : List Actor) (a : Actor) → BeginsWithOne actors → 2 ≤ number_of a → BeginsWithOne (actors ++ a ∷ [])
begins_more [] a begins high = absurd begins
begins_more (b ∷ actors) a begins high = (begins.0, All-push (λ c. 2 ≤ number_of c) actors a begins.1 high)

module _ {X E H : Type 0} {g : Ghosts X E H} (lock : TurnLock X E H) where
  pub first_more : (o : Option (Pass X E H g)) (actors : List Actor) (a : Actor) → HasFirst lock o actors → 2 ≤ number_of a → HasFirst lock o (actors ++ a ∷ [])
  first_more None actors a first high = begins_more actors a first high
  first_more (Some p) actors a first high = (first.0, first.1, All-push (λ c. 2 ≤ number_of c) actors a first.2 high)

module _ {X E H C : Type 0} {g : Ghosts X E H} (script : ℕ → List (Command C)) (workers : ℕ) where
  pub seated_start : (o : Option (Pass X E H g)) (actors : List Actor) → IsFirstSeated o actors (script 1) → AreSeated script workers 2 actors []
  seated_start None actors (is, some) = subst (λ l. AreSeated script workers 2 l []) (sym is) (seated_actor script workers 1 [] [] (Session 1) (seated_none script workers 1 (omega arith)) refl (omega arith, omega arith, some))
  seated_start (Some p) actors (is, none) = subst (λ l. AreSeated script workers 2 l []) (sym is) (seated_first script workers none)

module _ {X Z : Type 0} (f : X → Z) where
  pub pushed_map : (xs xs' : List X) (x : X) → xs' ≡ xs ++ x ∷ [] → map f xs' ≡ map f xs ++ f x ∷ []
  pushed_map xs xs' x grown = ap (map f) grown ∙ map-append f xs (x ∷ [])

module _ {E : Type 0} (given : List (List (Command E))) where
  -- the commands that are taken next are those of the next session
  pub at_next : (n : ℕ) (left : List (List (Command E))) (cs : List (Command E)) → left ≡ drop n given → cs ≡ commands_at left 1 → commands_at given (n + 1) ≡ cs
  at_next n left cs is first =
      let next : suc n ≡ n + 1 = omega arith in
      let same : n + 0 ≡ n = omega arith in
      subst (λ k. commands_at given k ≡ cs) next (ap (λ k. get_or given k []) (sym same) ∙ (sym (get_or-drop n given 0 []) ∙ (ap (λ l. get_or l 0 []) (sym is) ∙ sym first)))

  pub left_next : (n : ℕ) (left more : List (List (Command E))) → left ≡ drop n given → more ≡ drop 1 left → more ≡ drop (n + 1) given
  left_next n left more is now = now ∙ (ap (drop 1) is ∙ drop_one n given)

-- the commands of session 1, by whom alone is seated
pub first_commands : {X A H C Y : Type 0} {g : Ghosts A X H} (script : ℕ → List (Command C)) (commands : List (Command C)) (actor : Y → Actor) (o : Option (Pass A X H g)) (xs : List Y) → script 1 ≡ commands → IsFirstSeated o (map actor xs) commands
    → All (λ x. commands ≡ commands_for script (actor x)) xs
first_commands script commands actor None xs is (alone, some) = all_from_map (λ a. commands ≡ commands_for script a) actor xs
    (subst (All (λ a. commands ≡ commands_for script a)) (sym alone) (All-cons (λ a. commands ≡ commands_for script a) (Session 1) [] (sym is) (All-nil (λ a. commands ≡ commands_for script a))))
first_commands script commands actor (Some p) xs is (none, empty) = all_from_map (λ a. commands ≡ commands_for script a) actor xs (subst (All (λ a. commands ≡ commands_for script a)) (sym none) (All-nil (λ a. commands ≡ commands_for script a)))

-- an idle pass
pub idle_is : {X E H : Type 0} {g : Ghosts X E H} (lock : TurnLock X E H) (n : ℕ) (p : Pass X E H g) → IsFresh lock n p → 2 ≤ n → IsIdle lock p
idle_is lock n p fresh high = let is = fresh.number_is in ((fresh.lock_is, omega (arith, is, high), fresh.joined_are), fresh.own_are)
