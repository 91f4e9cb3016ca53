-- The calls of a complete history are the commands of its sessions.
use Rattle.std.proofs.Common.{◌≡◌, ℕ, zero, suc, ◌+◌, ◌<◌, ◌≤◌, inl, inr, Bool, true, false, cond, List, [], ◌∷◌, length, refl, ap, ◌∙◌, arith}
use Rattle.std.specs.Prelude.{◌==◌, filter}
use Rattle.std.specs.List.{filter_map}
use Rattle.std.proofs.lemmas.Bool.{cases_lt}
use Rattle.std.proofs.lemmas.Bool.Decides.{nat_tests}
use Rattle.std.proofs.lemmas.List.Sums.{sum_by-cons}
use Rattle.pl_tech.specs.Technology.{Meaning}
use Rattle.pl_ports.specs.declared.gate.Actor.{Actor}
use Rattle.pl_ports.specs.declared.gate.Actor.TheVariants.{Session, Worker}
use Rattle.pl_edit.specs.declared.edit.Edit as edit
use Rattle.pl_machine.specs.declared.entry.Command.{Command}
use Rattle.pl_machine.specs.declared.entry.Command.TheVariants.{Edit, Apply, Export, Status, Cancel, After}
use Rattle.pl_machine.specs.declared.entry.What.{What}
use Rattle.pl_machine.specs.declared.entry.What.TheVariants.{Call, Start, Finish, Late, Bye}
use Rattle.pl_machine.specs.declared.entry.Entry.{Entry}
use Rattle.pl_machine.specs.Machine.{Machine, Allows, blank, next}
use Rattle.pl_machine.specs.History.{IsRunFrom}
use Rattle.pl_session.specs.Complete.{IsComplete, is_session, command_of, commands_by}
use Rattle.pl_script.specs.declared.script.Line.{Line}
use Rattle.pl_script.specs.Script.{Script}
use Rattle.pl_scripted.specs.Commands.{session_commands}
use Rattle.pl_bounds.specs.Counts.{is_call, is_change, calls_in, changes_in, commands_to}

-- what a test counts
abbrev pub one : Bool → ℕ
one b = cond b 1 0

-- how many of the sessions 1 to n are this one
abbrev hits : ℕ → ℕ → ℕ
hits s zero = 0
hits s (suc n) = hits s n + one (suc n == s)

no_hit : (s n : ℕ) → n < s → hits s n ≡ 0
no_hit s zero above = refl
no_hit s (suc n) above =
    let other : (suc n == s) ≡ false = grind (arith, nat_tests) in
    let rest = no_hit s n (omega (arith, above)) in
    let here = ap one other in
    omega (arith, rest, here)

one_hit : (s n : ℕ) → 1 ≤ s → s ≤ n → hits s n ≡ 1
one_hit s zero from to = absurd (omega (arith, from, to))
one_hit s (suc n) from to = elim (cases_lt n s) [
  | inl last ↦
      let same : (suc n == s) ≡ true = grind (arith, nat_tests) in
      let rest = no_hit s n last in
      let here = ap one same in
      omega (arith, rest, here)
  | inr earlier ↦
      let other : (suc n == s) ≡ false = grind (arith, nat_tests) in
      let rest = one_hit s n from earlier in
      let here = ap one other in
      omega (arith, rest, here)
]

few_hits : (s n : ℕ) → hits s n ≤ 1
few_hits zero n = none n
  where
    none : (n : ℕ) → hits 0 n ≤ 1
    none zero = omega arith
    none (suc n) =
        let other : (suc n == 0) ≡ false = grind (arith, nat_tests) in
        let here = ap one other in
        omega (arith, none n, here)
few_hits (suc s) n = elim (cases_lt n (suc s)) [
  | inl above ↦ let none = no_hit (suc s) n above in omega (arith, none)
  | inr low ↦ let once = one_hit (suc s) n (omega arith) low in omega (arith, once)
]

module _ {E : Type 0} where
  commands_same : (f g : ℕ → List (Command E)) (n : ℕ) → ((i : ℕ) → 1 ≤ i → i ≤ n → f i ≡ g i) → commands_to f n ≡ commands_to g n
  commands_same f g zero same = refl
  commands_same f g (suc n) same =
      let rest = commands_same f g n (λ i from to. same i from (omega (arith, to))) in
      let last = ap length (same (suc n) (omega arith) (omega arith)) in
      omega (arith, rest, last)

  -- each session has one command more where it is this one
  commands_more : (f g : ℕ → List (Command E)) (s n : ℕ) → ((i : ℕ) → length (f i) ≡ one (i == s) + length (g i)) → commands_to f n ≡ hits s n + commands_to g n
  commands_more f g s zero more = omega arith
  commands_more f g s (suc n) more =
      let rest = commands_more f g s n more in
      let last = more (suc n) in
      omega (arith, rest, last)

module _ {E : Type 0} where
  commands_stay : (f g : ℕ → List (Command E)) (n : ℕ) → ((i : ℕ) → length (f i) ≡ length (g i)) → commands_to f n ≡ commands_to g n
  commands_stay f g zero same = refl
  commands_stay f g (suc n) same =
      let rest = commands_stay f g n same in
      let last = same (suc n) in
      omega (arith, rest, last)

-- the lines of a script
line_more : (line : Line) (lines : List Line) (i : ℕ) (b : Bool) → (i == line.session) ≡ b → length (session_commands (line ∷ lines) i) ≡ one b + length (session_commands lines i)
line_more line lines i true is =
    let here : (line.session == i) ≡ true = grind (arith, nat_tests) in
    rw here (omega arith)
line_more line lines i false is =
    let here : (line.session == i) ≡ false = grind (arith, nat_tests) in
    rw here (omega arith)

few_commands : (lines : List Line) (n : ℕ) → commands_to (session_commands lines) n ≤ length lines
few_commands [] n = none n
  where
    none : (n : ℕ) → commands_to (session_commands []) n ≤ 0
    none zero = omega arith
    none (suc n) = omega (arith, none n)
few_commands (line ∷ lines) n =
    let more = commands_more (session_commands (line ∷ lines)) (session_commands lines) line.session n (λ i. line_more line lines i (i == line.session) refl) in
    let rest = few_commands lines n in
    let hit = few_hits line.session n in
    omega (arith, more, rest, hit)

module _ {T P E R O J B : Type 0} where
  -- the command of an entry, where it is a call
  with_what : (a : Actor) (w : What T P E R O J B) (es : List (Entry T P E R O J B))
      → length (filter_map (λ (e : Entry T P E R O J B). command_of e.what) (record { actor = a; what = w } ∷ es)) ≡ one (is_call w) + length (filter_map (λ (e : Entry T P E R O J B). command_of e.what) es)
  with_what a (Call c reply) es = omega arith
  with_what a (Start slot epoch) es = omega arith
  with_what a (Finish slot epoch) es = omega arith
  with_what a (Late slot since now) es = omega arith
  with_what a Bye es = omega arith

  of_another : (i : ℕ) (e : Entry T P E R O J B) (es : List (Entry T P E R O J B)) → is_session i e.actor ≡ false → length (commands_by i (e ∷ es)) ≡ length (commands_by i es)
  of_another i e es is = rw is refl

  of_itself : (i : ℕ) (e : Entry T P E R O J B) (es : List (Entry T P E R O J B)) → is_session i e.actor ≡ true
      → length (commands_by i (e ∷ es)) ≡ one (is_call e.what) + length (commands_by i es)
  of_itself i e es is = rw is (with_what e.actor e.what (filter (λ x. is_session i x.actor) es))

  -- no call: no session has a command more
  no_call : (e : Entry T P E R O J B) (es : List (Entry T P E R O J B)) → is_call e.what ≡ false → (i : ℕ) → length (commands_by i (e ∷ es)) ≡ length (commands_by i es)
  no_call e es none i = by_test (is_session i e.actor) refl
    where
      by_test : (b : Bool) → is_session i e.actor ≡ b → length (commands_by i (e ∷ es)) ≡ length (commands_by i es)
      by_test true is = let itself = of_itself i e es is in let here = ap one none in omega (arith, itself, here)
      by_test false is = of_another i e es is

  -- a call of a session: it has one command more
  one_call : (e : Entry T P E R O J B) (es : List (Entry T P E R O J B)) (s : ℕ) → e.actor ≡ Session s → is_call e.what ≡ true → (i : ℕ) → length (commands_by i (e ∷ es)) ≡ one (i == s) + length (commands_by i es)
  one_call e es s by call i = by_test (i == s) refl
    where
      by_test : (b : Bool) → (i == s) ≡ b → length (commands_by i (e ∷ es)) ≡ one b + length (commands_by i es)
      by_test true is = let itself = of_itself i e es (ap (is_session i) by ∙ is) in let here = ap one call in omega (arith, itself, here)
      by_test false is = let other = of_another i e es (ap (is_session i) by ∙ is) in omega (arith, other)

  module _ (m : Meaning P E R O) where
    entry_counts : (st : Machine P) (a : Actor) (w : What T P E R O J B) (es : List (Entry T P E R O J B)) → Allows m st a w
        → commands_to (λ i. commands_by i (record { actor = a; what = w } ∷ es)) 16 ≡ one (is_call w) + commands_to (λ i. commands_by i es) 16
    entry_counts st (Session s) (Call c reply) es may =
        let e : Entry T P E R O J B = record { actor = Session s; what = Call c reply } in
        let more = commands_more (λ i. commands_by i (e ∷ es)) (λ i. commands_by i es) s 16 (one_call e es s refl refl) in
        let once = one_hit s 16 may.0.from_1 may.0.to_16 in
        omega (arith, more, once)
    entry_counts st (Worker k) (Call c reply) es may = absurd may
    entry_counts st a (Start slot epoch) es may =
        let e : Entry T P E R O J B = record { actor = a; what = Start slot epoch } in
        let same = commands_stay (λ i. commands_by i (e ∷ es)) (λ i. commands_by i es) 16 (no_call e es refl) in
        omega (arith, same)
    entry_counts st a (Finish slot epoch) es may =
        let e : Entry T P E R O J B = record { actor = a; what = Finish slot epoch } in
        let same = commands_stay (λ i. commands_by i (e ∷ es)) (λ i. commands_by i es) 16 (no_call e es refl) in
        omega (arith, same)
    entry_counts st a (Late slot since now) es may =
        let e : Entry T P E R O J B = record { actor = a; what = Late slot since now } in
        let same = commands_stay (λ i. commands_by i (e ∷ es)) (λ i. commands_by i es) 16 (no_call e es refl) in
        omega (arith, same)
    entry_counts st a Bye es may =
        let e : Entry T P E R O J B = record { actor = a; what = Bye } in
        let same = commands_stay (λ i. commands_by i (e ∷ es)) (λ i. commands_by i es) 16 (no_call e es refl) in
        omega (arith, same)

    calls_from : (st : Machine P) (es : List (Entry T P E R O J B)) → IsRunFrom m st es → calls_in es ≡ commands_to (λ i. commands_by i es) 16
    calls_from st [] run = refl
    calls_from st (e ∷ es) run =
        let counts = entry_counts st e.actor e.what es run.0 in
        let rest = calls_from (next m st e.actor e.what) es run.1 in
        let calls = sum_by-cons (λ x. one (is_call x.what)) e es in
        omega (arith, counts, rest, calls)

    -- a complete history has as many calls as its sessions have commands
    pub calls_are_commands : (commands : ℕ → List (Command E)) (workers : ℕ) (history : List (Entry T P E R O J B)) → IsComplete m commands workers history → calls_in history ≡ commands_to commands 16
    calls_are_commands commands workers history done =
        calls_from (blank m) history done.legal ∙ commands_same (λ i. commands_by i history) commands 16 done.calls

module _ {T P R O J B : Type 0} (m : Meaning P edit.Edit R O) where
  -- that of a script has at most as many as the script has lines
  pub few_calls : (script : Script) (history : List (Entry T P edit.Edit R O J B)) → IsComplete m (session_commands script.lines) script.workers history → calls_in history ≤ length script.lines
  few_calls script history done =
      let calls = calls_are_commands m (session_commands script.lines) script.workers history done in
      let lines = few_commands script.lines 16 in
      omega (arith, calls, lines)

module _ {T P E R O J B : Type 0} where
  change_is_call : (w : What T P E R O J B) → one (is_change w) ≤ one (is_call w)
  change_is_call (Call (Edit e) reply) = omega arith
  change_is_call (Call Apply reply) = omega arith
  change_is_call (Call Export reply) = omega arith
  change_is_call (Call Status reply) = omega arith
  change_is_call (Call Cancel reply) = omega arith
  change_is_call (Call (After s n) reply) = omega arith
  change_is_call (Start slot epoch) = omega arith
  change_is_call (Finish slot epoch) = omega arith
  change_is_call (Late slot since now) = omega arith
  change_is_call Bye = omega arith

  pub changes_are_calls : (es : List (Entry T P E R O J B)) → changes_in es ≤ calls_in es
  changes_are_calls [] = omega arith
  changes_are_calls (e ∷ es) =
      let calls = sum_by-cons (λ x. one (is_call x.what)) e es in
      let changes = sum_by-cons (λ x. one (is_change x.what)) e es in
      omega (arith, calls, changes, change_is_call e.what, changes_are_calls es)
