-- The commands of each session, one session after another.
use Rattle.std.proofs.Common.{◌≡◌, ℕ, zero, suc, ◌+◌, ◌-◌, ◌<◌, ◌≤◌, ◌^◌, Bool, true, false, List, [], ◌∷◌, ◌++◌, All, map, length, refl, ap, sym, subst, ◌∙◌, arith}
use Rattle.std.specs.Prelude.{◌==◌, nat_lt, filter, get_or}
use Rattle.std.proofs.lemmas.List.{length-append, length-map, get_or_push, get_or_append_left, get_or_past}
use Rattle.std.proofs.lemmas.List.Elements.{All-head, All-tail, All-map, All-filter, All-weaker, All-nil, All-push}
use Rattle.std.proofs.lemmas.Bool.Decides.{nat_tests}
use Rattle.pl_edit.specs.declared.edit.Edit.{Edit}
use Rattle.pl_machine.specs.declared.entry.Command.{Command}
use Rattle.pl_machine.specs.declared.entry.Command.TheVariants as command
use Rattle.pl_machine.specs.Calls.{NamesSession}
use Rattle.pl_script.specs.declared.script.Line.{Line}
use Rattle.pl_script.specs.Kept.{AreLines, IsLine, IsOrder}
use Rattle.pl_runs.specs.Script.{IsCallable, commands_at}
use Rattle.pl_scripted.specs.Commands.{session_commands}

-- the commands of the first so many sessions
abbrev pub commands_to : List Line → ℕ → List (List (Command Edit))
commands_to lines zero = []
commands_to lines (suc n) = commands_to lines n ++ session_commands lines (suc n) ∷ []

pub commands_to_length : (lines : List Line) (n : ℕ) → length (commands_to lines n) ≡ n
commands_to_length lines zero = refl
commands_to_length lines (suc n) = length-append (commands_to lines n) (session_commands lines (suc n) ∷ []) ∙ omega (arith, commands_to_length lines n)

last_or_before : (lines : List Line) (n i : ℕ) (b : Bool) → (i == n) ≡ b → i < suc n → (i < n → get_or (commands_to lines n) i [] ≡ session_commands lines (suc i))
    → get_or (commands_to lines n ++ session_commands lines (suc n) ∷ []) i [] ≡ session_commands lines (suc i)
last_or_before lines n i true e h earlier =
    let here : i ≡ n = grind (arith, nat_tests) in
    subst (λ k. get_or (commands_to lines n ++ session_commands lines (suc n) ∷ []) k [] ≡ session_commands lines (suc k)) (sym here)
    (get_or_push (commands_to lines n) (session_commands lines (suc n)) [] n (commands_to_length lines n))
last_or_before lines n i false e h earlier =
    let before : i < n = grind (arith, nat_tests) in
    get_or_append_left (commands_to lines n) (session_commands lines (suc n) ∷ []) [] i (omega (arith, before, commands_to_length lines n)) ∙ earlier before

at_place : (lines : List Line) (n i : ℕ) → i < n → get_or (commands_to lines n) i [] ≡ session_commands lines (suc i)
at_place lines zero i h = absurd (omega (arith, h))
at_place lines (suc n) i h = last_or_before lines n i (i == n) refl h (at_place lines n i)

-- a session that no line names has no command
none_of : (lines : List Line) (i : ℕ) → All (λ (line : Line). (line.session == i) ≡ false) lines → session_commands lines i ≡ []
none_of [] i h = refl
none_of (line ∷ lines) i h = rw (All-head (λ (line : Line). (line.session == i) ≡ false) line lines h) (none_of lines i (All-tail (λ (line : Line). (line.session == i) ≡ false) line lines h))

none_at_zero : (line : Line) → IsLine line → (line.session == 0) ≡ false
none_at_zero line h = grind (arith, nat_tests, h.session.0)

none_above : (i : ℕ) → 16 < i → (line : Line) → IsLine line → (line.session == i) ≡ false
none_above i above line h = grind (arith, nat_tests, h.session.1, above)

commands_of_place : (lines : List Line) (i : ℕ) (b : Bool) → All IsLine lines → nat_lt i 16 ≡ b → get_or (commands_to lines 16) i [] ≡ session_commands lines (suc i)
commands_of_place lines i true h e = at_place lines 16 i (grind (arith, nat_tests))
commands_of_place lines i false h e =
    let past : 16 ≤ i = grind (arith, nat_tests) in
    get_or_past (commands_to lines 16) i [] (omega (arith, past, commands_to_length lines 16))
    ∙ sym (none_of lines (suc i) (All-weaker IsLine (λ (line : Line). (line.session == suc i) ≡ false) (none_above (suc i) (omega (arith, past))) lines h))

each_place : (lines : List Line) → All IsLine lines → (i : ℕ) → commands_at (commands_to lines 16) i ≡ session_commands lines i
each_place lines h zero = sym (none_of lines 0 (All-weaker IsLine (λ (line : Line). (line.session == 0) ≡ false) none_at_zero lines h))
each_place lines h (suc i) = commands_of_place lines i (nat_lt i 16) h refl

-- the commands of sixteen sessions are those of all
pub all_sessions : (lines : List Line) → AreLines lines → commands_at (commands_to lines 16) ≡ session_commands lines
all_sessions lines h = λ j i. each_place lines h.each i j

names : (order : Command Edit) → IsOrder order → NamesSession order
names (command.Edit edit) h = tt
names command.Apply h = tt
names command.Export h = tt
names command.Status h = tt
names command.Cancel h = tt
names (command.After session calls) h = h.0

shorter : (p : Line → Bool) (line : Line) (lines : List Line) (b : Bool) → p line ≡ b → length (filter p lines) ≤ length lines → length (filter p (line ∷ lines)) ≤ suc (length lines)
shorter p line lines true e h = rw e (omega (arith, h))
shorter p line lines false e h = rw e (omega (arith, h))

filter_shorter : (p : Line → Bool) (lines : List Line) → length (filter p lines) ≤ length lines
filter_shorter p [] = omega arith
filter_shorter p (line ∷ lines) = shorter p line lines (p line) refl (filter_shorter p lines)

callable : (lines : List Line) (i : ℕ) → AreLines lines → IsCallable (session_commands lines i)
callable lines i h = (
  omega (arith, h.few, filter_shorter (λ (line : Line). line.session == i) lines, length-map (filter (λ (line : Line). line.session == i) lines) (λ (line : Line). line.command)),
  All-map NamesSession (λ (line : Line). line.command) (filter (λ (line : Line). line.session == i) lines)
      (All-filter (λ (line : Line). line.session == i) (λ (line : Line). NamesSession line.command) lines
      (All-weaker IsLine (λ (line : Line). NamesSession line.command) (λ line good. names line.command good.order) lines h.each)),
)

-- each may be called
pub all_callable : (lines : List Line) (n : ℕ) → AreLines lines → All IsCallable (commands_to lines n)
all_callable lines zero h = All-nil IsCallable
all_callable lines (suc n) h = All-push IsCallable (commands_to lines n) (session_commands lines (suc n)) (all_callable lines n h) (callable lines (suc n) h)

-- after the last one they are those of all sixteen
pub at_last : (made : List (List (Command Edit))) (all lines : List Line) (k : ℕ) → made ≡ commands_to all k → all ≡ lines → 16 ≤ k → k ≤ 16 → made ≡ commands_to lines 16
at_last made all lines k e same h l =
    let last : k ≡ 16 = omega (arith, h, l) in
    e ∙ ap (λ a. commands_to a k) same ∙ ap (commands_to lines) last
