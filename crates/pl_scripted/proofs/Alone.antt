-- Scripts of session 1 alone.
use Rattle.std.proofs.Common.{◌≡◌, ℕ, Bool, true, false, if◌then◌else◌, List, [], ◌∷◌, All, map, refl, ap, sym, subst, ◌∙◌, arith}
use Rattle.std.specs.Prelude.{◌==◌, filter}
use Rattle.std.proofs.lemmas.List.Elements.{All-head, All-tail}
use Rattle.std.proofs.lemmas.Bool.Decides.{nat_tests}
use Rattle.pl_tech.specs.Technology.{Meaning}
use Rattle.pl_edit.specs.declared.edit.Edit.{Edit}
use Rattle.pl_machine.specs.declared.entry.Command.{Command}
use Rattle.pl_machine.specs.declared.entry.Entry.{Entry}
use Rattle.pl_session.specs.Alone.{first_alone}
use Rattle.pl_session.specs.Complete.{IsComplete}
use Rattle.pl_script.specs.declared.script.Line.{Line}
use Rattle.pl_script.specs.Script.{Script}
use Rattle.pl_scripted.specs.Commands.{session_commands, IsOfOne}

abbrev IsFirst : Line → Type 0
IsFirst line = line.session ≡ 1

abbrev ordered : Line → Command Edit
ordered line = line.command

own_lines : (i : ℕ) (b : Bool) (lines : List Line) → (i == 1) ≡ b → All IsFirst lines → filter (λ (line : Line). line.session == i) lines ≡ (if b then lines else [])
own_lines i true [] e h = refl
own_lines i false [] e h = refl
own_lines i true (line ∷ lines) e h =
    let first : line.session ≡ 1 = All-head IsFirst line lines h in
    let here : (line.session == i) ≡ true = grind (arith, nat_tests) in
    rw here (ap (λ l. line ∷ l) (own_lines i true lines e (All-tail IsFirst line lines h)))
own_lines i false (line ∷ lines) e h =
    let first : line.session ≡ 1 = All-head IsFirst line lines h in
    let here : (line.session == i) ≡ false = grind (arith, nat_tests) in
    rw here (own_lines i false lines e (All-tail IsFirst line lines h))

own_commands : (lines : List Line) (i : ℕ) (b : Bool) → (i == 1) ≡ b → All IsFirst lines → session_commands lines i ≡ first_alone (map ordered lines) i
own_commands lines i true e h = rw e (ap (map ordered) (own_lines i true lines e h))
own_commands lines i false e h = rw e (ap (map ordered) (own_lines i false lines e h))

-- no session but the first has a command
all_own : (lines : List Line) → All IsFirst lines → first_alone (map ordered lines) ≡ session_commands lines
all_own lines h = λ j i. sym (own_commands lines i (i == 1) refl h) j

module _ {T P R O J B : Type 0} (m : Meaning P Edit R O) (script : Script) where
  abbrev IsHistoryOf : List (Entry T P Edit R O J B) → Type 0
  IsHistoryOf history = IsComplete m (session_commands script.lines) script.workers history

  of_first : (history : List (Entry T P Edit R O J B)) → IsOfOne script → IsHistoryOf history → IsComplete m (first_alone (map ordered script.lines)) 0 history
  of_first history one done =
      subst (λ c. IsComplete m c 0 history) (sym (all_own script.lines one.lines)) (subst (λ w. IsComplete m (session_commands script.lines) w history) one.workers done)

  -- a history of a script of session 1 is the one of that session alone
  pub only_history : (history : List (Entry T P Edit R O J B))
      → ((commands : List (Command Edit)) (one other : List (Entry T P Edit R O J B)) → IsComplete m (first_alone commands) 0 one → IsComplete m (first_alone commands) 0 other → one ≡ other)
      → IsHistoryOf history → IsOfOne script → (other : List (Entry T P Edit R O J B)) → IsHistoryOf other → other ≡ history
  only_history history law done one other also = law (map ordered script.lines) other history (of_first other one also) (of_first history one done)
