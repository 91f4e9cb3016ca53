-- The reader's loops, a line at a time.
use Rattle.std.proofs.Common.{◌≡◌, ℕ, zero, ◌+◌, Bool, true, false, Result, Ok, List, [], ◌∷◌, ◌++◌, length, sym, ap, subst, ◌∙◌, append-nil}
use Rattle.pl_units.specs.declared.Refusal.{Refusal}
use Rattle.pl_script.specs.declared.fault.ScriptFault.{ScriptFault}
use Rattle.pl_edit.specs.Data.{Data}
use Rattle.pl_script.specs.declared.script.Line.{Line}
use Rattle.pl_script.specs.declared.lines.LinesLeft.{LinesLeft}
use Rattle.pl_script.specs.Outcomes.{mapped}
use Rattle.pl_script.specs.Script.{Breach, commands_in, body_in}
use Rattle.pl_script.specs.Reading.{lines_left, number_left, Refuses, IsTaken, IsOther}
use Rattle.pl_script.proofs.Stopped.{refuses_mapped}

pub taken_is : {X : Type 0} (b : Bool) (x y : X) → b ≡ true → IsTaken b x y → x ≡ y
taken_is true x y e h = h
taken_is false x y e h = absurd (cc)

pub other_is : {X : Type 0} (b : Bool) (x y : X) → b ≡ false → IsOther b x y → x ≡ y
other_is true x y e h = absurd (cc)
other_is false x y e h = h

-- the command lines that are left, behind those that were found
abbrev pub more_commands : List Data → List Line → LinesLeft → Result (List Line) Breach
more_commands blocks found lines = mapped (λ more. found ++ more) (commands_in blocks (length found) (number_left lines) (lines_left lines))

next_commands : (blocks : List Data) (found : List Line) (before after : LinesLeft) (line : List ℕ) (number : ℕ) → lines_left before ≡ line ∷ lines_left after → number ≡ number_left before
    → more_commands blocks found before ≡ mapped (λ more. found ++ more) (commands_in blocks (length found) number (line ∷ lines_left after))
next_commands blocks found before after line number some is =
    ap (λ lines. mapped (λ more. found ++ more) (commands_in blocks (length found) (number_left before) lines)) some
    ∙ ap (λ n. mapped (λ more. found ++ more) (commands_in blocks (length found) n (line ∷ lines_left after))) (sym is)

pub commands_step : (all : Result (List Line) Breach) (blocks : List Data) (found more : List Line) (before after : LinesLeft) (line : List ℕ) (number : ℕ) → all ≡ more_commands blocks found before → lines_left before ≡ line ∷ lines_left after → number ≡ number_left before → number_left after ≡ number_left before + 1
    → ((rest : List (List ℕ)) → mapped (λ m. found ++ m) (commands_in blocks (length found) number (line ∷ rest)) ≡ mapped (λ m. more ++ m) (commands_in blocks (length more) (number + 1) rest))
    → all ≡ more_commands blocks more after
commands_step all blocks found more before after line number same some is next step =
    same ∙ next_commands blocks found before after line number some is ∙ step (lines_left after)
    ∙ ap (λ n. mapped (λ m. more ++ m) (commands_in blocks (length more) n (lines_left after))) (ap (λ n. n + 1) is ∙ sym next)

pub commands_refused : (all : Result (List Line) Breach) (blocks : List Data) (found : List Line) (before after : LinesLeft) (line : List ℕ) (number : ℕ) (e : Refusal ScriptFault) → all ≡ more_commands blocks found before → lines_left before ≡ line ∷ lines_left after → number ≡ number_left before
    → ((rest : List (List ℕ)) → Refuses e (commands_in blocks (length found) number (line ∷ rest))) → Refuses e all
commands_refused all blocks found before after line number e same some is refused =
    let Is : Result (List Line) Breach → Type 0 = λ said. Refuses e said in
    subst Is (sym (same ∙ next_commands blocks found before after line number some is)) (refuses_mapped e (λ more. found ++ more) (commands_in blocks (length found) number (line ∷ lines_left after)) (refused (lines_left after)))

pub commands_done : (all : Result (List Line) Breach) (blocks : List Data) (found kept : List Line) (lines : LinesLeft) → all ≡ more_commands blocks found lines → lines_left lines ≡ [] → kept ≡ found → all ≡ Ok kept
commands_done all blocks found kept lines same none is =
    same ∙ ap (λ ls. mapped (λ more. found ++ more) (commands_in blocks (length found) (number_left lines) ls)) none ∙ ap Ok (append-nil found) ∙ ap Ok (sym is)

-- blocks and commands, on from a line
pub body_step : (all said : Result (List Data × List Line) Breach) (blocks : List Data) (before after : LinesLeft) (line : List ℕ) (number : ℕ) → all ≡ body_in zero (number_left before) blocks (lines_left before) → lines_left before ≡ line ∷ lines_left after → number ≡ number_left before
    → body_in zero number blocks (line ∷ lines_left after) ≡ said → all ≡ said
body_step all said blocks before after line number same some is step =
    same ∙ ap (λ lines. body_in zero (number_left before) blocks lines) some ∙ ap (λ n. body_in zero n blocks (line ∷ lines_left after)) (sym is) ∙ step

-- commands behind blocks
abbrev pub behind : List Data → Result (List Line) Breach → Result (List Data × List Line) Breach
behind blocks said = mapped (λ found. (blocks, found)) said

-- what a line that begins no block leaves to the commands
pub to_commands : (blocks : List Data) (here after : LinesLeft) (line : List ℕ) (number : ℕ) → lines_left here ≡ line ∷ lines_left after → number ≡ number_left here
    → behind blocks (commands_in blocks zero number (line ∷ lines_left after)) ≡ behind blocks (commands_in blocks zero (number_left here) (lines_left here))
to_commands blocks here after line number some is =
    ap (λ n. behind blocks (commands_in blocks zero n (line ∷ lines_left after))) is ∙ ap (λ lines. behind blocks (commands_in blocks zero (number_left here) lines)) (sym some)

pub no_lines : (all : Result (List Data × List Line) Breach) (blocks : List Data) (lines here : LinesLeft) → all ≡ body_in zero (number_left lines) blocks (lines_left lines) → lines_left lines ≡ [] → here ≡ lines
    → all ≡ behind blocks (commands_in blocks zero (number_left here) (lines_left here))
no_lines all blocks lines here same none is =
    same ∙ ap (λ ls. body_in zero (number_left lines) blocks ls) none
    ∙ sym (ap (λ ls. behind blocks (commands_in blocks zero (number_left here) ls)) (ap lines_left is ∙ none))
