-- The greatest possible part of the commands.
use Rattle.std.proofs.Common.{◌≡◌, ℕ, zero, suc, ◌+◌, ◌<◌, ◌≤◌, ◌==◌, true, false, cond, Option, Some, None, List, [], ◌∷◌, ◌++◌, length, inl, inr, ◌↔◌, refl, sym, ap, subst, ◌∙◌, arith}
use Rattle.std.specs.List.{slice_get}
use Rattle.std.proofs.lemmas.Bool.{cases_Bool}
use Rattle.std.proofs.lemmas.Bool.Decides.{nat_tests}
use Rattle.std.proofs.lemmas.List.Sums.{sum_by-append}
use Rattle.std.proofs.lemmas.Option.{slice_get_past, slice_get_within}
use Rattle.pl_machine.specs.declared.entry.Command.TheVariants as command
use Rattle.pl_script.specs.declared.script.Line.{Line}
use Rattle.pl_script.specs.Orders.{Order}
use Rattle.pl_script.specs.Stuck.{session_lines, count_of, Part, all_of, CanCome, IsCourse, start, next, IsFree, StandsInOne, IsFirstLeft, IsStuckAt}

-- one more command

pub one_same : (course : List ℕ) (session : ℕ) → count_of (course ++ session ∷ []) session ≡ count_of course session + 1
one_same course session =
    let same : (session == session) ≡ true = grind (arith, nat_tests) in
    sum_by-append (λ s. cond (s == session) 1 0) course (session ∷ []) ∙ ap (λ b. count_of course session + (0 + cond b 1 0)) same ∙ omega arith

pub one_other : (course : List ℕ) (session other : ℕ) → (session == other) ≡ false → count_of (course ++ session ∷ []) other ≡ count_of course other
one_other course session other e =
    sum_by-append (λ s. cond (s == other) 1 0) course (session ∷ []) ∙ ap (λ b. count_of course other + (0 + cond b 1 0)) e ∙ omega arith

pub one_equal : (session other : ℕ) → (session == other) ≡ true → session ≡ other
one_equal session other e = grind (arith, nat_tests)

pub one_more : (course : List ℕ) (session other : ℕ) → (session == other) ≡ true → count_of (course ++ session ∷ []) other ≡ count_of course other + 1
one_more course session other e = subst (λ o. count_of (course ++ session ∷ []) o ≡ count_of course o + 1) (one_equal session other e) (one_same course session)

-- a command that can come behind a part can come behind a greater one
pub comes_later : (part greater : Part) → ((session : ℕ) → part session ≤ greater session) → (order : Order) → CanCome part order → CanCome greater order
comes_later part greater le (command.Edit edit) h = tt
comes_later part greater le command.Apply h = tt
comes_later part greater le command.Export h = tt
comes_later part greater le command.Status h = tt
comes_later part greater le command.Cancel h = tt
comes_later part greater le (command.After session calls) h = omega (arith, le session, h)

-- no session has more commands in a course than it has lines
pub course_within : (lines : List Line) (course : List ℕ) → IsCourse lines course → (session : ℕ) → count_of course session ≤ all_of lines session
course_within lines _ start session = omega arith
course_within lines _ (next course s line h at can) session =
    elim (cases_Bool (s == session)) [
      | inl same ↦
          let within : count_of course s < length (session_lines lines s) = slice_get_within (session_lines lines s) (count_of course s) line at in
          let here : count_of course session < length (session_lines lines session) = subst (λ o. count_of course o < length (session_lines lines o)) (one_equal s session same) within in
          omega (arith, one_more course s session same, here)
      | inr other ↦ omega (arith, one_other course s session other, course_within lines course h session)
    ]

pub get_none : {X : Type 0} (xs : List X) (n : ℕ) → slice_get xs n ≡ None → length xs ≤ n
get_none [] n e = omega arith
get_none (x ∷ xs) zero e = absurd (cc)
get_none (x ∷ xs) (suc n) e = omega (arith, get_none xs n e)

-- a possible part behind which no next command can come
pub record IsEnd (lines : List Line) (part : Part) : Type 0 where
  pub course : List ℕ
  pub is : IsCourse lines course
  pub counts : (session : ℕ) → count_of course session ≡ part session
  pub rests : (session : ℕ) (line : Line) → slice_get (session_lines lines session) (part session) ≡ Some line → CanCome part line.command → ⊥

-- it is the greatest one
pub greatest : (lines : List Line) (part : Part) → IsEnd lines part → (course : List ℕ) → IsCourse lines course → (session : ℕ) → count_of course session ≤ part session
greatest lines part end _ start session = omega arith
greatest lines part end _ (next course s line h at can) session =
    elim (cases_Bool (s == session)) [
      | inl same ↦
          let below : count_of course s ≤ part s = greatest lines part end course h s in
          let apart : count_of course s ≡ part s → ⊥ = λ e. end.rests s line (subst (λ n. slice_get (session_lines lines s) n ≡ Some line) e at) (comes_later (count_of course) part (greatest lines part end course h) line.command can) in
          let less : count_of course s < part s = omega (arith, below, apart) in
          let here : count_of course session < part session = subst (λ o. count_of course o < part o) (one_equal s session same) less in
          omega (arith, one_more course s session same, here)
      | inr other ↦ omega (arith, one_other course s session other, greatest lines part end course h session)
    ]

module _ (lines : List Line) (part : Part) (end : IsEnd lines part) where
  stands_within : (session number : ℕ) → StandsInOne lines session number → number < part session
  stands_within session number h = omega (arith, h.stands, h.possible.counts session, greatest lines part end h.possible.course h.possible.is session)

  within_stands : (session number : ℕ) → number < part session → StandsInOne lines session number
  within_stands session number lt = record { part = part; possible = record { course = end.course; is = end.is; counts = end.counts }; stands = lt }

  left_is : (session : ℕ) (line : Line) → slice_get (session_lines lines session) (part session) ≡ Some line → IsFirstLeft lines session line
  left_is session line at = record {
    number = part session;
    is = at;
    none = λ h. absurd (omega (arith, stands_within session (part session) h));
    before = λ earlier lt. within_stands session earlier lt;
  }

  left_at : (session : ℕ) (line : Line) → IsFirstLeft lines session line → slice_get (session_lines lines session) (part session) ≡ Some line
  left_at session line h =
      let high : h.number < part session → ⊥ = λ lt. h.none (within_stands session h.number lt) in
      let low : part session < h.number → ⊥ = λ lt. absurd (omega (arith, stands_within session (part session) (h.before (part session) lt))) in
      let same : h.number ≡ part session = omega (arith, high, low) in
      subst (λ n. slice_get (session_lines lines session) n ≡ Some line) same h.is

  free_is : ((session : ℕ) → slice_get (session_lines lines session) (part session) ≡ None) → IsFree lines
  free_is none = record {
    course = end.course;
    is = end.is;
    counts = λ session. omega (arith, get_none (session_lines lines session) (part session) (none session), end.counts session, course_within lines end.course end.is session);
  }

  free_none : IsFree lines → (session : ℕ) → slice_get (session_lines lines session) (part session) ≡ None
  free_none free session = slice_get_past (session_lines lines session) (part session) (omega (arith, free.counts session, greatest lines part end free.course free.is session))

-- what the lines that come next behind a part say
pub record IsLeast (lines : List Line) (part : Part) (number : ℕ) : Type 0 where
  pub session : ℕ
  pub line : Line
  pub at : slice_get (session_lines lines session) (part session) ≡ Some line
  pub number_is : line.number ≡ number
  pub least : (other : ℕ) (later : Line) → slice_get (session_lines lines other) (part other) ≡ Some later → number ≤ later.number

abbrev pub IsLeastLeft : List Line → Part → Option ℕ → Type 0
IsLeastLeft lines part None = (session : ℕ) → slice_get (session_lines lines session) (part session) ≡ None
IsLeastLeft lines part (Some number) = IsLeast lines part number

-- a number tells where lines are stuck, or that they are not
pub record Tells (lines : List Line) (told : Option ℕ) : Type 0 where
  pub free : (told ≡ None) ↔ IsFree lines
  pub stuck : (number : ℕ) → (told ≡ Some number) ↔ IsStuckAt lines number

no_line : (o : Option Line) (line : Line) → o ≡ None → o ≡ Some line → ⊥
no_line o line e f = absurd (cc)

some_is : (a b : ℕ) → Some a ≡ Some b → a ≡ b
some_is a b e = cc

module _ (lines : List Line) (part : Part) (end : IsEnd lines part) where
  none_tells : ((session : ℕ) → slice_get (session_lines lines session) (part session) ≡ None) → Tells lines None
  none_tells none = record {
    free = (λ e. free_is lines part end none, λ f. refl);
    stuck = λ number. (λ e. absurd (cc), λ h. absurd (no_line _ h.line (none h.session) (left_at lines part end h.session h.line h.left)));
  }

  some_tells : (number : ℕ) → IsLeast lines part number → Tells lines (Some number)
  some_tells number is = record {
    free = (λ e. absurd (cc), λ f. absurd (no_line _ is.line (free_none lines part end f is.session) is.at));
    stuck = λ other. (
      λ e. subst (IsStuckAt lines) (some_is number other e) (record {
        session = is.session;
        line = is.line;
        left = left_is lines part end is.session is.line is.at;
        number_is = is.number_is;
        least = λ s later h. is.least s later (left_at lines part end s later h);
      }),
      λ h.
          let low : number ≤ other = omega (arith, is.least h.session h.line (left_at lines part end h.session h.line h.left), h.number_is) in
          let high : other ≤ number = omega (arith, h.least is.session is.line (left_is lines part end is.session is.line is.at), is.number_is) in
          let same : number ≡ other = omega (arith, low, high) in
          ap Some same,
    );
  }

  pub end_tells : (told : Option ℕ) → IsLeastLeft lines part told → Tells lines told
  end_tells None none = none_tells none
  end_tells (Some number) is = some_tells number is

-- two that tell it are the same
pub tells_one : (lines : List Line) (told other : Option ℕ) → Tells lines told → Tells lines other → told ≡ other
tells_one lines None other h more = sym (more.free.1 (h.free.0 refl))
tells_one lines (Some number) other h more = sym ((more.stuck number).1 ((h.stuck number).0 refl))
