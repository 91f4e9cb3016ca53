-- Where going on in rounds ends.
use Rattle.std.proofs.Common.{◌≡◌, ℕ, zero, suc, ◌+◌, ◌<◌, ◌≤◌, ◌==◌, nat_le, min, Bool, true, false, cond, Option, Some, None, List, [], ◌∷◌, ◌++◌, length, All, ◌⊎◌, inl, inr, refl, sym, ap, subst, ◌∙◌, arith, length-append}
use Rattle.std.specs.List.{count_by, slice_get, prefix_len}
use Rattle.std.specs.Option.{option_map}
use Rattle.std.proofs.lemmas.Bool.{cases_Bool, cond-true, cond-false}
use Rattle.std.proofs.lemmas.Bool.Decides.{nat_tests}
use Rattle.std.proofs.lemmas.List.Elements.{All-head, All-tail}
use Rattle.std.proofs.lemmas.List.Sums.{length-filter, sum_by-cons}
use Rattle.pl_machine.specs.declared.entry.Command.TheVariants as command
use Rattle.pl_script.specs.declared.script.Line.{Line}
use Rattle.pl_script.specs.Orders.{Order}
use Rattle.pl_script.specs.Kept.{IsSession}
use Rattle.pl_script.specs.Stuck.{session_lines, count_of, Part, CanCome, IsCourse, start, next}
use Rattle.pl_script.specs.Rotation.{can_come, gone_through, lesser, least_left, stuck_line, Rests}
use Rattle.pl_script.proofs.Courses.{one_other, one_more, one_equal, comes_later, course_within, IsEnd, IsLeastLeft, Tells, end_tells}

-- the test
pub come_true : (part : Part) (order : Order) → CanCome part order → can_come part order ≡ true
come_true part (command.Edit edit) h = refl
come_true part command.Apply h = refl
come_true part command.Export h = refl
come_true part command.Status h = refl
come_true part command.Cancel h = refl
come_true part (command.After session calls) h = grind (arith, nat_tests)

pub true_come : (part : Part) (order : Order) → can_come part order ≡ true → CanCome part order
true_come part (command.Edit edit) e = tt
true_come part command.Apply e = tt
true_come part command.Export e = tt
true_come part command.Status e = tt
true_come part command.Cancel e = tt
true_come part (command.After session calls) e = grind (arith, nat_tests)

-- ---- a course has at most as many commands as there are lines

abbrev pub of_session : ℕ → Line → Bool
of_session session line = line.session == session

pub record Without (lines : List Line) (session : ℕ) : Type 0 where
  pub rest : List Line
  pub long : length lines ≡ length rest + 1
  pub counts : (other : ℕ) → count_by (of_session other) lines ≡ cond (session == other) 1 0 + count_by (of_session other) rest

count_cons : (other : ℕ) (line : Line) (lines : List Line) → count_by (of_session other) (line ∷ lines) ≡ cond (line.session == other) 1 0 + count_by (of_session other) lines
count_cons other line lines = sum_by-cons (λ l. cond (of_session other l) 1 0) line lines

without_one : (lines : List Line) (session : ℕ) → 1 ≤ count_by (of_session session) lines → Without lines session
without_one [] session h = absurd (omega (arith, h))
without_one (line ∷ lines) session h =
    elim (cases_Bool (line.session == session)) [
      | inl here ↦ record { rest = lines; long = omega arith; counts = λ other. count_cons other line lines ∙ ap (λ s. cond (s == other) 1 0 + count_by (of_session other) lines) (one_equal line.session session here) }
      | inr later ↦
          let more : 1 ≤ count_by (of_session session) lines = omega (arith, h, count_cons session line lines ∙ ap (λ b. cond b 1 0 + count_by (of_session session) lines) later) in
          let w = without_one lines session more in
          record {
            rest = line ∷ w.rest;
            long = omega (arith, w.long);
            counts = λ other. omega (arith, count_cons other line lines, count_cons other line w.rest, w.counts other);
          }
    ]

count_one : (other session : ℕ) (course : List ℕ) → count_of (session ∷ course) other ≡ cond (session == other) 1 0 + count_of course other
count_one other session course = sum_by-cons (λ s. cond (s == other) 1 0) session course

fits_in : (course : List ℕ) (lines : List Line) → ((session : ℕ) → count_of course session ≤ count_by (of_session session) lines) → length course ≤ length lines
fits_in [] lines h = omega arith
fits_in (session ∷ course) lines h =
    let same : (session == session) ≡ true = grind (arith, nat_tests) in
    let one : count_of (session ∷ course) session ≡ 1 + count_of course session = count_one session session course ∙ ap (λ b. cond b 1 0 + count_of course session) same in
    let w = without_one lines session (omega (arith, h session, one)) in
    let rest : length course ≤ length w.rest = fits_in course w.rest (λ other. omega (arith, h other, count_one other session course, w.counts other)) in
    omega (arith, rest, w.long)

pub course_short : (lines : List Line) (course : List ℕ) → IsCourse lines course → length course ≤ length lines
course_short lines course h = fits_in course lines (λ session. omega (arith, course_within lines course h session, length-filter (of_session session) lines))

-- ---- a course that can't go on

abbrev pub IsOfSession : Line → Type 0
IsOfSession line = IsSession line.session

abbrev pub AreOfSessions : List Line → Type 0
AreOfSessions lines = All IsOfSession lines

none_outside : (lines : List Line) → AreOfSessions lines → (session : ℕ) → (IsSession session → ⊥) → session_lines lines session ≡ []
none_outside [] h session out = refl
none_outside (line ∷ lines) h session out =
    elim (cases_Bool (line.session == session)) [
      | inl same ↦ absurd (out (subst IsSession (one_equal line.session session same) (All-head IsOfSession line lines h)))
      | inr other ↦ cond-false (line.session == session) _ _ other ∙ none_outside lines (All-tail IsOfSession line lines h) session out
    ]

pub none_at : (lines : List Line) → AreOfSessions lines → (session number : ℕ) → (IsSession session → ⊥) → slice_get (session_lines lines session) number ≡ None
none_at lines h session number out = ap (λ ls. slice_get ls number) (none_outside lines h session out)

-- a session whose next command can come
pub record GoesOn (lines : List Line) (part : Part) : Type 0 where
  pub session : ℕ
  pub line : Line
  pub at : slice_get (session_lines lines session) (part session) ≡ Some line
  pub can : CanCome part line.command

no_some : (o : Option Line) (line : Line) → o ≡ None → o ≡ Some line → ⊥
no_some o line e f = absurd (cc)

line_is : (o : Option Line) (a b : Line) → o ≡ Some a → o ≡ Some b → a ≡ b
line_is o a b e f = cc

rests_or_goes : (lines : List Line) (part : Part) (session : ℕ) (o : Option Line) → slice_get (session_lines lines session) (part session) ≡ o → GoesOn lines part ⊎ Rests lines part session
rests_or_goes lines part session None e = inr (λ line f t. no_some _ line e f)
rests_or_goes lines part session (Some line) e =
    elim (cases_Bool (can_come part line.command)) [
      | inl can ↦ inl (record { session = session; line = line; at = e; can = true_come part line.command can })
      | inr blocked ↦ inr (λ other f t.
          let same : line ≡ other = line_is _ line other e f in
          let clash : true ≡ false = sym t ∙ ap (λ l. can_come part l.command) (sym same) ∙ blocked in
          absurd (cc))
    ]

all_rest : (lines : List Line) (part : Part) (sessions : ℕ) → GoesOn lines part ⊎ ((session : ℕ) → 1 ≤ session → session ≤ sessions → Rests lines part session)
all_rest lines part zero = inr (λ session low high. absurd (omega (arith, low, high)))
all_rest lines part (suc sessions) =
    elim (all_rest lines part sessions) [
      | inl goes ↦ inl goes
      | inr rest ↦ elim (rests_or_goes lines part (suc sessions) (slice_get (session_lines lines (suc sessions)) (part (suc sessions))) refl) [
        | inl goes ↦ inl goes
        | inr rests ↦ inr (λ session low high. elim (cases_Bool (session == suc sessions)) [
          | inl last ↦ subst (Rests lines part) (sym (one_equal session (suc sessions) last)) rests
          | inr before ↦ rest session low (grind (arith, nat_tests, before, high))
        ])
      ]
    ]

-- where sessions 1 to 16 rest, all do
pub rest_everywhere : (lines : List Line) → AreOfSessions lines → (part : Part) → ((session : ℕ) → 1 ≤ session → session ≤ 16 → Rests lines part session)
    → (session : ℕ) (line : Line) → slice_get (session_lines lines session) (part session) ≡ Some line → CanCome part line.command → ⊥
rest_everywhere lines h part rest session line at can =
    let inside : IsSession session → ⊥ = λ is. rest session is.0 is.1 line at (come_true part line.command can) in
    no_some _ line (none_at lines h session (part session) inside) at

pub record HasEnd (lines : List Line) : Type 0 where
  pub part : Part
  pub end : IsEnd lines part

rested : (lines : List Line) → AreOfSessions lines → (course : List ℕ) → IsCourse lines course → ((session : ℕ) → 1 ≤ session → session ≤ 16 → Rests lines (count_of course) session) → HasEnd lines
rested lines h course is rest = record { part = count_of course; end = record { course = course; is = is; counts = λ session. refl; rests = rest_everywhere lines h (count_of course) rest } }

ended : (lines : List Line) → AreOfSessions lines → (fuel : ℕ) (course : List ℕ) → IsCourse lines course → length lines ≤ length course + fuel → HasEnd lines
ended lines h zero course is le =
    elim (all_rest lines (count_of course) 16) [
      | inl goes ↦
          let longer : IsCourse lines (course ++ goes.session ∷ []) = next course goes.session goes.line is goes.at goes.can in
          absurd (omega (arith, le, course_short lines _ longer, length-append course (goes.session ∷ [])))
      | inr rest ↦ rested lines h course is rest
    ]
ended lines h (suc fuel) course is le =
    elim (all_rest lines (count_of course) 16) [
      | inl goes ↦ ended lines h fuel (course ++ goes.session ∷ []) (next course goes.session goes.line is goes.at goes.can) (omega (arith, le, length-append course (goes.session ∷ [])))
      | inr rest ↦ rested lines h course is rest
    ]

pub has_end : (lines : List Line) → AreOfSessions lines → HasEnd lines
has_end lines h = ended lines h (length lines) [] start (omega arith)

-- ---- in rounds the same end is reached

pub record At {X : Type 0} (p : X → Bool) (xs : List X) (k : ℕ) : Type 0 where
  pub item : X
  pub is : slice_get xs k ≡ Some item
  pub passes : p item ≡ true

-- the front that passes, by its places

front_inside : {X : Type 0} (p : X → Bool) (x : X) (xs : List X) → ((k : ℕ) → k < prefix_len p xs → At p xs k) → (k : ℕ) → k < 1 + prefix_len p xs → p x ≡ true → At p (x ∷ xs) k
front_inside p x xs h zero lt here = record { item = x; is = refl; passes = here }
front_inside p x xs h (suc k) lt here = let a = h k (omega (arith, lt)) in record { item = a.item; is = a.is; passes = a.passes }

front_passes : {X : Type 0} (p : X → Bool) (xs : List X) (k : ℕ) → k < prefix_len p xs → At p xs k
front_passes p [] k lt = absurd (omega (arith, lt))
front_passes p (x ∷ xs) k lt =
    elim (cases_Bool (p x)) [
      | inl here ↦ front_inside p x xs (front_passes p xs) k (omega (arith, lt, cond-true (p x) (1 + prefix_len p xs) 0 here)) here
      | inr other ↦ absurd (omega (arith, lt, cond-false (p x) (1 + prefix_len p xs) 0 other))
    ]

front_reaches : {X : Type 0} (p : X → Bool) (xs : List X) (n : ℕ) → n ≤ length xs → ((k : ℕ) (x : X) → k < n → slice_get xs k ≡ Some x → p x ≡ true) → n ≤ prefix_len p xs
front_reaches p xs zero le h = omega arith
front_reaches p [] (suc n) le h = absurd (omega (arith, le))
front_reaches p (x ∷ xs) (suc n) le h =
    let rest : n ≤ prefix_len p xs = front_reaches p xs n (omega (arith, le)) (λ k y lt at. h (suc k) y (omega (arith, lt)) at) in
    omega (arith, rest, cond-true (p x) (1 + prefix_len p xs) 0 (h zero x (omega arith) refl))

-- each command of a course could come behind a part
abbrev ComeBehind : List Line → List ℕ → Part → Type 0
ComeBehind lines course part = (session k : ℕ) (line : Line) → k < count_of course session → slice_get (session_lines lines session) k ≡ Some line → CanCome part line.command

-- and one more
come_more : (lines : List Line) (course : List ℕ) (session : ℕ) (line : Line) → slice_get (session_lines lines session) (count_of course session) ≡ Some line → CanCome (count_of course) line.command
    → ComeBehind lines course (count_of course) → ComeBehind lines (course ++ session ∷ []) (count_of course)
come_more lines course session line at can h other k l lt is =
    elim (cases_Bool (session == other)) [
      | inl same ↦ elim (cases_Bool (k == count_of course other)) [
        | inl last ↦
            let here : slice_get (session_lines lines other) (count_of course other) ≡ Some line = subst (λ o. slice_get (session_lines lines o) (count_of course o) ≡ Some line) (one_equal session other same) at in
            let there : slice_get (session_lines lines other) (count_of course other) ≡ Some l = subst (λ i. slice_get (session_lines lines other) i ≡ Some l) (one_equal k (count_of course other) last) is in
            let one : line ≡ l = line_is _ line l here there in
            subst (λ m. CanCome (count_of course) m.command) one can
        | inr before ↦ h other k l (grind (arith, nat_tests, lt, before, one_more course session other same)) is
      ]
      | inr apart ↦ h other k l (omega (arith, lt, one_other course session other apart)) is
    ]

grows : (course : List ℕ) (session other : ℕ) → count_of course other ≤ count_of (course ++ session ∷ []) other
grows course session other =
    elim (cases_Bool (session == other)) [
      | inl same ↦ omega (arith, one_more course session other same)
      | inr apart ↦ omega (arith, one_other course session other apart)
    ]

come_behind : (lines : List Line) (course : List ℕ) → IsCourse lines course → ComeBehind lines course (count_of course)
come_behind lines _ start session k line lt at = absurd (omega (arith, lt))
come_behind lines _ (next course s last h at_last can) session k line lt at =
    comes_later (count_of course) (count_of (course ++ s ∷ [])) (grows course s) line.command (come_more lines course s last at_last can (come_behind lines course h) session k line lt at)

module _ (lines : List Line) where
  -- a course is gone through in as many rounds as it has commands
  reaches : (course : List ℕ) → IsCourse lines course → (rounds : ℕ) → length course ≤ rounds → (session : ℕ) → count_of course session ≤ gone_through lines rounds session
  reaches _ start rounds le session = omega arith
  reaches _ (next course s last h at can) zero le session = absurd (omega (arith, le, length-append course (s ∷ [])))
  reaches _ (next course s last h at can) (suc rounds) le session =
      front_reaches (λ (line : Line). can_come (gone_through lines rounds) line.command) (session_lines lines session) (count_of (course ++ s ∷ []) session) (course_within lines (course ++ s ∷ []) (next course s last h at can) session)
      (λ k line lt is.
      come_true (gone_through lines rounds) line.command
      (comes_later (count_of course) (gone_through lines rounds) (reaches course h rounds (omega (arith, le, length-append course (s ∷ [])))) line.command (come_more lines course s last at can (come_behind lines course h) session k line lt is)))

  -- no round gets behind an end
  stays : (part : Part) → IsEnd lines part → (rounds session : ℕ) → gone_through lines rounds session ≤ part session
  stays part end zero session = omega arith
  stays part end (suc rounds) session =
      let beyond : part session < gone_through lines (suc rounds) session → ⊥ = λ lt.
      let a = front_passes (λ (line : Line). can_come (gone_through lines rounds) line.command) (session_lines lines session) (part session) lt in
      end.rests session a.item a.is (comes_later (gone_through lines rounds) part (stays part end rounds) a.item.command (true_come (gone_through lines rounds) a.item.command a.passes)) in
      omega (arith, beyond)

  -- the rounds end
  rounds_end : AreOfSessions lines → IsEnd lines (gone_through lines (length lines))
  rounds_end h =
      let last = has_end lines h in
      let same : (session : ℕ) → last.part session ≡ gone_through lines (length lines) session = λ session.
      omega (arith, stays last.part last.end (length lines) session, reaches last.end.course last.end.is (length lines) (course_short lines last.end.course last.end.is) session, last.end.counts session) in
      record {
        course = last.end.course;
        is = last.end.is;
        counts = λ session. last.end.counts session ∙ same session;
        rests = λ session line at can.
            last.end.rests session line (subst (λ n. slice_get (session_lines lines session) n ≡ Some line) (sym (same session)) at)
            (comes_later (gone_through lines (length lines)) last.part (λ s. omega (arith, same s)) line.command can);
      }

-- ---- the least line

-- the least number among the first sessions

pub record IsLeastOf (lines : List Line) (part : Part) (sessions number : ℕ) : Type 0 where
  pub session : ℕ
  pub line : Line
  pub at : slice_get (session_lines lines session) (part session) ≡ Some line
  pub number_is : line.number ≡ number
  pub least : (other : ℕ) (later : Line) → 1 ≤ other → other ≤ sessions → slice_get (session_lines lines other) (part other) ≡ Some later → number ≤ later.number

abbrev pub IsLeastAmong : List Line → Part → ℕ → Option ℕ → Type 0
IsLeastAmong lines part sessions None = (session : ℕ) → 1 ≤ session → session ≤ sessions → slice_get (session_lines lines session) (part session) ≡ None
IsLeastAmong lines part sessions (Some number) = IsLeastOf lines part sessions number

module _ (lines : List Line) (part : Part) where
  abbrev here : ℕ → Option Line
  here session = slice_get (session_lines lines session) (part session)

  either : {A : Type 0} (session sessions : ℕ) → session ≤ suc sessions → (session ≡ suc sessions → A) → (session ≤ sessions → A) → A
  either session sessions le last before =
      elim (cases_Bool (session == suc sessions)) [
        | inl same ↦ last (one_equal session (suc sessions) same)
        | inr other ↦ before (grind (arith, nat_tests, other, le))
      ]

  join : (sessions : ℕ) (told : Option ℕ) (o : Option Line) → IsLeastAmong lines part sessions told → here (suc sessions) ≡ o → IsLeastAmong lines part (suc sessions) (lesser told (option_map (λ (line : Line). line.number) o))
  join sessions None None h e = λ session low high. either session sessions high (λ last. ap here last ∙ e) (λ le. h session low le)
  join sessions None (Some line) h e = record {
    session = suc sessions;
    line = line;
    at = e;
    number_is = refl;
    least = λ other later low high at. either other sessions high
        (λ last. let one : line ≡ later = line_is _ line later e (sym (ap here last) ∙ at) in omega (arith, ap (λ l. l.number) one))
        (λ le. absurd (no_some _ later (h other low le) at));
  }
  join sessions (Some number) None h e = record {
    session = h.session;
    line = h.line;
    at = h.at;
    number_is = h.number_is;
    least = λ other later low high at. either other sessions high (λ last. absurd (no_some _ later e (sym (ap here last) ∙ at))) (λ le. h.least other later low le at);
  }
  join sessions (Some number) (Some line) h e = by (nat_le number line.number) refl
    where
      lowest : (other : ℕ) (later : Line) → 1 ≤ other → other ≤ suc sessions → here other ≡ Some later → min number line.number ≤ later.number
      lowest other later low high at = either other sessions high
          (λ last. let one : line ≡ later = line_is _ line later e (sym (ap here last) ∙ at) in omega (arith, ap (λ l. l.number) one))
          (λ le. omega (arith, h.least other later low le at))

      by : (b : Bool) → nat_le number line.number ≡ b → IsLeastOf lines part (suc sessions) (min number line.number)
      by true t = record { session = h.session; line = h.line; at = h.at; number_is = grind (arith, nat_tests, t, h.number_is); least = lowest }
      by false t = record { session = suc sessions; line = line; at = e; number_is = grind (arith, nat_tests, t); least = lowest }

  least_among : (sessions : ℕ) → IsLeastAmong lines part sessions (least_left lines part sessions)
  unfolding least_left
  least_among zero = λ session low high. absurd (omega (arith, low, high))
  least_among (suc sessions) = join sessions (least_left lines part sessions) (here (suc sessions)) (least_among sessions) refl

  is_least : AreOfSessions lines → (told : Option ℕ) → IsLeastAmong lines part 16 told → IsLeastLeft lines part told
  is_least h None among = λ session. within session (slice_get (session_lines lines session) (part session)) refl
    where
      within : (session : ℕ) (o : Option Line) → here session ≡ o → here session ≡ None
      within session None e = e
      within session (Some line) e = none_at lines h session (part session) (λ is. no_some _ line (among session is.0 is.1) e)
  is_least h (Some number) among = record {
    session = among.session;
    line = among.line;
    at = among.at;
    number_is = among.number_is;
    least = λ other later at. within other later at (nat_le number later.number) refl;
  }
    where
      within : (other : ℕ) (later : Line) → here other ≡ Some later → (b : Bool) → nat_le number later.number ≡ b → number ≤ later.number
      within other later at true t = grind (arith, nat_tests, t)
      within other later at false t =
          let outside : IsSession other → ⊥ = λ is. absurd (grind (arith, nat_tests, t, among.least other later is.0 is.1 at)) in
          absurd (no_some _ later (none_at lines h other (part other) outside) at)

  -- at an end the least line that is left tells
  pub left_tells : AreOfSessions lines → IsEnd lines part → (told : Option ℕ) → told ≡ least_left lines part 16 → Tells lines told
  left_tells h end told e = end_tells lines part end told (is_least h told (subst (IsLeastAmong lines part 16) (sym e) (least_among 16)))

pub line_tells : (lines : List Line) → AreOfSessions lines → Tells lines (stuck_line lines)
unfolding stuck_line
line_tells lines h = left_tells lines (gone_through lines (length lines)) h (rounds_end lines h) (stuck_line lines) refl
