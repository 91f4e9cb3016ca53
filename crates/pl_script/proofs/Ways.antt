-- The sessions on their way.
use Rattle.std.proofs.Common.{◌≡◌, ℕ, zero, suc, ◌+◌, ◌-◌, ◌*◌, ◌<◌, ◌≤◌, ◌==◌, Bool, true, false, cond, Option, Some, None, List, [], ◌∷◌, ◌++◌, length, take, get_or, sum, slice_index, replicate, Bor, is_some, ltb, All, inl, inr, refl, sym, ap, subst, ◌∙◌, arith, set}
use Rattle.std.proofs.Math.ListN.{length-set}
use Rattle.std.specs.List.{count_by, filter, slice_get}
use Rattle.std.specs.Option.{IfSome, option_map}
use Rattle.std.proofs.lemmas.Bool.{cases_Bool, cond-true, cond-false}
use Rattle.std.proofs.lemmas.Bool.Decides.{nat_tests}
use Rattle.std.proofs.lemmas.Grind.{common_steps, get_or_default_zero}
use Rattle.std.proofs.lemmas.List.Sums.{length-filter, sum_by-cons, sum_by-le, count_by_more_yes, count_by-le-length}
use Rattle.std.proofs.lemmas.Option.{slice_get_past, slice_get_read, slice_get_within, get_or_from_slice_get}
use Rattle.pl_script.specs.declared.script.Line.{Line}
use Rattle.pl_script.specs.declared.stuck.Progress.{Progress}
use Rattle.pl_script.specs.Stuck.{session_lines, count_of, start, next}
use Rattle.pl_script.specs.Rotation.{can_come, part_of, IsNextPlace, IsOnTheWay, Rests, least_left, lesser, stuck_line}
use Rattle.pl_script.proofs.Courses.{one_same, comes_later, tells_one, one_other, one_equal, course_within, IsEnd}
use Rattle.pl_script.proofs.Rounds.{of_session, AreOfSessions, true_come, rest_everywhere, left_tells, line_tells}

-- ---- a session's next line

count_take : (session : ℕ) (line : Line) (lines : List Line) (b : Bool) → (line.session == session) ≡ b → count_by (of_session session) (line ∷ lines) ≡ cond b 1 0 + count_by (of_session session) lines
count_take session line lines b e = sum_by-cons (λ l. cond (of_session session l) 1 0) line lines ∙ ap (λ t. cond t 1 0 + count_by (of_session session) lines) e

one_on : (n : ℕ) → suc n ≡ 1 + n
one_on n = omega arith

none_on : (n : ℕ) → n ≡ 0 + n
none_on n = omega arith

pub own_line : (lines : List Line) (session place : ℕ) → IfSome (slice_get lines place) (λ line. line.session ≡ session) → slice_get lines place ≡ slice_get (session_lines lines session) (count_by (of_session session) (take place lines))
own_line [] session place h = refl
own_line (line ∷ lines) session zero h =
    let own : (line.session == session) ≡ true = grind (arith, nat_tests, h) in
    sym (ap (λ ls. slice_get ls 0) (cond-true (line.session == session) (line ∷ filter (of_session session) lines) _ own))
own_line (line ∷ lines) session (suc place) h =
    elim (cases_Bool (line.session == session)) [
      | inl own ↦
          own_line lines session place h
          ∙ ap (slice_get (line ∷ filter (of_session session) lines)) (one_on (count_by (of_session session) (take place lines)))
          ∙ (λ i. slice_get (sym (cond-true (line.session == session) (line ∷ filter (of_session session) lines) (filter (of_session session) lines) own) i) (sym (count_take session line (take place lines) true own) i))
      | inr other ↦
          own_line lines session place h
          ∙ ap (slice_get (filter (of_session session) lines)) (none_on (count_by (of_session session) (take place lines)))
          ∙ (λ i. slice_get (sym (cond-false (line.session == session) (line ∷ filter (of_session session) lines) (filter (of_session session) lines) other) i) (sym (count_take session line (take place lines) false other) i))
    ]

pub get_is : (result : Option (Bor Line)) (lines : List Line) (place : ℕ) → is_some result ≡ ltb place (length lines) → IfSome result (λ x. x.now ≡ get_or lines place x.now) → option_map (λ line. line.now) result ≡ slice_get lines place
get_is None lines place is h = sym (slice_get_past lines place (grind (arith, nat_tests)))
get_is (Some line) lines place is h = sym (slice_get_read lines (length lines) place line.now refl (grind (arith, nat_tests)) h)

pub place_is : (result : Option (Bor Line)) (lines : List Line) (places : List ℕ) (at place session : ℕ) → at ≡ session → at < length places → option_map (λ line. line.now) result ≡ slice_get lines place
    → IfSome result (λ line. slice_get lines (get_or (set places at place) session 0) ≡ Some line.now)
place_is None lines places at place session here lt is = tt
place_is (Some line) lines places at place session here lt is = ap (slice_get lines) (grind (arith, common_steps)) ∙ sym is

pub own_is : (result : Option (Bor Line)) (o : Option Line) (session : ℕ) → option_map (λ line. line.now) result ≡ o → IfSome o (λ line. line.session ≡ session) → IfSome result (λ line. line.now.session ≡ session)
own_is None o session is h = tt
own_is (Some line) o session is h = subst (λ r. IfSome r (λ l. l.session ≡ session)) (sym is) h

-- the place from which a session's next line comes
pub next_is : (lines : List Line) (session from place passed : ℕ) → IsNextPlace lines session from passed → count_by (of_session session) (take place lines) ≡ count_by (of_session session) (take from lines)
    → IfSome (slice_get lines place) (λ line. line.session ≡ session) → slice_get lines place ≡ slice_get (session_lines lines session) passed
next_is lines session from place passed is same own = own_line lines session place own ∙ ap (slice_get (session_lines lines session)) (same ∙ sym is.passed_is)

-- ---- one command is passed

at_same : (xs : List ℕ) (at n : ℕ) → at < length xs → get_or (set xs at n) at 0 ≡ n
at_same xs at n lt = grind (arith, common_steps)

at_other : (xs : List ℕ) (at other n : ℕ) → (at == other) ≡ false → get_or (set xs at n) other 0 ≡ get_or xs other 0
at_other xs at other n e = grind (arith, common_steps, nat_tests)

counted_one : (lines : List Line) (place session : ℕ) (line : Line) → slice_get lines place ≡ Some line → line.session ≡ session → count_by (of_session session) (take (place + 1) lines) ≡ count_by (of_session session) (take place lines) + 1
counted_one lines place session line at own =
    let is : (line.session == session) ≡ true = grind (arith, nat_tests, own) in
    let same : get_or lines place line ≡ line = get_or_from_slice_get lines place line line at in
    count_by_more_yes (of_session session) lines place line (slice_get_within lines place line at) (ap (of_session session) same ∙ is)

moved : (lines : List Line) (session from passed place more : ℕ) (line : Line) → slice_get lines from ≡ Some line → line.session ≡ session → place ≡ from + 1 → more ≡ passed + 1 → IsNextPlace lines session from passed → IsNextPlace lines session place more
moved lines session from passed place more line at own e f p = record {
  within = omega (arith, e, slice_get_within lines from line at);
  passed_is = subst (λ n. more ≡ count_by (of_session session) (take n lines)) (sym e) (omega (arith, f, p.passed_is, counted_one lines from session line at own));
}

pub way_passed : (lines : List Line) (progress : Progress) (at session : ℕ) (line : Line) → length progress.next ≡ 17 → session ≤ 16 → at ≡ session → IsOnTheWay lines progress
    → slice_get lines (get_or progress.next session 0) ≡ Some line → line.session ≡ session → slice_get (session_lines lines session) (part_of progress session) ≡ Some line → can_come (part_of progress) line.command ≡ true
    → IsOnTheWay lines (record { passed = set progress.passed at (get_or progress.passed at 0 + 1); next = set progress.next at (get_or progress.next at 0 + 1) })
way_passed lines progress at session line long low here way place own is can =
    let many : length progress.passed ≡ 17 = way.sessions in
    subst (λ i. IsOnTheWay lines (record { passed = set progress.passed i (get_or progress.passed i 0 + 1); next = set progress.next i (get_or progress.next i 0 + 1) })) (sym here) (record {
      course = way.course ++ session ∷ [];
      is =
          next way.course session line way.is (subst (λ n. slice_get (session_lines lines session) n ≡ Some line) (sym (way.counts session)) is)
          (comes_later (part_of progress) (count_of way.course) (λ s. omega (arith, way.counts s)) line.command (true_come (part_of progress) line.command can));
      counts = λ t. elim (cases_Bool (session == t)) [
        | inl same ↦
            subst (λ o. count_of (way.course ++ session ∷ []) o ≡ get_or (set progress.passed session (get_or progress.passed session 0 + 1)) o 0) (one_equal session t same)
            (omega (arith, one_same way.course session, way.counts session, at_same progress.passed session (get_or progress.passed session 0 + 1) (omega (arith, many, low))))
        | inr other ↦ omega (arith, one_other way.course session t other, way.counts t, at_other progress.passed session t (get_or progress.passed session 0 + 1) other)
      ];
      sessions = length-set progress.passed session (get_or progress.passed session 0 + 1) ∙ many;
      places = λ t le. elim (cases_Bool (session == t)) [
        | inl same ↦
            subst (λ o. IsNextPlace lines o (get_or (set progress.next session (get_or progress.next session 0 + 1)) o 0) (get_or (set progress.passed session (get_or progress.passed session 0 + 1)) o 0)) (one_equal session t same)
            (moved lines session (get_or progress.next session 0) (get_or progress.passed session 0) _ _ line place own (at_same progress.next session (get_or progress.next session 0 + 1) (omega (arith, long, low))) (at_same progress.passed session (get_or progress.passed session 0 + 1) (omega (arith, many, low))) (way.places session low))
        | inr other ↦
            let p : IsNextPlace lines t (get_or progress.next t 0) (get_or progress.passed t 0) = way.places t le in
            subst (λ n. IsNextPlace lines t n (get_or (set progress.passed session (get_or progress.passed session 0 + 1)) t 0)) (sym (at_other progress.next session t (get_or progress.next session 0 + 1) other))
            (subst (λ n. IsNextPlace lines t (get_or progress.next t 0) n) (sym (at_other progress.passed session t (get_or progress.passed session 0 + 1) other)) p)
      ];
    })

-- one session more rests
pub rests_on : (lines : List Line) (passed : List ℕ) (old : List ℕ) (session : ℕ) → passed ≡ old → ((s : ℕ) → 1 ≤ s → s < session → Rests lines (λ i. slice_index old i) s) → Rests lines (λ i. slice_index passed i) session
    → (s : ℕ) → 1 ≤ s → s < session + 1 → Rests lines (λ i. slice_index passed i) s
rests_on lines passed old session same before here s low high =
    elim (cases_Bool (s == session)) [
      | inl last ↦ subst (Rests lines (λ i. slice_index passed i)) (sym (one_equal s session last)) here
      | inr other ↦ subst (λ p. Rests lines (λ i. slice_index p i) s) (sym same) (before s low (grind (arith, nat_tests, other, high)))
    ]

-- ---- the beginning and the end

zeros : (n i : ℕ) → slice_index (replicate n 0) i ≡ 0
zeros zero i = refl
zeros (suc n) zero = refl
zeros (suc n) (suc i) = zeros n i

pub way_begins : (lines : List Line) → IsOnTheWay lines (record { passed = replicate 17 0; next = replicate 17 0 })
way_begins lines = record {
  course = [];
  is = start;
  counts = λ session. sym (zeros 17 session);
  sessions = refl;
  places = λ session le.
      subst (λ n. IsNextPlace lines session n (get_or (replicate 17 0) session 0)) (sym (zeros 17 session))
      (subst (λ n. IsNextPlace lines session 0 n) (sym (zeros 17 session)) (record { within = omega arith; passed_is = refl }));
}

-- each session has passed at most all lines
pub way_short : (lines : List Line) (progress : Progress) → IsOnTheWay lines progress → sum progress.passed ≤ 17 * length lines
way_short lines progress way =
    let each : All (λ n. n ≤ length lines) progress.passed = λ k d lt.
    let same : get_or progress.passed k d ≡ get_or progress.passed k 0 = get_or_default_zero progress.passed k d lt in
    omega (arith, same, way.counts k, course_within lines way.course way.is k, length-filter (of_session k) lines, count_by-le-length (of_session k) lines) in
    subst (λ n. sum progress.passed ≤ n * length lines) way.sessions (sum_by-le (λ x. x) (length lines) progress.passed each)

pub left_more : (lines : List Line) (part : ℕ → ℕ) (session before : ℕ) → session ≡ before + 1
    → least_left lines part session ≡ lesser (least_left lines part before) (option_map (λ (line : Line). line.number) (slice_get (session_lines lines session) (part session)))
unfolding least_left
left_more lines part zero before e = absurd (omega (arith, e))
left_more lines part (suc session) before e =
    let same : session ≡ before = omega (arith, e) in
    ap (λ n. lesser (least_left lines part n) (option_map (λ (line : Line). line.number) (slice_get (session_lines lines (suc session)) (part (suc session))))) same

pub left_none : (lines : List Line) (part : ℕ → ℕ) → least_left lines part 0 ≡ None
unfolding least_left
left_none lines part = refl

pub way_tells : (lines : List Line) → AreOfSessions lines → (progress : Progress) → IsOnTheWay lines progress → ((session : ℕ) → 1 ≤ session → session ≤ 16 → Rests lines (part_of progress) session)
    → (told : Option ℕ) → told ≡ least_left lines (part_of progress) 16 → told ≡ stuck_line lines
way_tells lines h progress way rest told e =
    let end : IsEnd lines (part_of progress) = record { course = way.course; is = way.is; counts = way.counts; rests = rest_everywhere lines h (part_of progress) rest } in
    tells_one lines told (stuck_line lines) (left_tells lines (part_of progress) h end told e) (line_tells lines h)

numbers : (result : Option (Bor Line)) → option_map (λ line. line.now.number) result ≡ option_map (λ (line : Line). line.number) (option_map (λ line. line.now) result)
numbers None = refl
numbers (Some line) = refl

pub least_more : (lines : List Line) (passed old : List ℕ) (session : ℕ) (least : Option ℕ) (result : Option (Bor Line)) → passed ≡ old → 1 ≤ session
    → option_map (λ line. line.now) result ≡ slice_get (session_lines lines session) (slice_index passed session) → least ≡ least_left lines (λ s. slice_index old s) (session - 1)
    → lesser least (option_map (λ line. line.now.number) result) ≡ least_left lines (λ s. slice_index old s) (session + 1 - 1)
least_more lines passed old session least result same low line is =
    let here : session + 1 - 1 ≡ session = omega arith in
    let found : option_map (λ line. line.now.number) result ≡ option_map (λ (l : Line). l.number) (slice_get (session_lines lines session) (slice_index old session)) =
    numbers result ∙ ap (option_map (λ (l : Line). l.number)) (line ∙ ap (λ p. slice_get (session_lines lines session) (slice_index p session)) same) in
    (λ i. lesser (is i) (found i))
    ∙ sym (left_more lines (λ s. slice_index old s) session (session - 1) (omega (arith, low)))
    ∙ ap (least_left lines (λ s. slice_index old s)) (sym here)
