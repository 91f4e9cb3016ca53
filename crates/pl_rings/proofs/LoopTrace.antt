-- A loop traced from corner to corner, which closes the starts on it.
use Rattle.std.proofs.Common.{◌≡◌, ◌≢◌, ℕ, suc, ◌<◌, ◌≤◌, ◌+◌, ◌-◌, ◌*◌, Bool, true, false, not, nat_lt, ◌&&◌, Some, None, List, [], ◌∷◌, ◌++◌, map, length, inl, inr, refl, sym, ◌∙◌, ap, subst, arith}
use Rattle.std.specs.declared.option.Option.{Option}
use Rattle.std.specs.List.{range_with_len}
use Rattle.std.proofs.lemmas.Bool.{and_parts, and_left, and_right, both_ways, cases_Bool, cases_lt, cases_eq, eq-eqb}
use Rattle.std.proofs.lemmas.List.FromFn.{length-map-range_with_len}
use Rattle.pl_grid.specs.Planes.{Cells}
use Rattle.pl_grid.specs.declared.stroke.Corner.{Corner}
use Rattle.pl_rings.specs.declared.side.Heading.{Heading}
use Rattle.pl_rings.specs.declared.side.Side.{Side}
use Rattle.pl_rings.specs.Cycles.{steps, cycle_of, IsPeriod}
use Rattle.pl_rings.specs.Headings.{rises}
use Rattle.pl_rings.specs.Search.{Closes, free_start, passed}
use Rattle.pl_rings.specs.Sides.{around, is_side, side_at, side_count, number_of, rank_of, stands, next_number, corners_of}
use Rattle.pl_rings.specs.Starts.{is_start, starts}
use Rattle.pl_rings.specs.Traces.{sides, RunsTo, LoopTraced}
use Rattle.pl_rings.proofs.CornerLemmas.{start_of, turns_from, AtCorner, corner_first, corner_more, corner_last}
use Rattle.pl_rings.proofs.EdgeLaws.{found_by_number}
use Rattle.pl_rings.proofs.Finding.{cycle_is}
use Rattle.pl_rings.proofs.Iterates.{steps_count, steps-add}
use Rattle.pl_rings.proofs.LeastSides.{start_stands}
use Rattle.pl_rings.proofs.OpenPlaces.{closes_passed}
use Rattle.pl_rings.proofs.Partition.{Returns, returns_to}
use Rattle.pl_rings.proofs.PlaneStarts.{plane_placed, start_is_side, start_numbered, starts_number}
use Rattle.pl_rings.proofs.RunEnds.{run_stands, run_start}
use Rattle.pl_rings.proofs.Runs.{sides_add, side_of_steps, start_is_corner}
use Rattle.pl_rings.proofs.SideNumbers.{next_permutes, number_below, number_of-side_at, point_of}

-- closing after closing
closes_add : (next : ℕ → ℕ) (start i m at : ℕ) (old mid new : ℕ → Bool) → Closes next start i old mid → at ≡ steps next i start → Closes next at m mid new → Closes next start (i + m) old new
closes_add next start i m at old mid new c e d = record {
  kept = λ j h. c.kept j (d.kept j h);
  off = λ t less.
      elim (cases_lt t i) [
        | inl before ↦ elim (cases_Bool (new (steps next t start))) [
          | inl h ↦ absurd (both_ways _ (c.off t before) (d.kept _ h))
          | inr h ↦ h
        ]
        | inr past ↦
            let sum : t - i + i ≡ t = omega (arith, past) in
            let same : steps next t start ≡ steps next (t - i) at = ap (λ n. steps next n start) (sym sum) ∙ steps-add next i (t - i) start ∙ ap (steps next (t - i)) (sym e) in
            ap new same ∙ d.off (t - i) (omega (arith, less, past))
      ];
  only = λ j was h.
      elim (cases_Bool (mid j)) [
        | inl still ↦
            let w : (t : ℕ) × (t < m) × (j ≡ steps next t at) = d.only j still h in
            (w.0 + i, omega (arith, w.1), w.2 ∙ ap (steps next w.0) e ∙ sym (steps-add next i w.0 start))
        | inr shut ↦ let w : (t : ℕ) × (t < i) × (j ≡ steps next t start) = c.only j was shut in (w.0, omega (arith, w.1), w.2)
      ];
}

-- a run has no start but its first side
closes_run : (next : ℕ → ℕ) (has : ℕ → Bool) (old new : List Bool) (at m : ℕ) → 0 < m → ((j : ℕ) → 0 < j → j < m → has (steps next j at) ≡ false) → Closes next at 1 (free_start has old) (free_start has new) → Closes next at m (free_start has old) (free_start has new)
closes_run next has old new at m some none c = record {
  kept = c.kept;
  off = λ j less.
      elim (cases_eq j 0) [
        | inl e ↦ ap (λ i. free_start has new (steps next i at)) e ∙ c.off 0 (omega arith)
        | inr later ↦ and_left (has (steps next j at)) _ (none j (omega (arith, later)) less)
      ];
  only = λ j was h. let w : (i : ℕ) × (i < 1) × (j ≡ steps next i at) = c.only j was h in (w.0, omega (arith, w.1, some), w.2);
}

-- what holds at a corner of the loop of `start`
pub record OnLoop (p : Cells) (start : ℕ) (old marks : List Bool) (side : Side) (found : List Corner) : Type 0 where
  pub period : ℕ
  pub few : period ≤ side_count p.bounds
  pub round : IsPeriod (next_number p) start period
  pub passed : ℕ
  pub inside : passed < period
  pub here : side ≡ sides p passed (side_at p.bounds start)
  pub before : Option Heading
  pub turns : turns_from before side.heading ≡ true
  pub corners : AtCorner (λ j. sides p j (side_at p.bounds start)) period passed before found
  pub closes : Closes (next_number p) start passed (free_start (starts p) old) (free_start (starts p) marks)

-- the measure of the trace: each turn adds a corner, and there are fewer than sides
pub loop_room : (p : Cells) (start : ℕ) (old marks : List Bool) (side : Side) (found : List Corner) → OnLoop p start old marks side found → length found < side_count p.bounds
loop_room p start old marks side found w = omega (arith, w.corners.few, w.inside, w.few)

start_side : (p : Cells) (k : ℕ) → starts p k ≡ true → is_start (around p (side_at p.bounds k).x (side_at p.bounds k).y) (side_at p.bounds k).heading ≡ true
start_side p k h = (and_parts _ (is_start (around p (side_at p.bounds k).x (side_at p.bounds k).y) (side_at p.bounds k).heading) h).1

-- within a run no side but its first is a start
no_start_inside : (p : Cells) (s : Side) (m : ℕ) → ((j : ℕ) → is_side p (sides p j s) ≡ true) → ((j : ℕ) → j < m → (sides p j s).heading ≡ s.heading) → (j : ℕ) → suc j < m → is_start (around p (sides p (suc j) s).x (sides p (suc j) s).y) (sides p (suc j) s).heading ≡ false
no_start_inside p s m all straight j less =
    let t : Side = sides p j s in
    let n : Side = sides p (suc j) s in
    elim (cases_Bool (is_start (around p n.x n.y) n.heading)) [
      | inl one ↦ absurd (both_ways _ (start_is_corner p t (all j) one) (eq-eqb _ _ (ap rank_of (straight (suc j) less ∙ sym (straight j (omega (arith, less)))))))
      | inr none ↦ none
    ]

sides_stand : (p : Cells) (k : ℕ) → stands p k ≡ true → (j : ℕ) → is_side p (sides p j (side_at p.bounds k)) ≡ true
sides_stand p k h j =
    let q : ℕ = steps (next_number p) j k in
    let hq : stands p q ≡ true = steps_count (stands p) (next_number p) (side_count p.bounds) (next_permutes p) k h j in
    ap (is_side p) (sym (side_of_steps p k h j)) ∙ (and_parts _ (is_side p (side_at p.bounds q)) hq).1

-- a run does not pass the start of the loop
run_fits : (p : Cells) (start period passed : ℕ) (s t : Side) → stands p start ≡ true → starts p start ≡ true → IsPeriod (next_number p) start period → passed < period → s ≡ sides p passed (side_at p.bounds start) → (r : RunsTo p s t) → passed + r.count ≤ period
run_fits p start period passed s t hs one round inside here r =
    let first : Side = side_at p.bounds start in
    let all : (j : ℕ) → is_side p (sides p j s) ≡ true = λ j. ap (λ z. is_side p (sides p j z)) here ∙ ap (is_side p) (sym (sides_add p passed j first)) ∙ sides_stand p start hs (j + passed) in
    elim (cases_lt period (passed + r.count)) [
      | inl over ↦
          let j : ℕ = period - passed - 1 in
          let sum : suc j + passed ≡ period = omega (arith, inside) in
          let back : sides p (suc j) s ≡ first =
          ap (sides p (suc j)) here ∙ sym (sides_add p passed (suc j) first) ∙ ap (λ n. sides p n first) sum ∙ sym (side_of_steps p start hs period) ∙ ap (side_at p.bounds) round.back in
          absurd (both_ways _ (no_start_inside p s r.count all r.straight j (omega (arith, over, inside))) (ap (λ z. is_start (around p z.x z.y) z.heading) back ∙ start_side p start one))
      | inr fits ↦ fits
    ]

-- at the first side
loop_first : (p : Cells) (start : ℕ) (marks : List Bool) → starts p start ≡ true → OnLoop p start marks marks (side_at p.bounds start) []
loop_first p start marks one =
    let r : Returns (next_number p) (side_count p.bounds) start = returns_to (stands p) (next_number p) (side_count p.bounds) start (next_permutes p) (start_stands p start one) in
    record {
      period = r.0;
      few = r.1;
      round = r.2;
      passed = 0;
      inside = r.2.some;
      here = refl;
      before = None;
      turns = refl;
      corners = corner_first (λ j. sides p j (side_at p.bounds start)) r.0;
      closes = record { kept = λ j h. h; off = λ i h. absurd (omega arith); only = λ j h e. absurd (both_ways _ e h) };
    }

pub trace_first : (p : Cells) (s : Side) (marks : List Bool) → is_start (around p s.x s.y) s.heading ≡ true → OnLoop p (number_of p.bounds s) marks marks s []
trace_first p s marks h =
    let F : Side → Type 0 = λ z. OnLoop p (number_of p.bounds s) marks marks z [] in
    subst F (found_by_number p s (start_is_side p s h)) (loop_first p (number_of p.bounds s) marks (start_numbered p s h))

-- the number of the side at a corner
number_here : (p : Cells) (start i : ℕ) (s : Side) → stands p start ≡ true → s ≡ sides p i (side_at p.bounds start) → number_of p.bounds s ≡ steps (next_number p) i start
number_here p start i s hs e = ap (number_of p.bounds) (e ∙ sym (side_of_steps p start hs i)) ∙ number_of-side_at p.bounds (steps (next_number p) i start)

-- the starts of a run are closed with that of its first side
run_closes : (p : Cells) (start i : ℕ) (s t : Side) (mid new : List Bool) → stands p start ≡ true → s ≡ sides p i (side_at p.bounds start) → (r : RunsTo p s t) → Closes (next_number p) (number_of p.bounds s) 1 (free_start (starts p) mid) (free_start (starts p) new) → Closes (next_number p) (number_of p.bounds s) r.count (free_start (starts p) mid) (free_start (starts p) new)
run_closes p start i s t mid new hs here r c =
    let first : Side = side_at p.bounds start in
    let at : ℕ = number_of p.bounds s in
    let q : ℕ = steps (next_number p) i start in
    let is : at ≡ q = number_here p start i s hs here in
    let ha : stands p at ≡ true = ap (stands p) is ∙ steps_count (stands p) (next_number p) (side_count p.bounds) (next_permutes p) start hs i in
    let same : side_at p.bounds at ≡ s = ap (side_at p.bounds) is ∙ side_of_steps p start hs i ∙ sym here in
    let all : (j : ℕ) → is_side p (sides p j s) ≡ true = λ j. ap (λ z. is_side p (sides p j z)) (sym same) ∙ sides_stand p at ha j in
    closes_run (next_number p) (starts p) mid new at r.count r.some
    (λ j some less.
    let k : ℕ = steps (next_number p) j at in
    let sj : side_at p.bounds k ≡ sides p j s = side_of_steps p at ha j ∙ ap (sides p j) same in
    let up : suc (j - 1) ≡ j = omega (arith, some) in
    let none = no_start_inside p s r.count all r.straight (j - 1) (omega (arith, less, some)) in
    and_right (nat_lt k (side_count p.bounds)) (is_start (around p (side_at p.bounds k).x (side_at p.bounds k).y) (side_at p.bounds k).heading)
    (ap (λ z. is_start (around p z.x z.y) z.heading) (sj ∙ ap (λ n. sides p n s) (sym up)) ∙ none))
    c

-- one run on, the way has a corner more
run_corner : (p : Cells) (start : ℕ) (old marks : List Bool) (s t : Side) (found : List Corner) → starts p start ≡ true → (w : OnLoop p start old marks s found) → (r : RunsTo p s t) → AtCorner (λ j. sides p j (side_at p.bounds start)) w.period (w.passed + r.count) (Some s.heading) (found ++ start_of s ∷ [])
run_corner p start old marks s t found one w r =
    let first : Side = side_at p.bounds start in
    let S : ℕ → Side = λ j. sides p j first in
    let fits : w.passed + r.count ≤ w.period = run_fits p start w.period w.passed s t (start_stands p start one) one w.round w.inside w.here r in
    let more : AtCorner S w.period (w.passed + r.count) (Some (S w.passed).heading) (found ++ start_of (S w.passed) ∷ []) =
    corner_more S w.period w.passed r.count w.before found w.corners r.some fits (ap (λ z. turns_from w.before z.heading) (sym w.here) ∙ w.turns)
    (λ j low high.
    let sum : j - w.passed + w.passed ≡ j = omega (arith, low) in
    let here : S j ≡ sides p (j - w.passed) s = ap (λ n. sides p n first) (sym sum) ∙ sides_add p w.passed (j - w.passed) first ∙ ap (sides p (j - w.passed)) (sym w.here) in
    ap (λ z. z.heading) here ∙ r.straight (j - w.passed) (omega (arith, low, high)) ∙ ap (λ z. z.heading) w.here) in
    let P : Side → Type 0 = λ z. AtCorner S w.period (w.passed + r.count) (Some z.heading) (found ++ start_of z ∷ []) in
    subst P (sym w.here) more

run_there : (p : Cells) (first s t : Side) (i : ℕ) → s ≡ sides p i first → (r : RunsTo p s t) → t ≡ sides p (i + r.count) first
run_there p first s t i here r =
    let e : r.count + i ≡ i + r.count = omega arith in
    r.there ∙ ap (sides p r.count) here ∙ sym (sides_add p i r.count first) ∙ ap (λ n. sides p n first) e

-- a run that does not lead back
pub loop_more : (p : Cells) (start : ℕ) (old mid new : List Bool) (s t : Side) (found : List Corner) → starts p start ≡ true → OnLoop p start old mid s found → RunsTo p s t → Closes (next_number p) (number_of p.bounds s) 1 (free_start (starts p) mid) (free_start (starts p) new) → number_of p.bounds t ≢ start → OnLoop p start old new t (found ++ start_of s ∷ [])
loop_more p start old mid new s t found one w r c away =
    let hs : stands p start ≡ true = start_stands p start one in
    let first : Side = side_at p.bounds start in
    let fits : w.passed + r.count ≤ w.period = run_fits p start w.period w.passed s t hs one w.round w.inside w.here r in
    let there : t ≡ sides p (w.passed + r.count) first = run_there p first s t w.passed w.here r in
    record {
      period = w.period;
      few = w.few;
      round = w.round;
      passed = w.passed + r.count;
      inside =
          elim (cases_eq (w.passed + r.count) w.period) [
            | inl e ↦ absurd (away (number_here p start (w.passed + r.count) t hs there ∙ ap (λ n. steps (next_number p) n start) e ∙ w.round.back))
            | inr ne ↦ omega (arith, fits, ne)
          ];
      here = there;
      before = Some s.heading;
      turns = ap not r.turned;
      corners = run_corner p start old mid s t found one w r;
      closes = closes_add (next_number p) start w.passed r.count (number_of p.bounds s) (free_start (starts p) old) (free_start (starts p) mid) (free_start (starts p) new) w.closes (number_here p start w.passed s hs w.here) (run_closes p start w.passed s t mid new hs w.here r c);
    }

-- ---- back at the start

map_sides : (p : Cells) (k : ℕ) → stands p k ≡ true → (js : List ℕ) → map (side_at p.bounds) (map (λ j. steps (next_number p) j k) js) ≡ map (λ j. sides p j (side_at p.bounds k)) js
map_sides p k h [] = refl
map_sides p k h (j ∷ js) = ap (λ s. s ∷ map (side_at p.bounds) (map (λ i. steps (next_number p) i k) js)) (side_of_steps p k h j) ∙ ap (λ ss. sides p j (side_at p.bounds k) ∷ ss) (map_sides p k h js)

pub loop_back : (p : Cells) (start : ℕ) (old mid new : List Bool) (s t : Side) (found : List Corner) → starts p start ≡ true → OnLoop p start old mid s found → RunsTo p s t → Closes (next_number p) (number_of p.bounds s) 1 (free_start (starts p) mid) (free_start (starts p) new) → number_of p.bounds t ≡ start → LoopTraced p start old new (found ++ start_of s ∷ [])
loop_back p start old mid new s t found one w r c back =
    let hs : stands p start ≡ true = start_stands p start one in
    let first : Side = side_at p.bounds start in
    let next : ℕ → ℕ = next_number p in
    let n : ℕ = side_count p.bounds in
    let m : ℕ = w.period in
    let fits : w.passed + r.count ≤ m = run_fits p start m w.passed s t hs one w.round w.inside w.here r in
    let there : t ≡ sides p (w.passed + r.count) first = run_there p first s t w.passed w.here r in
    let whole : w.passed + r.count ≡ m =
    elim (cases_lt (w.passed + r.count) m) [
      | inl less ↦ absurd (w.round.first (w.passed + r.count) (omega (arith, r.some)) less (sym (number_here p start (w.passed + r.count) t hs there) ∙ back))
      | inr past ↦ omega (arith, fits, past)
    ] in
    let walk : List ℕ = map (λ j. steps next j start) (range_with_len 0 m) in
    let cycle : cycle_of next n start ≡ walk = cycle_is next n start m w.few w.round in
    let size : length walk ≡ m = length-map-range_with_len (λ j. steps next j start) 0 m in
    let long : length (cycle_of next n start) ≡ m = ap length cycle ∙ size in
    let P : ℕ → Type 0 = λ i. IsPeriod next start i in
    let C : ℕ → Type 0 = λ i. Closes next start i (free_start (starts p) old) (free_start (starts p) new) in
    let closed : Closes next start (w.passed + r.count) (free_start (starts p) old) (free_start (starts p) new) =
    closes_add next start w.passed r.count (number_of p.bounds s) (free_start (starts p) old) (free_start (starts p) mid) (free_start (starts p) new) w.closes (number_here p start w.passed s hs w.here) (run_closes p start w.passed s t mid new hs w.here r c) in
    record {
      corners = corner_last (λ j. sides p j first) m (w.passed + r.count) (Some s.heading) (found ++ start_of s ∷ []) (run_corner p start old mid s t found one w r) whole
          ∙ ap corners_of (sym (map_sides p start hs (range_with_len 0 m)))
          ∙ ap (λ ks. corners_of (map (side_at p.bounds) ks)) (sym cycle);
      round = record { period = subst P (sym long) w.round; few = omega (arith, long, w.few); numbers = cycle ∙ ap (λ i. map (λ j. steps next j start) (range_with_len 0 i)) (sym long) };
      closes = subst C (whole ∙ sym long) closed;
    }

-- ---- the trace, a corner at a time

abbrev pub StartsAt : Cells → Side → Type 0
StartsAt p s = is_start (around p s.x s.y) s.heading ≡ true

-- what holds of the side at a corner, its number, and whether it is a start
pub record AtTurn (p : Cells) (start : Side) (old marks : List Bool) (side : Side) (number : ℕ) (is_start : Bool) (found : List Corner) : Type 0 where
  pub way : OnLoop p (number_of p.bounds start) old marks side found
  pub one : is_side p side ≡ true
  pub number_is : number ≡ number_of p.bounds side
  pub start_is : is_start ≡ starts p number

pub turn_first : (p : Cells) (s : Side) (marks : List Bool) (number : ℕ) → is_start (around p s.x s.y) s.heading ≡ true → number ≡ number_of p.bounds s → AtTurn p s marks marks s number true []
turn_first p s marks number h e = record {
  way = trace_first p s marks h;
  one = start_is_side p s h;
  number_is = e;
  start_is = sym (ap (starts p) e ∙ start_numbered p s h);
}

-- the mark that the side at a corner makes closes its start
turn_closes : (p : Cells) (start s : Side) (old mid : List Bool) (number : ℕ) (is_start : Bool) (found : List Corner) → AtTurn p start old mid s number is_start found → length mid * 4 ≡ side_count p.bounds → Closes (next_number p) (number_of p.bounds s) 1 (free_start (starts p) mid) (free_start (starts p) (passed number is_start mid))
turn_closes p start s old mid number is_start found w size =
    let small : number < length mid * 4 = omega (arith, size, w.number_is, number_below p.bounds s (point_of p s w.one)) in
    let P : ℕ → Type 0 = λ k. Closes (next_number p) k 1 (free_start (starts p) mid) (free_start (starts p) (passed number is_start mid)) in
    subst P w.number_is (closes_passed (starts p) (next_number p) mid number is_start (plane_placed p) w.start_is small)

pub turn_more : (p : Cells) (start s t : Side) (old mid new : List Bool) (number after : ℕ) (is_start : Bool) (starts_too : Bool) (found : List Corner) (corner : Corner) → StartsAt p start → AtTurn p start old mid s number is_start found → length mid * 4 ≡ side_count p.bounds → new ≡ passed number is_start mid → corner ≡ start_of s → RunsTo p s t → starts_too ≡ (rises t.heading && not (rises s.heading)) → after ≡ number_of p.bounds t → after ≢ number_of p.bounds start → AtTurn p start old new t after starts_too (found ++ corner ∷ [])
turn_more p start s t old mid new number after is_start starts_too found corner h w size m c r e n away =
    let there : is_side p t ≡ true = run_stands p s t w.one r in
    let M : List Bool → Type 0 = λ ms. OnLoop p (number_of p.bounds start) old ms t (found ++ corner ∷ []) in
    let C : Corner → Type 0 = λ z. OnLoop p (number_of p.bounds start) old (passed number is_start mid) t (found ++ z ∷ []) in
    record {
      way = subst M (sym m) (subst C (sym c) (loop_more p (number_of p.bounds start) old mid (passed number is_start mid) s t found (start_numbered p start h) w.way r (turn_closes p start s old mid number is_start found w size) (λ same. away (n ∙ same))));
      one = there;
      number_is = n;
      start_is = e ∙ sym (ap (starts p) n ∙ starts_number p t there ∙ run_start p s t w.one r);
    }

pub turn_back : (p : Cells) (start s t : Side) (old mid new : List Bool) (number after : ℕ) (is_start : Bool) (found : List Corner) (corner : Corner) → StartsAt p start → AtTurn p start old mid s number is_start found → length mid * 4 ≡ side_count p.bounds → new ≡ passed number is_start mid → corner ≡ start_of s → RunsTo p s t → after ≡ number_of p.bounds t → after ≡ number_of p.bounds start → LoopTraced p (number_of p.bounds start) old new (found ++ corner ∷ [])
turn_back p start s t old mid new number after is_start found corner h w size m c r n back =
    let M : List Bool → Type 0 = λ ms. LoopTraced p (number_of p.bounds start) old ms (found ++ corner ∷ []) in
    let C : Corner → Type 0 = λ z. LoopTraced p (number_of p.bounds start) old (passed number is_start mid) (found ++ z ∷ []) in
    subst M (sym m) (subst C (sym c) (loop_back p (number_of p.bounds start) old mid (passed number is_start mid) s t found (start_numbered p start h) w.way r (turn_closes p start s old mid number is_start found w size) (sym n ∙ back)))
