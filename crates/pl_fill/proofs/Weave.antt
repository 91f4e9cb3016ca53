-- The strokes of a plane, line by line.
use Rattle.std.proofs.Common.{◌≡◌, ℕ, pos, ◌+ℤ◌, ◌+◌, ◌-◌, ◌<◌, ◌≤◌, Bool, true, false, not, cond, suc, List, [], ◌∷◌, ◌++◌, length, map, refl, sym, ◌∙◌, ap, arith, append_assoc, append-nil}
use Rattle.std.specs.List.{range_with_len, filter}
use Rattle.pl_grid.specs.Planes.{Cells}
use Rattle.pl_grid.specs.Lines.{first_line, line_count, line_runs}
use Rattle.pl_grid.specs.Strokes.{is_used, stroke_of, to_and_fro, strokes_of}
use Rattle.pl_grid.specs.declared.stroke.Axis.{Axis}
use Rattle.pl_grid.specs.declared.stroke.Run.{Run}
use Rattle.pl_grid.specs.declared.stroke.Stroke.{Stroke}
use Rattle.pl_grid.proofs.RunLemmas.{lines_of_numbers}
use Rattle.pl_fill.specs.Turns.{used_runs, line_strokes}

abbrev runs_at : Axis → Cells → ℕ → List Run
runs_at axis p k = line_runs axis p (first_line axis p.bounds +ℤ pos k)

-- the strokes of n lines from the k-th on, if the next goes back or not
pub woven : Axis → ℕ → Cells → Bool → ℕ → ℕ → List Stroke
woven axis step p back k n = to_and_fro back (map (map (stroke_of axis)) (filter (is_used step) (map (runs_at axis p) (range_with_len k n))))

-- what was written and what is still to come
pub record Woven (axis : Axis) (step : ℕ) (p : Cells) (out : List Stroke) (back : Bool) (k : ℕ) : Type 0 where
  pub rest : out ++ woven axis step p back k (line_count axis p.bounds - k) ≡ strokes_of axis step p
  pub within : k ≤ line_count axis p.bounds

no_less : (n : ℕ) → n - 0 ≡ n
no_less n = omega arith

left_one : (n at : ℕ) → at < n → n - at ≡ suc (n - (at + 1))
left_one n at less = omega arith

pub woven_none : (axis : Axis) (step : ℕ) (p : Cells) (out : List Stroke) → out ≡ [] → Woven axis step p out false 0
unfolding woven
woven_none axis step p out e = record {
  rest =
      ap (λ xs. xs ++ woven axis step p false 0 (line_count axis p.bounds - 0)) e
      ∙ ap (woven axis step p false 0) (no_less (line_count axis p.bounds))
      ∙ ap (λ lines. to_and_fro false (map (map (stroke_of axis)) (filter (is_used step) lines))) (sym (lines_of_numbers axis p));
  within = omega arith;
}

pub woven_all : (axis : Axis) (step : ℕ) (p : Cells) (out : List Stroke) (back : Bool) (k : ℕ) → Woven axis step p out back k → k ≡ line_count axis p.bounds → out ≡ strokes_of axis step p
unfolding woven
woven_all axis step p out back k w last =
    let none : line_count axis p.bounds - k ≡ 0 = omega arith in
    sym (append-nil out) ∙ ap (λ n. out ++ woven axis step p back k n) (sym none) ∙ w.rest

-- ---- one line more

unused_line : (axis : Axis) (step : ℕ) (p : Cells) (back : Bool) (k n : ℕ) → is_used step (runs_at axis p k) ≡ false → woven axis step p back k (suc n) ≡ woven axis step p back (k + 1) n
unfolding woven
unused_line axis step p back k n e = rw e refl

used_line : (axis : Axis) (step : ℕ) (p : Cells) (back : Bool) (k n : ℕ) → is_used step (runs_at axis p k) ≡ true → woven axis step p back k (suc n) ≡ line_strokes axis back (runs_at axis p k) ++ woven axis step p (not back) (k + 1) n
unfolding woven
used_line axis step p back k n e = rw e refl

chosen_none : (used : Bool) (first : Run) (others runs : List Run) → runs ≡ cond used (first ∷ others) [] → length runs ≡ 0 → used ≡ false
chosen_none true first others runs e none = absurd (omega (arith, ap length e))
chosen_none false first others runs e none = refl

is_unused : (step : ℕ) (line runs : List Run) → runs ≡ used_runs step line → length runs ≡ 0 → is_used step line ≡ false
is_unused step [] runs e none = refl
is_unused step (first ∷ others) runs e none = chosen_none (is_used step (first ∷ others)) first others runs e none

chosen_some : (used : Bool) (line runs : List Run) → runs ≡ cond used line [] → 0 < length runs → (used ≡ true) × (runs ≡ line)
chosen_some true line runs e some = (refl, e)
chosen_some false line runs e some = absurd (omega (arith, ap length e))

pub woven_skip : (axis : Axis) (step : ℕ) (p : Cells) (out : List Stroke) (back : Bool) (k : ℕ) (runs : List Run) → Woven axis step p out back k → k < line_count axis p.bounds → runs ≡ used_runs step (runs_at axis p k) → length runs ≡ 0 → Woven axis step p out back (k + 1)
woven_skip axis step p out back k runs w less is none =
    let n : ℕ = line_count axis p.bounds - (k + 1) in
    record {
      rest =
          ap (λ xs. out ++ xs) (sym (ap (woven axis step p back k) (left_one (line_count axis p.bounds) k less) ∙ unused_line axis step p back k n (is_unused step (runs_at axis p k) runs is none)))
          ∙ w.rest;
      within = omega arith;
    }

pub woven_line : (axis : Axis) (step : ℕ) (p : Cells) (out new : List Stroke) (back : Bool) (k : ℕ) (runs : List Run) → Woven axis step p out back k → k < line_count axis p.bounds → runs ≡ used_runs step (runs_at axis p k) → 0 < length runs → new ≡ out ++ line_strokes axis back runs → Woven axis step p new (not back) (k + 1)
woven_line axis step p out new back k runs w less is some more =
    let n : ℕ = line_count axis p.bounds - (k + 1) in
    let tail : List Stroke = woven axis step p (not back) (k + 1) n in
    let chosen = chosen_some (is_used step (runs_at axis p k)) (runs_at axis p k) runs is some in
    record {
      rest =
          ap (λ xs. xs ++ tail) (more ∙ ap (λ rs. out ++ line_strokes axis back rs) chosen.1)
          ∙ append_assoc out (line_strokes axis back (runs_at axis p k)) tail
          ∙ ap (λ xs. out ++ xs) (sym (ap (woven axis step p back k) (left_one (line_count axis p.bounds) k less) ∙ used_line axis step p back k n chosen.0))
          ∙ w.rest;
      within = omega arith;
    }
