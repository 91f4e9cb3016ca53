-- The runs of one line, found from its first cell on.
use Rattle.std.proofs.Common.{◌≡◌, ℤ, ℕ, pos, ◌+ℤ◌, ◌+◌, ◌-◌, ◌<◌, ◌≤◌, Bool, true, false, zero, suc, List, [], ◌∷◌, ◌++◌, length, map, get_or, drop, refl, sym, ◌∙◌, ap, arith, append_assoc, append-nil, add-one, add-zero, zero-add, inl, inr, subst}
use Rattle.std.proofs.lemmas.List.{get_or-drop, get_or_past, length-drop}
use Rattle.std.proofs.lemmas.Grind.{common_steps, flat_map-append}
use Rattle.std.specs.List.{range_with_len, filter, prefix_len, flat_map}
use Rattle.std.proofs.lemmas.List.Sums.{prefix_len_passes, prefix_len_stops, prefix_len-drop_yes, prefix_len-le-length}
use Rattle.std.proofs.lemmas.List.FromFn.{get_or-map-range_with_len, length-map-range_with_len, map-range_with_len_more}
use Rattle.std.proofs.lemmas.Bool.{cases_lt}
use Rattle.pl_grid.specs.Planes.{Cells, filled}
use Rattle.pl_grid.specs.Strokes.{starts_run, run_from, runs_in, lines_of, runs_of}
use Rattle.pl_grid.specs.Lines.{filled_on, first_line, first_place, line_count, line_length, line_cells, line_runs, run_between}
use Rattle.pl_grid.specs.declared.stroke.Axis.{Axis}
use Rattle.pl_grid.specs.declared.stroke.Axis.TheVariants.{Rows, Columns}
use Rattle.pl_grid.specs.declared.stroke.Run.{Run}

-- ---- the cells of a line

pub length-line_cells : (axis : Axis) (p : Cells) (line : ℤ) → length (line_cells axis p line) ≡ line_length axis p.bounds
unfolding line_cells
length-line_cells axis p line = length-map-range_with_len (λ i. filled_on axis p line (first_place axis p.bounds +ℤ pos i)) 0 (line_length axis p.bounds)

pub get_or-line_cells : (axis : Axis) (p : Cells) (line : ℤ) (i : ℕ) → i < line_length axis p.bounds → get_or (line_cells axis p line) i false ≡ filled_on axis p line (first_place axis p.bounds +ℤ pos i)
unfolding line_cells
get_or-line_cells axis p line i less = get_or-map-range_with_len (λ k. filled_on axis p line (first_place axis p.bounds +ℤ pos k)) 0 (line_length axis p.bounds) i i false less (omega arith)

alike_row : (p : Cells) (line : ℤ) (number n : ℕ) → number + n ≤ p.bounds.cols → 0 < n → ((k : ℕ) → k < n → filled p (p.bounds.x0 +ℤ pos (number + k)) line ≡ filled p (p.bounds.x0 +ℤ pos number) line)
    → (k : ℕ) → number ≤ k → k < number + n → get_or (line_cells Rows p line) k false ≡ get_or (line_cells Rows p line) number false
alike_row p line number n within some h k low high =
    let place : k ≡ number + (k - number) = omega arith in
    get_or-line_cells Rows p line k (omega arith) ∙ ap (λ m. filled p (p.bounds.x0 +ℤ pos m) line) place ∙ h (k - number) (omega arith) ∙ sym (get_or-line_cells Rows p line number (omega arith))

-- cells of a row that are alike, as cells of a line along rows
pub alike_line : (axis : Axis) (p : Cells) (line : ℤ) (number n : ℕ) → axis ≡ Rows → number + n ≤ p.bounds.cols → 0 < n → ((k : ℕ) → k < n → filled p (p.bounds.x0 +ℤ pos (number + k)) line ≡ filled p (p.bounds.x0 +ℤ pos number) line)
    → (k : ℕ) → number ≤ k → k < number + n → get_or (line_cells axis p line) k false ≡ get_or (line_cells axis p line) number false
alike_line axis p line number n e within some h k low high = subst (λ (a : Axis). get_or (line_cells a p line) k false ≡ get_or (line_cells a p line) number false) (sym e) (alike_row p line number n within some h k low high)

-- ---- places where no run starts

skipped : (p : ℕ → Bool) (a n : ℕ) → p a ≡ false → filter p (range_with_len a (suc n)) ≡ filter p (range_with_len (a + 1) n)
skipped p a n e = rw e refl

suc-add : (m n : ℕ) → suc m + n ≡ suc (m + n)
suc-add m n = omega arith

all_skipped : (p : ℕ → Bool) (a m n : ℕ) → ((k : ℕ) → a ≤ k → k < a + m → p k ≡ false) → filter p (range_with_len a (m + n)) ≡ filter p (range_with_len (a + m) n)
all_skipped p a zero n h = simp (zero-add, add-zero)
all_skipped p a (suc m) n h =
    ap (λ k. filter p (range_with_len a k)) (suc-add m n)
    ∙ skipped p a (m + n) (h a (omega arith) (omega arith))
    ∙ all_skipped p (a + 1) m n (λ k low high. h k (omega arith) (omega arith))
    ∙ ap (λ k. filter p (range_with_len k n)) (omega arith)

-- a start is a filled cell after one that is not
starts_after : (cells : List Bool) (i : ℕ) → get_or cells i false ≡ false → starts_run cells (i + 1) ≡ get_or cells (i + 1) false
starts_after cells i e = rw add-one (grind (arith, common_steps))

starts_not_after : (cells : List Bool) (k i : ℕ) → k ≡ i + 1 → get_or cells i false ≡ true → starts_run cells k ≡ false
starts_not_after cells k i e h = rw (e, add-one) (grind (arith, common_steps))

starts_not_here : (cells : List Bool) (i : ℕ) → get_or cells i false ≡ false → starts_run cells i ≡ false
starts_not_here cells zero e = e
starts_not_here cells (suc i) e = grind (arith, common_steps)

kept : (p : ℕ → Bool) (a n : ℕ) → p a ≡ true → filter p (range_with_len a (suc n)) ≡ a ∷ filter p (range_with_len (a + 1) n)
kept p a n e = rw e refl

-- ---- where a run ends

pub record IsEnd (cells : List Bool) (at end : ℕ) : Type 0 where
  pub after : at < end
  pub within : end ≤ length cells
  pub filled : (k : ℕ) → at ≤ k → k < end → get_or cells k false ≡ true
  pub empty : get_or cells end false ≡ false

filled_before : (cells : List Bool) (at k : ℕ) → at ≤ k → k < at + prefix_len (λ b. b) (drop at cells) → get_or cells k false ≡ true
filled_before cells at k low high =
    let whole : at + (k - at) ≡ k = omega arith in
    sym (get_or-drop at cells (k - at) false ∙ ap (λ n. get_or cells n false) whole)
    ∙ prefix_len_passes (λ b. b) (drop at cells) (k - at) false (omega arith)

empty_at : (cells : List Bool) (at : ℕ) → at + prefix_len (λ b. b) (drop at cells) < length cells → get_or cells (at + prefix_len (λ b. b) (drop at cells)) false ≡ false
empty_at cells at less =
    sym (get_or-drop at cells (prefix_len (λ b. b) (drop at cells)) false)
    ∙ prefix_len_stops (λ b. b) (drop at cells) false (omega (arith, length-drop at cells))

empty_end : (cells : List Bool) (at : ℕ) → get_or cells (at + prefix_len (λ b. b) (drop at cells)) false ≡ false
empty_end cells at = elim (cases_lt (at + prefix_len (λ b. b) (drop at cells)) (length cells)) [ inl less ↦ empty_at cells at less | inr past ↦ get_or_past cells _ false past ]

IsEnd-run : (cells : List Bool) (at end : ℕ) → at < length cells → get_or cells at false ≡ true → end ≡ at + prefix_len (λ b. b) (drop at cells) → IsEnd cells at end
IsEnd-run cells at end less here last = record {
  after = omega (arith, prefix_len-drop_yes (λ b. b) cells at false less here);
  within = omega (arith, prefix_len-le-length (λ b. b) (drop at cells), length-drop at cells);
  filled = λ k low high. filled_before cells at k low (omega arith);
  empty = ap (λ n. get_or cells n false) last ∙ empty_end cells at;
}

no_less : (n : ℕ) → n - 0 ≡ n
no_less n = omega arith

left_one : (n at : ℕ) → at < n → n - at ≡ suc (n - (at + 1))
left_one n at less = omega arith

-- ---- the scan: the runs that start at a place or after it are still to come
pub record Scanned (line low : ℤ) (cells : List Bool) (old out : List Run) (at : ℕ) : Type 0 where
  pub rest : out ++ map (run_from line low cells) (filter (starts_run cells) (range_with_len at (length cells - at))) ≡ old ++ runs_in line low cells
  pub free : starts_run cells at ≡ get_or cells at false
  pub within : at ≤ length cells

pub scanned_none : (line low : ℤ) (cells : List Bool) (old : List Run) → Scanned line low cells old old 0
scanned_none line low cells old = record { rest = ap (λ n. old ++ map (run_from line low cells) (filter (starts_run cells) (range_with_len 0 n))) (no_less (length cells)); free = refl; within = omega arith }

pub scanned_empty : (line low : ℤ) (cells : List Bool) (old out : List Run) (at : ℕ) → Scanned line low cells old out at → at < length cells → get_or cells at false ≡ false → Scanned line low cells old out (at + 1)
scanned_empty line low cells old out at s less e = record {
  rest =
      ap (λ starts. out ++ map (run_from line low cells) starts) (sym (ap (λ n. filter (starts_run cells) (range_with_len at n)) (left_one (length cells) at less) ∙ skipped (starts_run cells) at (length cells - (at + 1)) (starts_not_here cells at e)))
      ∙ s.rest;
  free = starts_after cells at e;
  within = omega arith;
}

-- several empty cells
pub scanned_skip : (line low : ℤ) (cells : List Bool) (old out : List Run) (at n : ℕ) → Scanned line low cells old out at → at + n ≤ length cells → ((k : ℕ) → at ≤ k → k < at + n → get_or cells k false ≡ false) → Scanned line low cells old out (at + n)
scanned_skip line low cells old out at zero s within h = subst (Scanned line low cells old out) (sym (add-zero at)) s
scanned_skip line low cells old out at (suc n) s within h =
    let next : at + n + 1 ≡ at + suc n = omega arith in
    subst (Scanned line low cells old out) next
    (scanned_empty line low cells old out (at + n) (scanned_skip line low cells old out at n s (omega arith) (λ k from to. h k from (omega arith))) (omega arith) (h (at + n) (omega arith) (omega arith)))

-- several filled cells
pub filled_more : (cells : List Bool) (at n : ℕ) → at + n ≤ length cells → ((k : ℕ) → at ≤ k → k < at + n → get_or cells k false ≡ true) → at + n + prefix_len (λ b. b) (drop (at + n) cells) ≡ at + prefix_len (λ b. b) (drop at cells)
filled_more cells at zero within h = ap (λ k. k + prefix_len (λ b. b) (drop k cells)) (add-zero at)
filled_more cells at (suc n) within h =
    let next : at + suc n ≡ at + n + 1 = omega arith in
    ap (λ k. k + prefix_len (λ b. b) (drop k cells)) next
    ∙ omega (arith, prefix_len-drop_yes (λ b. b) cells (at + n) false (omega arith) (h (at + n) (omega arith) (omega arith)), filled_more cells at n (omega arith) (λ k from to. h k from (omega arith)))

-- the run of the starts at a place: its cells are one line of filled ones, and none of the others starts a run
starts_of_run : (cells : List Bool) (at end : ℕ) → starts_run cells at ≡ true → IsEnd cells at end → filter (starts_run cells) (range_with_len at (length cells - at)) ≡ at ∷ filter (starts_run cells) (range_with_len end (length cells - end))
starts_of_run cells at end start e =
    let count : length cells - at ≡ suc ((end - (at + 1)) + (length cells - end)) = omega (arith, e.after, e.within) in
    ap (λ n. filter (starts_run cells) (range_with_len at n)) count
    ∙ kept (starts_run cells) at ((end - (at + 1)) + (length cells - end)) start
    ∙ ap (λ xs. at ∷ xs) (all_skipped (starts_run cells) (at + 1) (end - (at + 1)) (length cells - end) (λ k low high. starts_not_after cells k (k - 1) (omega arith) (e.filled (k - 1) (omega arith) (omega arith))))
    ∙ ap (λ n. at ∷ filter (starts_run cells) (range_with_len n (length cells - end))) (omega (arith, e.after))

run_is : (line low : ℤ) (cells : List Bool) (at end : ℕ) → end ≡ at + prefix_len (λ b. b) (drop at cells) → run_between line low at end ≡ run_from line low cells at
run_is line low cells at end e = ap (λ n. run_between line low at n) e

pub scanned_run : (line low : ℤ) (cells : List Bool) (old out new : List Run) (at end : ℕ) (run : Run) → Scanned line low cells old out at → at < length cells → get_or cells at false ≡ true → end ≡ at + prefix_len (λ b. b) (drop at cells) → run ≡ run_between line low at end → new ≡ out ++ run ∷ [] → Scanned line low cells old new end
scanned_run line low cells old out new at end run s less here last is more =
    let e = IsEnd-run cells at end less here last in
    let tail : List Run = map (run_from line low cells) (filter (starts_run cells) (range_with_len end (length cells - end))) in
    record {
      rest =
          ap (λ xs. xs ++ tail) more
          ∙ append_assoc out (run ∷ []) tail
          ∙ ap (λ r. out ++ r ∷ tail) (is ∙ run_is line low cells at end last)
          ∙ ap (λ starts. out ++ map (run_from line low cells) starts) (sym (starts_of_run cells at end (s.free ∙ here) e))
          ∙ s.rest;
      free = starts_not_here cells end e.empty ∙ sym e.empty;
      within = e.within;
    }

pub scanned_all : (line low : ℤ) (cells : List Bool) (old out : List Run) (at : ℕ) → Scanned line low cells old out at → length cells ≤ at → out ≡ old ++ runs_in line low cells
scanned_all line low cells old out at s all =
    let none : length cells - at ≡ 0 = omega arith in
    sym (append-nil out) ∙ ap (λ n. out ++ map (run_from line low cells) (filter (starts_run cells) (range_with_len at n))) (sym none) ∙ s.rest

-- a run ends within its line
pub run_within : (cells : List Bool) (at end : ℕ) → at < length cells → end ≡ at + prefix_len (λ b. b) (drop at cells) → end ≤ length cells
run_within cells at end less last = omega (arith, prefix_len-le-length (λ b. b) (drop at cells), length-drop at cells)

-- ---- the runs of all lines

abbrev numbered_runs : Axis → Cells → ℕ → List Run
numbered_runs axis p k = line_runs axis p (first_line axis p.bounds +ℤ pos k)

-- the runs of the lines whose number is below k
pub runs_before : Axis → Cells → ℕ → List Run
runs_before axis p k = flat_map (λ runs. runs) (map (numbered_runs axis p) (range_with_len 0 k))

pub runs_none : (axis : Axis) (p : Cells) → [] ≡ runs_before axis p 0
unfolding runs_before
runs_none axis p = refl

pub runs_more : (axis : Axis) (p : Cells) (k : ℕ) (line : ℤ) (old new : List Run) → old ≡ runs_before axis p k → line ≡ first_line axis p.bounds +ℤ pos k → new ≡ old ++ line_runs axis p line → new ≡ runs_before axis p (k + 1)
unfolding runs_before
runs_more axis p k line old new before here more =
    more
    ∙ ap (λ xs. xs ++ line_runs axis p line) before
    ∙ ap (λ z. runs_before axis p k ++ line_runs axis p z) here
    ∙ sym (ap (flat_map (λ runs. runs)) (map-range_with_len_more (numbered_runs axis p) 0 k k (omega arith))
    ∙ flat_map-append (λ runs. runs) (map (numbered_runs axis p) (range_with_len 0 k)) (numbered_runs axis p k ∷ [])
    ∙ ap (λ xs. runs_before axis p k ++ xs) (append-nil (numbered_runs axis p k)))

pub lines_of_numbers : (axis : Axis) (p : Cells) → lines_of axis p ≡ map (numbered_runs axis p) (range_with_len 0 (line_count axis p.bounds))
unfolding line_cells
lines_of_numbers Rows p = refl
lines_of_numbers Columns p = refl

pub runs_all : (axis : Axis) (p : Cells) (k : ℕ) (all : List Run) → k ≡ line_count axis p.bounds → all ≡ runs_before axis p k → all ≡ runs_of axis p
unfolding runs_before
runs_all axis p k all last e = e ∙ ap (runs_before axis p) last ∙ sym (ap (flat_map (λ runs. runs)) (lines_of_numbers axis p))
