-- Stretches of like cells of a row, and steps over them.
use Rattle.std.proofs.Common.{◌≡◌, ℤ, ℕ, zero, suc, pos, ◌+ℤ◌, ◌+◌, ◌-◌, ◌*◌, ◌/◌, ◌%◌, ◌<◌, ◌≤◌, Bool, false, refl, sym, ◌∙◌, ap, subst, arith}
use Rattle.std.specs.declared.option.Option.{Option}
use Rattle.std.proofs.lemmas.Nat.{div-mul-add, mod-mul-add, div-add-mod', div_below, mul-add-lt}
use Rattle.pl_grid.specs.Planes.{Cells, filled}
use Rattle.pl_adhesion.specs.declared.reach.Reach.{Reach}
use Rattle.pl_adhesion.proofs.Places.{IsPlace}
use Rattle.pl_adhesion.proofs.ReachLemmas.{Found, found_skip}
use Rattle.pl_adhesion.proofs.BedLemmas.{IsPut, put_skip}

-- the k-th cell is filled
abbrev pub cell_number : Cells → ℕ → Bool
cell_number p k = filled p (p.bounds.x0 +ℤ pos (k % p.bounds.cols)) (p.bounds.y0 +ℤ pos (k / p.bounds.cols))

-- ---- the numbers of a row's cells

pub later_column : (place k cols : ℕ) → place % cols + k < cols → (place + k) % cols ≡ place % cols + k
later_column place k cols less =
    ap (λ n. n % cols) (omega (arith, div-add-mod' place cols)) ∙ mod-mul-add (place / cols) cols (place % cols + k) less

pub later_row : (place k cols : ℕ) → place % cols + k < cols → (place + k) / cols ≡ place / cols
later_row place k cols less =
    ap (λ n. n / cols) (omega (arith, div-add-mod' place cols)) ∙ div-mul-add (place / cols) cols (place % cols + k) less

-- ---- many steps

step_by_step : (P : ℕ → Type 0) (k n : ℕ) → P k → ((j : ℕ) → j < n → P (k + j) → P (k + j + 1)) → P (k + n)
step_by_step P k zero here step = subst P (omega arith) here
step_by_step P k (suc n) here step =
    subst P (omega arith) (step n (omega arith) (step_by_step P k n here (λ j less. step j (omega arith))))

cell_of : (p : Cells) (k : ℕ) (x y : ℤ) → IsPlace p.bounds k x y → cell_number p k ≡ filled p x y
cell_of p k x y at = ap (λ z. filled p z (p.bounds.y0 +ℤ pos (k / p.bounds.cols))) (sym at.x_is) ∙ ap (λ z. filled p x z) (sym at.y_is)

-- empty cells change nothing in what is found
pub found_skip_all : (p : Cells) (k n : ℕ) (reach : Option Reach) (x y : ℤ) → Found p k reach → k + n ≤ p.bounds.cols * p.bounds.rows → IsPlace p.bounds k x y → filled p x y ≡ false → ((j : ℕ) → j < n → cell_number p (k + j) ≡ cell_number p k) → Found p (k + n) reach
found_skip_all p k n reach x y w within at empty alike =
    step_by_step (λ i. Found p i reach) k n w (λ j less f. found_skip p _ _ (k + j) reach f (omega arith) (record { x_is = refl; y_is = refl }) (alike j less ∙ cell_of p k x y at ∙ empty))

-- nor in what is put on the bed
pub put_skip_all : (bed cells : Cells) (dx dy : ℤ) (k n : ℕ) (now : Cells) (x y : ℤ) → IsPut bed cells dx dy k now → k + n ≤ cells.bounds.cols * cells.bounds.rows → IsPlace cells.bounds k x y → filled cells x y ≡ false → ((j : ℕ) → j < n → cell_number cells (k + j) ≡ cell_number cells k) → IsPut bed cells dx dy (k + n) now
put_skip_all bed cells dx dy k n now x y w within at empty alike =
    step_by_step (λ i. IsPut bed cells dx dy i now) k n w (λ j less f. put_skip bed cells dx dy (k + j) now _ _ f (omega arith) (record { x_is = refl; y_is = refl }) (alike j less ∙ cell_of cells k x y at ∙ empty))

-- ---- one stretch

pub stretch_alike : (p : Cells) (place n column : ℕ) (y : ℤ) → column ≡ place % p.bounds.cols → y ≡ p.bounds.y0 +ℤ pos (place / p.bounds.cols) → column + n ≤ p.bounds.cols
    → ((k : ℕ) → k < n → filled p (p.bounds.x0 +ℤ pos (column + k)) y ≡ filled p (p.bounds.x0 +ℤ pos column) y) → (k : ℕ) → k < n → cell_number p (place + k) ≡ cell_number p place
stretch_alike p place n column y ec ey within alike k less =
    let wide : place % p.bounds.cols + k < p.bounds.cols = omega (arith, ec, within, less) in
    ap (λ i. filled p (p.bounds.x0 +ℤ pos i) (p.bounds.y0 +ℤ pos ((place + k) / p.bounds.cols))) (later_column place k p.bounds.cols wide ∙ ap (λ m. m + k) (sym ec))
    ∙ ap (λ j. filled p (p.bounds.x0 +ℤ pos (column + k)) (p.bounds.y0 +ℤ pos j)) (later_row place k p.bounds.cols wide)
    ∙ ap (λ z. filled p (p.bounds.x0 +ℤ pos (column + k)) z) (sym ey)
    ∙ alike k less
    ∙ ap (λ z. filled p (p.bounds.x0 +ℤ pos column) z) ey
    ∙ ap (λ i. filled p (p.bounds.x0 +ℤ pos i) (p.bounds.y0 +ℤ pos (place / p.bounds.cols))) ec

pub stretch_within : (place n column cols rows : ℕ) → column ≡ place % cols → column + n ≤ cols → place < cols * rows → 0 < cols → place + n ≤ cols * rows
stretch_within place n column cols rows ec within less some =
    let row : place / cols < rows = div_below place cols rows some (omega arith) in
    omega (arith, div-add-mod' place cols, mul-add-lt (place / cols) cols (cols - 1) rows row (omega arith), ec, within)
