-- The steps of the two passes.
use Rattle.std.proofs.Common.{◌≡◌, ℕ, ◌+◌, ◌-◌, ◌*◌, ◌<◌, Bool, true, false, min, List, [], ◌∷◌, ◌++◌, length, refl, sym, ap, ◌∙◌, subst, arith}
use Rattle.pl_grid.specs.Planes.{Cells}
use Rattle.pl_grid.specs.Strokes.{strokes_of}
use Rattle.pl_grid.specs.declared.stroke.Stroke.{Stroke}
use Rattle.pl_fill.specs.Layers.{layer_axis}
use Rattle.pl_support.specs.Support.{covered_below, support_at, support_of}
use Rattle.pl_steps.specs.Layers.{each}
use Rattle.pl_steps.proofs.Each.{each_more}
use Rattle.pl_batches.specs.Passes.{AfterSteps, from_top, strokes_at}

pub passes_none : (slices : List Cells) (covered : Cells) → covered ≡ covered_below slices 0 → AfterSteps slices 0 [] [] [] covered
passes_none slices covered none =
    let least : min 0 (length slices) ≡ 0 = omega arith in
    let low : 0 - length slices ≡ 0 = omega arith in
    record {
      down = ap (λ m. each m (from_top (length slices) (support_at true false slices))) (sym least);
      up = ap (λ m. each m (support_at true true slices)) (sym low);
      along = ap (λ m. each m (strokes_at (support_at true true slices))) (sym low);
      under = none ∙ ap (covered_below slices) (sym low);
    }

-- one layer down
pub passes_down : (slices : List Cells) (step : ℕ) (found more cells : List Cells) (strokes : List (List Stroke)) (covered plane : Cells) → step < length slices → AfterSteps slices step found cells strokes covered
    → plane ≡ from_top (length slices) (support_at true false slices) (length found) → length found ≡ step → more ≡ found ++ plane ∷ [] → AfterSteps slices (step + 1) more cells strokes covered
passes_down slices step found more cells strokes covered plane less w is long push =
    let layer = from_top (length slices) (support_at true false slices) in
    let here : min step (length slices) ≡ step = omega arith in
    let next : step + 1 ≡ min (step + 1) (length slices) = omega arith in
    let low : step - length slices ≡ step + 1 - length slices = omega arith in
    record {
      down = each_more step layer found more plane (w.down ∙ ap (λ m. each m layer) here) (is ∙ ap layer long) push ∙ ap (λ m. each m layer) next;
      up = w.up ∙ ap (λ m. each m (support_at true true slices)) low;
      along = w.along ∙ ap (λ m. each m (strokes_at (support_at true true slices))) low;
      under = w.under ∙ ap (covered_below slices) low;
    }

-- one layer up
pub passes_up : (slices : List Cells) (k : ℕ) (found cells more : List Cells) (strokes longer : List (List Stroke)) (covered next plane : Cells) → k < length slices → AfterSteps slices (length slices + k) found cells strokes covered
    → plane ≡ support_at true true slices k → more ≡ cells ++ plane ∷ [] → longer ≡ strokes ++ strokes_of (layer_axis k) 2 plane ∷ [] → next ≡ covered_below slices (k + 1) → AfterSteps slices (length slices + k + 1) found more longer next
passes_up slices k found cells more strokes longer covered next plane less w is push push_strokes is_next =
    let n = length slices in
    let whole : min (length slices + k) (length slices) ≡ min (length slices + k + 1) (length slices) = omega arith in
    let here : length slices + k - length slices ≡ k = omega arith in
    let after : k + 1 ≡ length slices + k + 1 - length slices = omega arith in
    let kept = support_at true true slices in
    record {
      down = w.down ∙ ap (λ m. each m (from_top n (support_at true false slices))) whole;
      up = each_more k kept cells more plane (w.up ∙ ap (λ m. each m kept) here) is push ∙ ap (λ m. each m kept) after;
      along = each_more k (strokes_at kept) strokes longer (strokes_of (layer_axis k) 2 plane) (w.along ∙ ap (λ m. each m (strokes_at kept)) here) (ap (strokes_of (layer_axis k) 2) is) push_strokes ∙ ap (λ m. each m (strokes_at kept)) after;
      under = is_next ∙ ap (covered_below slices) after;
    }

-- what is found, kept and covered before layer k on the way up
pub found_there : (slices : List Cells) (k : ℕ) (found cells : List Cells) (strokes : List (List Stroke)) (covered : Cells) → AfterSteps slices (length slices + k) found cells strokes covered → found ≡ each (length slices) (from_top (length slices) (support_at true false slices))
found_there slices k found cells strokes covered w =
    let whole : min (length slices + k) (length slices) ≡ length slices = omega arith in
    w.down ∙ ap (λ m. each m (from_top (length slices) (support_at true false slices))) whole

pub covered_there : (slices : List Cells) (k : ℕ) (found cells : List Cells) (strokes : List (List Stroke)) (covered : Cells) → AfterSteps slices (length slices + k) found cells strokes covered → covered ≡ covered_below slices k
covered_there slices k found cells strokes covered w =
    let here : length slices + k - length slices ≡ k = omega arith in
    w.under ∙ ap (covered_below slices) here

pub found_below : (slices : List Cells) (step : ℕ) (found cells : List Cells) (strokes : List (List Stroke)) (covered : Cells) → step < length slices → AfterSteps slices step found cells strokes covered → found ≡ each step (from_top (length slices) (support_at true false slices))
found_below slices step found cells strokes covered less w =
    let here : min step (length slices) ≡ step = omega arith in
    w.down ∙ ap (λ m. each m (from_top (length slices) (support_at true false slices))) here

-- all steps
pub passes_all : (slices : List Cells) (found cells : List Cells) (strokes : List (List Stroke)) (covered : Cells) → AfterSteps slices (2 * length slices) found cells strokes covered
    → (cells ≡ each (length slices) (support_at true true slices)) × (strokes ≡ each (length slices) (strokes_at (support_at true true slices)))
passes_all slices found cells strokes covered w =
    let all : 2 * length slices - length slices ≡ length slices = omega arith in
    (w.up ∙ ap (λ m. each m (support_at true true slices)) all, w.along ∙ ap (λ m. each m (strokes_at (support_at true true slices))) all)

-- no support is none of any kind
pub no_support : (on plate_only : Bool) (given slices : List Cells) → on ≡ false → given ≡ slices → support_of false false given ≡ support_of on plate_only slices
no_support on plate_only given slices off same = ap (support_of false false) same ∙ ap (λ any. support_of any plate_only slices) (sym off)
