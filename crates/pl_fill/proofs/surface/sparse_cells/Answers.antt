use Rattle.std.proofs.Common.{◌≡◌, ℕ, ◌+◌, ◌-◌, ◌<◌, ◌≤◌, ◌⊎◌, inl, inr, List, length, take, drop, ◌∙◌, ap, sym, subst, arith}
use Rattle.std.specs.List.{All}
use Rattle.std.proofs.lemmas.List.Elements.{All-take, All-drop}
use Rattle.std.proofs.lemmas.Result.{IfOk-weaker}
use Rattle.pl_grid.specs.Extent.{Extent}
use Rattle.pl_grid.specs.Planes.{Cells, empty_plane, plane_of}
use Rattle.pl_fill.proofs.SurfaceLemmas.{kept_test, sparse_none, sparse_some}
use Rattle.pl_fill.proofs.surface.sparse_cells.Goals as goal
use Rattle.pl_fill.proofs.surface.sparse_cells.Goals.{then-k-bottom-via-then-k-bottom, then-k-bottom-via-else-k-bottom+then-slices-k}

pub returns-then-k-bottom : goal.returns-then-k-bottom
returns-then-k-bottom c =
    let past : (c.args.k < c.args.bottom) ⊎ (length c.args.slices.now ≤ c.args.k + c.args.top) = elim c.then-k-bottom.branch [
      | then-k-bottom-via-then-k-bottom w ↦ inl (omega arith)
      | then-k-bottom-via-else-k-bottom+then-slices-k w ↦ inr (omega arith)
    ] in
    IfOk-weaker c.empty.result _ _ (λ p e. e ∙ ap empty_plane c.bounds.ensures.value ∙ sparse_none c.args.slices.now c.args.inner.now c.args.k c.args.top c.args.bottom c.requires.layer past) c.empty.ensures

counted_down : (k bottom : ℕ) → bottom ≤ k → k - (k - bottom) ≡ bottom
counted_down k bottom fits = omega arith

counted_up : (k top : ℕ) → k + 1 + top - (k + 1) ≡ top
counted_up k top = omega arith

pub common-requires-2 : goal.common-requires-2
common-requires-2 c =
    let low : List Cells = take (c.args.k - (c.args.k - c.args.bottom)) (drop (c.args.k - c.args.bottom) c.args.slices.now) in
    let below : c.in_ok-below.below ≡ plane_of c.args.inner.now.bounds (kept_test c.args.inner.now low) = c.in_ok-below.ensures ∙ ap (λ q. plane_of q.bounds (kept_test q low)) c.in_ok-cells.ensures in
    let B : Extent → Type 0 = λ b. All (λ p. p.bounds ≡ b) (take (c.args.k + 1 + c.args.top - (c.args.k + 1)) (drop (c.args.k + 1) c.args.slices.now)) in
    subst B (sym (ap (λ (q : Cells). q.bounds) below))
    (All-take (λ p. p.bounds ≡ c.args.inner.now.bounds) (c.args.k + 1 + c.args.top - (c.args.k + 1)) (drop (c.args.k + 1) c.args.slices.now)
    (All-drop (λ p. p.bounds ≡ c.args.inner.now.bounds) (c.args.k + 1) c.args.slices.now c.requires.boxes))

pub returns : goal.returns
returns c =
    let fits : c.args.bottom ≤ c.args.k = omega arith in
    let short : c.args.k + c.args.top < length c.args.slices.now = omega arith in
    let low : List Cells = take (c.args.k - (c.args.k - c.args.bottom)) (drop (c.args.k - c.args.bottom) c.args.slices.now) in
    let below : c.in_ok-below.below ≡ plane_of c.args.inner.now.bounds (kept_test c.args.inner.now low) = c.in_ok-below.ensures ∙ ap (λ q. plane_of q.bounds (kept_test q low)) c.in_ok-cells.ensures in
    IfOk-weaker c.common-2.result _ _ (λ p e.
    e
    ∙ sparse_some c.args.slices.now c.args.inner.now c.in_ok-below.below c.args.k c.args.top c.args.bottom low _ fits short
    (ap (λ n. take n (drop (c.args.k - c.args.bottom) c.args.slices.now)) (counted_down c.args.k c.args.bottom fits))
    (ap (λ n. take n (drop (c.args.k + 1) c.args.slices.now)) (counted_up c.args.k c.args.top))
    below) c.common-2.ensures
