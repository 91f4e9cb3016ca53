use Rattle.std.proofs.Common.{◌≡◌, ◌<◌, ◌==◌, ◌++◌, ℕ, true, false, ◌∙◌, sym, ap, subst, length, arith}
use Rattle.std.proofs.lemmas.Bool.Decides.{nat_tests}
use Rattle.std.specs.List.{All}
use Rattle.pl_grid.specs.NearStrokes.{IsNearStroke}
use Rattle.pl_grid.proofs.StrokeBounds.{near_strokes}
use Rattle.pl_grid.specs.Lines.{line_count}
use Rattle.pl_fill.specs.Turns.{line_strokes}
use Rattle.pl_fill.proofs.Weave.{woven_none, woven_skip, woven_line, woven_all}
use Rattle.pl_fill.proofs.filling.strokes_by_rows.Goals as goal

is_zero_length : (n m : ℕ) → (n == 0) ≡ true → n ≡ m → m ≡ 0
is_zero_length n m e same = grind (arith, nat_tests)

is_some_length : (n m : ℕ) → (n == 0) ≡ false → n ≡ m → 0 < m
is_some_length n m e same = grind (arith, nat_tests)

pub loop-number-init : goal.loop-number-init
loop-number-init c = woven_none c.args.along c.args.step c.args.plane.now _ c.new-strokes.ensures.items

pub loop-number-preserved-then-is_empty : goal.loop-number-preserved-then-is_empty
loop-number-preserved-then-is_empty c =
    let count : c.line_count-number-end.result ≡ line_count c.args.along c.args.plane.now.bounds = c.line_count-number-end.ensures ∙ ap (line_count c.args.along) c.bounds.ensures.value in
    let less : c.loop-number.number < line_count c.args.along c.args.plane.now.bounds = omega arith in
    let none : length c.in_ok-runs.runs.items ≡ 0 = is_zero_length _ _ (sym c.is_empty.ensures ∙ c.if-is_empty.true) c.in_ok-runs.runs.ok.0 in
    woven_skip c.args.along c.args.step c.args.plane.now _ _ c.loop-number.number c.in_ok-runs.runs.items c.loop-number.invariant less c.in_ok-runs.ensures.runs none

pub loop-number-preserved : goal.loop-number-preserved
loop-number-preserved c =
    let count : c.line_count-number-end.result ≡ line_count c.args.along c.args.plane.now.bounds = c.line_count-number-end.ensures ∙ ap (line_count c.args.along) c.bounds.ensures.value in
    let less : c.loop-number.number < line_count c.args.along c.args.plane.now.bounds = omega arith in
    let some : 0 < length c.in_ok-runs.runs.items = is_some_length _ _ (sym c.is_empty.ensures ∙ c.if-is_empty.false) c.in_ok-runs.runs.ok.0 in
    woven_line c.args.along c.args.step c.args.plane.now _ _ _ c.loop-number.number c.in_ok-runs.runs.items c.loop-number.invariant less c.in_ok-runs.ensures.runs some (c.in_ok-put_line.ensures ∙ ap (λ runs. c.loop-number.strokes.items ++ line_strokes c.args.along c.loop-number.back runs) c.as_slice.ensures.value)

pub returns-clause-strokes : goal.returns-clause-strokes
returns-clause-strokes c =
    let count : c.line_count-number-end.result ≡ line_count c.args.along c.args.plane.now.bounds = c.line_count-number-end.ensures ∙ ap (line_count c.args.along) c.bounds.ensures.value in
    let last : c.loop-number.number ≡ c.line_count-number-end.result = omega arith in
    woven_all c.args.along c.args.step c.args.plane.now _ _ c.loop-number.number c.loop-number.invariant (last ∙ count)

pub returns-clause-near : goal.returns-clause-near
returns-clause-near c =
    let count : c.line_count-number-end.result ≡ line_count c.args.along c.args.plane.now.bounds = c.line_count-number-end.ensures ∙ ap (line_count c.args.along) c.bounds.ensures.value in
    let last : c.loop-number.number ≡ c.line_count-number-end.result = omega arith in
    let all = woven_all c.args.along c.args.step c.args.plane.now _ _ c.loop-number.number c.loop-number.invariant (last ∙ count) in
    subst (All IsNearStroke) (sym all) (near_strokes c.args.along c.args.step c.args.plane.now c.bounds.ensures.extent)
