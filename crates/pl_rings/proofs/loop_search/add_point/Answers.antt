use Rattle.std.proofs.Common.{◌≡◌, ℕ, ℤ, ◌<◌, ◌+◌, ◌*◌, length, arith, refl, sym, ◌∙◌, ap, to_z, of_z, w32}
use Rattle.pl_grid.specs.Extent.{Extent}
use Rattle.pl_grid.specs.Planes.{Cells}
use Rattle.pl_rings.specs.Cycles.{is_marked}
use Rattle.pl_rings.proofs.LoopSearch.{IsAt, is_at, place_in, place_small, row_marked, row_more, row_none, side_starts}
use Rattle.pl_rings.proofs.Tracing.{mark_read}
use Rattle.pl_rings.proofs.loop_search.add_point.Goals as goal

pub returns-in-None : goal.returns-in-None
returns-in-None c =
    let p : Cells = c.args.plane.now in
    let row : ℕ = c.args.row in
    let column : ℕ = c.args.column in
    let x : ℤ = to_z w32 (of_z w32 c.column_x-x.result) in
    let y : ℤ = to_z w32 (of_z w32 c.row_y-y.result) in
    let at : IsAt p row column x y =
    is_at p c.bounds-bounds.result row column p.bounds.cols c.column_x-x.result c.row_y-y.result c.bounds-bounds.ensures.value refl c.requires.column c.requires.row c.column_x-x.ensures.value c.column_x-x.ensures.low c.column_x-x.ensures.high c.row_y-y.ensures.value c.row_y-y.ensures.low c.row_y-y.ensures.high in
    row_none p row column x y c.args.found.now.items c.args.marks.now.items c.requires.before at c.in-None.ensures

pub returns-then-index : goal.returns-then-index
returns-then-index c =
    let p : Cells = c.args.plane.now in
    let row : ℕ = c.args.row in
    let column : ℕ = c.args.column in
    let x : ℤ = to_z w32 (of_z w32 c.column_x-x.result) in
    let y : ℤ = to_z w32 (of_z w32 c.row_y-y.result) in
    let at : IsAt p row column x y =
    is_at p c.bounds-bounds.result row column p.bounds.cols c.column_x-x.result c.row_y-y.result c.bounds-bounds.ensures.value refl c.requires.column c.requires.row c.column_x-x.ensures.value c.column_x-x.ensures.low c.column_x-x.ensures.high c.row_y-y.ensures.value c.row_y-y.ensures.low c.row_y-y.ensures.high in
    let cols : c.bounds.inside.cols ≡ p.bounds.cols = ap (λ (b : Extent). b.cols) (c.bounds.view_is ∙ c.bounds-bounds.ensures.value) in
    let place : row * (c.bounds.inside.cols + 1) + column ≡ place_in p.bounds row column = ap (λ n. row * (n + 1) + column) cols in
    let small : place_in p.bounds row column < length c.args.marks.now.items = place_small p row column c.args.found.now.items c.args.marks.now.items c.requires.before at.wide at.high in
    let small' : row * (c.bounds.inside.cols + 1) + column < length c.args.marks.now.items = omega (arith, small, place) in
    let mark : is_marked c.args.marks.now.items (place_in p.bounds row column) ≡ c.index.result.now =
    ap (is_marked c.args.marks.now.items) (sym place) ∙ mark_read c.args.marks.now.items (row * (c.bounds.inside.cols + 1) + column) c.index.result.now small' c.index.ensures in
    row_marked p row column c.args.found.now.items c.args.marks.now.items c.requires.before (mark ∙ c.if-index.true)

pub trace-requires-clause-start : goal.trace-requires-clause-start
trace-requires-clause-start c =
    let p : Cells = c.args.plane.now in
    let row : ℕ = c.args.row in
    let column : ℕ = c.args.column in
    let x : ℤ = to_z w32 (of_z w32 c.column_x-x.result) in
    let y : ℤ = to_z w32 (of_z w32 c.row_y-y.result) in
    let at : IsAt p row column x y =
    is_at p c.bounds-bounds.result row column p.bounds.cols c.column_x-x.result c.row_y-y.result c.bounds-bounds.ensures.value refl c.requires.column c.requires.row c.column_x-x.ensures.value c.column_x-x.ensures.low c.column_x-x.ensures.high c.row_y-y.ensures.value c.row_y-y.ensures.low c.row_y-y.ensures.high in
    side_starts p row column x y c.in-Some.heading at c.in-Some.ensures

pub returns : goal.returns
returns c =
    let p : Cells = c.args.plane.now in
    let row : ℕ = c.args.row in
    let column : ℕ = c.args.column in
    let x : ℤ = to_z w32 (of_z w32 c.column_x-x.result) in
    let y : ℤ = to_z w32 (of_z w32 c.row_y-y.result) in
    let at : IsAt p row column x y =
    is_at p c.bounds-bounds.result row column p.bounds.cols c.column_x-x.result c.row_y-y.result c.bounds-bounds.ensures.value refl c.requires.column c.requires.row c.column_x-x.ensures.value c.column_x-x.ensures.low c.column_x-x.ensures.high c.row_y-y.ensures.value c.row_y-y.ensures.low c.row_y-y.ensures.high in
    let cols : c.bounds.inside.cols ≡ p.bounds.cols = ap (λ (b : Extent). b.cols) (c.bounds.view_is ∙ c.bounds-bounds.ensures.value) in
    let place : row * (c.bounds.inside.cols + 1) + column ≡ place_in p.bounds row column = ap (λ n. row * (n + 1) + column) cols in
    let small : place_in p.bounds row column < length c.args.marks.now.items = place_small p row column c.args.found.now.items c.args.marks.now.items c.requires.before at.wide at.high in
    let small' : row * (c.bounds.inside.cols + 1) + column < length c.args.marks.now.items = omega (arith, small, place) in
    let mark : is_marked c.args.marks.now.items (place_in p.bounds row column) ≡ c.index.result.now =
    ap (is_marked c.args.marks.now.items) (sym place) ∙ mark_read c.args.marks.now.items (row * (c.bounds.inside.cols + 1) + column) c.index.result.now small' c.index.ensures in
    rw (c.in_ok-push.ensures.items, c.of.ensures)
    (row_more p row column x y c.in-Some.heading c.args.found.now.items c.args.marks.now.items c.trace.new.marks.items c.in_ok-corners.corners.items c.requires.before at c.in-Some.ensures (mark ∙ c.if-index.false) c.in_ok-corners.ensures.size c.in_ok-corners.ensures.traced)
