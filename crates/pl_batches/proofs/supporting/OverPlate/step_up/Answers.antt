use Rattle.std.proofs.Common.{◌≡◌, ◌-◌, true, false, length, sym, ap, ◌∙◌, arith}
use Rattle.pl_support.specs.Support.{support_at}
use Rattle.pl_batches.specs.Passes.{from_top}
use Rattle.pl_batches.proofs.Lists.{at_each, length_each}
use Rattle.pl_batches.proofs.Passing.{found_there, covered_there, passes_up}
use Rattle.pl_batches.proofs.supporting.OverPlate.step_up.Goals as goal

pub index-found-requires : goal.index-found-requires
index-found-requires c =
    let found = found_there c.args.self.now.slices.now c.args.k c.args.made.now.found.items _ _ _ c.requires.before in
    let long : length c.args.made.now.found.items ≡ length c.args.self.now.slices.now = length_each (length c.args.self.now.slices.now) (from_top (length c.args.self.now.slices.now) (support_at true false c.args.self.now.slices.now)) c.args.made.now.found.items found in
    omega (arith, long, c.requires.there)

pub cells_over_plate-requires-clause-cells : goal.cells_over_plate-requires-clause-cells
cells_over_plate-requires-clause-cells c =
    let n = length c.args.self.now.slices.now in
    let layer = support_at true false c.args.self.now.slices.now in
    let found = found_there c.args.self.now.slices.now c.args.k c.args.made.now.found.items _ _ _ c.requires.before in
    let back : n - 1 - (n - 1 - c.args.k) ≡ c.args.k = omega (arith, c.requires.there) in
    at_each n (from_top n layer) c.args.made.now.found.items (n - 1 - c.args.k) c.index-found.result.now found (omega (arith, c.requires.there)) c.index-found.ensures ∙ ap layer back

pub returns : goal.returns
returns c =
    passes_up c.args.self.now.slices.now c.args.k c.args.made.now.found.items c.args.made.now.kept.cells.items _ c.args.made.now.kept.strokes.items _ _ c.in_ok-made.field-0 c.in_ok-cells.cells c.requires.there c.requires.before c.in_ok-cells.ensures c.in_ok-put.ensures.cells c.in_ok-put.ensures.strokes c.in_ok-made.ensures
