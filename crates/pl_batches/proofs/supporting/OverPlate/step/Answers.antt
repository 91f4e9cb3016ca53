use Rattle.std.proofs.Common.{◌≡◌, true, false, length, sym, ap, ◌∙◌, arith}
use Rattle.pl_support.specs.Support.{support_at}
use Rattle.pl_batches.specs.Passes.{from_top}
use Rattle.pl_batches.proofs.Lists.{each_long, length_each}
use Rattle.pl_batches.proofs.Passing.{found_below, passes_down}
use Rattle.pl_batches.proofs.supporting.OverPlate.step.Goals as goal

pub next_down-requires-clause-found : goal.next_down-requires-clause-found
next_down-requires-clause-found c =
    let found = found_below c.args.self.now.slices.now c.args.step c.args.made.now.found.items _ _ _ c.if-step-self.false c.requires.before in
    each_long c.args.step (from_top (length c.args.self.now.slices.now) (support_at true false c.args.self.now.slices.now)) c.deref.result.now (c.deref.ensures.value ∙ found)

pub next_down-requires-clause-more : goal.next_down-requires-clause-more
next_down-requires-clause-more c =
    let found = found_below c.args.self.now.slices.now c.args.step c.args.made.now.found.items _ _ _ c.if-step-self.false c.requires.before in
    let long : length c.deref.result.now ≡ c.args.step = length_each c.args.step (from_top (length c.args.self.now.slices.now) (support_at true false c.args.self.now.slices.now)) c.deref.result.now (c.deref.ensures.value ∙ found) in
    omega (arith, long, c.if-step-self.false)

pub returns : goal.returns
returns c =
    let found = found_below c.args.self.now.slices.now c.args.step c.args.made.now.found.items _ _ _ c.if-step-self.false c.requires.before in
    let long : length c.deref.result.now ≡ c.args.step = length_each c.args.step (from_top (length c.args.self.now.slices.now) (support_at true false c.args.self.now.slices.now)) c.deref.result.now (c.deref.ensures.value ∙ found) in
    passes_down c.args.self.now.slices.now c.args.step c.args.made.now.found.items _ c.args.made.now.kept.cells.items c.args.made.now.kept.strokes.items _ c.in_ok-cells.cells c.if-step-self.false c.requires.before
    (c.in_ok-cells.ensures ∙ ap (from_top (length c.args.self.now.slices.now) (support_at true false c.args.self.now.slices.now)) (long ∙ sym (length_each c.args.step (from_top (length c.args.self.now.slices.now) (support_at true false c.args.self.now.slices.now)) c.args.made.now.found.items found)))
    (length_each c.args.step (from_top (length c.args.self.now.slices.now) (support_at true false c.args.self.now.slices.now)) c.args.made.now.found.items found) c.in_ok-push.ensures.items
