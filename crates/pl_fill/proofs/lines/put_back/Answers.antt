use Rattle.std.proofs.Common.{◌++◌, ◌∙◌, sym, ap, map, reverse}
use Rattle.std.proofs.lemmas.Iterator.Adapters.{YieldsList-from_rev_slice}
use Rattle.std.proofs.lemmas.Iterator.Consumers.{YieldsList-end}
use Rattle.std.proofs.lemmas.Simd.{map-map}
use Rattle.pl_grid.specs.Strokes.{stroke_of, turned_back}
use Rattle.pl_fill.proofs.LineLemmas.{map-reverse}
use Rattle.pl_fill.proofs.lines.put_back.Goals as goal

pub returns : goal.returns
returns c =
    let all = YieldsList-end (YieldsList-from_rev_slice c.args.runs.now cc) c.loop-run.yielded _ c.loop-run.yielded_by _ _ c.in-None.is c.next.ensures.steps in
    c.loop-run.invariant
    ∙ ap (λ strokes. c.args.strokes.now.items ++ strokes)
    (sym (map-map (λ r. turned_back (stroke_of c.args.along r)) (λ r. r.now) c.loop-run.yielded)
    ∙ ap (map (λ r. turned_back (stroke_of c.args.along r))) all.0
    ∙ sym (map-map turned_back (stroke_of c.args.along) (reverse c.args.runs.now))
    ∙ ap (map turned_back) (map-reverse (stroke_of c.args.along) c.args.runs.now))
