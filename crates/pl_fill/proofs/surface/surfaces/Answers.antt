use Rattle.std.proofs.Common.{◌≡◌, [], get_or, ◌∙◌, ap}
use Rattle.std.proofs.lemmas.List.{get_or_default}
use Rattle.pl_grid.specs.Planes.{difference}
use Rattle.pl_fill.specs.Surfaces.{layer_at, solid_of, sparse_of}
use Rattle.pl_fill.proofs.SurfaceLemmas.{solid_left}
use Rattle.pl_fill.proofs.surface.surfaces.Goals as goal

pub returns-clause-solid : goal.returns-clause-solid
returns-clause-solid c =
    let layer : c.index-planes-k.result ≡ layer_at c.args.inner.now c.args.k =
    c.index-planes-k.is
    ∙ ap (λ ps. get_or ps c.args.k c.index-planes-k.result) c.planes.ensures
    ∙ get_or_default c.args.inner.now c.args.k c.index-planes-k.result (layer_at [] 0) c.requires.layer in
    let sparse : c.in_ok-sparse.sparse ≡ sparse_of c.args.slices.now c.index-planes-k.result c.args.k c.args.top c.args.bottom =
    c.in_ok-sparse.ensures
    ∙ ap (λ ps. sparse_of ps c.index-planes-k.result c.args.k c.from.result c.from-2.result) c.planes-slices.ensures
    ∙ ap (λ n. sparse_of c.args.slices.now c.index-planes-k.result c.args.k n c.from-2.result) c.from.ensures
    ∙ ap (λ n. sparse_of c.args.slices.now c.index-planes-k.result c.args.k c.args.top n) c.from-2.ensures in
    c.in_ok-solid.ensures
    ∙ ap (difference c.index-planes-k.result) sparse
    ∙ solid_left c.args.slices.now c.index-planes-k.result c.args.k c.args.top c.args.bottom
    ∙ ap (λ p. solid_of c.args.slices.now p c.args.k c.args.top c.args.bottom) layer
