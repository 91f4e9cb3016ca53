use Rattle.std.proofs.Common.{◌≡◌, pos, sym, ap, ◌∙◌}
use Rattle.pl_layers.specs.declared.arrow.Arrow.{Arrow}
use Rattle.pl_layers.proofs.Quotients.{flat_none, flat_of, steep_of}
use Rattle.pl_layers.proofs.columns.columns_hit.Goals as goal

pub returns-then-normal-eq0 : goal.returns-then-normal-eq0
returns-then-normal-eq0 c =
    let flat : c.args.normal.now.x ≡ pos 0 = flat_of c.args.normal.now.x c.requires.short.x c.if-normal-eq0.true in
    flat_none c.args.most c.args.p.now c.args.facet.now (sym (ap (λ (n : Arrow). n.x) c.requires.normal) ∙ flat)

pub columns_behind-requires-clause-steep : goal.columns_behind-requires-clause-steep
columns_behind-requires-clause-steep c = steep_of c.args.normal.now.x c.if-normal-eq0.false
