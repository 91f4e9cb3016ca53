use Rattle.std.proofs.Common.{◌≡◌}
use Rattle.std.proofs.lemmas.Result.{err_from_is_err_and}
use Rattle.pl_units.specs.declared.Refusal.TheVariants as refusals
use Rattle.pl_stl.proofs.Once.{is_text, is_breach, only_text, no_breach, text_refused, same_breach}
use Rattle.pl_stl.proofs.Near.{is_mesh}
use Rattle.pl_stl.proofs.read.read_stl.Goals as goal

pub returns-in_err-facets-clause-refused : goal.returns-in_err-facets-clause-refused
returns-in_err-facets-clause-refused c line fault e =
    let p = err_from_is_err_and c.from_residual.result c.from_residual.ensures.1 in
    let given = p.2 in
    let same : c.in_err-facets.field-0.0 ≡ refusals.Fault line fault = cc in
    is_breach c.args.bytes.now line fault c.in_err-facets.field-0.0 same c.in_err-facets.ensures

pub returns-in_err-facets-clause-taken : goal.returns-in_err-facets-clause-taken
returns-in_err-facets-clause-taken c facets text =
    let p = err_from_is_err_and c.from_residual.result c.from_residual.ensures.1 in
    rw (p.1, p.2) (text_refused c.args.bytes.now facets c.in_err-facets.field-0.0 c.in_err-facets.ensures text)

pub returns-in_err-facets-clause-named : goal.returns-in_err-facets-clause-named
returns-in_err-facets-clause-named c line fault first =
    let p = err_from_is_err_and c.from_residual.result c.from_residual.ensures.1 in
    rw (p.1, p.2) (same_breach c.args.bytes.now line fault c.in_err-facets.field-0.0 c.in_err-facets.ensures first)

pub of-requires : goal.of-requires
of-requires c = is_mesh c.args.bytes.now c.in_ok-facets.facets.items (is_text c.args.bytes.now c.in_ok-facets.facets.items c.in_ok-facets.ensures)

pub returns-clause-mesh : goal.returns-clause-mesh
returns-clause-mesh c = rw c.of.ensures (is_text c.args.bytes.now c.in_ok-facets.facets.items c.in_ok-facets.ensures)

pub returns-clause-taken : goal.returns-clause-taken
returns-clause-taken c facets text = rw c.of.ensures (only_text c.args.bytes.now c.in_ok-facets.facets.items facets c.in_ok-facets.ensures text)

pub returns-clause-named : goal.returns-clause-named
returns-clause-named c line fault first = no_breach c.args.bytes.now c.in_ok-facets.facets.items line fault c.in_ok-facets.ensures first
