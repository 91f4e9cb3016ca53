use Rattle.std.proofs.Common.{◌∙◌, List, sym, subst}
use Rattle.std.specs.List.{All}
use Rattle.std.proofs.lemmas.List.{take_all}
use Rattle.pl_prints.specs.Footprints.{Footprint, IsPlaced}
use Rattle.pl_fff.proofs.print_runs.ground.Goals as goal

pub footing_plane-requires : goal.footing_plane-requires
footing_plane-requires c =
    let P : List Footprint → Type 0 = λ fs. All (λ f. All (IsPlaced f) f.instances) fs in
    subst P (sym (c.deref.ensures.value ∙ c.loop-foot.invariant ∙ take_all c.loop-foot.foot-index c.args.feet.now c.loop-foot-test.false)) c.requires
