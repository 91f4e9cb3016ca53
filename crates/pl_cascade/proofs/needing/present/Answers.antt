use Rattle.std.proofs.Common.{ap, sym, ◌∙◌}
use Rattle.std.specs.Prelude.{is_some}
use Rattle.pl_keys.specs.Steps as steps
use Rattle.pl_tech.specs.Slots.{has}
use Rattle.pl_cascade.proofs.Sets.{present-more, present-still, copied_there}
use Rattle.pl_cascade.proofs.needing.present.Goals as goal
use Rattle.pl_cascade.proofs.needing.present.Goals.{then-is_some, else-is_some}

pub loop-place-preserved : goal.loop-place-preserved
loop-place-preserved c k = elim c.if-is_some.branch [
  | then-is_some w ↦
      present-more c.args.plate.now c.loop-place.place k (has c.loop-place.slots k) (has w.object_slots.result k) (has c.if-is_some.slots k) (steps.has w.all_steps-then-is_some.result)
      (ap is_some (sym c.object.ensures.object) ∙ copied_there c.object.result ∙ sym c.is_some.ensures ∙ w.if-is_some.true) (c.loop-place.invariant k) (w.object_slots.ensures k) w.all_steps-then-is_some.ensures
      (ap (λ s. has s k) w.slots-is ∙ w.union-slots.ensures k)
  | else-is_some w ↦
      ap (λ s. has s k) w.slots-is
      ∙ present-still c.args.plate.now c.loop-place.place k (has c.loop-place.slots k) (ap is_some (sym c.object.ensures.object) ∙ copied_there c.object.result ∙ sym c.is_some.ensures ∙ w.if-is_some.false) (c.loop-place.invariant k)
]
