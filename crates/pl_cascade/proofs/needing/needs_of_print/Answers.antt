use Rattle.std.proofs.Common.{◌≡◌, ℕ, Bool, ap, sym, ◌∙◌}
use Rattle.std.specs.Prelude.{◌==◌, ◌&&◌, ◌||◌}
use Rattle.pl_tech.specs.Slots.{has}
use Rattle.pl_cascade.specs.Slots.{is_present, print_needs}
use Rattle.pl_cascade.proofs.Sets.{member-more, member-still}
use Rattle.pl_cascade.proofs.needing.needs_of_print.Goals as goal
use Rattle.pl_cascade.proofs.needing.needs_of_print.Goals.{then-is_needed, else-is_needed}

pub loop-number-preserved : goal.loop-number-preserved
loop-number-preserved c k =
    let needed : ℕ → Bool = λ n. is_present c.args.plate.now n && print_needs c.args.step n in
    let told : c.is_needed.result ≡ needed c.loop-number.number
    = c.is_needed.ensures ∙ ap (λ b. b && print_needs c.args.step c.of-need.result) (c.present-there.ensures c.of-need.result) ∙ ap needed c.of-need.ensures in
    elim c.if-is_needed.branch [
      | then-is_needed w ↦
          member-more needed c.loop-number.number k (has c.loop-number.slots k) (has c.if-is_needed.slots k) (sym told ∙ w.if-is_needed.true) (c.loop-number.invariant k)
          (ap (λ s. has s k) w.slots-is ∙ w.with-slots.ensures k ∙ ap (λ n. (k == n) || has c.loop-number.slots k) c.of-need.ensures)
      | else-is_needed w ↦
          ap (λ s. has s k) w.slots-is ∙ member-still needed c.loop-number.number k (has c.loop-number.slots k) (sym told ∙ w.if-is_needed.false) (c.loop-number.invariant k)
    ]
