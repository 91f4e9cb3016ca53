use Rattle.std.proofs.Common.{◌≡◌, true, sym, ◌∙◌}
use Rattle.pl_tech.specs.Slots.{has}
use Rattle.pl_transcript.proofs.slots.put_member.Goals as goal

pub returns-then-has-clause-written : goal.returns-then-has-clause-written
returns-then-has-clause-written g c =
    let here : has c.args.set c.args.slot ≡ true = sym c.has.ensures ∙ c.if-has.true in
    rw here c.put_name.ensures.written
