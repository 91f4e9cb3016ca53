use Rattle.std.specs.Option.{IfSome}
use Rattle.pl_keys.specs.Values.{IsValueOf}
use Rattle.pl_options.proofs.Kept.{each_tried}
use Rattle.pl_options.proofs.settings.IniSet.take.Goals as goal

pub invariant_of-self-in-Put : goal.invariant_of-self-in-Put
invariant_of-self-in-Put c =
    let fits : IsValueOf c.in-Put.key c.in-Put.value = rw c.in-Put.is at c.in_ok-read_line.ensures.fits in
    each_tried (λ q o. IfSome o (IsValueOf q)) c.self.inside.values c.put.new.self c.in-Put.key c.in-Put.value _ c.put.ensures.ok c.put.ensures.err c.self.invariant fits
