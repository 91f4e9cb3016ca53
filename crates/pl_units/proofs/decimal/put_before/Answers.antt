use Rattle.std.proofs.Common.{◌∷◌, ◌++◌, ◌∙◌, sym, arith, ap, drop}
use Rattle.std.proofs.lemmas.Int.{to_z-of_z}
use Rattle.pl_units.proofs.DecimalTexts.{fixed_below, put_back}
use Rattle.pl_units.proofs.decimal.put_before.Goals as goal

pub bounds-out-start : goal.bounds-out-start
bounds-out-start c = omega (arith, c.requires.room, c.requires.place, c.put_size-start.ensures.low, c.put_size-start.ensures.high)

pub returns-then-value-lt0-clause-text : goal.returns-then-value-lt0-clause-text
returns-then-value-lt0-clause-text c =
    let below = simp (to_z-of_z, c.ranges.value) at c.if-value-lt0.true in
    let size = simp (to_z-of_z, c.ranges.value) at c.unsigned_abs.ensures.value in
    put_back c.put_size-start.new.out c.put_size-start.result 45 (omega (arith, c.requires.room, c.put_size-start.ensures.low)) (omega (arith, c.requires.place, c.put_size-start.ensures.high))
    ∙ ap (λ l. 45 ∷ l) c.put_size-start.ensures.text
    ∙ ap (λ l. l ++ drop c.args.end c.args.out.now) (sym (fixed_below c.args.value c.args.places _ below size))
