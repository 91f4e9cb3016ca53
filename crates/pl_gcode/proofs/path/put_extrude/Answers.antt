use Rattle.std.proofs.Common.{rules, SFits, w64, ℤ, pos, [], ◌∷◌, ◌++◌, ◌∙◌, ap, arith, length}
use Rattle.std.proofs.lemmas.Int.{to_z-of_z}
use Rattle.std.specs.Prelude.{codes}
use Rattle.pl_units.specs.Decimal.{fixed}
use Rattle.pl_gcode.specs.Paths.{spot_text, amount, extrude}
use Rattle.pl_gcode.proofs.PathTexts.{extrude_pieces}
use Rattle.pl_gcode.proofs.Written.{writes_whole}
use Rattle.pl_gcode.proofs.path.put_extrude.Goals as goal

pub put-requires : goal.put-requires
put-requires c = omega (arith, ap length c.empty-line.ensures)

pub put_fixed-requires-clause-room : goal.put_fixed-requires-clause-room
put_fixed-requires-clause-room c = omega (arith, ap length c.put.ensures, ap length c.empty-line.ensures)

pub put-requires-2 : goal.put-requires-2
put-requires-2 c = omega (arith, c.put_fixed.ensures.size, ap length c.put.ensures, ap length c.empty-line.ensures)

pub put-requires-3 : goal.put-requires-3
put-requires-3 c = omega (arith, ap length c.put-2.ensures, c.put_fixed.ensures.size, ap length c.put.ensures, ap length c.empty-line.ensures)

pub returns : goal.returns
returns c =
    let fits : SFits w64 c.amount.result = search rules in
    let text = simp (to_z-of_z, fits) at c.put_fixed.ensures.text in
    writes_whole c.args.out.now c.append.new.self c.append.result c.bytes.result.now (extrude c.args.settings.now c.args.pace.now c.args.from.now c.args.to.now) c.append.ensures.ok c.append.ensures.err
    (c.bytes.ensures ∙ c.put-3.ensures ∙ ap (λ l. spot_text c.args.to.now ++ l)
    (c.put-2.ensures ∙ ap (λ l. codes " E" ++ l)
    (text ∙ ap (λ l. fixed c.amount.result 5 ++ l) (c.put.ensures ∙ ap (λ l. 10 ∷ l) c.empty-line.ensures) ∙ ap (λ (z : ℤ). fixed z 5 ++ 10 ∷ []) c.amount.ensures))
    ∙ extrude_pieces (spot_text c.args.to.now) (codes " E") (fixed (pos (amount c.args.settings.now c.args.pace.now c.args.from.now c.args.to.now)) 5) (10 ∷ []))
