use Rattle.std.proofs.Common.{rules, SFits, w64, ℤ, pos, ◌++◌, ◌∙◌, ap, arith, length}
use Rattle.std.proofs.lemmas.Int.{to_z-of_z}
use Rattle.std.specs.Prelude.{◌*ℤ◌, codes}
use Rattle.pl_units.specs.Decimal.{fixed}
use Rattle.pl_gcode.specs.Paths.{Spot, spot_text}
use Rattle.pl_gcode.proofs.PathTexts.{spot_pieces}
use Rattle.pl_gcode.proofs.spot.Spot.put.Goals as goal

pub put-requires : goal.put-requires
put-requires c = omega (arith, c.put_fixed.ensures.size, c.requires)

pub put_fixed-requires-2-clause-room : goal.put_fixed-requires-2-clause-room
put_fixed-requires-2-clause-room c = omega (arith, ap length c.put.ensures, c.put_fixed.ensures.size, c.requires)

pub put-requires-2 : goal.put-requires-2
put-requires-2 c = omega (arith, c.put_fixed-2.ensures.size, ap length c.put.ensures, c.put_fixed.ensures.size, c.requires)

pub returns : goal.returns
returns c =
    let row_fits : SFits w64 c.micrometres.result = search rules in
    let column_fits : SFits w64 c.micrometres-2.result = search rules in
    let row = simp (to_z-of_z, row_fits) at c.put_fixed.ensures.text in
    let column = simp (to_z-of_z, column_fits) at c.put_fixed-2.ensures.text in
    c.put-2.ensures ∙ ap (λ l. codes "G1 X" ++ l)
    (column
    ∙ ap (λ l. fixed c.micrometres-2.result 3 ++ l) (c.put.ensures ∙ ap (λ l. codes " Y" ++ l) (row ∙ ap (λ (z : ℤ). fixed z 3 ++ c.args.line.now) c.micrometres.ensures))
    ∙ ap (λ (z : ℤ). fixed z 3 ++ (codes " Y" ++ (fixed (pos 200 *ℤ c.self.inside.y) 3 ++ c.args.line.now))) c.micrometres-2.ensures)
    ∙ spot_pieces (codes "G1 X") (fixed (pos 200 *ℤ c.self.inside.x) 3) (codes " Y") (fixed (pos 200 *ℤ c.self.inside.y) 3) c.args.line.now
    ∙ ap (λ (p : Spot). spot_text p ++ c.args.line.now) c.self.view_is
