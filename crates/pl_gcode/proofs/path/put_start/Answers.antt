use Rattle.std.proofs.Common.{◌*◌, [], ◌∷◌, ◌++◌, ◌∙◌, ap, arith, length}
use Rattle.std.specs.Prelude.{codes}
use Rattle.std.specs.Fmt.{decimal}
use Rattle.pl_gcode.specs.Paths.{spot_text, start_lines}
use Rattle.pl_gcode.proofs.PathTexts.{start_pieces}
use Rattle.pl_gcode.proofs.Written.{writes_whole}
use Rattle.pl_gcode.proofs.path.put_start.Goals as goal

pub put-requires : goal.put-requires
put-requires c = omega (arith, ap length c.empty-line.ensures)

pub put_feed-requires : goal.put_feed-requires
put_feed-requires c = omega (arith, ap length c.put.ensures, ap length c.empty-line.ensures)

pub put-requires-2 : goal.put-requires-2
put-requires-2 c = omega (arith, c.put_feed.ensures.size, ap length c.put.ensures, ap length c.empty-line.ensures)

pub put_travel_feed-requires : goal.put_travel_feed-requires
put_travel_feed-requires c = omega (arith, ap length c.put-2.ensures, c.put_feed.ensures.size, ap length c.put.ensures, ap length c.empty-line.ensures)

pub put-requires-3 : goal.put-requires-3
put-requires-3 c = omega (arith, c.put_travel_feed.ensures.size, ap length c.put-2.ensures, c.put_feed.ensures.size, ap length c.put.ensures, ap length c.empty-line.ensures)

pub put-requires-4 : goal.put-requires-4
put-requires-4 c = omega (arith, ap length c.put-3.ensures, c.put_travel_feed.ensures.size, ap length c.put-2.ensures, c.put_feed.ensures.size, ap length c.put.ensures, ap length c.empty-line.ensures)

pub returns : goal.returns
returns c =
    writes_whole c.args.out.now c.append.new.self c.append.result c.bytes.result.now (start_lines c.args.settings.now c.args.pace.now c.args.at.now) c.append.ensures.ok c.append.ensures.err
    (c.bytes.ensures ∙ c.put-4.ensures ∙ ap (λ l. spot_text c.args.at.now ++ l)
    (c.put-3.ensures ∙ ap (λ l. codes " F" ++ l)
    (c.put_travel_feed.ensures.text ∙ ap (λ l. decimal (c.args.settings.now.travel_speed * 60) ++ l)
    (c.put-2.ensures ∙ ap (λ l. codes "\nG1 F" ++ l)
    (c.put_feed.ensures.text ∙ ap (λ l. decimal (c.args.pace.now.speed * 60) ++ l) (c.put.ensures ∙ ap (λ l. 10 ∷ l) c.empty-line.ensures)))))
    ∙ start_pieces (spot_text c.args.at.now) (codes " ") (codes "F") (decimal (c.args.settings.now.travel_speed * 60)) (10 ∷ []) (codes "G1 ") (decimal (c.args.pace.now.speed * 60)))
