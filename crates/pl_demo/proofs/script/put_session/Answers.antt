use Rattle.std.proofs.Common.{ap, ◌∙◌}
use Rattle.pl_demo.specs.Script.{percent_of}
use Rattle.pl_demo.proofs.Growing.{on_ok}
use Rattle.pl_demo.proofs.Sessions.{session_is}
use Rattle.pl_demo.proofs.script.put_session.Goals as goal

pub returns : goal.returns
returns c = on_ok c.put_export.result _ _ c.put_export.ensures (λ export. session_is c.args.n c.args.i c.args.text.now c.put_wait.new.text c.put_load.new.text c.put_move.new.text c.put_set.new.text c.put_export.new.text
    c.bytes.result.now c.bytes-2.result.now c.bytes-4.result.now c.bytes-3.result.now
    (c.bytes.ensures ∙ c.whole-session.ensures) (c.bytes-2.ensures ∙ c.whole-session.ensures) (c.bytes-4.ensures ∙ c.whole-session.ensures)
    (c.bytes-3.ensures ∙ c.in_ok-density.ensures ∙ ap percent_of c.density_of.ensures)
    c.in_ok-put_wait.ensures c.in_ok-put_load.ensures c.in_ok-put_move.ensures c.in_ok-put_set.ensures export)
