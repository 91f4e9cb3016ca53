use Rattle.std.proofs.Common.{◌∙◌, subst}
use Rattle.std.specs.Io.KnownBytes.{Appends}
use Rattle.pl_ports.specs.Causes.{AppendsFront}
use Rattle.pl_plater.proofs.demo.demo.Goals as goal

pub returns-in-Ok-put_all-clause-done : goal.returns-in-Ok-put_all-clause-done
returns-in-Ok-put_all-clause-done g c = λ e. subst (Appends (g.K.Sink.held c.args.sink.now) (g.K.Sink.held c.put_all.new.sink)) (c.bytes.ensures ∙ c.in-Ok.ensures) c.in-Ok-put_all.ensures.all

pub returns-in-Ok-put_all-clause-front : goal.returns-in-Ok-put_all-clause-front
returns-in-Ok-put_all-clause-front g c = subst (AppendsFront (g.K.Sink.held c.args.sink.now) (g.K.Sink.held c.put_all.new.sink)) (c.bytes.ensures ∙ c.in-Ok.ensures) c.put_all.ensures.front
