use Rattle.pl_runner.proofs.Readying.{keeps_self}
use Rattle.pl_runner.proofs.runner.Runner.run.Goals as goal

pub loop-init : goal.loop-init
loop-init g c = record { keeps = keeps_self c.args.self.now; at = c.requires.ready.at; ready = c.requires.ready; stays = c.requires.stays }
