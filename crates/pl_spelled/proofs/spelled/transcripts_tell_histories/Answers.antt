use Rattle.pl_spelled.proofs.Histories.{transcripts_told}
use Rattle.pl_spelled.proofs.Runs.{runs_told}
use Rattle.pl_spelled.proofs.spelled.transcripts_tell_histories.Goals as goal

pub returns-clause-history : goal.returns-clause-history
returns-clause-history g c commands = transcripts_told g.T.Technology.meaning g.met.T.Technology.laws commands

pub returns-clause-runs : goal.returns-clause-runs
returns-clause-runs g c = runs_told g.T.Technology.meaning
