use Rattle.pl_trials.proofs.runners.one_of.Goals as goal

pub returns-clause-ready : goal.returns-clause-ready
returns-clause-ready g c = c.session.ensures.ready _ _ c.requires.lock c.requires.reader
