use Rattle.pl_batches.proofs.layered.batch.Given as goal

abbrev pub invariant-loop-number : goal.invariant-loop-number
invariant-loop-number g l = g.W.Layered.reaches l.work l.number l.made
