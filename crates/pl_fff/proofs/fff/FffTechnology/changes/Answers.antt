use Rattle.pl_fff.proofs.fff.FffTechnology.changes.Goals as goal

pub returns : goal.returns
returns c = λ p told n free low. c.changed_meshes.ensures.keeps p told n low free
