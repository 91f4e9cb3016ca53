use Rattle.pl_values.specs.PrintValues.{tops_of}
use Rattle.pl_values.proofs.Ascends.{same_ascending}
use Rattle.pl_values.proofs.Tops.{Ascend-tops_of, IsTop-from_Contains, Contains-from_IsTop}
use Rattle.pl_values.proofs.laws.heights_are_the_tops.Goals as goal

pub returns-clause-ascend : goal.returns-clause-ascend
returns-clause-ascend c = Ascend-tops_of

pub returns-clause-exact : goal.returns-clause-exact
returns-clause-exact c plate z = (IsTop-from_Contains plate z, Contains-from_IsTop plate z)

pub returns-clause-alone : goal.returns-clause-alone
returns-clause-alone c plate heights ascend exact =
    same_ascending heights (tops_of plate) ascend (Ascend-tops_of plate)
    (λ z there. Contains-from_IsTop plate z ((exact z).0 there))
    (λ z there. (exact z).1 (IsTop-from_Contains plate z there))
