use Rattle.pl_values.proofs.HeightTools.{count_of_tools, IsToolAt-from_Contains, Contains-from_IsToolAt}
use Rattle.pl_values.proofs.laws.tools_are_those_of_the_layers.Goals as goal

pub returns-clause-count : goal.returns-clause-count
returns-clause-count c = count_of_tools

pub returns-clause-exact : goal.returns-clause-exact
returns-clause-exact c plate i tool p less = (IsToolAt-from_Contains plate i tool less, Contains-from_IsToolAt plate i tool p less)
