use Rattle.std.proofs.lemmas.Result.{MatchResult-at_err}
use Rattle.pl_options.specs.Settings.{IsSettingsText}
use Rattle.pl_options.specs.Reading.{IsRefusal}
use Rattle.pl_options.proofs.Once.{its_text, its_settings, its_breach}
use Rattle.pl_options.proofs.settings.read_ini.Goals as goal

pub returns-clause-set : goal.returns-clause-set
returns-clause-set c = its_text c.args.bytes.now _ c.read_lines.ensures

pub returns-clause-taken : goal.returns-clause-taken
returns-clause-taken c = its_settings c.args.bytes.now _ c.read_lines.ensures

pub returns-clause-refused : goal.returns-clause-refused
returns-clause-refused c line fault e = MatchResult-at_err (IsSettingsText c.args.bytes.now) (IsRefusal c.args.bytes.now) _ e c.read_lines.ensures

pub returns-clause-named : goal.returns-clause-named
returns-clause-named c = its_breach c.args.bytes.now _ c.read_lines.ensures
