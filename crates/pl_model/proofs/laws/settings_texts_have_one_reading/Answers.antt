use Rattle.pl_model.proofs.Readings.{settings_read, read_settings, breach_read, read_breach}
use Rattle.pl_model.proofs.laws.settings_texts_have_one_reading.Goals as goal

pub returns-clause-settings : goal.returns-clause-settings
returns-clause-settings c = λ text settings. (read_settings text settings, settings_read text settings)

pub returns-clause-breaches : goal.returns-clause-breaches
returns-clause-breaches c = λ text line fault. (read_breach text line fault, breach_read text line fault)
