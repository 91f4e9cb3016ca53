use Rattle.pl_script.specs.Lines.{lines_of}
use Rattle.pl_sliced.proofs.Texts.{text_read, breach_named}
use Rattle.pl_sliced.proofs.OneReading.{its_text, its_breach}
use Rattle.pl_sliced.proofs.laws.slice_texts_have_one_reading.Goals as goal

pub returns-clause-texts : goal.returns-clause-texts
returns-clause-texts c = λ bytes text. (its_text (lines_of bytes) text, text_read (lines_of bytes) text)

pub returns-clause-breaches : goal.returns-clause-breaches
returns-clause-breaches c = λ bytes line fault. (its_breach (lines_of bytes) line fault, breach_named (lines_of bytes) line fault)
