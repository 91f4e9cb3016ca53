use Rattle.std.proofs.lemmas.List.{take_rest}
use Rattle.pl_script.proofs.FirstWord.{first_word, no_word, rest_of_word}
use Rattle.pl_script.proofs.words.next_word.Goals as goal

pub returns-then-end-eq0-clause-none : goal.returns-then-end-eq0-clause-none
returns-then-end-eq0-clause-none c = no_word c.args.text.now c.after_blanks-text.result.now c.word_len-end.result c.after_blanks-text.ensures.text c.word_len-end.ensures.len c.if-end-eq0.true

pub returns-clause-some : goal.returns-clause-some
returns-clause-some c = rw take_rest (first_word c.args.text.now c.after_blanks-text.result.now c.word_len-end.result c.after_blanks-text.ensures.text c.word_len-end.ensures.len c.if-end-eq0.false)

pub returns-clause-rest : goal.returns-clause-rest
returns-clause-rest c = rw take_rest (rest_of_word c.args.text.now c.after_blanks-text.result.now c.word_len-end.result c.after_blanks-text.ensures.text c.word_len-end.ensures.len)
