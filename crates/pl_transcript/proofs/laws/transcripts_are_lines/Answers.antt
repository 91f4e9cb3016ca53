use Rattle.pl_transcript.proofs.Lines.{transcript_is_lines, lines_count}
use Rattle.pl_transcript.proofs.laws.transcripts_are_lines.Goals as goal

pub returns-clause-text : goal.returns-clause-text
returns-clause-text g c = transcript_is_lines g.T.Technology.meaning

pub returns-clause-count : goal.returns-clause-count
returns-clause-count g c = lines_count g.T.Technology.meaning
