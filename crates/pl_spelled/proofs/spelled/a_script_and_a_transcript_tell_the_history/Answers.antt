use Rattle.std.proofs.Common.{map}
use Rattle.pl_spelled.proofs.Histories.{transcripts_told}
use Rattle.pl_spelled.proofs.OneScript.{are_of_one_script}
use Rattle.pl_spelled.proofs.spelled.a_script_and_a_transcript_tell_the_history.Goals as goal

pub returns : goal.returns
returns g c bytes script history other runs others read =
    transcripts_told g.T.Technology.meaning g.met.T.Technology.laws (map (λ line. line.command) script.lines) history other runs others (are_of_one_script bytes script read)
