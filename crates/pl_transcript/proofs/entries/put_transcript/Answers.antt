use Rattle.std.proofs.Common.{◌∙◌, refl}
use Rattle.pl_transcript.proofs.Lines.{put_more, stop_in_entry, put_last, stop_in_last, on_ok}
use Rattle.pl_transcript.proofs.entries.put_transcript.Goals as goal

pub returns-in_err-put_entry-clause-front : goal.returns-in_err-put_entry-clause-front
returns-in_err-put_entry-clause-front g c = stop_in_entry g.T.Technology.meaning c.args.runs c.args.journal.now c.loop-i.i _ _ _ _ c.index-journal-i.is c.loop-i-test.true c.loop-i.invariant.put c.put_entry.ensures.front

pub loop-i-preserved : goal.loop-i-preserved
loop-i-preserved g c = record {
  put = put_more g.T.Technology.meaning c.args.journal.now c.loop-i.i _ _ _ _ c.index-journal-i.is c.loop-i-test.true c.loop-i.invariant.put c.in_ok-put_entry.ensures.all;
  kept = c.in_ok-put_entry.ensures.no_fault ∙ c.loop-i.invariant.kept;
}

pub returns-clause-all : goal.returns-clause-all
returns-clause-all g c = on_ok _ _ c.put_end.result (λ last. put_last g.T.Technology.meaning c.args.runs c.args.journal.now c.loop-i.i _ _ _ _ c.loop-i-test.false refl c.loop-i.invariant.put last) c.put_end.ensures.all

pub returns-clause-front : goal.returns-clause-front
returns-clause-front g c = stop_in_last g.T.Technology.meaning c.args.runs c.args.journal.now c.loop-i.i _ _ _ _ c.loop-i-test.false refl c.loop-i.invariant.put c.put_end.ensures.front
