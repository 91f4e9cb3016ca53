use Rattle.std.proofs.Common.{rules, refl, ◌∙◌, ◌+◌, ◌-◌}
use Rattle.pl_transcript.proofs.Flow.{grew_whole, writes_all, stop_after, stop_before}
use Rattle.pl_transcript.proofs.Spaced.{slot_words, slots_more, slots_at, slots_all}
use Rattle.pl_transcript.proofs.slots.put_names.Goals as goal

pub returns-in_err-put_member-clause-written : goal.returns-in_err-put_member-clause-written
returns-in_err-put_member-clause-written g c = (
  search rules,
  stop_after _ _ _ _ _ _ _ _ c.loop-n.invariant.put
      (stop_before _ _ _ _ (slot_words (g.T.Technology.meaning.name) c.args.set (c.loop-n.n + 1) (99 - c.loop-n.n)) _ (rw c.of.ensures at c.in_err-put_member.ensures.written.1) refl)
      (slots_at (g.T.Technology.meaning.name) c.args.set c.loop-n.n c.loop-n-test.true),
)

pub loop-n-preserved : goal.loop-n-preserved
loop-n-preserved g c = record {
  put = grew_whole _ _ _ _ _ _ _ _ _ c.loop-n.invariant.put (rw c.of.ensures at c.in_ok-put_member.ensures.written.0) (slots_more (g.T.Technology.meaning.name) c.args.set c.loop-n.n);
  kept = c.in_ok-put_member.ensures.faults.1 ∙ c.loop-n.invariant.kept;
}

pub returns-clause-written : goal.returns-clause-written
returns-clause-written g c = writes_all _ _ _ _ _ _ c.loop-n.invariant.put (slots_all (g.T.Technology.meaning.name) c.args.set c.loop-n.n c.loop-n-test.false c.loop-n.auto.n-end)
