use Rattle.std.proofs.Common.{map, length, sum, sym, ◌∙◌}
use Rattle.std.proofs.lemmas.List.Sums.{count_by-le-length}
use Rattle.pl_session.specs.Complete.{is_start, runs_of}
use Rattle.pl_runs.proofs.Made.{ended_of, is_made_of, runs_of_all}
use Rattle.pl_runs.proofs.Lists.{counted_by, counts_all}
use Rattle.pl_runs.proofs.ending.ended.Goals as goal

pub returns-clause-complete : goal.returns-clause-complete
returns-clause-complete g c commands workers seated done = let t = g.T.Technology in
    let j = c.into_journal-journal in let k = c.close_all.ensures in let xs = c.args.accounts.items in
    c.ended_runners_complete_a_history.ensures.complete commands workers (map (ended_of t.meaning commands workers c.args.lock (λ a. a.actor) (λ a. a.pass) (λ a. a.runs)) xs) j.result.items
    (is_made_of t.meaning commands workers c.args.lock (λ a. a.actor) (λ a. a.pass) (λ a. a.runs) c.args.first xs c.args.idle.items j.result.items c.close_all.result.journal j.ensures.value j.ensures.legal c.requires.first c.requires.idle seated done k.placed k.makers)

pub returns-clause-runs : goal.returns-clause-runs
returns-clause-runs g c commands workers seated done = let t = g.T.Technology in
    let j = c.into_journal-journal in let k = c.close_all.ensures in let xs = c.args.accounts.items in
    counts_all c.total-runs.result (sum (map (λ a. a.runs) xs)) (runs_of j.result.items) (length j.result.items) _ _ (counted_by xs _ (λ a. a.runs) _ _ c.total-runs.ensures c.deref.ensures.value)
    (sym (runs_of_all t.meaning commands workers c.args.lock (λ a. a.actor) (λ a. a.pass) (λ a. a.runs) c.args.first xs c.args.idle.items)
    ∙ c.ended_runners_complete_a_history.ensures.runs commands workers (map (ended_of t.meaning commands workers c.args.lock (λ a. a.actor) (λ a. a.pass) (λ a. a.runs)) xs) j.result.items
    (is_made_of t.meaning commands workers c.args.lock (λ a. a.actor) (λ a. a.pass) (λ a. a.runs) c.args.first xs c.args.idle.items j.result.items c.close_all.result.journal j.ensures.value j.ensures.legal c.requires.first c.requires.idle seated done k.placed k.makers))
    (count_by-le-length (λ e. is_start e.what) j.result.items) j.result.ok.0 j.result.ok.1 j.result.small
