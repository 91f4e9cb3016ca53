use Rattle.pl_machine.proofs.Coherence.{coherent_history, bye_is_last}
use Rattle.pl_machine.proofs.keeping.histories_keep_pending.Goals as goal

pub returns : goal.returns
returns g c =
    let m = g.T.Technology.meaning in
    let laws = g.met.T.Technology.laws in
    record {
      left_idle = λ history legal. (coherent_history m laws history legal).left_idle;
      started_pending = λ history legal. (coherent_history m laws history legal).started_pending;
      bye_is_last = λ actor before after legal. bye_is_last m laws actor before after legal;
    }
