use Rattle.pl_turn.proofs.Histories.{grows_by_one}
use Rattle.pl_turn.proofs.turn.Turn+V.end_with.Goals as goal

pub give_back-pass-requires : goal.give_back-pass-requires
give_back-pass-requires g c = let h = c.requires.history in record {
  lock = c.requires.lock;
  grows = grows_by_one _ _ _ _ h.0 h.1 h.2;
  home = c.requires.home;
}
