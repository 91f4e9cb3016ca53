use Rattle.pl_turn.proofs.Histories.{grows_by_none}
use Rattle.pl_turn.proofs.turn.Turn+V.end.Goals as goal

pub give_back-requires : goal.give_back-requires
give_back-requires g c = record {
  lock = c.requires.lock;
  grows = grows_by_none _ _ _ _ c.requires.history;
  home = c.requires.home;
}
