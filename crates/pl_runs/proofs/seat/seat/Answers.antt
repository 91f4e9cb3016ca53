use Rattle.pl_runs.proofs.seat.seat.Goals as goal

pub crew_of-requires : goal.crew_of-requires
crew_of-requires g c = let s = c.requires.sits in record {
  number = s.within;
  workers = s.few_workers;
  pass = s.fresh;
  first = s.first_split;
  reader = s.reader;
  callable = s.callable;
}
