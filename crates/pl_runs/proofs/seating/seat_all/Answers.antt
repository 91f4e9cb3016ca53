use Rattle.pl_runs.proofs.seating.seat_all.Goals as goal

pub seat_each-requires : goal.seat_each-requires
seat_each-requires g c = record {
  begins = record {
    few_workers = c.requires.workers;
    callable = c.requires.callable;
    first_fresh = c.requires.first;
    first_split = c.requires.splits;
    rest_fresh = c.requires.rest;
    long = c.requires.long;
    reader = c.requires.reader;
  };
  empty = (c.in_ok-crews.ensures.items, c.in_ok-idle.ensures.items);
  room = (c.in_ok-crews.ensures.capacity, c.in_ok-idle.ensures.capacity);
}

pub returns : goal.returns
returns g c = let s = c.seat_each.ensures in record { crews = s.crews; first = s.first; idle = s.idle; seated = s.seated }
