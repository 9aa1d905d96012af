use Rattle.ccfg.proofs.load.make.Goals as goal

pub load-requires-clause-book : goal.load-requires-clause-book
load-requires-clause-book g c = rw (c.in_ok-founding.ensures.key, c.in_ok-founding.ensures.genesis) at c.in_ok-book.ensures.stands
