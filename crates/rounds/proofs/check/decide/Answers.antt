-- `check::decide` meets its contract: the test tells whether the fault is still there with the id old only.
use Rattle.rounds.proofs.NamingLaws.{decided_old, decided_new}
use Rattle.rounds.proofs.check.decide.Goals as goal

pub returns-then-shows : goal.returns-then-shows
returns-then-shows c = decided_old c.shows.ensures c.if-shows.true

pub returns : goal.returns
returns c = decided_new c.shows.ensures c.if-shows.false c.insert.ensures
