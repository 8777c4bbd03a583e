-- `pair::in_either` meets its contract: each return is one case of what is found first.
use Rattle.routes.specs.Tests.{in_old, in_new, in_neither}
use Rattle.routes.proofs.pair.in_either.Goals as goal

pub returns-in-Some : goal.returns-in-Some
returns-in-Some g c = in_old c.in-Some.ensures

pub returns-in-Some-find : goal.returns-in-Some-find
returns-in-Some-find g c = in_new c.in_default.ensures c.in-Some-find.ensures

pub returns : goal.returns
returns g c = in_neither c.in_default.ensures c.in_default-find.ensures
