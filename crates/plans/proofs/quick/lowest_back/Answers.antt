-- `plans::quick::lowest_back` meets its contract: it is the first number that the test finds.
use Rattle.std.proofs.Common.{rules}
use Rattle.house.proofs.Finding.{finds_in}
use Rattle.plans.proofs.quick.lowest_back.Goals as goal

pub returns : goal.returns
returns c = finds_in _ c.find.ensures.ran (λ x q k. search rules) (λ x q k. search rules)
