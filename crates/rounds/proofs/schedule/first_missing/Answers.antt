-- `schedule::first_missing` meets its contract: the search answers the first mark that is left.
use Rattle.std.proofs.Common.{rules, ◌≡◌, true}
use borrow.Author.Tests.{tests}
use Rattle.std.proofs.lemmas.Iterator.{IsFirst-from_position, YieldsList-from_slice}
use Rattle.rounds.proofs.TestLaws.{first_mark, unplaced_first}
use Rattle.rounds.proofs.schedule.first_missing.Goals as goal

pub returns : goal.returns
returns c =
    unplaced_first c.unplaced.ensures
    (first_mark _ c.unplaced.ensures.size
    (IsFirst-from_position _ _ _ (λ b. b ≡ true) (λ b. b ≡ true → ⊥) c.position.ensures.ran
    (YieldsList-from_slice _ c.iter.ensures.rest)
    (λ x q k. search (rules, tests))
    (λ x q k. search (rules, tests))))
