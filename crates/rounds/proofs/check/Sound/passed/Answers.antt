-- `Sound::passed` meets its contract: the sizes are as many entries as the slice has whole ones, and as many nodes are due as the
-- two tables differ at.
use mathlib.Core.Path.{sym, ◌∙◌}
use Rattle.house.proofs.NumberLaws.{length_entries}
use Rattle.routes.proofs.RuleLaws.{tally_due}
use Rattle.rounds.proofs.check.Sound.passed.Goals as goal

pub returns-clause-rounds : goal.returns-clause-rounds
returns-clause-rounds c = sym (length_entries c.args.self.now.sizes.now)

pub returns-clause-dues : goal.returns-clause-dues
returns-clause-dues c =
    let stands = c.args.self.now.stands in
    c.due_count.ensures ∙ tally_due stands.good stands.olds stands.news
