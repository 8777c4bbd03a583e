-- `Sound::check` meets its contract: where no round is bad the schedule passes, and the first bad round is refused with the subset
-- that is named for it.
use mathlib.Core.Path.{refl}
use Rattle.house.specs.Numbers.{entries}
use Rattle.rounds.specs.Replies.{passes}
use Rattle.rounds.proofs.OldRoute.{rounds_pass}
use Rattle.rounds.proofs.RoundLaws.{coded_start, searched_none}
use Rattle.rounds.proofs.ReplyLaws.{change_clear_set}
use Rattle.rounds.proofs.check.Sound.check.Goals as goal

pub first_bad-requires : goal.first_bad-requires
first_bad-requires c = coded_start (entries c.args.self.now.ids.now) (entries c.args.self.now.sizes.now)

pub returns-in_default : goal.returns-in_default
returns-in_default c =
    passes (change_clear_set c.requires c.args.self.now.clear)
    (rounds_pass c.args.self.now.stands.good (searched_none c.in_default.ensures))
    c.passed.ensures.rounds
    c.passed.ensures.dues
    refl
