-- `Sound::first_bad` meets its contract. The loop's invariant: the rounds before t are good, `from` is the index where they end,
-- and the choice has them new only and all others old only.
use Rattle.house.specs.Numbers.{entries}
use Rattle.rounds.specs.Mode.{mode_no}
use Rattle.rounds.proofs.RoundLaws.{Passed}
use Rattle.rounds.proofs.check.Sound.first_bad.Given as goal

abbrev pub invariant-loop-t : goal.invariant-loop-t
invariant-loop-t l =
    Passed (mode_no l.self.setting.now.mode) (entries l.self.pair.old.now) (entries l.self.pair.new.now) (entries l.self.ids.now)
    (entries l.self.sizes.now)
    l.t
    l.from
    l.choice
