-- `Sound::named` meets its contract. The loop's invariant: the ids of the round before the index i are decided.
use Rattle.house.specs.Numbers.{entries}
use Rattle.rounds.specs.Mode.{mode_no}
use Rattle.rounds.specs.Working.{the_fault}
use Rattle.rounds.proofs.NamingLaws.{Naming}
use Rattle.rounds.proofs.check.Sound.named.Given as goal

abbrev pub invariant-loop-i : goal.invariant-loop-i
invariant-loop-i l =
    Naming (mode_no l.self.setting.now.mode) (entries l.self.pair.old.now) (entries l.self.pair.new.now) (entries l.self.ids.now)
    (entries l.self.sizes.now)
    l.bad.round
    (the_fault l.bad.fault)
    l.bad.from
    l.to
    l.i
    l.choice
    l.subset.words
