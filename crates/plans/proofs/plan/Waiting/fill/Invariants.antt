-- `Waiting::fill` meets its contract. The loop's invariant: those found are the switches of the route from index i on,
-- backward.
use Rattle.house.specs.Numbers.{entries}
use Rattle.plans.specs.Working.{Backward}
use Rattle.plans.proofs.plan.Waiting.fill.Given as goal

abbrev pub invariant-loop-i : goal.invariant-loop-i
invariant-loop-i l = Backward l.setting.old.now l.setting.new.now (entries l.pair.new.now) l.i l.self.nodes l.self.many
