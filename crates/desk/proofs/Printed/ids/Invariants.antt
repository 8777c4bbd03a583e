-- `Printed::ids` meets its contract. The loop's invariant is `Listing`: the ids below `from` are put. The measure is what is left of
-- the 512 ids.
use Rattle.std.proofs.Common.{◌≡◌, ◌-◌}
use Rattle.desk.proofs.IdLaws.{Listing}
use Rattle.desk.proofs.Printed.ids.Given as goal

abbrev pub invariant-loop-id : goal.invariant-loop-id
invariant-loop-id l =
    (l.self.out.ghost_name ≡ l.initial.self.out.ghost_name)
    × Listing l.initial.self.out.now l.initial.self.len l.set.words l.from l.self.len l.self.out.now

abbrev pub decreases-loop-id : goal.decreases-loop-id
decreases-loop-id l = 512 - l.from
