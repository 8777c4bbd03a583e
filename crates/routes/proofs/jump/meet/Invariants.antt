-- `routes::jump::meet` meets its contract. The loop's invariant: the first entry on `other` is the same from `i` on as from
-- `from` on.
use Rattle.std.proofs.Common.{◌≡◌, drop}
use Rattle.house.specs.Numbers.{entries}
use Rattle.routes.specs.Jumps.{first_on}
use Rattle.routes.proofs.jump.meet.Given as goal

abbrev pub invariant-loop-i : goal.invariant-loop-i
invariant-loop-i l =
    first_on (entries l.other) (drop l.i (entries l.along)) ≡ first_on (entries l.other) (drop l.from (entries l.along))
