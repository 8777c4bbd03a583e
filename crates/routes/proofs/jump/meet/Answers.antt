use Rattle.std.proofs.Common.{◌<◌, length, sym, ◌∙◌, get_or}
use native.Mathlib.Numerals.{add-one}
use native.Mathlib.Omega.{arith}
use Rattle.house.specs.Numbers.{entries}
use Rattle.house.proofs.NumberLaws.{length_entries}
use Rattle.routes.specs.Jumps.{met, unmet}
use Rattle.routes.proofs.JumpLaws.{first_on_here, first_on_past, first_on_end, position_on, position_off, sought, unsought}
use Rattle.routes.proofs.jump.meet.Goals as goal

pub returns-in-Some : goal.returns-in-Some
returns-in-Some c =
    let p = entries c.args.other.now in
    let q = entries c.args.along.now in
    let i = c.loop-i.i in
    let s = sought p (get_or q i 0) (rw c.entry.ensures at c.in-Some.ensures) in
    rw s.0
    (met
    (sym c.loop-i.invariant
    ∙ first_on_here p q i (omega (arith, length_entries c.args.along.now)) (position_on p (get_or q i 0) (omega (arith, s)))))

pub loop-i-preserved : goal.loop-i-preserved
loop-i-preserved c =
    let p = entries c.args.other.now in
    let q = entries c.args.along.now in
    let i = c.loop-i.i in
    let s = unsought p (get_or q i 0) (rw c.entry.ensures at c.in_default.ensures) in
    let inside : i < length q = omega (arith, length_entries c.args.along.now) in
    rw (add-one i) (sym (first_on_past p q i inside (position_off p (get_or q i 0) (omega (arith, s)))) ∙ c.loop-i.invariant)

pub returns : goal.returns
returns c =
    unmet
    (sym c.loop-i.invariant
    ∙ first_on_end (entries c.args.other.now) (entries c.args.along.now) c.loop-i.i
    (omega (arith, length_entries c.args.along.now)))
