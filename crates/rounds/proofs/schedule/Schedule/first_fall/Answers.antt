use Prim.Native.Nat.{◌<◌}
use mathlib.Core.Path.{◌∙◌}
use native.Mathlib.Omega.{arith}
use lib.ListN.{length}
use Rattle.house.specs.Numbers.{entries}
use Rattle.house.proofs.NumberLaws.{length_entries}
use Rattle.rounds.proofs.TestLaws.{scan_none, scan_some, scan_next, scan_rounds, scan_here, scan_on, scan_end}
use Rattle.rounds.proofs.schedule.Schedule.first_fall.Goals as goal
use Rattle.rounds.proofs.schedule.Schedule.first_fall.Goals.{In-loop-i, then-i-end, else-i-end+else-entry}

inside : (c : In-loop-i) → c.loop-i.i < length (entries c.args.self.now.ids.now)
inside c = omega (arith, length_entries c.args.self.now.ids.now)

pub loop-i-init : goal.loop-i-init
loop-i-init c = scan_none

pub overflow_add-t : goal.overflow_add-t
overflow_add-t c =
    omega (arith, length_entries c.args.self.now.sizes.now, scan_rounds c.requires c.loop-i.invariant (inside (goal.at.overflow_add-t c).In-loop-i) c.if-i-end.true)

pub overflow_sub-i : goal.overflow_sub-i
overflow_sub-i c =
    omega (arith, scan_some c.requires c.loop-i.invariant (inside (goal.at.overflow_sub-i c).In-loop-i) c.if-i-end.false)

pub returns-then-entry : goal.returns-then-entry
returns-then-entry c =
    scan_here c.requires c.loop-i.invariant (inside (goal.at.returns-then-entry c).In-loop-i) c.if-i-end.false
    (omega (arith, c.entry-else-i-end.ensures, c.entry-else-i-end-2.ensures))

-- a round begins, or the id at `i` does not fall
pub loop-i-preserved : goal.loop-i-preserved
loop-i-preserved c =
    let h = inside (goal.at.loop-i-preserved c).In-loop-i in
    elim c.if-i-end.branch [
      | then-i-end w ↦ rw (w.t-is, w.end-is) (scan_next c.requires c.loop-i.invariant h w.if-i-end.true (w.from-end.ensures ∙ w.entry.ensures))
      | else-i-end+else-entry w ↦
          rw (w.t-is, w.end-is)
          (scan_on c.requires c.loop-i.invariant h w.if-i-end.false
          (omega (arith, w.if-entry.false, w.entry-else-i-end.ensures, w.entry-else-i-end-2.ensures)))
    ]

pub returns : goal.returns
returns c = scan_end c.loop-i.invariant (omega (arith, length_entries c.args.self.now.ids.now))
