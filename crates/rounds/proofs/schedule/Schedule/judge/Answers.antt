-- `Schedule::judge` meets its contract. What holds past each test is `Passed`: no refusal with a lower number applies. So the
-- first failure of the next test gives the refusal that is given, and past the last test no refusal applies.
use Rattle.std.proofs.Common.{rules, ◌≡◌, Err}
use Prim.Native.Nat.{ℕ}
use mathlib.Core.Path.{ap, ◌∙◌, sym}
use native.Mathlib.Numerals.{add-one}
use native.Mathlib.Omega.{arith}
use Rattle.house.specs.Numbers.{entries}
use Rattle.house.specs.declared.Refusal.TheVariants.{RoundEmpty, NotRising, NotDue, Again}
use Rattle.house.proofs.NumberLaws.{length_entries}
use Rattle.rounds.specs.Tests.{sound, faulty}
use Rattle.rounds.specs.declared.schedule.Schedule.{Schedule}
use Rattle.routes.specs.declared.pair.Pair.{Pair}
use Rattle.rounds.proofs.TestLaws.{
  Passed,
  run_first,
  run_passed,
  mode_first,
  mode_passed,
  total_first,
  total_passed,
  passed_clear,
  empties_tell,
  falls_tell,
  strays_tell,
  agains_tell,
  losses_tell,
  passed_low,
  MarksDue,
  marks_due,
  answers_first,
  found_below,
}
use Rattle.rounds.proofs.schedule.Schedule.judge.Goals as goal
use Rattle.rounds.proofs.schedule.Schedule.judge.Goals.{Else-not-adds_up, In_default, In_default-first_fall}
use Rattle.rounds.proofs.schedule.Schedule.judge.Goals.{After-due_nodes-due, In_default-first_not_due, In_default-first_again}

-- the tests passed before the test of the refusal k
abbrev Past : Schedule → Pair → ℕ → ℕ → Type 0
Past s p mode k = Passed (entries p.old.now) (entries p.new.now) mode (entries s.ids.now) (entries s.sizes.now) k

-- one more is passed, at each place
totalled : (c : Else-not-adds_up) → Past c.args.self.now c.args.pair c.args.mode 10
totalled c = total_passed (mode_passed c.in_ok-try_from.ensures) (sym c.adds_up.ensures ∙ c.if-not-adds_up.false)

filled :
    (c : In_default)
    → Past c.args.self.now c.args.pair c.args.mode 10
    → Past c.args.self.now c.args.pair c.args.mode 11
filled c past = run_passed empties_tell past c.in_default.ensures

risen :
    (c : In_default-first_fall)
    → Past c.args.self.now c.args.pair c.args.mode 11
    → Past c.args.self.now c.args.pair c.args.mode 12
risen c past = run_passed falls_tell past c.in_default-first_fall.ensures

marks : (c : After-due_nodes-due) → MarksDue (entries c.args.pair.old.now) (entries c.args.pair.new.now) c.due_nodes-due.result
marks c = marks_due c.args.pair.good c.next_values.ensures c.next_values-2.ensures c.due_nodes-due.ensures

all_due :
    (c : In_default-first_not_due)
    → MarksDue (entries c.args.pair.old.now) (entries c.args.pair.new.now) c.due_nodes-due.result
    → Past c.args.self.now c.args.pair c.args.mode 12
    → Past c.args.self.now c.args.pair c.args.mode 13
all_due c m past = run_passed (strays_tell m) past c.in_default-first_not_due.ensures

once :
    (c : In_default-first_again)
    → Past c.args.self.now c.args.pair c.args.mode 12
    → Past c.args.self.now c.args.pair c.args.mode 13
    → Past c.args.self.now c.args.pair c.args.mode 14
once c falls past = run_passed (agains_tell falls) past c.in_default-first_again.ensures

pub returns-in_err-try_from : goal.returns-in_err-try_from
returns-in_err-try_from c =
    let e : c.from_residual.result ≡ Err c.in_err-try_from.field-0.0 = search rules in
    rw e (faulty (mode_first c.in_err-try_from.ensures))

pub returns-then-not-adds_up : goal.returns-then-not-adds_up
returns-then-not-adds_up c =
    faulty (total_first (mode_passed c.in_ok-try_from.ensures) (sym c.adds_up.ensures ∙ c.if-not-adds_up.true))

pub overflow_add-result : goal.overflow_add-result
overflow_add-result c = omega (arith, length_entries c.args.self.now.sizes.now, found_below c.in-Some.ensures)

pub returns-in-Some : goal.returns-in-Some
returns-in-Some c =
    let p = goal.at.returns-in-Some c in
    answers_first (ap RoundEmpty (add-one c.in-Some.k)) (run_first empties_tell (totalled p.Else-not-adds_up) c.in-Some.ensures)

pub returns-in-Some-first_fall : goal.returns-in-Some-first_fall
returns-in-Some-first_fall c =
    let p = goal.at.returns-in-Some-first_fall c in
    answers_first (ap (λ (t : ℕ). NotRising t c.in-Some-first_fall.i) c.round_of.ensures)
    (run_first falls_tell (filled p.In_default (totalled p.Else-not-adds_up)) c.in-Some-first_fall.ensures)

pub returns-in-Some-first_not_due : goal.returns-in-Some-first_not_due
returns-in-Some-first_not_due c =
    let p = goal.at.returns-in-Some-first_not_due c in
    let falls = risen p.In_default-first_fall (filled p.In_default (totalled p.Else-not-adds_up)) in
    answers_first (ap (λ (t : ℕ). NotDue t c.in-Some-first_not_due.i) c.round_of-in-Some-first_not_due.ensures)
    (run_first (strays_tell (marks p.After-due_nodes-due)) falls c.in-Some-first_not_due.ensures)

pub invariant_of-nodes : goal.invariant_of-nodes
invariant_of-nodes c =
    let p = goal.at.invariant_of-nodes c in
    let falls = risen p.In_default-first_fall (filled p.In_default (totalled p.Else-not-adds_up)) in
    record { low = passed_low c.args.pair.good (all_due p.In_default-first_not_due (marks p.After-due_nodes-due) falls) }

pub returns-in-Some-first_again : goal.returns-in-Some-first_again
returns-in-Some-first_again c =
    let p = goal.at.returns-in-Some-first_again c in
    let falls = risen p.In_default-first_fall (filled p.In_default (totalled p.Else-not-adds_up)) in
    answers_first (ap (λ (t : ℕ). Again t c.in-Some-first_again.i) c.round_of-in-Some-first_again.ensures)
    (run_first (agains_tell falls) (all_due p.In_default-first_not_due (marks p.After-due_nodes-due) falls) c.in-Some-first_again.ensures)

pub returns-in-Some-first_missing : goal.returns-in-Some-first_missing
returns-in-Some-first_missing c =
    let p = goal.at.returns-in-Some-first_missing c in
    let m = marks p.After-due_nodes-due in
    let falls = risen p.In_default-first_fall (filled p.In_default (totalled p.Else-not-adds_up)) in
    faulty
    (run_first (losses_tell c.args.pair.good m) (once p.In_default-first_again falls (all_due p.In_default-first_not_due m falls))
    c.in-Some-first_missing.ensures)

pub returns : goal.returns
returns c =
    let p = goal.at.returns c in
    let m = marks p.After-due_nodes-due in
    let falls = risen p.In_default-first_fall (filled p.In_default (totalled p.Else-not-adds_up)) in
    sound
    (passed_clear
    (run_passed (losses_tell c.args.pair.good m) (once p.In_default-first_again falls (all_due p.In_default-first_not_due m falls))
    c.in_default-first_missing.ensures))
