-- `pair::judge` meets its contract. What holds past each test is `Passed`: no test with a lower number fails. So the first
-- failure of the next test gives the refusal that is given, and past the last test no refusal applies.
use Rattle.std.proofs.Common.{rules, ℕ, ◌≡◌, List, length, ◌%◌}
use Rattle.house.specs.Numbers.{entries, Whole}
use Rattle.routes.specs.Routes.{old_side, new_side}
use Rattle.routes.specs.Tests.{lengths, ids, repeats, ends, Fails, Spotted}
use Rattle.routes.specs.Replies.{half_old, half_new, sound, faulty}
use Rattle.routes.proofs.PairLaws.{judged_first, judged_clear, judged_unfit}
use Rattle.routes.proofs.TestLaws.{
  Passed,
  passed_none,
  passed_more,
  passed_clear,
  passed_first,
  passed_low,
  passed_some,
  first_length,
  first_id,
  first_twice,
  either_spotted,
  wrong_spotted,
  right_spotted,
}
use Rattle.routes.proofs.pair.judge.Goals as goal
use Rattle.routes.proofs.pair.judge.Goals.{
  then-old-ne0-via-then-old-ne0,
  then-old-ne0-via-else-old-ne0+then-new-ne0,
  After-in_either,
  After-in_either-2,
  After-in_either-3,
  In_default,
  In_default-in_either,
  In_default-in_either-2,
}

-- past the first two tests both are whole entries
whole : {b : List ℕ} → length b % 2 ≡ 0 → Whole b
whole e = record { even = e }

pub returns-then-old-ne0 : goal.returns-then-old-ne0
returns-then-old-ne0 c =
    elim c.then-old-ne0.branch [
      | then-old-ne0-via-then-old-ne0 w ↦ faulty (judged_unfit (half_old (λ e. w.if-old-ne0.true e.even)))
      | then-old-ne0-via-else-old-ne0+then-new-ne0 w ↦ faulty (judged_unfit (half_new (λ e. w.if-new-ne0.true e.even)))
    ]

-- where each test fails first, and what holds past it
test_lengths : (c : After-in_either) → Spotted (Fails (entries c.args.old.now) (entries c.args.new.now) lengths) c.in_either.result
test_lengths c =
    either_spotted (λ r p. first_length old_side (search rules)) (λ r p. first_length new_side (search rules)) c.in_either.ensures

past_lengths : (c : In_default) → Passed (entries c.args.old.now) (entries c.args.new.now) 5
past_lengths c = passed_more lengths passed_none (rw c.in_default.is at (test_lengths (goal.at.In_default c).After-in_either))

test_ids : (c : After-in_either-2) → Spotted (Fails (entries c.args.old.now) (entries c.args.new.now) ids) c.in_either-2.result
test_ids c =
    either_spotted (λ r p. first_id old_side (search rules)) (λ r p. first_id new_side (search rules)) c.in_either-2.ensures

past_ids : (c : In_default-in_either) → Passed (entries c.args.old.now) (entries c.args.new.now) 6
past_ids c =
    let s = goal.at.In_default-in_either c in
    passed_more ids (past_lengths s.In_default) (rw c.in_default-in_either.is at (test_ids s.After-in_either-2))

test_repeats : (c : After-in_either-3) → Spotted (Fails (entries c.args.old.now) (entries c.args.new.now) repeats) c.in_either-3.result
test_repeats c =
    either_spotted (λ r p. first_twice old_side (search rules)) (λ r p. first_twice new_side (search rules)) c.in_either-3.ensures

past_repeats : (c : In_default-in_either-2) → Passed (entries c.args.old.now) (entries c.args.new.now) 7
past_repeats c =
    let s = goal.at.In_default-in_either-2 c in
    passed_more repeats (past_ids s.In_default-in_either) (rw c.in_default-in_either-2.is at (test_repeats s.After-in_either-3))

pub returns-in-Some : goal.returns-in-Some
returns-in-Some c =
    faulty
    (judged_first (whole c.if-old-ne0.false) (whole c.if-new-ne0.false)
    (passed_first lengths passed_none (rw c.in-Some.is at (test_lengths (goal.at.returns-in-Some c).After-in_either))))

pub returns-in-Some-in_either : goal.returns-in-Some-in_either
returns-in-Some-in_either c =
    let s = goal.at.returns-in-Some-in_either c in
    faulty
    (judged_first (whole c.if-old-ne0.false) (whole c.if-new-ne0.false)
    (passed_first ids (past_lengths s.In_default)
    (rw c.in-Some-in_either.is at (test_ids s.After-in_either-2))))

pub invariant_of-in_either : goal.invariant_of-in_either
invariant_of-in_either c = record { low = passed_low (past_ids (goal.at.invariant_of-in_either c).In_default-in_either) old_side }

pub invariant_of-in_either-2 : goal.invariant_of-in_either-2
invariant_of-in_either-2 c = record { low = passed_low (past_ids (goal.at.invariant_of-in_either-2 c).In_default-in_either) new_side }

pub returns-in-Some-in_either-2 : goal.returns-in-Some-in_either-2
returns-in-Some-in_either-2 c =
    let s = goal.at.returns-in-Some-in_either-2 c in
    faulty
    (judged_first (whole c.if-old-ne0.false) (whole c.if-new-ne0.false)
    (passed_first repeats (past_ids s.In_default-in_either)
    (rw c.in-Some-in_either-2.is at (test_repeats s.After-in_either-3))))

pub wrong_end-requires : goal.wrong_end-requires
wrong_end-requires c =
    let past = past_repeats (goal.at.wrong_end-requires c).In_default-in_either-2 in
    (passed_some past old_side, passed_some past new_side)

pub returns-in-Some-wrong_end : goal.returns-in-Some-wrong_end
returns-in-Some-wrong_end c =
    faulty
    (judged_first (whole c.if-old-ne0.false) (whole c.if-new-ne0.false)
    (passed_first ends (past_repeats (goal.at.returns-in-Some-wrong_end c).In_default-in_either-2) (wrong_spotted c.in-Some-wrong_end.ensures)))

pub returns : goal.returns
returns c =
    sound
    (judged_clear (whole c.if-old-ne0.false) (whole c.if-new-ne0.false)
    (passed_clear (passed_more ends (past_repeats (goal.at.returns c).In_default-in_either-2) (right_spotted c.in_default-wrong_end.ensures))))
