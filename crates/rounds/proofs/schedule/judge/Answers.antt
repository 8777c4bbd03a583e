-- `schedule::judge` meets its contract: 1 is given first, where ids or sizes are not whole entries; then what judging the pair of
-- routes answers, which has a lower number than any refusal of the schedule; and only of a good pair the schedule is judged.
use Rattle.std.proofs.Common.{rules, ◌≡◌, Err}
use Rattle.rounds.specs.Replies.{half_ids, half_sizes}
use Rattle.routes.proofs.PairLaws.{judges_good}
use Rattle.rounds.proofs.TestLaws.{change_unfit, change_judged, change_answers}
use Rattle.rounds.proofs.schedule.judge.Goals.{then-ids-ne0-via-then-ids-ne0, then-ids-ne0-via-else-ids-ne0+then-sizes-ne0}
use Rattle.rounds.proofs.schedule.judge.Goals as goal

pub returns-then-ids-ne0 : goal.returns-then-ids-ne0
returns-then-ids-ne0 c =
    elim c.then-ids-ne0.branch [
      | then-ids-ne0-via-then-ids-ne0 w ↦ change_unfit (half_ids (λ e. w.if-ids-ne0.true e.even))
      | then-ids-ne0-via-else-ids-ne0+then-sizes-ne0 w ↦ change_unfit (half_sizes (λ e. w.if-sizes-ne0.true e.even))
    ]

-- past the first test both are whole entries
pub returns-in_err-judge : goal.returns-in_err-judge
returns-in_err-judge c =
    let e : c.from_residual.result ≡ Err c.in_err-judge.field-0.0 = search rules in
    rw e (change_judged c.if-ids-ne0.false c.if-sizes-ne0.false c.in_err-judge.ensures)

pub invariant_of-judge : goal.invariant_of-judge
invariant_of-judge c = record { good = judges_good c.in_ok-judge.ensures }

pub returns : goal.returns
returns c = change_answers c.if-ids-ne0.false c.if-sizes-ne0.false c.in_ok-judge.ensures c.judge-2.ensures
