-- The replies of the C calls: four 16-bit lanes, lowest first: number, where, place, node. A lane that would not fit holds
-- 65,535. A yes has number 0: of the check, where is the number of rounds and place the number of due nodes; of the plan and
-- the quick plan, where is the number of rounds and place the number of ids written; of the walk, where is 0 arrived, 1
-- dropped, 2 looped, place the hops, and node the node dropped or looped at.
--
--   lane x             == x, or 65,535 where that is less
--   lanes a b c d      == the four lanes as one number
--   refusal_lanes, check_lanes, plan_lanes, walk_lanes == the lanes of a reply
--   CheckCall .. r after == r is what `jiwasampu_check` returns, and `after` what the lent slice holds then
--   PlanCall .. r ids' sizes' == r is what `jiwasampu_plan` returns, and ids' and sizes' what the lent slices hold then
--   QuickCall .. r ids' sizes' == r is what `jiwasampu_quick` returns, and ids' and sizes' what the lent slices hold then
--   WalkCall .. r      == r is what `jiwasampu_walk` returns
use Rattle.std.specs.Prelude.{ℕ, ◌+◌, ◌*◌, min, ◌≡◌, List, Result, Ok, Err}
use Rattle.house.specs.declared.Refusal.{Refusal}
use Rattle.house.specs.Refusals.{number, site, place}
use Rattle.routes.specs.declared.walk.Walked.{Walked}
use Rattle.routes.specs.declared.walk.Walked.TheVariants.{Arrived, Dropped, Looped}
use Rattle.routes.specs.Replies.{WalkReply}
use Rattle.rounds.specs.declared.check.Accepted.{Accepted}
use Rattle.rounds.specs.Replies.{Checks}
use Rattle.plans.specs.declared.Given.{Given}
use Rattle.plans.specs.Replies.{Plans, Quicks}

abbrev pub lane : ℕ → ℕ
lane x = min x 65535

unfoldable pub lanes : ℕ → ℕ → ℕ → ℕ → ℕ
lanes a b c d = lane a + 65536 * (lane b + 65536 * (lane c + 65536 * lane d))

abbrev pub refusal_lanes : Refusal → ℕ
refusal_lanes r = lanes (number r) (site r) (place r) 0

abbrev pub check_lanes : Result Accepted Refusal → ℕ
check_lanes (Ok a) = lanes 0 a.rounds a.dues 0
check_lanes (Err r) = refusal_lanes r

abbrev pub plan_lanes : Result Given Refusal → ℕ
plan_lanes (Ok g) = lanes 0 g.rounds g.count 0
plan_lanes (Err r) = refusal_lanes r

abbrev pub walk_lanes : Result Walked Refusal → ℕ
walk_lanes (Ok (Arrived hops)) = lanes 0 0 hops 0
walk_lanes (Ok (Dropped node hops)) = lanes 0 1 hops node
walk_lanes (Ok (Looped node hops)) = lanes 0 2 hops node
walk_lanes (Err r) = refusal_lanes r

pub record CheckCall (old new : List ℕ) (mode : ℕ) (ids sizes set : List ℕ) (r : ℕ) (after : List ℕ) : Type 0 where
  pub reply : Result Accepted Refusal
  pub replied : Checks old new mode ids sizes set reply after
  pub in_lanes : r ≡ check_lanes reply

pub record PlanCall (old new : List ℕ) (mode : ℕ) (ids sizes : List ℕ) (r : ℕ) (ids' sizes' : List ℕ) : Type 0 where
  pub reply : Result Given Refusal
  pub replied : Plans old new mode ids sizes reply ids' sizes'
  pub in_lanes : r ≡ plan_lanes reply

pub record QuickCall (old new : List ℕ) (mode : ℕ) (ids sizes : List ℕ) (r : ℕ) (ids' sizes' : List ℕ) : Type 0 where
  pub reply : Result Given Refusal
  pub replied : Quicks old new mode ids sizes reply ids' sizes'
  pub in_lanes : r ≡ plan_lanes reply

pub record WalkCall (old new set : List ℕ) (r : ℕ) : Type 0 where
  pub reply : Result Walked Refusal
  pub replied : WalkReply old new set reply
  pub in_lanes : r ≡ walk_lanes reply
