-- Demand 2, of the planner: "The planner gives a schedule that passes for every pair of good routes." The statement is over
-- definitions of specs/ alone. Assumes nothing.
--
--   plan_passes_always   == the plan of a good pair passes
--   demand_2             == every good pair has a plan, in each mode; it is a schedule; it passes; and it has at most two
--                           rounds more than the change has switches. (That there is no other: plan_rounds_one of OneReply.)
use Prim.Native.Nat.{ℕ, ◌+◌, ◌≤◌}
use mathlib.Core.List.{List}
use lib.ListN.{length}
use Rattle.routes.specs.Routes.{Good}
use Rattle.routes.specs.Walk.{State}
use Rattle.rounds.specs.Schedule.{Schedule}
use Rattle.rounds.specs.States.{Passes}
use Rattle.plans.specs.Plan.{together, installs, switches, PlanRounds, ids_of, sizes_of, switched}
use Rattle.plans.proofs.IdLists.{or_left, or_right}
use Rattle.plans.proofs.PlanSets.{plan_schedule, plan_passes, plan_count}
use Rattle.plans.proofs.FixedRounds.{first_passes, last_passes}
use Rattle.plans.proofs.Middles.{plan_exists}

pub plan_passes_always :
    {mode : ℕ} {o n : List ℕ} {Rs : List State} → Good o n → PlanRounds mode o n Rs → Passes mode o n (ids_of Rs) (sizes_of Rs)
plan_passes_always {mode} {o} {n} g p =
    plan_passes g p (first_passes g mode)
    (last_passes g mode (together (installs o n) (switched o n)) (λ v e. or_left (switched o n v) e)
    (λ v e. or_right (installs o n v) e))

pub demand_2 :
    {o n : List ℕ}
    -- "for every pair of good routes"
    → Good o n
    → (mode : ℕ)
    -- "The planner gives"
    → (Rs : List State)
    × PlanRounds mode o n Rs
    -- "a schedule"
    × Schedule o n (ids_of Rs) (sizes_of Rs)
    -- "that passes"
    × Passes mode o n (ids_of Rs) (sizes_of Rs)
    × (length Rs ≤ length (switches o n) + 2)
demand_2 g mode =
    let x = plan_exists g mode in
    (x.0, x.1, plan_schedule g x.1, plan_passes_always g x.1, plan_count g x.1)
