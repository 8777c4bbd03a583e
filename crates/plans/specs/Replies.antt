-- The replies of the planner and the quick planner and the lent memory after them, for every input. `old` and `new` are the bytes given; `ids` and
-- `sizes` are the lent bytes before, `ids'` and `sizes'` after.
--
--   PlanFault .. r     == the refusal r, 1 or 4 to 8, applies
--   overlaid xs b      == the lent bytes b with the entries xs at their front; entries past those written keep their content
--   Plans .. a ids' sizes' == a is the planner's reply
--   QuickFault .. r    == the refusal r, one of the planner's or 19, applies to the quick planner
--   Quicks .. a ids' sizes' == a is the quick planner's reply
use Rattle.std.specs.Prelude.{ℕ, ◌*◌, ◌<◌, ◌≡◌, true, List, ◌++◌, length, drop, Result, Ok, Err}
use Rattle.house.specs.declared.Refusal.{Refusal}
use Rattle.house.specs.declared.Refusal.TheVariants.{Unfit, ModeOver, BothBackward}
use Rattle.house.specs.Numbers.{entries, encode}
use Rattle.house.specs.Refusals.{First, Clear}
use Rattle.routes.specs.Walk.{State}
use Rattle.routes.specs.Replies.{JudgeFault}
use Rattle.plans.specs.Plan.{PlanRounds, ids_of, sizes_of}
use Rattle.plans.specs.TwoBetween.{both_back, quick_rounds}
use Rattle.plans.specs.declared.Given.{Given}

pub data PlanFault (old new : List ℕ) (mode : ℕ) (ids sizes : List ℕ) : Refusal → Type 0 where
  short_ids : length ids < 1024 → PlanFault old new mode ids sizes Unfit
  short_sizes : length sizes < 1024 → PlanFault old new mode ids sizes Unfit
  judged : {r : Refusal} → JudgeFault old new r → PlanFault old new mode ids sizes r
  mode_over : 1 < mode → PlanFault old new mode ids sizes ModeOver

unfoldable pub overlaid : List ℕ → List ℕ → List ℕ
overlaid xs b = encode 2 xs ++ drop (2 * length xs) b

pub data Plans (old new : List ℕ) (mode : ℕ) (ids sizes : List ℕ) : Result Given Refusal → List ℕ → List ℕ → Type 0 where
  refused :
      {r : Refusal} {ids' sizes' : List ℕ}
      → First (PlanFault old new mode ids sizes) r
      → ids' ≡ ids
      → sizes' ≡ sizes
      → Plans old new mode ids sizes (Err r) ids' sizes'
  given :
      {g : Given} {ids' sizes' : List ℕ} {Rs : List State}
      → Clear (PlanFault old new mode ids sizes)
      → PlanRounds mode (entries old) (entries new) Rs
      → g.rounds ≡ length Rs
      → g.count ≡ length (ids_of Rs)
      → ids' ≡ overlaid (ids_of Rs) ids
      → sizes' ≡ overlaid (sizes_of Rs) sizes
      → Plans old new mode ids sizes (Ok g) ids' sizes'

pub data QuickFault (old new : List ℕ) (mode : ℕ) (ids sizes : List ℕ) : Refusal → Type 0 where
  planner : {r : Refusal} → PlanFault old new mode ids sizes r → QuickFault old new mode ids sizes r
  both_backward : {v : ℕ} → both_back (entries old) (entries new) v ≡ true → QuickFault old new mode ids sizes (BothBackward v)

pub data Quicks (old new : List ℕ) (mode : ℕ) (ids sizes : List ℕ) : Result Given Refusal → List ℕ → List ℕ → Type 0 where
  refused :
      {r : Refusal} {ids' sizes' : List ℕ}
      → First (QuickFault old new mode ids sizes) r
      → ids' ≡ ids
      → sizes' ≡ sizes
      → Quicks old new mode ids sizes (Err r) ids' sizes'
  given :
      {g : Given} {ids' sizes' : List ℕ} {Rs : List State}
      → Clear (QuickFault old new mode ids sizes)
      → Rs ≡ quick_rounds (entries old) (entries new)
      → g.rounds ≡ length Rs
      → g.count ≡ length (ids_of Rs)
      → ids' ≡ overlaid (ids_of Rs) ids
      → sizes' ≡ overlaid (sizes_of Rs) sizes
      → Quicks old new mode ids sizes (Ok g) ids' sizes'
