-- The reply of the check and the lent memory after it, for every input. `old`, `new`, `ids`, `sizes` and `set` are the bytes
-- given; `after` is what `set` holds afterwards.
--
--   ChangeFault .. r   == the refusal r, 1 or 4 to 14, applies to a pair of routes, a mode and a schedule
--   JudgesChange .. a  == a is the reply of judging a pair of routes, a mode and a schedule
--   CheckFault .. r    == the refusal r, 1 or 4 to 14, applies to the check
--   fault_of f t m     == the refusal of the fault f in round t, with a subset of m ids: 16 or 17
--   written ws set     == the lent bytes with the words ws at their front; what lies past them is kept
--   Checks .. a after  == a is the reply
use Rattle.std.specs.Prelude.{ℕ, ◌<◌, ◌≡◌, List, ◌++◌, length, drop, Result, Ok, Err}
use Rattle.house.specs.declared.Refusal.{Refusal}
use Rattle.house.specs.declared.Refusal.TheVariants.{Unfit, BeginsFaulty, Drop, Loop}
use Rattle.house.specs.Numbers.{entries, encode, Whole}
use Rattle.house.specs.Sets.{size}
use Rattle.house.specs.Refusals.{First, Clear}
use Rattle.routes.specs.Rules.{due, tally}
use Rattle.routes.specs.Replies.{JudgeFault}
use Rattle.rounds.specs.Schedule.{ScheduleFault}
use Rattle.rounds.specs.States.{Passes, Fault, a_drop, a_loop, FirstBad, Named}
use Rattle.rounds.specs.declared.check.Accepted.{Accepted}

pub data ChangeFault (old new : List ℕ) (mode : ℕ) (ids sizes : List ℕ) : Refusal → Type 0 where
  half_ids : (Whole ids → ⊥) → ChangeFault old new mode ids sizes Unfit
  half_sizes : (Whole sizes → ⊥) → ChangeFault old new mode ids sizes Unfit
  judged : {r : Refusal} → JudgeFault old new r → ChangeFault old new mode ids sizes r
  schedule :
      {r : Refusal}
      → ScheduleFault (entries old) (entries new) mode (entries ids) (entries sizes) r
      → ChangeFault old new mode ids sizes r

pub data JudgesChange (old new : List ℕ) (mode : ℕ) (ids sizes : List ℕ) : Result (Unit {0}) Refusal → Type 0 where
  sound : Clear (ChangeFault old new mode ids sizes) → JudgesChange old new mode ids sizes (Ok tt)
  faulty : {r : Refusal} → First (ChangeFault old new mode ids sizes) r → JudgesChange old new mode ids sizes (Err r)

pub data CheckFault (old new : List ℕ) (mode : ℕ) (ids sizes set : List ℕ) : Refusal → Type 0 where
  short_set : length set < 64 → CheckFault old new mode ids sizes set Unfit
  change : {r : Refusal} → ChangeFault old new mode ids sizes r → CheckFault old new mode ids sizes set r

abbrev pub fault_of : Fault → ℕ → ℕ → Refusal
fault_of a_drop t m = Drop t m
fault_of a_loop t m = Loop t m

unfoldable pub written : List ℕ → List ℕ → List ℕ
unfolding encode
written ws set = encode 8 ws ++ drop 64 set

pub data Checks (old new : List ℕ) (mode : ℕ) (ids sizes set : List ℕ) : Result Accepted Refusal → List ℕ → Type 0 where
  refused :
      {r : Refusal} {after : List ℕ}
      → First (CheckFault old new mode ids sizes set) r
      → after ≡ set
      → Checks old new mode ids sizes set (Err r) after
  passes :
      {a : Accepted} {after : List ℕ}
      → Clear (CheckFault old new mode ids sizes set)
      → Passes mode (entries old) (entries new) (entries ids) (entries sizes)
      → a.rounds ≡ length (entries sizes)
      → a.dues ≡ tally 512 (due (entries old) (entries new))
      → after ≡ set
      → Checks old new mode ids sizes set (Ok a) after
  begins_faulty :
      {t : ℕ} {f : Fault} {ws after : List ℕ}
      → Clear (CheckFault old new mode ids sizes set)
      → FirstBad mode (entries old) (entries new) (entries ids) (entries sizes) t f
      → Named mode (entries old) (entries new) (entries ids) (entries sizes) t f ws
      → size ws ≡ 0
      → after ≡ set
      → Checks old new mode ids sizes set (Err (BeginsFaulty t)) after
  shows :
      {t : ℕ} {f : Fault} {ws after : List ℕ} {r : Refusal}
      → Clear (CheckFault old new mode ids sizes set)
      → FirstBad mode (entries old) (entries new) (entries ids) (entries sizes) t f
      → Named mode (entries old) (entries new) (entries ids) (entries sizes) t f ws
      → 0 < size ws
      → r ≡ fault_of f t (size ws)
      → after ≡ written ws set
      → Checks old new mode ids sizes set (Err r) after
