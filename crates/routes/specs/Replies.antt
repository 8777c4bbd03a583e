-- The replies of the public functions, for every input. `old`, `new` and `set` are the bytes given.
--
--   JudgeFault old new r    == the refusal r applies to the pair of routes: 1, or 4 to 7
--   Judges old new a        == a is the reply of `judge`
--   JumpFault old new v r   == the refusal r applies to jumps: 1, 4 to 7, 18
--   Jumps old new v a       == a is the reply of `jumps`
--   WalkFault old new set r == the refusal r applies to the walk: 1, 4 to 7, 12
--   WalkReply old new set a == a is the reply of `walk`
use Rattle.std.specs.Prelude.{ℕ, ◌<◌, ◌≡◌, true, false, List, length, Result, Ok, Err}
use Rattle.std.proofs.Math.Option.{some}
use Rattle.house.specs.declared.Refusal.{Refusal}
use Rattle.house.specs.declared.Refusal.TheVariants.{Unfit, NotDue, NoJump}
use Rattle.house.specs.Numbers.{entries, words, Whole}
use Rattle.house.specs.Sets.{has}
use Rattle.house.specs.Refusals.{First, Clear}
use Rattle.routes.specs.Routes.{RouteFault, source, destination}
use Rattle.routes.specs.Rules.{due}
use Rattle.routes.specs.Jumps.{jump, has_jump}
use Rattle.routes.specs.Walk.{in_state, Walks}
use Rattle.routes.specs.declared.jump.NodeJumps.{NodeJumps}
use Rattle.routes.specs.declared.walk.Walked.{Walked}

pub data JudgeFault (old new : List ℕ) : Refusal → Type 0 where
  half_old : (Whole old → ⊥) → JudgeFault old new Unfit
  half_new : (Whole new → ⊥) → JudgeFault old new Unfit
  pair : {r : Refusal} → RouteFault (entries old) (entries new) r → JudgeFault old new r

pub data Judges (old new : List ℕ) : Result (Unit {0}) Refusal → Type 0 where
  sound : Clear (JudgeFault old new) → Judges old new (Ok tt)
  faulty : {r : Refusal} → First (JudgeFault old new) r → Judges old new (Err r)

pub data JumpFault (old new : List ℕ) (v : ℕ) : Refusal → Type 0 where
  judged : {r : Refusal} → JudgeFault old new r → JumpFault old new v r
  no_jump : has_jump (entries old) (entries new) v ≡ false → JumpFault old new v (NoJump v)

pub data Jumps (old new : List ℕ) (v : ℕ) : Result NodeJumps Refusal → Type 0 where
  refused : {r : Refusal} → First (JumpFault old new v) r → Jumps old new v (Err r)
  jumped :
      {j : NodeJumps}
      → Clear (JumpFault old new v)
      → jump (entries old) (entries new) v ≡ some j.old_order
      → jump (entries new) (entries old) v ≡ some j.new_order
      → Jumps old new v (Ok j)

pub data WalkFault (old new set : List ℕ) : Refusal → Type 0 where
  not_eight : (length set ≡ 64 → ⊥) → WalkFault old new set Unfit
  judged : {r : Refusal} → JudgeFault old new r → WalkFault old new set r
  stray :
      {i : ℕ}
      → i < 512
      → has (words set) i ≡ true
      → due (entries old) (entries new) i ≡ false
      → WalkFault old new set (NotDue 0 i)

pub data WalkReply (old new set : List ℕ) : Result Walked Refusal → Type 0 where
  refused : {r : Refusal} → First (WalkFault old new set) r → WalkReply old new set (Err r)
  walked :
      {a : Walked}
      → Clear (WalkFault old new set)
      → Walks (in_state (entries old) (entries new) (has (words set))) (source (entries old)) (destination (entries old)) a
      → WalkReply old new set (Ok a)
