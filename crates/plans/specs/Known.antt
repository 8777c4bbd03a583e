-- The known answers of document 01, "Both sides of each line": the cases marked K, as one table. That every row holds is
-- `all_hold` of proofs/Known.antt.
--
--   Pair                 == an old and a new route
--   strong, relaxed      == the two modes
--   ids_in, sizes_in     == rounds, each a list of ids, as a schedule: their ids, all rounds joined, and their sizes
--   set_of l             == the ids of l as a set of eight words
--   Case                 == a case, with what it must give:
--     plan mode p rs               the plan is the rounds rs
--     passes mode p rs             the schedule rs passes
--     names mode p rs nr t l       the check's no of the schedule rs: the number nr, 16 or 17, round t, and the subset l
--     refused mode p rs r nr w pl  the refusal of the schedule rs: r, which has the number nr, the where w and the place pl
--     jumps p v a b                the jumps of the node v: a, old-order, and b, new-order
--     walks p l a                  the walk with the set l comes to a
--   IsPlan, IsPassed, IsNamed, IsRefused, HasJumps, WalksTo == what that is, of the definitions of document 01
--   Holds c              == the case c holds
--   AllHold cs           == each of the cases cs holds
--   known                == the cases K1 to K14
use Rattle.std.specs.Prelude.{ℕ, ◌≡◌, true, length, replicate, ℤ, pos, negsuc}
use mathlib.Core.List.{List, [], ◌∷◌, map, flatten}
use Rattle.std.proofs.Math.Option.{some}
use Rattle.house.specs.declared.Refusal.{Refusal}
use Rattle.house.specs.declared.Refusal.TheVariants.{Again, Missing}
use Rattle.house.specs.Sets.{has, put, size}
use Rattle.house.specs.Refusals.{number, site, place, First, Clear}
use Rattle.routes.specs.Routes.{source, destination, Good}
use Rattle.routes.specs.Rules.{due}
use Rattle.routes.specs.Jumps.{jump, has_jump}
use Rattle.routes.specs.Walk.{State, in_state, Walks}
use Rattle.routes.specs.declared.walk.Walked.{Walked}
use Rattle.routes.specs.declared.walk.Walked.TheVariants.{Dropped}
use Rattle.rounds.specs.Schedule.{ScheduleFault}
use Rattle.rounds.specs.States.{Passes, Fault, FirstBad, Named}
use Rattle.rounds.specs.Replies.{fault_of}
use Rattle.plans.specs.Plan.{rising, PlanRounds}

pub record Pair : Type 0 where
  pub old : List ℕ
  pub new : List ℕ

abbrev pub strong : ℕ
strong = 0

abbrev pub relaxed : ℕ
relaxed = 1

unfoldable pub ids_in : List (List ℕ) → List ℕ
unfolding flatten
ids_in rs = flatten rs

abbrev pub sizes_in : List (List ℕ) → List ℕ
sizes_in rs = map length rs

unfoldable pub set_of : List ℕ → List ℕ
unfolding put
set_of [] = replicate 8 0
set_of (i ∷ l) = put (set_of l) i

pub data Case : Type 0 where
  plan : (mode : ℕ) → Pair → (rs : List (List ℕ)) → Case
  passes : (mode : ℕ) → Pair → (rs : List (List ℕ)) → Case
  names : (mode : ℕ) → Pair → (rs : List (List ℕ)) → (nr t : ℕ) → (l : List ℕ) → Case
  refused : (mode : ℕ) → Pair → (rs : List (List ℕ)) → (r : Refusal) → (nr w pl : ℕ) → Case
  jumps : Pair → (v : ℕ) → (a b : ℤ) → Case
  walks : Pair → (l : List ℕ) → (a : Walked) → Case

-- ---- what a case says of the routes o and n

pub record IsPlan (mode : ℕ) (o n : List ℕ) (rs : List (List ℕ)) : Type 0 where
  pub good : Good o n
  pub rounds : List State
  pub planned : PlanRounds mode o n rounds
  pub listed : map rising rounds ≡ rs

pub record IsPassed (mode : ℕ) (o n ids zs : List ℕ) : Type 0 where
  pub good : Good o n
  -- none of the refusals 8 to 14 applies
  pub well_formed : Clear (ScheduleFault o n mode ids zs)
  pub passing : Passes mode o n ids zs

pub record IsNamed (mode : ℕ) (o n ids zs : List ℕ) (nr t : ℕ) (ws : List ℕ) (m : ℕ) : Type 0 where
  pub good : Good o n
  pub well_formed : Clear (ScheduleFault o n mode ids zs)
  pub fault : Fault
  pub first_bad : FirstBad mode o n ids zs t fault
  pub named : Named mode o n ids zs t fault ws
  pub sized : size ws ≡ m
  pub numbered : number (fault_of fault t m) ≡ nr

pub record IsRefused (mode : ℕ) (o n ids zs : List ℕ) (r : Refusal) (nr w pl : ℕ) : Type 0 where
  pub good : Good o n
  pub given : First (ScheduleFault o n mode ids zs) r
  pub numbered : number r ≡ nr
  pub sited : site r ≡ w
  pub placed : place r ≡ pl

pub record HasJumps (o n : List ℕ) (v : ℕ) (a b : ℤ) : Type 0 where
  pub good : Good o n
  pub has_jump_known : has_jump o n v ≡ true
  pub old_order : jump o n v ≡ some a
  pub new_order : jump n o v ≡ some b

pub record WalksTo (o n ws : List ℕ) (a : Walked) : Type 0 where
  pub good : Good o n
  -- refusal 12 doesn't apply
  pub all_due : (i : ℕ) → has ws i ≡ true → due o n i ≡ true
  pub walked : Walks (in_state o n (has ws)) (source o) (destination o) a

abbrev pub Holds : Case → Type 0
Holds (plan mode p rs) = IsPlan mode p.old p.new rs
Holds (passes mode p rs) = IsPassed mode p.old p.new (ids_in rs) (sizes_in rs)
Holds (names mode p rs nr t l) = IsNamed mode p.old p.new (ids_in rs) (sizes_in rs) nr t (set_of l) (length l)
Holds (refused mode p rs r nr w pl) = IsRefused mode p.old p.new (ids_in rs) (sizes_in rs) r nr w pl
Holds (jumps p v a b) = HasJumps p.old p.new v a b
Holds (walks p l a) = WalksTo p.old p.new (set_of l) a

abbrev pub AllHold : List Case → Type 0
AllHold [] = Unit {0}
AllHold (c ∷ cs) = Holds c × AllHold cs

-- ---- the table

abbrev pub routes_K1 : Pair
routes_K1 = record { old = 1 ∷ 2 ∷ []; new = 1 ∷ 2 ∷ [] }

abbrev pub routes_K2 : Pair
routes_K2 = record { old = 1 ∷ 2 ∷ []; new = 1 ∷ 3 ∷ 2 ∷ [] }

abbrev pub routes_K3 : Pair
routes_K3 = record { old = 1 ∷ 2 ∷ 3 ∷ []; new = 1 ∷ 4 ∷ 3 ∷ [] }

abbrev pub routes_K6 : Pair
routes_K6 = record { old = 1 ∷ 2 ∷ 3 ∷ 4 ∷ 5 ∷ []; new = 1 ∷ 4 ∷ 3 ∷ 2 ∷ 5 ∷ [] }

abbrev pub routes_K8 : Pair
routes_K8 = record { old = 1 ∷ 2 ∷ 3 ∷ 4 ∷ 5 ∷ 6 ∷ []; new = 1 ∷ 5 ∷ 4 ∷ 3 ∷ 2 ∷ 6 ∷ [] }

-- a jump of so many places forward or backward
abbrev pub forward : ℕ → ℤ
forward k = pos k

abbrev pub one_back : ℤ
one_back = negsuc 0

unfoldable pub known : List Case
known =
    -- K1 old 1 2, new 1 2: no rounds, passes
    plan strong routes_K1 []
    ∷ passes strong routes_K1 []
    -- K2 old 1 2, new 1 3 2: plan {3},{1}
    ∷ plan strong routes_K2 ((3 ∷ []) ∷ (1 ∷ []) ∷ [])
    -- K3 old 1 2 3, new 1 4 3: plan {4},{1},{2}
    ∷ plan strong routes_K3 ((4 ∷ []) ∷ (1 ∷ []) ∷ (2 ∷ []) ∷ [])
    -- K4 K3 with {1,4},{2}: 16, round 1, set {1}
    ∷ names strong routes_K3 ((1 ∷ 4 ∷ []) ∷ (2 ∷ []) ∷ []) 16 1 (1 ∷ [])
    -- K5 K3 with {4},{1,2}: 16, round 2, set {2}
    ∷ names strong routes_K3 ((4 ∷ []) ∷ (1 ∷ 2 ∷ []) ∷ []) 16 2 (2 ∷ [])
    -- K6 old 1 2 3 4 5, new 1 4 3 2 5: plan {1,2},{3},{4}, either mode
    ∷ plan strong routes_K6 ((1 ∷ 2 ∷ []) ∷ (3 ∷ []) ∷ (4 ∷ []) ∷ [])
    ∷ plan relaxed routes_K6 ((1 ∷ 2 ∷ []) ∷ (3 ∷ []) ∷ (4 ∷ []) ∷ [])
    -- K7 K6 with {2,3},{1},{4}: 17, round 1, set {3}, either mode
    ∷ names strong routes_K6 ((2 ∷ 3 ∷ []) ∷ (1 ∷ []) ∷ (4 ∷ []) ∷ []) 17 1 (3 ∷ [])
    ∷ names relaxed routes_K6 ((2 ∷ 3 ∷ []) ∷ (1 ∷ []) ∷ (4 ∷ []) ∷ []) 17 1 (3 ∷ [])
    -- K8 old 1 2 3 4 5 6, new 1 5 4 3 2 6: strong plan {1,2},{3},{4},{5}
    ∷ plan strong routes_K8 ((1 ∷ 2 ∷ []) ∷ (3 ∷ []) ∷ (4 ∷ []) ∷ (5 ∷ []) ∷ [])
    -- K9 the same, relaxed: {1,2},{3,4},{5}
    ∷ plan relaxed routes_K8 ((1 ∷ 2 ∷ []) ∷ (3 ∷ 4 ∷ []) ∷ (5 ∷ []) ∷ [])
    -- K10 K9's schedule under strong: 17, round 2, set {4}
    ∷ names strong routes_K8 ((1 ∷ 2 ∷ []) ∷ (3 ∷ 4 ∷ []) ∷ (5 ∷ []) ∷ []) 17 2 (4 ∷ [])
    -- K11 K6 jumps (old-order, new-order): node 1 +3 +3; 2 +3 -1; 3 -1 -1; 4 -1 +3
    ∷ jumps routes_K6 1 (forward 3) (forward 3)
    ∷ jumps routes_K6 2 (forward 3) one_back
    ∷ jumps routes_K6 3 one_back one_back
    ∷ jumps routes_K6 4 one_back (forward 3)
    -- K12 K3 with {4},{1}: 14, place 2
    ∷ refused strong routes_K3 ((4 ∷ []) ∷ (1 ∷ []) ∷ []) (Missing 2) 14 0 2
    -- K13 K6 with {1,2},{2,3},{4}: 13, round 2, index 2
    ∷ refused strong routes_K6 ((1 ∷ 2 ∷ []) ∷ (2 ∷ 3 ∷ []) ∷ (4 ∷ []) ∷ []) (Again 2 2) 13 2 2
    -- K14 K3 walk with set {1}: dropped at 4 after 1 hop
    ∷ walks routes_K3 (1 ∷ []) (Dropped 4 1)
    ∷ []
