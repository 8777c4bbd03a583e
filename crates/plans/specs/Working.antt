-- What the planner's parts promise one another.
--
--   round_choice P R    == the choice of the states of the round R after the earlier rounds P: earlier rounds new only, the
--                         round either, all others old only
--
-- The planner's choice list c has 1 for a node of an earlier round, more for one of the present round, and 0 for any other;
-- a and b are the tables of next values on the old and the new route, s is the source.
--
--   placed c, present c == the nodes of the earlier rounds, and of the present one
--   Closes mode a b c s == the closed path that tells of a loop in this mode
--   Fits mode a b c s   == there is none
--   Seen mode a b c s m == in relaxed mode the marks m hold what is reached from s
--   Free c v            == v is a node of no round yet
--   Tried mode a b c s v r m == r tells whether v may join the present round
--   Tries mode a b s vs c c' W == going through vs, each joins if it may; c becomes c', and W wait
--   Lined c left i many == the nodes from index i to before `many` are free, and no two of them are the same
--   Pass .. c left i kept == going through the nodes as far as index i; the first `kept` wait
--   Passed .. c left many c' left' kept == the same, all the way
--   Fresh m k f         == the marks f hold the nodes that k marks and m does not
--   Closing a b c m k r == r tells whether a closed path lies among the nodes that k marks and m does not
--   Merged m k m'       == the marks m' are those of m and those of k
--
--   code_of k           == what happens to a rule, as a number: 1 install, 2 remove, 3 switch, 0 none of these
--   code_at a b v       == the same of the node v
--   coded a b w         == the nodes with the code w
--   FitIs old new mode ids sizes r == r is the refusal that both planners give, or else the mode
--   SoughtBy Q c c' i   == the nodes below i of which Q tells true are of the present round in c'; all others are as in c
--   Sought f c c' i     == the nodes of f below i are of the present round in c'; all others are as in c
--   Backward a b n i left many == the first `many` are the switches of n from index i on, backward
--
--   SettingOf o n z    == o and n are a good pair, z holds their tables of next values and the source
--   Ahead o n c left many == all installs are placed, and nothing else; the first `many` are all switches
--   Middled mode o n ids sizes k m c' ids' sizes' k' m' == the rounds of the switches are written, and are placed
--   Written mode o n ids sizes ids' sizes' k m == all k rounds of the plan are written, with their m ids
--
--   Appended k ys b b' == where b has k entries written at its front, b' has those and ys
--   Added Rs ids sizes k m ids' sizes' k' m' == the rounds Rs are written behind k rounds and m ids
--   Room c ids sizes k m == there is room for each node that is not placed: m ids are placed, in at most m rounds
--   Entering c0 ids0 m0 c ids m v == each node below v is written behind m0 ids and placed, if it is of the present round
--   Wrote c ids sizes k m c' ids' sizes' k' m' == the present round is written, if it has a node, and is placed
--   Rounded Q c ids sizes k m c' ids' sizes' k' m' == the same of the round of the nodes of which Q tells true
use Rattle.std.specs.Prelude.{ℕ, zero, suc, ◌+◌, ◌<◌, ◌≤◌, ◌≡◌, Bool, true, false, not, cond, ◌&&◌}
use Rattle.std.specs.Prelude.{◌||◌, List, [], ◌∷◌, ◌++◌, reverse, length, get_or, set, take, drop, eqb, ltb, Result, Ok, Err}
use Rattle.house.specs.declared.Refusal.{Refusal}
use Rattle.house.specs.Refusals.{First, Clear}
use Rattle.rounds.specs.declared.mode.Mode.{Mode}
use Rattle.rounds.specs.declared.setting.Setting.{Setting}
use Rattle.rounds.specs.Mode.{mode_no}
use Rattle.graph.specs.Graph.{Choice, old, new, either, Path, Around}
use Rattle.graph.specs.Search.{Steps, Reached, Cyclic}
use Rattle.routes.specs.declared.rule.Change.{Change}
use Rattle.routes.specs.declared.rule.Change.TheVariants.{Kept, Install, Remove, Switch}
use Rattle.routes.specs.Routes.{source, Good}
use Rattle.routes.specs.Rules.{change_of, tally, Values}
use Rattle.routes.specs.Walk.{State}
use Rattle.plans.specs.Plan.{together, installs, removes, keep, switches, Middle, rising_below, some_round, PlanRounds, ids_of, sizes_of}
use Rattle.plans.specs.Replies.{PlanFault, overlaid}

abbrev pub round_choice : State → State → ℕ → Choice
round_choice P R v = cond (P v) new (cond (R v) either old)

abbrev pub placed : List ℕ → State
placed c v = eqb (get_or c v 0) 1

abbrev pub present : List ℕ → State
present c v = ltb 1 (get_or c v 0)

-- ---- joining

abbrev pub Closes : ℕ → List ℕ → List ℕ → List ℕ → ℕ → Type 0
Closes zero a b c s = (v : ℕ) × Around (Steps a b c) v
Closes (suc m) a b c s = (v : ℕ) × Path (Steps a b c) v s × Around (Steps a b c) v

pub record Fits (mode : ℕ) (a b c : List ℕ) (s : ℕ) : Type 0 where
  pub fits : Closes mode a b c s → ⊥

abbrev pub SeenIn : ℕ → List ℕ → List ℕ → List ℕ → ℕ → List Bool → Type 0
SeenIn zero a b c s m = Unit {0}
SeenIn (suc k) a b c s m = Reached a b c s m

pub record Seen (mode : ℕ) (a b c : List ℕ) (s : ℕ) (m : List Bool) : Type 0 where
  pub size : length m ≡ 514
  pub seen : SeenIn mode a b c s m

pub record Free (c : List ℕ) (v : ℕ) : Type 0 where
  pub node : v < 512
  pub in_none : get_or c v 0 ≡ 0

pub data Tried (mode : ℕ) (a b c : List ℕ) (s v : ℕ) : Bool → List Bool → Type 0 where
  may : {m : List Bool} → Fits mode a b (set c v 2) s → Seen mode a b (set c v 2) s m → Tried mode a b c s v true m
  may_not : {m : List Bool} → (Fits mode a b (set c v 2) s → ⊥) → Seen mode a b c s m → Tried mode a b c s v false m

pub data Tries (mode : ℕ) (a b : List ℕ) (s : ℕ) : List ℕ → List ℕ → List ℕ → List ℕ → Type 0 where
  all_tried : {c : List ℕ} → Tries mode a b s [] c c []
  joins :
      {v : ℕ} {vs W c c' : List ℕ}
      → Fits mode a b (set c v 2) s
      → Tries mode a b s vs (set c v 2) c' W
      → Tries mode a b s (v ∷ vs) c c' W
  waits :
      {v : ℕ} {vs W c c' : List ℕ}
      → (Fits mode a b (set c v 2) s → ⊥)
      → Tries mode a b s vs c c' W
      → Tries mode a b s (v ∷ vs) c c' (v ∷ W)

pub record Lined (c left : List ℕ) (i many : ℕ) : Type 0 where
  pub size : length c ≡ 512
  pub places : length left ≡ 256
  pub most : many ≤ 256
  pub free : (j : ℕ) → i ≤ j → j < many → Free c (get_or left j 0)
  pub distinct : (j k : ℕ) → i ≤ j → j < k → k < many → get_or left j 0 ≡ get_or left k 0 → ⊥

pub record Pass (mode : ℕ) (a b : List ℕ) (s : ℕ) (c₀ left₀ : List ℕ) (many : ℕ) (m : List Bool) (c left : List ℕ) (i kept : ℕ) : Type 0 where
  pub lined : Lined c left i many
  pub so_far : i ≤ many
  pub fewer : kept ≤ i
  pub as_was : drop i (take many left) ≡ drop i (take many left₀)
  pub fits : Fits mode a b c s
  pub marks : Seen mode a b c s m
  pub tried :
      (c' W : List ℕ)
      → Tries mode a b s (drop i (take many left₀)) c c' W
      → Tries mode a b s (take many left₀) c₀ c' (take kept left ++ W)

pub record Passed (mode : ℕ) (a b : List ℕ) (s : ℕ) (c left : List ℕ) (many : ℕ) (c' left' : List ℕ) (kept : ℕ) : Type 0 where
  pub size : length c' ≡ 512
  pub places : length left' ≡ 256
  pub fewer : kept ≤ many
  pub tried : Tries mode a b s (take many left) c c' (take kept left')

pub record Fresh (m k f : List Bool) : Type 0 where
  pub size : length f ≡ 512
  pub at : (v : ℕ) → v < 512 → get_or f v false ≡ (get_or k v false && not (get_or m v false))

pub record Closing (a b c : List ℕ) (m k : List Bool) (r : Bool) : Type 0 where
  pub among : List Bool
  pub fresh : Fresh m k among
  pub closed : Cyclic a b c among r

pub record Merged (m k m' : List Bool) : Type 0 where
  pub size : length m' ≡ 514
  pub at : (v : ℕ) → v < 514 → get_or m' v false ≡ (get_or m v false || get_or k v false)

-- ---- the rounds of installs and removes, and the switches

abbrev pub code_of : Change → ℕ
code_of Kept = 0
code_of Install = 1
code_of Remove = 2
code_of Switch = 3

abbrev pub code_at : List ℕ → List ℕ → ℕ → ℕ
code_at a b v = code_of (change_of (get_or a v 512) (get_or b v 512))

abbrev pub coded : List ℕ → List ℕ → ℕ → State
coded a b w v = eqb (code_at a b v) w

pub record Sought (f : State) (c c' : List ℕ) (i : ℕ) : Type 0 where
  pub size : length c' ≡ 512
  pub at : (v : ℕ) → v < i → get_or c' v 0 ≡ cond (f v) 2 (get_or c v 0)
  pub past : (v : ℕ) → i ≤ v → get_or c' v 0 ≡ get_or c v 0

pub data FitIs (old new : List ℕ) (mode : ℕ) (ids sizes : List ℕ) : Result Mode Refusal → Type 0 where
  fits : {m : Mode} → Clear (PlanFault old new mode ids sizes) → mode ≡ mode_no m → FitIs old new mode ids sizes (Ok m)
  faulty : {r : Refusal} → First (PlanFault old new mode ids sizes) r → FitIs old new mode ids sizes (Err r)

pub record SoughtBy (Q : ℕ → Bool → Type 0) (c c' : List ℕ) (i : ℕ) : Type 0 where
  pub size : length c' ≡ 512
  pub at : (v : ℕ) → v < i → (b : Bool) × Q v b × (get_or c' v 0 ≡ cond b 2 (get_or c v 0))
  pub past : (v : ℕ) → i ≤ v → get_or c' v 0 ≡ get_or c v 0

pub record Backward (a b n : List ℕ) (i : ℕ) (left : List ℕ) (many : ℕ) : Type 0 where
  pub places : length left ≡ 256
  pub fewer : many + i ≤ length n
  pub taken : take many left ≡ keep (coded a b 3) (reverse (drop i n))

-- ---- writing

pub record Appended (k : ℕ) (ys b b' : List ℕ) : Type 0 where
  pub same : length b' ≡ length b
  pub appended : (xs z : List ℕ) → length xs ≡ k → b ≡ overlaid xs z → b' ≡ overlaid (xs ++ ys) z

pub record Added (Rs : List State) (ids sizes : List ℕ) (k m : ℕ) (ids' sizes' : List ℕ) (k' m' : ℕ) : Type 0 where
  pub entered : Appended m (ids_of Rs) ids ids'
  pub sized : Appended k (sizes_of Rs) sizes sizes'
  pub rounds : k' ≡ k + length Rs
  pub count : m' ≡ m + length (ids_of Rs)

pub record Room (c ids sizes : List ℕ) (k m : ℕ) : Type 0 where
  pub choices : length c ≡ 512
  pub ids_fit : 1024 ≤ length ids
  pub sizes_fit : 1024 ≤ length sizes
  pub counted : m ≡ tally 512 (placed c)
  pub fewer : k ≤ m

pub record Entering (c₀ ids₀ : List ℕ) (m₀ : ℕ) (c ids : List ℕ) (m v : ℕ) : Type 0 where
  pub choices : length c ≡ 512
  pub ids_fit : 1024 ≤ length ids
  pub counted : m ≡ tally 512 (placed c)
  pub below : (u : ℕ) → u < v → get_or c u 0 ≡ cond (present c₀ u) 1 (get_or c₀ u 0)
  pub past : (u : ℕ) → v ≤ u → get_or c u 0 ≡ get_or c₀ u 0
  pub appended : Appended m₀ (rising_below v (present c₀)) ids₀ ids
  pub count : m ≡ m₀ + length (rising_below v (present c₀))

pub record Wrote (c ids sizes : List ℕ) (k m : ℕ) (c' ids' sizes' : List ℕ) (k' m' : ℕ) : Type 0 where
  pub room : Room c' ids' sizes' k' m'
  pub now_placed : (v : ℕ) → placed c' v ≡ together (placed c) (present c) v
  pub none_present : (v : ℕ) → present c' v ≡ false
  pub added : Added (some_round (present c)) ids sizes k m ids' sizes' k' m'

pub record Rounded (Q : ℕ → Bool → Type 0) (c ids sizes : List ℕ) (k m : ℕ) (c' ids' sizes' : List ℕ) (k' m' : ℕ) : Type 0 where
  pub marked : List ℕ
  pub sought : SoughtBy Q c marked 512
  pub wrote : Wrote marked ids sizes k m c' ids' sizes' k' m'

-- ---- the rounds of switches

pub record SettingOf (o n : List ℕ) (z : Setting) : Type 0 where
  pub good : Good o n
  pub olds : Values o z.old.now
  pub news : Values n z.new.now
  pub start : z.source ≡ source o

pub record Ahead (o n c left : List ℕ) (many : ℕ) : Type 0 where
  pub installed : (v : ℕ) → placed c v ≡ installs o n v
  pub none_present : (v : ℕ) → present c v ≡ false
  pub places : length left ≡ 256
  pub most : many ≤ 256
  pub waiting : take many left ≡ switches o n

pub record Middled (mode : ℕ) (o n ids sizes : List ℕ) (k m : ℕ) (c' ids' sizes' : List ℕ) (k' m' : ℕ) : Type 0 where
  pub rounds : List State
  pub joined : Middle mode o n (installs o n) (switches o n) rounds
  pub added : Added rounds ids sizes k m ids' sizes' k' m'
  pub room : Room c' ids' sizes' k' m'
  pub none_present : (v : ℕ) → present c' v ≡ false
  pub not_removed : (v : ℕ) → removes o n v ≡ true → placed c' v ≡ false

pub record Written (mode : ℕ) (o n ids sizes ids' sizes' : List ℕ) (k m : ℕ) : Type 0 where
  pub rounds : List State
  pub planned : PlanRounds mode o n rounds
  pub added : Added rounds ids sizes 0 0 ids' sizes' k m
