-- The plan. First round: all installs, if there are any. Last round: all removes, if there are any. Between them, switches:
-- for each round go through the switches not yet placed, from the destination backward along the new route, and let each
-- one join if the round so far together with it still passes in this mode; otherwise it waits. A round ends when all have
-- been tried.
--
--   Between P R X        == X is a state of a round: all of P, the earlier rounds, changed, any of the round R, nothing else
--   RoundPasses mode o n P R == after the earlier rounds P the round R passes: no state of it drops or loops
--   Joining mode o n P vs R R' W == going through the switches vs, the round so far R becomes R', and W wait
--   Middle mode o n P vs Rs == Rs are the rounds of the switches vs, after the earlier rounds P
--   installs, removes, switched == all installs, all removes, all switches
--   switches o n         == all switches, from the destination backward along the new route
--   rising R             == the ids of R, rising
--   some_round R         == the round R, if it has an id
--   PlanRounds mode o n Rs == Rs are the rounds of the plan
--   ids_of, sizes_of     == the rounds as a schedule: their ids, all rounds joined, and their sizes
use Rattle.std.specs.Prelude.{ℕ, zero, suc, ◌≡◌, Bool, true, false, cond, ◌||◌, List, [], ◌∷◌, ◌++◌, reverse, length}
use Rattle.routes.specs.declared.rule.Change.{Change}
use Rattle.routes.specs.declared.rule.Change.TheVariants.{Kept, Install, Remove, Switch}
use Rattle.routes.specs.Rules.{rule, change}
use Rattle.routes.specs.Walk.{State}
use Rattle.rounds.specs.States.{Drops, Loops}
use Rattle.rounds.specs.Packet.{changed}

pub record Between (P R : State) (X : State) : Type 0 where
  pub earlier : (v : ℕ) → P v ≡ true → X v ≡ true
  pub nothing_else : (v : ℕ) → P v ≡ false → R v ≡ false → X v ≡ false

pub record RoundPasses (mode : ℕ) (o n : List ℕ) (P R : State) : Type 0 where
  pub no_drop : (X : State) → Between P R X → Drops o n X → ⊥
  pub no_loop : (X : State) → Between P R X → Loops mode o n X → ⊥

pub data Joining (mode : ℕ) (o n : List ℕ) (P : State) : List ℕ → State → State → List ℕ → Type 0 where
  all_tried : {R : State} → Joining mode o n P [] R R []
  joins :
      {v : ℕ} {vs W : List ℕ} {R R' : State}
      → RoundPasses mode o n P (changed R v)
      → Joining mode o n P vs (changed R v) R' W
      → Joining mode o n P (v ∷ vs) R R' W
  waits :
      {v : ℕ} {vs W : List ℕ} {R R' : State}
      → (RoundPasses mode o n P (changed R v) → ⊥)
      → Joining mode o n P vs R R' W
      → Joining mode o n P (v ∷ vs) R R' (v ∷ W)

abbrev pub nothing : State
nothing v = false

abbrev pub together : State → State → State
together P R v = P v || R v

pub data Middle (mode : ℕ) (o n : List ℕ) : State → List ℕ → List State → Type 0 where
  all_placed : {P : State} → Middle mode o n P [] []
  a_round :
      {P R : State} {v : ℕ} {vs W : List ℕ} {Rs : List State}
      → Joining mode o n P (v ∷ vs) nothing R W
      → Middle mode o n (together P R) W Rs
      → Middle mode o n P (v ∷ vs) (R ∷ Rs)

abbrev pub is_install : Change → Bool
is_install Kept = false
is_install Install = true
is_install Remove = false
is_install Switch = false

abbrev pub is_remove : Change → Bool
is_remove Kept = false
is_remove Install = false
is_remove Remove = true
is_remove Switch = false

abbrev pub is_switch : Change → Bool
is_switch Kept = false
is_switch Install = false
is_switch Remove = false
is_switch Switch = true

unfoldable pub installs : List ℕ → List ℕ → State
installs o n v = is_install (change (rule o v) (rule n v))

unfoldable pub removes : List ℕ → List ℕ → State
removes o n v = is_remove (change (rule o v) (rule n v))

abbrev pub switched : List ℕ → List ℕ → State
switched o n v = is_switch (change (rule o v) (rule n v))

unfoldable pub keep : (ℕ → Bool) → List ℕ → List ℕ
keep f [] = []
keep f (v ∷ vs) = cond (f v) (v ∷ keep f vs) (keep f vs)

unfoldable pub switches : List ℕ → List ℕ → List ℕ
unfolding keep
switches o n = keep (switched o n) (reverse n)

unfoldable pub rising_below : ℕ → State → List ℕ
rising_below zero R = []
rising_below (suc k) R = rising_below k R ++ cond (R k) (k ∷ []) []

unfoldable pub rising : State → List ℕ
unfolding rising_below
rising R = rising_below 512 R

abbrev pub some_of : List ℕ → State → List State
some_of [] R = []
some_of (v ∷ vs) R = R ∷ []

unfoldable pub some_round : State → List State
unfolding rising
some_round R = some_of (rising R) R

pub record PlanRounds (mode : ℕ) (o n : List ℕ) (Rs : List State) : Type 0 where
  pub middle : List State
  pub joined : Middle mode o n (installs o n) (switches o n) middle
  pub rounds : Rs ≡ some_round (installs o n) ++ (middle ++ some_round (removes o n))

unfoldable pub ids_of : List State → List ℕ
unfolding rising
ids_of [] = []
ids_of (R ∷ Rs) = rising R ++ ids_of Rs

unfoldable pub sizes_of : List State → List ℕ
unfolding rising
sizes_of [] = []
sizes_of (R ∷ Rs) = length (rising R) ∷ sizes_of Rs
