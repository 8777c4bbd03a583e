-- The states of a schedule, and which of them are faulty.
--
--   StateOf ids zs t X   == X is a state of round t: all earlier rounds changed, no later round changed, any subset of
--                           round t changed, and nothing that stands in no round
--   StateIn ids zs X     == X is a state of some round; of a schedule with no rounds, the one state, nothing changed
--   Drops o n X          == the walk from the source comes to a node other than the destination that has no rule
--   LoopsRelaxed o n X   == the walk from the source comes to a node a second time
--   LoopsStrong o n X    == the rules of all nodes together hold a cycle anywhere
--   Loops mode o n X     == loops in this mode: 0 strong, 1 relaxed
--   Passes mode o n ids zs == no state of any round drops or loops
--   Fault, Shows         == the two faults, a drop and a loop (in this mode), and that a state shows one
--   FirstBad .. t f      == t is the first round that has a faulty state; f is a drop if any state of it drops, and a loop
--                           only otherwise
--   chosen ids zs t ws   == the state of round t in which, of the round, exactly the subset ws has changed
--   Named .. t f ws      == the subset named: of all subsets of round t that show the fault f, the one without i where i is
--                           the lowest id in which two of them differ
use Rattle.std.specs.Prelude.{ℕ, zero, suc, ◌^◌, ◌<◌, ◌≤◌, ◌≡◌, true, false, cond, List, length, get_or, ltb, eqb}
use Rattle.std.proofs.Math.Option.{none, some}
use Rattle.house.specs.Sets.{has}
use Rattle.routes.specs.Routes.{source, destination}
use Rattle.routes.specs.Walk.{State, in_state, place, Twice}
use Rattle.rounds.specs.Schedule.{round_no}

pub record StateOf (ids zs : List ℕ) (t : ℕ) (X : State) : Type 0 where
  pub in_none : (v : ℕ) → round_no ids zs v ≡ 0 → X v ≡ false
  pub earlier : (v : ℕ) → 0 < round_no ids zs v → round_no ids zs v < t → X v ≡ true
  pub later : (v : ℕ) → t < round_no ids zs v → X v ≡ false

pub data StateIn (ids zs : List ℕ) (X : State) : Type 0 where
  of_round : {t : ℕ} → 0 < t → t ≤ length zs → StateOf ids zs t X → StateIn ids zs X
  of_none : length zs ≡ 0 → ((v : ℕ) → X v ≡ false) → StateIn ids zs X

pub record Drops (o n : List ℕ) (X : State) : Type 0 where
  pub hops : ℕ
  pub node : ℕ
  pub comes : place (in_state o n X) (source o) hops ≡ some node
  pub elsewhere : node ≡ destination o → ⊥
  pub no_rule : in_state o n X node ≡ none

pub record LoopsRelaxed (o n : List ℕ) (X : State) : Type 0 where
  pub hops : ℕ
  pub node : ℕ
  pub twice : Twice (in_state o n X) (source o) node hops

pub record LoopsStrong (o n : List ℕ) (X : State) : Type 0 where
  pub hops : ℕ
  pub node : ℕ
  pub some_hops : 0 < hops
  pub back : place (in_state o n X) node hops ≡ some node

abbrev pub Loops : ℕ → List ℕ → List ℕ → State → Type 0
Loops zero o n X = LoopsStrong o n X
Loops (suc m) o n X = LoopsRelaxed o n X

pub record Passes (mode : ℕ) (o n ids zs : List ℕ) : Type 0 where
  pub no_drop : (X : State) → StateIn ids zs X → Drops o n X → ⊥
  pub no_loop : (X : State) → StateIn ids zs X → Loops mode o n X → ⊥

pub data Fault : Type 0 where
  a_drop a_loop : Fault

abbrev pub Shows : Fault → ℕ → List ℕ → List ℕ → State → Type 0
Shows a_drop mode o n X = Drops o n X
Shows a_loop mode o n X = Loops mode o n X

abbrev pub Bad : ℕ → List ℕ → List ℕ → List ℕ → List ℕ → ℕ → Fault → Type 0
Bad mode o n ids zs t f = (X : State) × StateOf ids zs t X × Shows f mode o n X

pub record FirstBad (mode : ℕ) (o n ids zs : List ℕ) (t : ℕ) (f : Fault) : Type 0 where
  pub from_one : 0 < t
  pub a_round : t ≤ length zs
  pub earlier_good : (u : ℕ) → 0 < u → u < t → (g : Fault) → Bad mode o n ids zs u g → ⊥
  pub bad : Bad mode o n ids zs t f
  pub drop_first : f ≡ a_loop → Bad mode o n ids zs t a_drop → ⊥

abbrev pub chosen : List ℕ → List ℕ → ℕ → List ℕ → State
chosen ids zs t ws v =
    cond (eqb (round_no ids zs v) 0) false (cond (ltb (round_no ids zs v) t) true (cond (eqb (round_no ids zs v) t) (has ws v) false))

pub record Named (mode : ℕ) (o n ids zs : List ℕ) (t : ℕ) (f : Fault) (ws : List ℕ) : Type 0 where
  pub eight_words : length ws ≡ 8
  pub word : (i : ℕ) → get_or ws i 0 < 2 ^ 64
  pub subset : (v : ℕ) → has ws v ≡ true → round_no ids zs v ≡ t
  pub shows : Shows f mode o n (chosen ids zs t ws)
  pub first :
      (Z : State)
      → StateOf ids zs t Z
      → Shows f mode o n Z
      → (i : ℕ)
      → ((k : ℕ) → k < i → Z k ≡ chosen ids zs t ws k)
      → (Z i ≡ chosen ids zs t ws i → ⊥)
      → chosen ids zs t ws i ≡ false
