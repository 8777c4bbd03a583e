-- The moving packet of demand 3. It enters at the source in a state of round t; then, in any order, a switch of that round
-- changes, or the packet hops by the rule that its switch has at that moment. All earlier rounds have changed before it
-- enters, and no further round begins.
--
--   changed X v        == the state X with v changed as well
--   Trip .. t trail X  == a trip so far, in round t: `trail` is the switches that the packet has come to, the latest first,
--                         and X the state that stands now
--   Stage zs t         == t is a round of the schedule; or the schedule has no rounds, and t stands for its one state
--   on_either o n v    == the switch v is on one of the two routes
--   Safe o n v trail X == what demand 3 promises of a packet that is at v in the state X and came to the switches `trail`
--                         before, the latest first: as many hops as the trail is long
--   Arrives .. trail X == the trip goes on from `trail`, by hops alone, to the destination
use Rattle.std.specs.Prelude.{ℕ, ◌+◌, ◌<◌, ◌≤◌, ◌≡◌, Bool, true, cond, ◌||◌, List, [], ◌∷◌, ◌++◌, length, get_or, eqb}
use Rattle.std.proofs.Math.Option.{some}
use Rattle.routes.specs.Routes.{source, destination}
use Rattle.routes.specs.Rules.{tally}
use Rattle.routes.specs.Jumps.{on}
use Rattle.routes.specs.Walk.{State, in_state}
use Rattle.rounds.specs.Schedule.{round_no}
use Rattle.rounds.specs.States.{StateOf}

abbrev pub changed : State → ℕ → State
changed X v u = cond (eqb u v) true (X u)

pub data Trip (o n ids zs : List ℕ) (t : ℕ) : List ℕ → State → Type 0 where
  enters : {X : State} {trail : List ℕ} → StateOf ids zs t X → trail ≡ source o ∷ [] → Trip o n ids zs t trail X
  changes :
      {X Y : State} {trail : List ℕ} (v : ℕ)
      → 0 < t
      → round_no ids zs v ≡ t
      → Trip o n ids zs t trail X
      → Y ≡ changed X v
      → Trip o n ids zs t trail Y
  hops :
      {X : State} {v w : ℕ} {trail : List ℕ}
      → Trip o n ids zs t (v ∷ trail) X
      → (v ≡ destination o → ⊥)
      → in_state o n X v ≡ some w
      → Trip o n ids zs t (w ∷ v ∷ trail) X

pub data Stage (zs : List ℕ) (t : ℕ) : Type 0 where
  a_round : 0 < t → t ≤ length zs → Stage zs t
  no_rounds : length zs ≡ 0 → Stage zs t

abbrev pub on_either : List ℕ → List ℕ → ℕ → Bool
on_either o n v = on o v || on n v

pub record Safe (o n : List ℕ) (v : ℕ) (trail : List ℕ) (X : State) : Type 0 where
  -- "short of the destination, it never stands at a switch without a rule"
  pub has_rule : (v ≡ destination o → ⊥) → (w : ℕ) × (in_state o n X v ≡ some w)
  -- it "never comes to one switch twice"
  pub not_twice : (i : ℕ) → i < length trail → get_or trail i 0 ≡ v → ⊥
  -- the hops made are "at most one hop fewer than there are switches on the two routes"
  pub hops_bound : length trail + 1 ≤ tally 512 (on_either o n)
  -- and after so many it "is at the destination"
  pub at_last : length trail + 1 ≡ tally 512 (on_either o n) → v ≡ destination o

pub record Arrives (o n ids zs : List ℕ) (t : ℕ) (trail : List ℕ) (X : State) : Type 0 where
  -- the switches that it comes to from here on, the latest first
  pub onward : List ℕ
  pub trip : Trip o n ids zs t (onward ++ trail) X
  pub there : get_or (onward ++ trail) 0 0 ≡ destination o
