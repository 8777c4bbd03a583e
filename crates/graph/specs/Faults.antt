-- Faults of a state: what its walk comes to.
--
--   Possible c Sh        == some state that respects the choice c shows the fault Sh
--   Drops o n s X        == the walk from s in the state X comes to nothing, 512
--   Loops o n s X        == the walk from s in X comes to some node twice
--   LoopsStrong o n X    == the walk from some node in X comes back to it, in at least one hop
--   Misses o n s w X     == the walk from s in X is handed off, 513, and has not been at w before
--   Past w R a b         == a step of R from a to b, where a is not w
use Rattle.std.specs.Prelude.{ℕ, suc, ◌<◌, ◌≡◌}
use Rattle.graph.specs.Graph.{Choice, State, Respects, walk}

pub record Possible (c : ℕ → Choice) (Sh : State → Type 0) : Type 0 where
  pub state : State
  pub respected : Respects c state
  pub shows : Sh state

pub record Drops (o n : ℕ → ℕ) (s : ℕ) (X : State) : Type 0 where
  pub hops : ℕ
  pub dropped : walk o n X s hops ≡ 512

pub record Loops (o n : ℕ → ℕ) (s : ℕ) (X : State) : Type 0 where
  pub first : ℕ
  pub second : ℕ
  pub later : first < second
  pub again : walk o n X s first ≡ walk o n X s second
  pub node : walk o n X s first < 512

pub record LoopsStrong (o n : ℕ → ℕ) (X : State) : Type 0 where
  pub at : ℕ
  pub node : at < 512
  pub hops : ℕ
  pub again : walk o n X at (suc hops) ≡ at

pub record Misses (o n : ℕ → ℕ) (s w : ℕ) (X : State) : Type 0 where
  pub hops : ℕ
  pub arrives : walk o n X s hops ≡ 513
  pub misses : (i : ℕ) → i < hops → walk o n X s i ≡ w → ⊥

pub record Past (w : ℕ) (R : ℕ → ℕ → Type 0) (a b : ℕ) : Type 0 where
  pub steps : R a b
  pub other : a ≡ w → ⊥
