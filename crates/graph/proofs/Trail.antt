-- Places that follow states, one hop each, are a path. A walk in one state is the case in which the state never changes.
-- Assumes nothing.
--
--   next_node, next_end  == where a state sends a node, and that it sends an end nowhere
--   next_step            == a state that respects the choice sends each node along a step
--   Moves o n c Xs p     == at hop k the place p k goes where the state Xs k sends it, and each of these respects c
--   walk_moves           == the walk in one state moves so
--   trail_as             == the places from i to j are a path of R, where the steps taken between them are steps of R
--   trail                == the places from i to j are a path
--   trail_around         == a node that comes again lies on a closed path
--   walk_after           == the walk of i + k hops is the walk of k hops from where i hops lead
use Prim.Native.Nat.{ℕ, zero, suc, ◌+◌, ◌≤◌, ◌<◌}
use native.Mathlib.Nat.{add-zero, add-suc}
use native.Mathlib.Omega.{arith}
use native.Mathlib.Decide.{dec_lt}
use mathlib.Core.Path.{◌≡◌, refl, sym, ◌∙◌, ap}
use mathlib.Core.Bool.{cond}
use borrow.Author.Tests.{lt-ltb, le-ltb}
use Rattle.graph.specs.Graph.{Choice, State, Respects, Step, Path, stop, step, Around, next, walk}
use Rattle.graph.proofs.Paths.{path_along, path_flattens, path_ends}

pub next_node : (o n : ℕ → ℕ) (X : State) (v : ℕ) → v < 512 → next o n X v ≡ cond (X v) (n v) (o v)
next_node o n X v h = rw (lt-ltb v 512 h)

pub next_end : (o n : ℕ → ℕ) (X : State) (v : ℕ) → 512 ≤ v → next o n X v ≡ v
next_end o n X v h = rw (le-ltb v 512 h)

pub next_step : (o n : ℕ → ℕ) {c : ℕ → Choice} {X : State} → Respects c X → (v : ℕ) → v < 512 → Step o n c v (next o n X v)
next_step o n {c} {X} r v h =
    record { node = h; bit = X v; allowed = r.respects v; goes = sym (next_node o n X v h) }

pub record Moves (o n : ℕ → ℕ) (c : ℕ → Choice) (Xs : ℕ → State) (p : ℕ → ℕ) : Type 0 where
  pub respected : (k : ℕ) → Respects c (Xs k)
  pub hops : (k : ℕ) → p (suc k) ≡ next o n (Xs k) (p k)

pub walk_moves : (o n : ℕ → ℕ) {c : ℕ → Choice} {X : State} → Respects c X → (s : ℕ) → Moves o n c (λ k. X) (walk o n X s)
walk_moves o n r s = record { respected = λ k. r; hops = λ k. refl }

module _ {o n : ℕ → ℕ} {c : ℕ → Choice} {Xs : ℕ → State} {p : ℕ → ℕ} (m : Moves o n c Xs p) where
  hop_steps : (k : ℕ) → p k < 512 → Step o n c (p k) (p (suc k))
  hop_steps k h = rw (m.hops k) (next_step o n (m.respected k) (p k) h)

  hop : {R : ℕ → ℕ → Type 0} (k : ℕ) → (Step o n c (p k) (p (suc k)) → R (p k) (p (suc k))) → Path R (p (suc k)) (p k)
  hop {R} k f = go (dec_lt (p k) 512)
    where
      go : Dec (p k < 512) → Path R (p (suc k)) (p k)
      go (yes h) = step (f (hop_steps k h)) (stop refl)
      go (no h) = stop (sym (m.hops k ∙ next_end o n (Xs k) (p k) (omega arith)))

  pub trail_as : {R : ℕ → ℕ → Type 0} (i j : ℕ) → i ≤ j
      → ((k : ℕ) → i ≤ k → k < j → Step o n c (p k) (p (suc k)) → R (p k) (p (suc k)))
      → Path R (p j) (p i)
  trail_as i j h f = path_flattens (path_along p i j h (λ k a b. hop k (f k a b)))

  pub trail : (i j : ℕ) → i ≤ j → Path (Step o n c) (p j) (p i)
  trail i j h = trail_as i j h (λ k a b t. t)

  pub trail_around : (i j : ℕ) → i < j → p i ≡ p j → p i < 512 → Around (Step o n c) (p i)
  trail_around i j h e l = (p (suc i), hop_steps i l, path_ends (trail (suc i) j h) (sym e))

pub walk_after : (o n : ℕ → ℕ) (X : State) (s i k : ℕ) → walk o n X s (i + k) ≡ walk o n X (walk o n X s i) k
walk_after o n X s i zero = ap (walk o n X s) (add-zero i)
walk_after o n X s i (suc k) = ap (walk o n X s) (add-suc i k) ∙ ap (next o n X) (walk_after o n X s i k)
