-- Peeling: nodes that no step from a remaining node enters are taken away, again and again. Assumes nothing.
--
--   peel_keeps           == a closed path within S is one within S', where S' has all of S but x, and no step from a node
--                           of S enters x
--   peel_remains         == where each node of S has a predecessor in S, all nodes of S are below N, and v is in S, there
--                           is a closed path within S: going back N times meets some node twice
--   peel_empty           == there is no closed path within an empty set
use Prim.Native.Nat.{ℕ, zero, suc, ◌<◌}
use mathlib.Core.Path.{◌≡◌, subst}
use Rattle.graph.specs.Graph.{Path, stop, step, Around, Within}
use Rattle.graph.proofs.Paths.{around_entered, around_back}
use Rattle.graph.proofs.Pigeon.{Twice, pigeon}

module _ {R : ℕ → ℕ → Type 0} (S S' : ℕ → Type 0) (x : ℕ)
    (rest : (u : ℕ) → S u → (u ≡ x → ⊥) → S' u)
    (free : (u : ℕ) → S u → R u x → ⊥) where
  enters : (a b : ℕ) → Within S R a b → b ≡ x → ⊥
  enters a b t e = free a t.from (subst (R a) e t.steps)

  keeps : (a b : ℕ) → Within S R a b → (a ≡ x → ⊥) → Within S' R a b
  keeps a b t h = record { from = rest a t.from h; steps = t.steps; to = rest b t.to (enters a b t) }

  path_keeps : {w a : ℕ} → (a ≡ x → ⊥) → Path (Within S R) w a → Path (Within S' R) w a
  path_keeps h (stop e) = stop e
  path_keeps h (step {a = a} {b = b} t P) = step (keeps a b t h) (path_keeps (enters a b t) P)

  pub peel_keeps : (v : ℕ) → Around (Within S R) v → Around (Within S' R) v
  peel_keeps v (u, t, P) =
      let (y, last) = around_entered {v = v} (u, t, P) in
      (u, keeps v u t (enters y v last), path_keeps (enters v u t) P)

pub peel_empty : {R : ℕ → ℕ → Type 0} (S : ℕ → Type 0) → ((u : ℕ) → S u → ⊥) → (v : ℕ) → Around (Within S R) v → ⊥
peel_empty S h v (u, t, P) = h v t.from

pub peel_remains : {R : ℕ → ℕ → Type 0} (S : ℕ → Type 0) (N : ℕ)
    → ((v : ℕ) → S v → v < N)
    → ((v : ℕ) → S v → (u : ℕ) × S u × R u v)
    → (v : ℕ)
    → S v
    → (x : ℕ) × Around (Within S R) x
peel_remains {R} S N below before v s =
    let t : Twice (λ k. (back k).0) N = pigeon N (λ k. (back k).0) (λ k h. below (back k).0 (back k).1) in
    ((back t.second).0, around_back (λ k. (back k).0) t.first t.second t.later t.same steps)
  where
    back : ℕ → (u : ℕ) × S u
    back zero = (v, s)
    back (suc k) = let (u, i) = back k in let (y, j, r) = before u i in (y, j)

    steps : (k : ℕ) → Within S R (back (suc k)).0 (back k).0
    steps k = record { from = (back (suc k)).1; steps = (before (back k).0 (back k).1).2; to = (back k).1 }
