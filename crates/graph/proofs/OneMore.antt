-- Of two relations R and R', where R' has one step more, from v to z: each of its steps is one of R, or goes from v to z.
-- Assumes nothing.
--
--   path_added         == a path of R' is one of R, or one of R leads to v, and one from z to its end
--   around_added       == a closed path of R' is one of R, or from its node a path of R leads to v, and one from z to v
--   reached_added      == where a path of R' leads from s to a closed path of R', a path of R leads to one of R; or a path of
--                         R leads to v, and from z one leads to v or to a closed path of R
use Prim.Native.Nat.{ℕ}
use mathlib.Core.Path.{◌≡◌, sym}
use mathlib.Core.Logic.{◌⊎◌, inl, inr}
use Rattle.graph.specs.Graph.{Path, stop, step, Around}
use Rattle.graph.proofs.Paths.{path_cast, path_joins, path_ends}

module _
    {R R' : ℕ → ℕ → Type 0} {v z : ℕ}
    (adds : (x y : ℕ) → R' x y → R x y ⊎ ((x ≡ v) × (y ≡ z)))
  where
    pub path_added : {w a : ℕ} → Path R' w a → Path R w a ⊎ (Path R v a × Path R w z)
    path_added (stop e) = inl (stop e)
    path_added {w = w} (step {a = x} {b = y} s P) = go (adds x y s) (path_added P)
      where
        go :
            R x y ⊎ ((x ≡ v) × (y ≡ z))
            → Path R w y ⊎ (Path R v y × Path R w z)
            → Path R w x ⊎ (Path R v x × Path R w z)
        go (inl t) (inl Q) = inl (step t Q)
        go (inl t) (inr q) = inr (step t q.0, q.1)
        go (inr e) (inl Q) = inr (stop e.0, path_cast (sym e.1) Q)
        go (inr e) (inr q) = inr (stop e.0, q.1)

    pub around_added : {u : ℕ} → Around R' u → Around R u ⊎ (Path R v u × Path R v z)
    around_added {u} (x, s, P) = go (adds u x s) (path_added P)
      where
        go :
            R u x ⊎ ((u ≡ v) × (x ≡ z))
            → Path R u x ⊎ (Path R v x × Path R u z)
            → Around R u ⊎ (Path R v u × Path R v z)
        go (inl t) (inl Q) = inl (x, t, Q)
        go (inl t) (inr q) = inr (step t q.0, path_joins q.1 (step t q.0))
        go (inr e) (inl Q) = inr (stop e.0, path_cast (sym e.1) (path_ends Q e.0))
        go (inr e) (inr q) = inr (stop e.0, path_ends q.1 e.0)

    pub reached_added :
        {s : ℕ}
        → (u : ℕ) × Path R' u s × Around R' u
        → ((u : ℕ) × Path R u s × Around R u) ⊎ (Path R v s × (Path R v z ⊎ ((u : ℕ) × Path R u z × Around R u)))
    reached_added {s} (u, P, A) = go (path_added P) (around_added A)
      where
        go :
            Path R u s ⊎ (Path R v s × Path R u z)
            → Around R u ⊎ (Path R v u × Path R v z)
            → ((u : ℕ) × Path R u s × Around R u) ⊎ (Path R v s × (Path R v z ⊎ ((u : ℕ) × Path R u z × Around R u)))
        go (inl Q) (inl B) = inl (u, Q, B)
        go (inl Q) (inr b) = inr (path_joins Q b.0, inl b.1)
        go (inr q) (inl B) = inr (q.0, inr (u, q.1, B))
        go (inr q) (inr b) = inr (q.0, inl b.1)
