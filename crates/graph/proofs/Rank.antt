-- Where a number rises along every step there is no closed path. Assumes nothing.
--
--   path_rises           == along a path the number does not fall
--   rank                 == no closed path
--   rank_nodes           == the same of the steps of two tables, where the number rises along every step between nodes
use Prim.Native.Nat.{ℕ, ◌≤◌, ◌<◌}
use native.Mathlib.Omega.{arith}
use mathlib.Core.Path.{ap}
use Rattle.graph.specs.Graph.{Choice, Step, Path, stop, step, Around}
use Rattle.graph.proofs.Paths.{around_within}

pub path_rises : {R : ℕ → ℕ → Type 0} {w a : ℕ} (f : ℕ → ℕ) → ((x y : ℕ) → R x y → f x < f y) → Path R w a → f a ≤ f w
path_rises f r (stop e) = omega (arith, ap f e)
path_rises f r (step {a = x} {b = y} s P) = omega (arith, r x y s, path_rises f r P)

pub rank : {R : ℕ → ℕ → Type 0} (f : ℕ → ℕ) → ((x y : ℕ) → R x y → f x < f y) → (v : ℕ) → Around R v → ⊥
rank f r v (u, s, P) = omega (arith, r v u s, path_rises f r P)

pub rank_nodes : (o n : ℕ → ℕ) (c : ℕ → Choice) (f : ℕ → ℕ)
    → ((x y : ℕ) → Step o n c x y → y < 512 → f x < f y)
    → (v : ℕ)
    → Around (Step o n c) v
    → ⊥
rank_nodes o n c f r v A =
    rank f (λ x y t. r x y t.steps t.to) v (around_within (λ x. x < 512) (λ x y t. t.node) A)
