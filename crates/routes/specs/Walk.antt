-- The walk: from the source, by each node's rule. A walk's start counts as coming to the source.
--
--   State            == a set of changed nodes: those use the new rule, all others the old one
--   in_state o n X v == the rule of v in the state X
--   place f s k      == where the walk from s by the rules f is after k hops; none where it has ended before
--   Walks f s d a    == a is what the walk comes to: arrived at d; dropped at a node other than d that has no rule; looped,
--                       at the first node come to a second time; each with the hops made, the hop back included
use Rattle.std.specs.Prelude.{ℕ, zero, suc, ◌<◌, ◌≡◌, Bool, cond, List}
use Rattle.std.proofs.Math.Option.{Option, none, some}
use Rattle.routes.specs.Rules.{rule}
use Rattle.routes.specs.declared.walk.Walked.{Walked}
use Rattle.routes.specs.declared.walk.Walked.TheVariants.{Arrived, Dropped, Looped}

abbrev pub State : Type 0
State = ℕ → Bool

abbrev pub in_state : List ℕ → List ℕ → State → ℕ → Option ℕ
in_state o n X v = cond (X v) (rule n v) (rule o v)

abbrev pub hop : (ℕ → Option ℕ) → Option ℕ → Option ℕ
hop f none = none
hop f (some v) = f v

unfoldable pub place : (ℕ → Option ℕ) → ℕ → ℕ → Option ℕ
place f s zero = some s
place f s (suc k) = hop f (place f s k)

pub record Twice (f : ℕ → Option ℕ) (s v k : ℕ) : Type 0 where
  pub sooner : ℕ
  pub before : sooner < k
  pub there : place f s sooner ≡ some v
  pub again : place f s k ≡ some v

pub data Walks (f : ℕ → Option ℕ) (s d : ℕ) : Walked → Type 0 where
  arrived : {k : ℕ} → place f s k ≡ some d → Walks f s d (Arrived k)
  dropped : {v k : ℕ} → place f s k ≡ some v → (v ≡ d → ⊥) → f v ≡ none → Walks f s d (Dropped v k)
  looped : {v k : ℕ} → Twice f s v k → ((u m : ℕ) → m < k → Twice f s u m → ⊥) → Walks f s d (Looped v k)
