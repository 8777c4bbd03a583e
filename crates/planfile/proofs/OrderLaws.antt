-- The order of refusals, where one is known.
--
--   before_wrong     == of two wrong records the one at the lower offset is given
--   before_length    == of two routes of wrong lengths the old one is given
use Prim.Native.Nat.{ℕ, ◌<◌}
use native.Mathlib.Omega.{arith}
use Rattle.house.specs.Refusals.{Before, lower, sooner, nearer}
use Rattle.house.specs.declared.Refusal.TheVariants.{RecordWrong, RouteLength}

pub before_wrong : {p q : ℕ} → Before (RecordWrong p) (RecordWrong q) → p < q
before_wrong (lower h) = absurd (omega arith)
before_wrong (sooner e h) = absurd (omega arith)
before_wrong (nearer e s h) = h

pub before_length : {v w : ℕ} → Before (RouteLength v) (RouteLength w) → v < w
before_length (lower h) = absurd (omega arith)
before_length (sooner e h) = h
before_length (nearer e s h) = absurd (omega arith)
