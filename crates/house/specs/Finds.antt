-- A search by rising number.
--
--   Finds P n r   == r is the first number below n of which P holds, or None where there is none
use Rattle.std.specs.Prelude.{ℕ, ◌<◌, Option, Some, None}

pub data Finds (P : ℕ → Type 0) (n : ℕ) : Option ℕ → Type 0 where
  found : {r : ℕ} → r < n → P r → ((k : ℕ) → k < r → P k → ⊥) → Finds P n (Some r)
  nowhere : ((k : ℕ) → k < n → P k → ⊥) → Finds P n None
