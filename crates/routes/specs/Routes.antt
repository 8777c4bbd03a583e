-- Routes: a route is a list of 2 to 256 distinct ids, each 0 to 511. Both routes begin at one source and end at one
-- destination.
--
--   source l, destination l == the first and the last id of the route l
--   GoodRoute l       == l is 2 to 256 distinct ids
--   Good o n          == the old route o and the new route n are a good pair
--   Repeat l i        == the id at index i stands before it in l already
--   Side, no, route   == the old route has the number 1, the new one 2
--   RouteFault o n r  == the refusal r, 4 to 7, applies to the pair
--   FirstAt P n r     == r is the first number below n of which P holds, or n where there is none
use Rattle.std.specs.Prelude.{ℕ, ◌<◌, ◌≤◌, ◌-◌, ◌≡◌, List, length, get_or}
use Rattle.house.specs.declared.Refusal.{Refusal}
use Rattle.house.specs.declared.Refusal.TheVariants.{RouteLength, RouteId, RouteRepeat, EndsDiffer}

abbrev pub source : List ℕ → ℕ
source l = get_or l 0 0

abbrev pub destination : List ℕ → ℕ
destination l = get_or l (length l - 1) 0

pub record GoodRoute (l : List ℕ) : Type 0 where
  pub least : 2 ≤ length l
  pub most : length l ≤ 256
  pub ids : (i : ℕ) → i < length l → get_or l i 0 < 512
  pub distinct : (j i : ℕ) → j < i → i < length l → get_or l j 0 ≡ get_or l i 0 → ⊥

pub record Good (o n : List ℕ) : Type 0 where
  pub old : GoodRoute o
  pub new : GoodRoute n
  pub sources : source o ≡ source n
  pub destinations : destination o ≡ destination n

abbrev pub Repeat : List ℕ → ℕ → Type 0
Repeat l i = (j : ℕ) × (j < i) × (get_or l j 0 ≡ get_or l i 0)

pub data Side : Type 0 where
  old_side new_side : Side

abbrev pub no : Side → ℕ
no old_side = 1
no new_side = 2

abbrev pub route : List ℕ → List ℕ → Side → List ℕ
route o n old_side = o
route o n new_side = n

pub data RouteFault (o n : List ℕ) : Refusal → Type 0 where
  too_short : (z : Side) {w : ℕ} → w ≡ no z → length (route o n z) < 2 → RouteFault o n (RouteLength w)
  too_long : (z : Side) {w : ℕ} → w ≡ no z → 256 < length (route o n z) → RouteFault o n (RouteLength w)
  over : (z : Side) {w i : ℕ} → w ≡ no z → i < length (route o n z) → 511 < get_or (route o n z) i 0 → RouteFault o n (RouteId w i)
  again : (z : Side) {w i : ℕ} → w ≡ no z → i < length (route o n z) → Repeat (route o n z) i → RouteFault o n (RouteRepeat w i)
  sources_differ : {p : ℕ} → p ≡ 0 → (source o ≡ source n → ⊥) → RouteFault o n (EndsDiffer p)
  destinations_differ : {p : ℕ} → p ≡ 1 → (destination o ≡ destination n → ⊥) → RouteFault o n (EndsDiffer p)

pub record FirstAt (P : ℕ → Type 0) (n r : ℕ) : Type 0 where
  pub within : r ≤ n
  pub none_before : (k : ℕ) → k < r → P k → ⊥
  pub found : r < n → P r
