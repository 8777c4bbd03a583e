-- Jumps. For a node on both routes, other than the destination, the next meeting node along a route is the first later
-- node there that is on both. The old-order jump is the position on the old route of the next meeting node along the new
-- route, less the node's own position there; the new-order jump is the same with the two routes exchanged.
--
--   position l v   == the index of v on l; the length of l where v isn't on it
--   on l v         == v is on the route l
--   first_on p l   == the first id of l that is on p
--   meeting q p v  == the next meeting node along q after v: the first later id there that is on p too
--   jump p q v     == v's jump in the order of p: the next meeting node is taken along q, the positions on p
--   has_jump o n v == v is on both routes and isn't the destination
--   Meets p l r    == r is the position on p of the first id of l that is on p, or None where there is none
--   JumpIn p q v r == r is v's jump in the order of p, or None where v has no jump
--   Ranged z       == from -253 to 255 and not 0
--   letter z       == the sign of a jump as document 001's letter: F (70) forward, B (66) backward
use Rattle.std.specs.Prelude.{ℕ, suc, ◌<◌, ◌≤◌, Bool, not, cond, ◌&&◌, List, [], ◌∷◌, length, drop, eqb, ltb, ℤ, pos, negsuc, ◌-ℤ◌}
use Rattle.std.specs.Prelude.{true, false, ◌≡◌, Option as Answer, Some, None}
use Rattle.std.proofs.Math.Option.{Option, none, some}
use Rattle.routes.specs.Routes.{destination}

unfoldable pub position : List ℕ → ℕ → ℕ
position [] v = 0
position (a ∷ l) v = cond (eqb v a) 0 (suc (position l v))

unfoldable pub on : List ℕ → ℕ → Bool
unfolding position
on l v = ltb (position l v) (length l)

unfoldable pub first_on : List ℕ → List ℕ → Option ℕ
unfolding on
first_on p [] = none
first_on p (a ∷ l) = cond (on p a) (some a) (first_on p l)

unfoldable pub meeting : List ℕ → List ℕ → ℕ → Option ℕ
unfolding position first_on
meeting q p v = first_on p (drop (suc (position q v)) q)

abbrev jump_to : List ℕ → ℕ → Option ℕ → Option ℤ
unfolding position
jump_to p v none = none
jump_to p v (some w) = some (pos (position p w) -ℤ pos (position p v))

unfoldable pub jump : List ℕ → List ℕ → ℕ → Option ℤ
unfolding meeting jump_to
jump p q v = jump_to p v (meeting q p v)

unfoldable pub has_jump : List ℕ → List ℕ → ℕ → Bool
unfolding on
has_jump o n v = on o v && on n v && not (eqb v (destination o))

pub data Meets (p l : List ℕ) : Answer ℕ → Type 0 where
  met : {w : ℕ} → first_on p l ≡ some w → Meets p l (Some (position p w))
  unmet : first_on p l ≡ none → Meets p l None

pub data JumpIn (p q : List ℕ) (v : ℕ) : Answer ℤ → Type 0 where
  has_one : {z : ℤ} → has_jump p q v ≡ true → jump p q v ≡ some z → JumpIn p q v (Some z)
  has_none : has_jump p q v ≡ false → JumpIn p q v None

abbrev pub Ranged : ℤ → Type 0
Ranged (pos k) = (0 < k) × (k ≤ 255)
Ranged (negsuc k) = k ≤ 252

abbrev pub letter : ℤ → ℕ
letter (pos k) = 70
letter (negsuc k) = 66
