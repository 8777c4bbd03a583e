-- The tests of a pair of routes, one for each of the refusals 4 to 7, and what the functions that make one test over both
-- routes answer.
--
--   Test             == the four tests: lengths (4), ids (5), repeats (6), ends (7)
--   Fails o n t z p  == the test t fails for the route z at the place p; the two ends count as the old route's place 0 and
--                       the new route's place 1
--   Spotted F s      == s is the first failure of F: the old route before the new, then the first place
--   ill_sized n      == no route has n ids
--   InEither P Q s   == s is what a search of the old route, which answers P, and then one of the new route, which answers
--                       Q, find first: the route's number, and the answer
--   WrongEnd o n r   == r is the place of the ends that differ first, 0 for the first ids and 1 for the last, or None where
--                       both agree
--   LowIds l         == each id of l is below 512
use Rattle.std.specs.Prelude.{ℕ, ◌<◌, ◌≡◌, Bool, List, length, get_or, Option, Some, None, ◌||◌, ltb}
use Rattle.routes.specs.Routes.{source, destination, Repeat, Side, old_side, new_side, no, route}

pub data Test : Type 0 where
  lengths ids repeats ends : Test

pub data Fails (o n : List ℕ) : Test → Side → ℕ → Type 0 where
  short : {z : Side} → length (route o n z) < 2 → Fails o n lengths z 0
  long : {z : Side} → 256 < length (route o n z) → Fails o n lengths z 0
  high : {z : Side} {p : ℕ} → p < length (route o n z) → 511 < get_or (route o n z) p 0 → Fails o n ids z p
  twice : {z : Side} {p : ℕ} → p < length (route o n z) → Repeat (route o n z) p → Fails o n repeats z p
  first_ids : (source o ≡ source n → ⊥) → Fails o n ends old_side 0
  last_ids : (destination o ≡ destination n → ⊥) → Fails o n ends new_side 1

pub data Spotted (F : Side → ℕ → Type 0) : Option (ℕ × ℕ) → Type 0 where
  nowhere : ((z : Side) (p : ℕ) → F z p → ⊥) → Spotted F None
  at :
      (z : Side) {w p : ℕ}
      → w ≡ no z
      → F z p
      → ((y : Side) → no y < no z → (k : ℕ) → F y k → ⊥)
      → ((k : ℕ) → k < p → F z k → ⊥)
      → Spotted F (Some (w, p))

abbrev pub ill_sized : ℕ → Bool
ill_sized n = ltb n 2 || ltb 256 n

pub data InEither (P Q : Option ℕ → Type 0) : Option (ℕ × ℕ) → Type 0 where
  in_old : {i : ℕ} → P (Some i) → InEither P Q (Some (1, i))
  in_new : {i : ℕ} → P None → Q (Some i) → InEither P Q (Some (2, i))
  in_neither : P None → Q None → InEither P Q None

pub data WrongEnd (o n : List ℕ) : Option ℕ → Type 0 where
  at_firsts : (source o ≡ source n → ⊥) → WrongEnd o n (Some 0)
  at_lasts : source o ≡ source n → (destination o ≡ destination n → ⊥) → WrongEnd o n (Some 1)
  ends_agree : source o ≡ source n → destination o ≡ destination n → WrongEnd o n None

pub record LowIds (l : List ℕ) : Type 0 where
  pub low : (i : ℕ) → i < length l → get_or l i 0 < 512
