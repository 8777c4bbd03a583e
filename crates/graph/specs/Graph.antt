-- Steps, states and paths over two tables of next values.
--
-- A next value is a number: below 512 a node, 512 nothing, 513 handed off. A number over 513 is an end that has no name.
--
--   table l v          == the next value that the list l gives node v
--   Choice             == what a node may use: its old next value only, its new one only, or either
--   choices l v        == the choice that the list l gives node v: 0 old, 1 new, any other number either
--   Ok q b             == a node with the choice q may be changed (b true) or unchanged (b false)
--   State              == which nodes have changed: those use the new table, all others the old one
--   Respects c X       == the state X leaves each node at what its choice allows
--   next o n X v       == where the state X sends v; an end is sent nowhere
--   walk o n X s k     == where the walk from s in the state X is after k hops
--   Step o n c a b     == some bit that a's choice allows sends the node a to b
--   Path R w a         == a path of R's steps from a to w, perhaps of none
--   Around R v         == a closed path: from v back to v in at least one step
--   Within S R a b     == a step of R from a to b, both in the set S
use Rattle.std.specs.Prelude.{ℕ, zero, suc, ◌<◌, ◌≡◌, Bool, true, false, cond, List, get_or, ltb}

abbrev pub table : List ℕ → ℕ → ℕ
table l v = get_or l v 512

pub data Choice : Type 0 where
  old new either : Choice

abbrev pub choice_of : ℕ → Choice
choice_of zero = old
choice_of (suc zero) = new
choice_of (suc (suc m)) = either

abbrev pub choices : List ℕ → ℕ → Choice
choices l v = choice_of (get_or l v 0)

abbrev pub Ok : Choice → Bool → Type 0
Ok old true = ⊥
Ok old false = Unit {0}
Ok new true = Unit {0}
Ok new false = ⊥
Ok either true = Unit {0}
Ok either false = Unit {0}

abbrev pub State : Type 0
State = ℕ → Bool

pub record Respects (c : ℕ → Choice) (X : State) : Type 0 where
  pub respects : (v : ℕ) → Ok (c v) (X v)

abbrev pub next : (ℕ → ℕ) → (ℕ → ℕ) → State → ℕ → ℕ
next o n X v = cond (ltb v 512) (cond (X v) (n v) (o v)) v

abbrev pub walk : (ℕ → ℕ) → (ℕ → ℕ) → State → ℕ → ℕ → ℕ
walk o n X s zero = s
walk o n X s (suc k) = next o n X (walk o n X s k)

pub record Step (o n : ℕ → ℕ) (c : ℕ → Choice) (a b : ℕ) : Type 0 where
  pub node : a < 512
  pub bit : Bool
  pub allowed : Ok (c a) bit
  pub goes : cond bit (n a) (o a) ≡ b

pub data Path (R : ℕ → ℕ → Type 0) (w : ℕ) : ℕ → Type 0 where
  stop : {a : ℕ} → a ≡ w → Path R w a
  step : {a b : ℕ} → R a b → Path R w b → Path R w a

abbrev pub Around : (ℕ → ℕ → Type 0) → ℕ → Type 0
Around R v = (u : ℕ) × R v u × Path R v u

pub record Within (S : ℕ → Type 0) (R : ℕ → ℕ → Type 0) (a b : ℕ) : Type 0 where
  pub from : S a
  pub steps : R a b
  pub to : S b
