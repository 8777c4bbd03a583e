-- Rules, due nodes, and the next values that the searches use.
--
--   rule l v       == the rule of the node v on the route l: the id after it; a node that isn't on it, and its last, has none
--   due o n v      == the node v is due: its two rules differ, none counting as a rule value
--   change p q     == from the rule p to the rule q: none to some is an install, some to none a remove, some to another a
--                     switch
--   value l v      == the next value of v on l: the id after it, 513 (handed off) where v is the last, 512 (nothing) where v
--                     isn't on l
--   Values l t     == the table t holds the next values of the 512 nodes on l
--   change_of a b  == from the next value a to the next value b, as `change`
--   tally k f      == how many of the numbers below k the test f holds of
--   Differ a b m   == the marks m hold exactly the nodes at which the tables a and b differ
use Rattle.std.specs.Prelude.{ℕ, zero, suc, ◌+◌, ◌<◌, ◌≡◌, Bool, true, false, not, cond, List, [], ◌∷◌, length, get_or, eqb}
use Rattle.std.proofs.Math.Option.{Option, none, some}
use Rattle.routes.specs.declared.rule.Change.{Change}
use Rattle.routes.specs.declared.rule.Change.TheVariants.{Kept, Install, Remove, Switch}

unfoldable pub rule : List ℕ → ℕ → Option ℕ
rule [] v = none
rule (a ∷ []) v = none
rule (a ∷ b ∷ l) v = cond (eqb v a) (some b) (rule (b ∷ l) v)

abbrev pub differs : Option ℕ → Option ℕ → Bool
differs none none = false
differs none (some b) = true
differs (some a) none = true
differs (some a) (some b) = not (eqb a b)

unfoldable pub due : List ℕ → List ℕ → ℕ → Bool
unfolding rule
due o n v = differs (rule o v) (rule n v)

abbrev pub change : Option ℕ → Option ℕ → Change
change none none = Kept
change none (some b) = Install
change (some a) none = Remove
change (some a) (some b) = cond (eqb a b) Kept Switch

unfoldable pub value : List ℕ → ℕ → ℕ
value [] v = 512
value (a ∷ []) v = cond (eqb v a) 513 512
value (a ∷ b ∷ l) v = cond (eqb v a) b (value (b ∷ l) v)

pub record Values (l t : List ℕ) : Type 0 where
  pub size : length t ≡ 512
  pub at : (v : ℕ) → v < 512 → get_or t v 512 ≡ value l v

abbrev pub change_of : ℕ → ℕ → Change
change_of a b = cond (eqb a b) Kept (cond (eqb a 512) Install (cond (eqb b 512) Remove Switch))

unfoldable pub tally : ℕ → (ℕ → Bool) → ℕ
tally zero f = 0
tally (suc k) f = tally k f + cond (f k) 1 0

abbrev pub apart : List ℕ → List ℕ → ℕ → Bool
apart a b v = not (eqb (get_or a v 512) (get_or b v 512))

pub record Differ (a b : List ℕ) (m : List Bool) : Type 0 where
  pub size : length m ≡ 512
  pub at : (v : ℕ) → v < 512 → get_or m v false ≡ apart a b v
