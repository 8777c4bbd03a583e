-- What the searches answer.
--
--   Reached o n c s m  == the marks m hold exactly the numbers below 514 to which a path from s leads: nodes, 512
--                         for nothing and 513 for handed off
--   Leads o n c s w r  == r is true exactly when w is below 514 and a path from s leads to it
--   Marked a v         == the node v is in the set of marks a
--   Cyclic o n c a r   == r is true exactly when some node lies on a closed path within the set of marks a
use Rattle.std.specs.Prelude.{ℕ, ◌<◌, ◌≡◌, Bool, true, false, List, get_or, length}
use Rattle.graph.specs.Graph.{table, choices, Step, Path, Around, Within}

abbrev pub Steps : List ℕ → List ℕ → List ℕ → ℕ → ℕ → Type 0
Steps o n c = Step (table o) (table n) (choices c)

pub record Reached (o n c : List ℕ) (s : ℕ) (m : List Bool) : Type 0 where
  pub size : length m ≡ 514
  pub marked_is_reached : (w : ℕ) → get_or m w false ≡ true → Path (Steps o n c) w s
  pub reached_is_marked : (w : ℕ) → w < 514 → Path (Steps o n c) w s → get_or m w false ≡ true

abbrev pub Leads : List ℕ → List ℕ → List ℕ → ℕ → ℕ → Bool → Type 0
Leads o n c s w true = (w < 514) × Path (Steps o n c) w s
Leads o n c s w false = w < 514 → Path (Steps o n c) w s → ⊥

pub record Marked (a : List Bool) (v : ℕ) : Type 0 where
  pub marked : get_or a v false ≡ true

abbrev pub Cyclic : List ℕ → List ℕ → List ℕ → List Bool → Bool → Type 0
Cyclic o n c a true = (v : ℕ) × Around (Within (Marked a) (Steps o n c)) v
Cyclic o n c a false = (v : ℕ) → Around (Within (Marked a) (Steps o n c)) v → ⊥
