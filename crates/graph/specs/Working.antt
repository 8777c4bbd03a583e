-- What the private parts of the two searches promise one another.
--
-- A node has two next values, one and other: the two that its choice allows, or twice the only one.
--
--   one o n c v           == the old next value of v, or the new one where v's choice is new only
--   other o n c v         == the new next value of v, or the old one where v's choice is old only
--   nexts o n c v         == both, as a list
--   sum k f               == f 0 + f 1 + .. + f (k - 1)
--   among k m f           == the sum of f over the marked numbers below k
--   hits w x              == 1 where w is x, else 0
--   entries o n c x v     == how often v's two next values are x
--   Sent q k f            == the sum of f over the first k numbers of the queue q
--
-- Reaching:
--   Room m q t            == 514 marks and places; t is the number of marks
--   Visited m q t w m' q' t' == w is marked and queued behind t, unless it is over 513 or marked already
--   Waits q h t v         == v stands in the queue from h to before t
--   Done o n c m v        == each of v's next values that can be marked is marked
--   Search o n c s m q h t == the marked numbers are reached from s, and each one that no longer waits is done
--   Begun o n c s m q h t == the same, and s itself is marked
--
-- Peeling:
--   Plus a f b            == the list b has at each node x what the list a has there, and f x more
--   Offered m k q t w m' q' t' == w leaves the marks and is queued, if it is a marked node whose count in k is 0
--   Peel o n c a m k q h t == the marks a are split into the marks m and the queue; k counts the steps into each node
--                            from the nodes of a but those queued before h; every closed path in a is still one in m
--   Busy m k i            == each marked node below i has a count that is not 0
--   Peeling o n c a m k q h t == the same as Peel, and all marked nodes are busy
--   Tally o n c a k i     == k counts the steps into each node from the nodes of a below i
--   Peeled o n c a r      == r is the number of nodes in a exactly if there is no closed path in a
use Rattle.std.specs.Prelude.{ℕ, zero, suc, ◌+◌, ◌≤◌, ◌<◌, ◌≡◌, Bool, true, false, cond, List, [], ◌∷◌, ◌⊎◌, get_or, length, set, eqb}
use Rattle.graph.specs.Graph.{Choice, old, new, either, table, choices, Path, Around, Within}
use Rattle.graph.specs.Search.{Steps, Marked, Cyclic}

abbrev pub one_of : Choice → ℕ → ℕ → ℕ
one_of old a b = a
one_of new a b = b
one_of either a b = a

abbrev pub other_of : Choice → ℕ → ℕ → ℕ
other_of old a b = a
other_of new a b = b
other_of either a b = b

unfoldable pub one : List ℕ → List ℕ → List ℕ → ℕ → ℕ
one o n c v = one_of (choices c v) (table o v) (table n v)

unfoldable pub other : List ℕ → List ℕ → List ℕ → ℕ → ℕ
other o n c v = other_of (choices c v) (table o v) (table n v)

abbrev pub nexts : List ℕ → List ℕ → List ℕ → ℕ → List ℕ
nexts o n c v = one o n c v ∷ other o n c v ∷ []

unfoldable pub sum : ℕ → (ℕ → ℕ) → ℕ
sum zero f = 0
sum (suc k) f = sum k f + f k

abbrev pub among : ℕ → List Bool → (ℕ → ℕ) → ℕ
among k m f = sum k (λ v. cond (get_or m v false) (f v) 0)

abbrev pub hits : ℕ → ℕ → ℕ
hits w x = cond (eqb w x) 1 0

abbrev pub entries : List ℕ → List ℕ → List ℕ → ℕ → ℕ → ℕ
entries o n c x v = hits (one o n c v) x + hits (other o n c v) x

abbrev pub Sent : List ℕ → ℕ → (ℕ → ℕ) → ℕ
Sent q k f = sum k (λ i. f (get_or q i 0))

pub record Room (m : List Bool) (q : List ℕ) (t : ℕ) : Type 0 where
  pub marks : length m ≡ 514
  pub places : length q ≡ 514
  pub counted : among 514 m (λ v. 1) ≡ t

pub data Visited (m : List Bool) (q : List ℕ) (t w : ℕ) : List Bool → List ℕ → ℕ → Type 0 where
  over : 514 ≤ w → Visited m q t w m q t
  known : get_or m w false ≡ true → Visited m q t w m q t
  fresh : w < 514 → get_or m w false ≡ false → Visited m q t w (set m w true) (set q t w) (t + 1)

pub record Waits (q : List ℕ) (h t v : ℕ) : Type 0 where
  pub place : ℕ
  pub from : h ≤ place
  pub before : place < t
  pub holds : get_or q place 0 ≡ v

pub record Done (o n c : List ℕ) (m : List Bool) (v : ℕ) : Type 0 where
  pub done : (w : ℕ) → Steps o n c v w → w < 514 → get_or m w false ≡ true

pub record Search (o n c : List ℕ) (s : ℕ) (m : List Bool) (q : List ℕ) (h t : ℕ) : Type 0 where
  pub room : Room m q t
  pub behind : h ≤ t
  pub queued : (i : ℕ) → i < t → get_or m (get_or q i 0) false ≡ true
  pub reached : (w : ℕ) → get_or m w false ≡ true → Path (Steps o n c) w s
  pub closed : (v : ℕ) → get_or m v false ≡ true → Done o n c m v ⊎ Waits q h t v

pub record Begun (o n c : List ℕ) (s : ℕ) (m : List Bool) (q : List ℕ) (h t : ℕ) : Type 0 where
  pub search : Search o n c s m q h t
  pub begins : s < 514 → get_or m s false ≡ true

pub record Plus (a : List ℕ) (f : ℕ → ℕ) (b : List ℕ) : Type 0 where
  pub size : length a ≡ 512
  pub same : length b ≡ 512
  pub each : (x : ℕ) → x < 512 → get_or b x 0 ≡ get_or a x 0 + f x

pub data Offered (m : List Bool) (k q : List ℕ) (t w : ℕ) : List Bool → List ℕ → ℕ → Type 0 where
  over : 512 ≤ w → Offered m k q t w m q t
  gone : get_or m w false ≡ false → Offered m k q t w m q t
  busy : 0 < get_or k w 0 → Offered m k q t w m q t
  free : w < 512 → get_or m w false ≡ true → get_or k w 0 ≡ 0 → Offered m k q t w (set m w false) (set q t w) (t + 1)

pub record Peel (o n c : List ℕ) (a m : List Bool) (k q : List ℕ) (h t : ℕ) : Type 0 where
  pub marks : length m ≡ 512
  pub counts : length k ≡ 512
  pub places : length q ≡ 512
  pub behind : h ≤ t
  pub nodes : (i : ℕ) → i < t → get_or q i 0 < 512
  pub inside : (v : ℕ) → Marked m v → Marked a v
  pub split : (f : ℕ → ℕ) → among 512 m f + Sent q t f ≡ among 512 a f
  pub lowered : (x : ℕ) → x < 512 → get_or k x 0 + Sent q h (entries o n c x) ≡ among 512 a (entries o n c x)
  pub kept : (v : ℕ) → Around (Within (Marked a) (Steps o n c)) v → Around (Within (Marked m) (Steps o n c)) v

pub record Busy (m : List Bool) (k : List ℕ) (i : ℕ) : Type 0 where
  pub counts : (x : ℕ) → x < i → Marked m x → 0 < get_or k x 0

pub record Peeling (o n c : List ℕ) (a m : List Bool) (k q : List ℕ) (h t : ℕ) : Type 0 where
  pub peel : Peel o n c a m k q h t
  pub busy : Busy m k 512

pub record Tally (o n c : List ℕ) (a : List Bool) (k : List ℕ) (i : ℕ) : Type 0 where
  pub size : length k ≡ 512
  pub each : (x : ℕ) → x < 512 → get_or k x 0 ≡ among i a (entries o n c x)

pub record Peeled (o n c : List ℕ) (a : List Bool) (r : ℕ) : Type 0 where
  pub fewer : r < among 512 a (λ v. 1) → Cyclic o n c a true
  pub all : among 512 a (λ v. 1) ≤ r → Cyclic o n c a false
