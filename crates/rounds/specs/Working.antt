-- What the private parts of the check promise one another.
--
-- A choice of each node is a list of 512 numbers: 0 old only, 1 new only, 2 either.
--
--   Stands o n a b s      == a good pair of routes, the tables of their next values, and the source
--   Way f mode R s        == the path or the closed path, by the steps R, that tells the fault f from s: a path to nothing; a
--                            closed path, strong; a closed path to which a path leads, relaxed
--   Leads f mode a b cl s == the same, by the next values of the tables a and b, as the choice cl allows
--   the_fault d           == the fault d of the code as one of the definitions
--   Says A r              == r is true where A holds, and false where it does not
--   Alive mode m a        == the marks a are the nodes whose closed paths count: all in strong mode, those of m in relaxed
--   Tells mode a b cl s k == k is the fault that the choice leads to: a drop before a loop
--
--   Painted l i j q cl cl' == cl' is cl with q at the ids that l has from the index i to before j
--   code_in r t q         == the number of a node of round r, where those of round t have q: 1 before t, 0 after it and for no round
--   Coded ids zs t q cl   == the choice cl has these numbers
--   Spans ids zs t i j    == round t is the ids from the index i to before j, and they rise
--   Searched .. r cl      == r is the first bad round, with the index of its first id, and cl the choice of its states; or
--                            there is none
--   Decided f mode a b s cl ws v cl' ws' == the node v is decided: old where the fault is still there then, else new, and in
--                            the set
--   Refuses f t ws set r after == r is the refusal of round t for the fault f with the subset ws, and after what it leaves in
--                            the lent bytes
use Rattle.std.specs.Prelude.{ℕ, zero, suc, ◌+◌, ◌-◌, ◌<◌, ◌≤◌, ◌≡◌, Bool, true, false, cond, List, length, get_or, set, eqb, ltb, Option, Some, None}
use Rattle.house.specs.Sets.{size, put}
use Rattle.house.specs.declared.Refusal.{Refusal}
use Rattle.house.specs.declared.Refusal.TheVariants.{BeginsFaulty}
use Rattle.graph.specs.Graph.{Path, Around}
use Rattle.graph.specs.Search.{Steps}
use Rattle.routes.specs.Routes.{source, Good}
use Rattle.routes.specs.Rules.{Values}
use Rattle.rounds.specs.Schedule.{round_no}
use Rattle.rounds.specs.States.{Fault, a_drop, a_loop, Bad, FirstBad}
use Rattle.rounds.specs.Replies.{fault_of, written}
use Rattle.rounds.specs.declared.check.BadRound.{BadRound}
use Rattle.rounds.specs.declared.faults.Fault.{Fault as FaultShown}
use Rattle.rounds.specs.declared.faults.Fault.TheVariants.{Drop, Loop}

pub record Stands (o n a b : List ℕ) (s : ℕ) : Type 0 where
  pub good : Good o n
  pub olds : Values o a
  pub news : Values n b
  pub begins : s ≡ source o

abbrev pub Way : Fault → ℕ → (ℕ → ℕ → Type 0) → ℕ → Type 0
Way a_drop mode R s = Path R 512 s
Way a_loop zero R s = (v : ℕ) × Around R v
Way a_loop (suc m) R s = (v : ℕ) × Path R v s × Around R v

pub record Leads (f : Fault) (mode : ℕ) (a b cl : List ℕ) (s : ℕ) : Type 0 where
  pub way : Way f mode (Steps a b cl) s

abbrev pub the_fault : FaultShown → Fault
the_fault Drop = a_drop
the_fault Loop = a_loop

pub data Says (A : Type 0) : Bool → Type 0 where
  holds : A → Says A true
  fails : (A → ⊥) → Says A false

pub record Alive (mode : ℕ) (m a : List Bool) : Type 0 where
  pub nodes : length a ≡ 512
  pub strong : mode ≡ 0 → (v : ℕ) → v < 512 → get_or a v false ≡ true
  pub relaxed : 0 < mode → (v : ℕ) → v < 512 → get_or a v false ≡ get_or m v false

pub data Tells (mode : ℕ) (a b cl : List ℕ) (s : ℕ) : Option FaultShown → Type 0 where
  drops : Leads a_drop mode a b cl s → Tells mode a b cl s (Some Drop)
  loops : (Leads a_drop mode a b cl s → ⊥) → Leads a_loop mode a b cl s → Tells mode a b cl s (Some Loop)
  fine : (Leads a_drop mode a b cl s → ⊥) → (Leads a_loop mode a b cl s → ⊥) → Tells mode a b cl s None

pub record Painted (l : List ℕ) (i j q : ℕ) (cl cl' : List ℕ) : Type 0 where
  pub nodes : length cl' ≡ 512
  pub inside : (k : ℕ) → i ≤ k → k < j → get_or l k 0 < 512 → get_or cl' (get_or l k 0) 0 ≡ q
  pub outside : (v : ℕ) → ((k : ℕ) → i ≤ k → k < j → get_or l k 0 ≡ v → ⊥) → get_or cl' v 0 ≡ get_or cl v 0

abbrev pub code_in : ℕ → ℕ → ℕ → ℕ
code_in r t q = cond (eqb r 0) 0 (cond (ltb r t) 1 (cond (eqb r t) q 0))

pub record Coded (ids zs : List ℕ) (t q : ℕ) (cl : List ℕ) : Type 0 where
  pub nodes : length cl ≡ 512
  pub code : (v : ℕ) → get_or cl v 0 ≡ code_in (round_no ids zs v) t q

pub record Spans (ids zs : List ℕ) (t i j : ℕ) : Type 0 where
  pub a_round : 0 < t
  pub from_to : i ≤ j
  pub within : j ≤ length ids
  pub inside : (k : ℕ) → i ≤ k → k < j → round_no ids zs (get_or ids k 0) ≡ t
  pub whole : (v : ℕ) → round_no ids zs v ≡ t → (k : ℕ) × (i ≤ k) × (k < j) × (get_or ids k 0 ≡ v)
  pub rising : (k m : ℕ) → i ≤ k → k < m → m < j → get_or ids k 0 < get_or ids m 0
  pub low : (k : ℕ) → i ≤ k → k < j → get_or ids k 0 < 512

pub data Searched (mode : ℕ) (o n ids zs : List ℕ) : Option BadRound → List ℕ → Type 0 where
  none_bad :
      {cl : List ℕ}
      → ((t : ℕ) → 0 < t → t ≤ length zs → (f : Fault) → Bad mode o n ids zs t f → ⊥)
      → Searched mode o n ids zs None cl
  first_bad :
      {b : BadRound} {cl : List ℕ}
      → FirstBad mode o n ids zs b.round (the_fault b.fault)
      → Spans ids zs b.round b.from (b.from + get_or zs (b.round - 1) 0)
      → Coded ids zs b.round 2 cl
      → Searched mode o n ids zs (Some b) cl

pub data Decided (f : Fault) (mode : ℕ) (a b : List ℕ) (s : ℕ) (cl ws : List ℕ) (v : ℕ) : List ℕ → List ℕ → Type 0 where
  to_old : Leads f mode a b (set cl v 0) s → Decided f mode a b s cl ws v (set cl v 0) ws
  to_new : (Leads f mode a b (set cl v 0) s → ⊥) → Decided f mode a b s cl ws v (set (set cl v 0) v 1) (put ws v)

pub data Refuses (f : Fault) (t : ℕ) (ws set : List ℕ) : Refusal → List ℕ → Type 0 where
  begins : size ws ≡ 0 → Refuses f t ws set (BeginsFaulty t) set
  shown : {r : Refusal} {after : List ℕ} → 0 < size ws → r ≡ fault_of f t (size ws) → after ≡ written ws set → Refuses f t ws set r after
