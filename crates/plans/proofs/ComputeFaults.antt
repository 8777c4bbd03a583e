-- Whether a choice leads to a fault, by computing, and what the two tests tell. Paths are searched for and followed from
-- node to node, no further than `far` steps: a good pair has no longer path that comes to no node twice. Assumes nothing.
--
-- Of routes o and n, and a choice c:
--   far                  == a number of steps within which every path that comes to no node twice ends
--   allowed q a b        == of the old next value a and the new one b, those that the choice q allows
--   nexts v              == where the node v may go
--   step_next, next_step == these are the steps
--   leads k w v          == a path of at most k steps leads from v to w
--   circles k v          == v is on a closed path, of at most k steps more
--   ends k v             == each path from v has ended after fewer than k steps
--   leads_path, circles_around == what these tell
--   ends_all             == where each path from v ends, none leads to a closed path
--   around_node          == a closed path is among the nodes of the two routes
--   reached              == the nodes, and the ends, to which a path leads from the source
--   closed S             == no step leaves the set S
--   apart S              == the source is in S, which no step leaves, and nothing, 512, is not
--   found f mode         == the path or the closed path that tells of the fault f is found
--   free f mode          == there is none: what is reached is apart; or each path ends, from each node, strong, or from the
--                           source, relaxed
--   quiet mode           == there is none for either fault
--   found_finds, free_none, quiet_none == what these tell
use Prim.Native.Nat.{ℕ, zero, suc, ◌+◌}
use native.Mathlib.Omega.{arith}
use mathlib.Core.Path.{◌≡◌, refl, sym, ◌∙◌}
use mathlib.Core.Bool.{Bool, true, false, not, cond, ◌&&◌, ◌||◌}
use mathlib.Core.Logic.{⊎_elim}
use mathlib.Core.List.{List, [], ◌∷◌, ◌++◌}
use lib.ListN.{length}
use lib.Dec.{eqb, ltb}
use borrow.Author.Tests.{ltb-true, lt-ltb, eqb-true, not-true}
use Rattle.graph.specs.Graph.{Choice, old, new, either, Ok, Path, stop, step, Around}
use Rattle.graph.proofs.Paths.{path_stays}
use Rattle.routes.specs.Routes.{source}
use Rattle.routes.specs.Rules.{value}
use Rattle.routes.specs.Jumps.{on}
use Rattle.routes.proofs.RuleLaws.{value_off}
use Rattle.rounds.specs.States.{Fault, a_drop, a_loop}
use Rattle.rounds.proofs.Bridge.{RouteStep, Finds}
use Rattle.rounds.proofs.ScheduleLaws.{off_nowhere}
use Rattle.plans.specs.Plan.{keep}
use Rattle.plans.proofs.IdLists.{by_bool, clash, no_or, either_or, on_nil, on_cons, on_first, on_rest, on_append}
use Rattle.plans.proofs.Compute.{every, any, and_both, every_on, any_on}

abbrev pub allowed : Choice → ℕ → ℕ → List ℕ
allowed old a b = a ∷ []
allowed new a b = b ∷ []
allowed either a b = a ∷ b ∷ []

module _ (o n : List ℕ) (c : ℕ → Choice) where
  abbrev pub far : ℕ
  far = length o + length n

  unfoldable pub nexts : ℕ → List ℕ
  unfolding value
  nexts v = cond (ltb v 512) (allowed (c v) (value o v) (value n v)) []

  unfoldable pub leads : ℕ → ℕ → ℕ → Bool
  unfolding nexts any
  leads zero w v = eqb v w
  leads (suc k) w v = let r = any (leads k w) (nexts v) in eqb v w || r

  unfoldable pub circles : ℕ → ℕ → Bool
  unfolding leads
  circles k v = any (leads k v) (nexts v)

  unfoldable pub ends : ℕ → ℕ → Bool
  unfolding nexts every
  ends zero v = false
  ends (suc k) v = every (ends k) (nexts v)

  unfoldable pub reached : List ℕ
  unfolding leads keep
  reached = keep (λ v. leads far v (source o)) (512 ∷ 513 ∷ (o ++ n))

  unfoldable pub closed : List ℕ → Bool
  unfolding nexts every on
  closed S = every (λ x. every (on S) (nexts x)) S

  unfoldable pub found : Fault → ℕ → Bool
  unfolding leads circles
  found a_drop mode = leads far 512 (source o)
  found a_loop zero = any (circles far) (o ++ n)
  found a_loop (suc m) = any (λ v. leads far v (source o) && circles far v) (o ++ n)

  abbrev pub apart : List ℕ → Bool
  unfolding closed
  apart S = on S (source o) && closed S && not (on S 512)

  unfoldable pub free : Fault → ℕ → Bool
  unfolding reached closed ends
  free a_drop mode = apart reached
  free a_loop zero = every (ends far) (o ++ n)
  free a_loop (suc m) = ends far (source o)

  unfoldable pub quiet : ℕ → Bool
  unfolding free
  quiet mode = let r = free a_loop mode in free a_drop mode && r

  pub step_next : {x y : ℕ} → RouteStep o n c x y → on (nexts x) y ≡ true
  unfolding nexts
  step_next {x} {y} s = rw (lt-ltb x 512 s.node) (go (c x) s.bit s.allowed s.goes)
    where
      go :
          (q : Choice) (b : Bool)
          → Ok q b
          → cond b (value n x) (value o x) ≡ y
          → on (allowed q (value o x) (value n x)) y ≡ true
      go old true k e = absurd k
      go old false k e = rw (← e) (on_first (value o x) [])
      go new true k e = rw (← e) (on_first (value n x) [])
      go new false k e = absurd k
      go either true k e = rw (← e) (on_rest (value o x) (value n x ∷ []) (value n x) (on_first (value n x) []))
      go either false k e = rw (← e) (on_first (value o x) (value n x ∷ []))

  pub next_step : {x y : ℕ} → on (nexts x) y ≡ true → RouteStep o n c x y
  unfolding nexts
  next_step {x} {y} h =
      by_bool (ltb x 512) (λ e. let r = go (c x) (rw e at h) in record { node = ltb-true x 512 e; bit = r.0; allowed = r.1; goes = r.2 })
      (λ e. clash (rw e at h) (on_nil y))
    where
      one : (a : ℕ) → on (a ∷ []) y ≡ true → a ≡ y
      one a e = ⊎_elim (λ d. sym (eqb-true y a d)) (λ d. clash d (on_nil y)) (either_or (eqb y a) (on [] y) (rw (on_cons a [] y) at e))

      go :
          (q : Choice)
          → on (allowed q (value o x) (value n x)) y ≡ true
          → (b : Bool) × Ok q b × (cond b (value n x) (value o x) ≡ y)
      go old e = (false, tt, one (value o x) e)
      go new e = (true, tt, one (value n x) e)
      go either e =
          ⊎_elim (λ d. (false, tt, sym (eqb-true y (value o x) d))) (λ d. (true, tt, one (value n x) d))
          (either_or (eqb y (value o x)) (on (value n x ∷ []) y) (rw (on_cons (value o x) (value n x ∷ []) y) at e))

  pub leads_path : (k w v : ℕ) → leads k w v ≡ true → Path (RouteStep o n c) w v
  unfolding leads
  leads_path zero w v e = stop (eqb-true v w e)
  leads_path (suc k) w v e =
      ⊎_elim (λ d. stop (eqb-true v w d))
      (λ d. let x = any_on (leads k w) (nexts v) d in step (next_step x.1) (leads_path k w x.0 x.2))
      (either_or (eqb v w) (any (leads k w) (nexts v)) e)

  pub circles_around : (k v : ℕ) → circles k v ≡ true → Around (RouteStep o n c) v
  unfolding circles
  circles_around k v e =
      let x = any_on (leads k v) (nexts v) e in
      (x.0, next_step x.1, leads_path k v x.0 x.2)

  pub ends_all : (k v w : ℕ) → ends k v ≡ true → Path (RouteStep o n c) w v → Around (RouteStep o n c) w → ⊥
  unfolding ends
  ends_all zero v w e P A = clash e refl
  ends_all (suc k) v w e (step {b = u} s P) A =
      ends_all k u w (every_on (ends k) (nexts v) e u (step_next s)) P A
  ends_all (suc k) v w e (stop d) (u, s, P) =
      ends_all k u w (every_on (ends k) (nexts v) e u (rw d (step_next s))) P (u, s, P)

  -- a node that is on neither route goes nowhere
  stray : (v : ℕ) → on (o ++ n) v ≡ false → Around (RouteStep o n c) v → ⊥
  stray v e (u, s, P) = ended P
    where
      off : (on o v ≡ false) × (on n v ≡ false)
      off = no_or (on o v) (on n v) (rw (on_append o n v) at e)

      goes : (b : Bool) → cond b (value n v) (value o v) ≡ 512
      goes true = value_off n v (off_nowhere n v off.1)
      goes false = value_off o v (off_nowhere o v off.0)

      nowhere : u ≡ 512
      nowhere = sym s.goes ∙ goes s.bit

      ended : Path (RouteStep o n c) v u → ⊥
      ended (stop d) = omega (arith, nowhere, s.node)
      ended (step t Q) = omega (arith, nowhere, t.node)

  pub around_node : (v : ℕ) → Around (RouteStep o n c) v → on (o ++ n) v ≡ true
  around_node v A = by_bool (on (o ++ n) v) (λ e. e) (λ e. absurd (stray v e A))

  pub found_finds : (f : Fault) (mode : ℕ) → found f mode ≡ true → Finds f mode o n c
  unfolding found
  found_finds a_drop mode e = leads_path far 512 (source o) e
  found_finds a_loop zero e =
      let x = any_on (circles far) (o ++ n) e in (x.0, circles_around far x.0 x.2)
  found_finds a_loop (suc m) e =
      let x = any_on (λ v. leads far v (source o) && circles far v) (o ++ n) e in
      let y = and_both x.2 in
      (x.0, leads_path far x.0 (source o) y.0, circles_around far x.0 y.1)

  apart_none : (S : List ℕ) → apart S ≡ true → Path (RouteStep o n c) 512 (source o) → ⊥
  unfolding closed
  apart_none S e P =
      let x = and_both e in
      let y = and_both x.0 in
      clash
      (path_stays (λ v. on S v ≡ true)
      (λ a b h s. every_on (on S) (nexts a) (every_on (λ z. every (on S) (nexts z)) S y.1 a h) b (step_next s))
      y.0 P)
      (not-true (on S 512) x.1)

  pub free_none : (f : Fault) (mode : ℕ) → free f mode ≡ true → Finds f mode o n c → ⊥
  unfolding free
  free_none a_drop mode e P = apart_none reached e P
  free_none a_loop zero e (v, A) =
      ends_all far v v (every_on (ends far) (o ++ n) e v (around_node v A)) (stop refl) A
  free_none a_loop (suc m) e (v, P, A) = ends_all far (source o) v e P A

  pub quiet_none : (mode : ℕ) → quiet mode ≡ true → (f : Fault) → Finds f mode o n c → ⊥
  unfolding quiet
  quiet_none mode e a_drop = free_none a_drop mode (and_both {a = free a_drop mode} {b = free a_loop mode} e).0
  quiet_none mode e a_loop = free_none a_loop mode (and_both {a = free a_drop mode} {b = free a_loop mode} e).1
