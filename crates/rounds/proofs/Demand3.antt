-- Demand 3: "Take any accepted schedule, and a packet that enters at the source before, during or after a round. The switches
-- of that round change one at a time in any order, also while the packet is moving; every switch of the earlier rounds has
-- changed before it enters, and no further round begins during its trip. Then, short of the destination, it never stands at
-- a switch without a rule, never comes to one switch twice, and is at the destination after at most one hop fewer than there
-- are switches on the two routes."
--
-- How the statement of `demand_3` renders it:
--   an accepted schedule            == Good o n, Schedule o n ids zs and Passes mode o n ids zs, in either mode
--   before, during or after a round == Stage zs t names the round, and the packet enters in any state of it (Trip's `enters`)
--   the switches of that round change, also while the packet is moving == Trip's `changes`, in any order with its `hops`
--   earlier rounds changed, no further round begins == each state of round t (StateOf) has it so, and `changes` keeps it
--   the three promises              == the fields of Safe, at each moment of each trip
--
-- How the fields add up to "is at the destination after at most ..": by `hops_bound` no trip makes more hops than that; by
-- `has_rule` a packet short of the destination can always hop on (`goes_on`); so the hop after which it makes none, at the
-- latest the last one allowed, is the one to the destination. `at_last` says it of the last hop allowed, and `arrives` that
-- each trip leads there, also where no further switch changes.
--
-- The proof. Each hop is by the rule of a state of round t, not the same one each time, so the trail is a path of steps that
-- the choice of round t allows. Where the packet came to a switch twice, or to one without a rule, the path would lead to a
-- closed path or to nothing, and by the last exit law one fixed state of round t would loop or drop, which the schedule's
-- passing shuts out. A trail without repeats, all of it on the two routes, is no longer than there are switches on them.
-- Assumes nothing.
--
--   ByRule o n c v w     == a state that respects c has the rule w at v
--   trip_state           == the state of a trip in round t is a state of round t
--   trip_chain           == the trail of a trip is a chain of hops by rules of states of round t
--   rounds_none          == a schedule with no rounds has each node in none
--   state_in             == a state of round t is a state of the schedule
--   passes_finds         == a schedule that passes has no path or closed path that tells a fault, in its mode
--   passes_relaxed       == nor one that tells a relaxed loop, in either mode
--   hop_on               == an id of a route is a node, and on the route
--   goes_on              == short of the destination a trip can go on by a hop
--   arrives              == each trip goes on to the destination by hops alone
--   demand_3             == each trip is safe
use Prim.Native.Nat.{ℕ, zero, suc, ◌+◌, ◌≤◌, ◌<◌}
use native.Mathlib.Omega.{arith}
use native.Mathlib.Decide.{ℕ_discrete}
use mathlib.Core.Path.{◌≡◌, refl, sym, ◌∙◌, ap, subst}
use mathlib.Core.Bool.{Bool, true, false, cond, ◌||◌}
use mathlib.Core.List.{List, [], ◌∷◌, ◌++◌, append_assoc}
use mathlib.Core.Option.{Option, none, some}
use lib.ListN.{length, get_or}
use borrow.Author.Tests.{ne_eqb}
use Rattle.graph.specs.Graph.{Choice, Respects, Path, Around}
use Rattle.graph.proofs.Paths.{path_more}
use Rattle.graph.proofs.Equivalences.{Possible}
use Rattle.graph.proofs.Pigeon.{Distinct}
use Rattle.routes.specs.Routes.{source, destination, GoodRoute, Good}
use Rattle.routes.specs.Rules.{rule, tally}
use Rattle.routes.specs.Jumps.{position, on}
use Rattle.routes.specs.Walk.{State, in_state}
use Rattle.routes.proofs.RuleLaws.{rule_hop, Hop}
use Rattle.routes.proofs.JumpLaws.{position_index, position_on}
use Rattle.rounds.specs.Schedule.{sum, round_no, Schedule}
use Rattle.rounds.specs.States.{StateOf, StateIn, of_round, of_none, Passes, Fault, a_drop, a_loop, Shows}
use Rattle.rounds.specs.Packet.{changed, Trip, enters, changes, hops, Stage, a_round, no_rounds, on_either, Safe, Arrives}
use Rattle.rounds.proofs.Bridge.{RouteStep, Finds, choice_at, possible_finds, finds_relaxed, state_respects, ruled_step, unruled_step}
use Rattle.rounds.proofs.Trails.{Chain, starts, goes, chain_maps, chain_path, chain_twice, chain_all, distinct_tally}

pub record ByRule (o n : List ℕ) (c : ℕ → Choice) (v w : ℕ) : Type 0 where
  pub state : State
  pub respected : Respects c state
  pub ruled : in_state o n state v ≡ some w

changed_state : (ids zs : List ℕ) (t : ℕ) (X : State) (v : ℕ) → 0 < t → round_no ids zs v ≡ t → StateOf ids zs t X → StateOf ids zs t (changed X v)
changed_state ids zs t X v h e s =
    record {
      in_none = λ u d. other u (λ q. omega (arith, ap (round_no ids zs) q)) ∙ s.in_none u d;
      earlier = λ u d k. other u (λ q. omega (arith, ap (round_no ids zs) q)) ∙ s.earlier u d k;
      later = λ u d. other u (λ q. omega (arith, ap (round_no ids zs) q)) ∙ s.later u d;
    }
  where
    other : (u : ℕ) → (u ≡ v → ⊥) → changed X v u ≡ X u
    other u d = rw (ne_eqb u v d)

module _ {o n ids zs : List ℕ} {t : ℕ} where
  pub trip_state : {l : List ℕ} {X : State} → Trip o n ids zs t l X → StateOf ids zs t X
  trip_state (enters s e) = s
  trip_state (changes {X} v h r T e) = subst (StateOf ids zs t) (sym e) (changed_state ids zs t X v h r (trip_state T))
  trip_state (hops T d e) = trip_state T

  pub trip_chain : {l : List ℕ} {X : State} → Trip o n ids zs t l X → Chain (ByRule o n (choice_at ids zs t)) (source o) l
  trip_chain (enters s e) = starts e
  trip_chain (changes v h r T e) = trip_chain T
  trip_chain (hops {X} T d e) =
      goes (trip_chain T) (record { state = X; respected = (state_respects ids zs t X).0 (trip_state T); ruled = e })

pub rounds_none : (ids zs : List ℕ) → length zs ≡ 0 → sum zs ≡ length ids → (v : ℕ) → round_no ids zs v ≡ 0
unfolding sum round_no on position
rounds_none ids (z ∷ zs) h e v = absurd (omega arith)
rounds_none (i ∷ ids) [] h e v = absurd (omega arith)
rounds_none [] [] h e v = refl

pub state_in :
    {o n ids zs : List ℕ} {t : ℕ} {X : State} → Schedule o n ids zs → Stage zs t → StateOf ids zs t X → StateIn ids zs X
state_in sch (a_round h k) s = of_round h k s
state_in {ids = ids} {zs} sch (no_rounds e) s = of_none e (λ v. s.in_none v (rounds_none ids zs e sch.sums v))

pub hop_on : {l : List ℕ} → GoodRoute l → (i : ℕ) {v : ℕ} → i < length l → get_or l i 0 ≡ v → (v < 512) × (on l v ≡ true)
hop_on {l} g i h e = (
  rw e at (g.ids i h),
  rw e at (position_on l (get_or l i 0) (omega (arith, position_index g i h))),
)

-- v is a switch of the two routes
record Switch (o n : List ℕ) (v : ℕ) : Type 0 where
  node : v < 512
  on_one : on_either o n v ≡ true

or_right : (b : Bool) → b || true ≡ true
or_right true = refl
or_right false = refl

old_switch : {o : List ℕ} (n : List ℕ) → GoodRoute o → (i : ℕ) {v : ℕ} → i < length o → get_or o i 0 ≡ v → Switch o n v
old_switch n g i h e = record { node = (hop_on g i h e).0; on_one = rw (hop_on g i h e).1 }

new_switch : (o : List ℕ) {n : List ℕ} → GoodRoute n → (i : ℕ) {v : ℕ} → i < length n → get_or n i 0 ≡ v → Switch o n v
new_switch o g i {v} h e = record { node = (hop_on g i h e).0; on_one = rw (hop_on g i h e).1 (or_right (on o v)) }

module _
    {mode : ℕ} {o n ids zs : List ℕ} {t : ℕ}
    (g : Good o n)
    (sch : Schedule o n ids zs)
    (pass : Passes mode o n ids zs)
    (stage : Stage zs t)
  where
    pub passes_finds : (f : Fault) → Finds f mode o n (choice_at ids zs t) → ⊥
    passes_finds f p = go f q.shows
      where
        q : Possible (choice_at ids zs t) (Shows f mode o n)
        q = (possible_finds g (choice_at ids zs t) f mode).1 p

        inside : StateIn ids zs q.state
        inside = state_in sch stage ((state_respects ids zs t q.state).1 q.respected)

        go : (f : Fault) → Shows f mode o n q.state → ⊥
        go a_drop s = pass.no_drop q.state inside s
        go a_loop s = pass.no_loop q.state inside s

    pub passes_relaxed :
        (v : ℕ) × Path (RouteStep o n (choice_at ids zs t)) v (source o) × Around (RouteStep o n (choice_at ids zs t)) v
        → ⊥
    passes_relaxed p = passes_finds a_loop (finds_relaxed mode o n (choice_at ids zs t) p)

    lands : (v w : ℕ) → ByRule o n (choice_at ids zs t) v w → Switch o n w
    lands v w b = go (b.state v) b.ruled
      where
        go : (x : Bool) → cond x (rule n v) (rule o v) ≡ some w → Switch o n w
        go true e = let h : Hop n v w = rule_hop n v e in new_switch o g.new (h.index + 1) h.within h.next
        go false e = let h : Hop o v w = rule_hop o v e in old_switch n g.old (h.index + 1) h.within h.next

    module _ {l : List ℕ} {X : State} (T : Trip o n ids zs t l X) where
      trip_switch : (i : ℕ) → i < length l → Switch o n (get_or l i 0)
      trip_switch =
          chain_all (Switch o n) (old_switch n g.old 0 (omega (arith, g.old.least)) refl) lands (trip_chain T)

      trip_steps : Chain (RouteStep o n (choice_at ids zs t)) (source o) l
      trip_steps = chain_maps (λ v w b. ruled_step g b.state b.respected b.ruled) (trip_chain T)

      trip_distinct : Distinct l
      trip_distinct = record { differ = λ i j h k e. passes_relaxed (chain_twice trip_steps i j h k e) }

      trip_bound : length l ≤ tally 512 (on_either o n)
      trip_bound =
          distinct_tally 512 (on_either o n) l trip_distinct (λ i h. ((trip_switch i h).node, (trip_switch i h).on_one))

    trip_rule :
        {v : ℕ} {trail : List ℕ} {X : State}
        → Trip o n ids zs t (v ∷ trail) X
        → (v ≡ destination o → ⊥)
        → (w : ℕ) × (in_state o n X v ≡ some w)
    trip_rule {v} {trail} {X} T d = go (in_state o n X v) refl
      where
        node : v < 512
        node = (trip_switch T 0 (omega arith)).node

        respected : Respects (choice_at ids zs t) X
        respected = (state_respects ids zs t X).0 (trip_state T)

        go : (p : Option ℕ) → in_state o n X v ≡ p → (w : ℕ) × (in_state o n X v ≡ some w)
        go none e = absurd (passes_finds a_drop (path_more (chain_path (trip_steps T)) (unruled_step g X respected node d e)))
        go (some w) e = (w, e)

    pub goes_on :
        {v : ℕ} {trail : List ℕ} {X : State}
        → Trip o n ids zs t (v ∷ trail) X
        → (v ≡ destination o → ⊥)
        → (w : ℕ) × Trip o n ids zs t (w ∷ v ∷ trail) X
    goes_on T d = let r = trip_rule T d in (r.0, hops T d r.1)

    trip_safe : {v : ℕ} {trail : List ℕ} {X : State} → Trip o n ids zs t (v ∷ trail) X → Safe o n v trail X
    trip_safe {v} {trail} {X} T =
        record {
          has_rule = trip_rule T;
          not_twice = λ i h e. (trip_distinct T).differ 0 (suc i) (omega arith) (omega arith) (sym e);
          hops_bound = omega (arith, trip_bound T);
          at_last = λ e. last e (ℕ_discrete v (destination o));
        }
      where
        last : length trail + 1 ≡ tally 512 (on_either o n) → Dec (v ≡ destination o) → v ≡ destination o
        last e (yes d) = d
        last e (no d) = absurd (omega (arith, trip_bound (goes_on T d).1))

    -- so it is where at most k hops more may be made
    arrives_within :
        (k : ℕ) {v : ℕ} {trail : List ℕ} {X : State}
        → tally 512 (on_either o n) ≤ length trail + k
        → Trip o n ids zs t (v ∷ trail) X
        → Arrives o n ids zs t (v ∷ trail) X
    arrives_within zero h T = absurd (omega (arith, trip_bound T))
    arrives_within (suc k) {v} {trail} {X} h T = go (ℕ_discrete v (destination o)) (λ w. arrives_within k)
      where
        go :
            Dec (v ≡ destination o)
            → ((w : ℕ)
            → tally 512 (on_either o n) ≤ length (v ∷ trail) + k
            → Trip o n ids zs t (w ∷ v ∷ trail) X
            → Arrives o n ids zs t (w ∷ v ∷ trail) X)
            → Arrives o n ids zs t (v ∷ trail) X
        go (yes d) rec = record { onward = []; trip = T; there = d }
        go (no d) rec = more (goes_on T d).0 (rec (goes_on T d).0 (omega arith) (goes_on T d).1)
          where
            more : (w : ℕ) → Arrives o n ids zs t (w ∷ v ∷ trail) X → Arrives o n ids zs t (v ∷ trail) X
            more w a =
                record {
                  onward = a.onward ++ (w ∷ []);
                  trip = rw (append_assoc a.onward (w ∷ []) (v ∷ trail)) a.trip;
                  there = rw (append_assoc a.onward (w ∷ []) (v ∷ trail)) a.there;
                }

    pub arrives : {v : ℕ} {trail : List ℕ} {X : State} → Trip o n ids zs t (v ∷ trail) X → Arrives o n ids zs t (v ∷ trail) X
    arrives T = arrives_within (tally 512 (on_either o n)) (omega arith) T

pub demand_3 :
    {mode : ℕ} {o n ids zs : List ℕ} {t v : ℕ} {trail : List ℕ} {X : State}
    -- "any accepted schedule", strong or relaxed
    → Good o n
    → Schedule o n ids zs
    → Passes mode o n ids zs
    -- "before, during or after a round"
    → Stage zs t
    -- "a packet that enters at the source", and the switches of that round "change one at a time in any order, also while the
    -- packet is moving": a trip so far, at any moment of it
    → Trip o n ids zs t (v ∷ trail) X
    -- it never stands at a switch without a rule, never comes to one twice, and its hops are bounded
    → Safe o n v trail X
demand_3 g sch pass stage T = trip_safe g sch pass stage T
