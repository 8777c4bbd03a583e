-- From document 01's walk by rules to the paths by next values that the searches find. A good pair's next values are the
-- two tables; a fault that some state shows, of those that respect a choice, is a path or a closed path, and the other way
-- round. Assumes nothing.
--
--   RouteStep o n c      == a step by the next values on the two routes, at each node as the choice c allows
--   Finds f mode o n c   == the path or the closed path that tells that some state that respects c shows the fault f
--   choice_in r t        == what a node of round r may use in round t: rounds before t have changed, those after have not;
--                           0 is no round
--   choice_at ids zs t   == the choice of the states of round t
--   choice_none, choice_earlier, choice_here, choice_later == what it is, by the node's round
--   Chooses c cl         == the list cl gives each node the choice that c does
--
-- Of a good pair o, n and a state X:
--   told_in              == the rule of v in X goes with the next value of v in X
--   place_below          == the walk stays among the nodes
--   place_walk, walk_place == where the walk by rules is, the walk by next values is, and the other way round for a node
--   drops_walk           == X drops exactly when the walk by next values from the source comes to nothing
--   relaxed_walk         == X loops, relaxed, exactly when the walk by next values from the source comes to a node twice
--   strong_walk          == X loops, strong, exactly when the walk by next values from some node comes back to it
--   ruled_step, unruled_step == a rule in a state that respects c is a step; no rule, short of the destination, is a step to
--                           nothing
--
-- Of a good pair o, n and a choice c:
--   possible_drop, possible_relaxed, possible_strong == some state that respects c drops, loops relaxed, loops strong
--                           exactly when there is the path or the closed path
--   possible_finds       == the three in one
--   finds_relaxed        == what tells a relaxed loop tells a loop in either mode
--
-- Of the rounds of a schedule:
--   state_respects       == the states of round t are those that respect its choice
--   bad_possible         == round t is bad exactly when some state that respects its choice shows the fault
--   bad_finds            == round t is bad exactly when there is the path or the closed path
--
-- Of tables a, b of the next values on o and n, and a list cl of the choices c:
--   steps_route, route_steps == a step by the tables is a step by the next values, and the other way round
--   paths_same, around_same, around_within_same == the same for paths, closed paths, and closed paths within a set
--   possible_maps        == a fault that each state shows that shows another is possible where that one is
--   shows_same           == two states that agree at each node show the same faults
use Prim.Native.Nat.{ℕ, zero, suc, ◌<◌}
use native.Mathlib.Omega.{arith}
use native.Mathlib.Decide.{dec_lt, ℕ_discrete}
use mathlib.Core.Path.{◌≡◌, refl, sym, ◌∙◌, ap, subst, fun_ext}
use mathlib.Core.Bool.{Bool, true, false, cond}
use mathlib.Core.List.{List}
use mathlib.Core.Logic.{◌↔◌}
use mathlib.Core.Option.{Option, none, some}
use lib.Dec.{eqb, ltb}
use borrow.Author.Tests.{lt-ltb, le-ltb, eq-eqb, ne_eqb}
use Rattle.graph.specs.Graph.{Choice, old, new, either, choices, Ok, Respects, next, walk, Step, Path, Around, Within}
use Rattle.graph.specs.Search.{Steps}
use Rattle.graph.proofs.Paths.{path_maps, around_maps}
use Rattle.graph.proofs.Trail.{next_node, next_end}
use Rattle.graph.proofs.Equivalences as eqv
use Rattle.graph.proofs.Equivalences.{Possible, drops_path, loops_path, loops_strong_path}
use Rattle.routes.specs.Routes.{source, destination, Good}
use Rattle.routes.specs.Rules.{rule, value, Values}
use Rattle.routes.specs.Walk.{State, in_state, hop, place, Twice}
use Rattle.routes.proofs.RuleLaws.{Told, nothing, handed, onward, told, rule_hop, hop_below, value_destination, handed_destination}
use Rattle.rounds.specs.Schedule.{round_no}
use Rattle.rounds.specs.States.{StateOf, Drops, LoopsRelaxed, LoopsStrong, Fault, a_drop, a_loop, Shows, Bad}
use Rattle.rounds.specs.Working.{Way}

abbrev pub RouteStep : List ℕ → List ℕ → (ℕ → Choice) → ℕ → ℕ → Type 0
RouteStep o n c = Step (value o) (value n) c

abbrev pub Finds : Fault → ℕ → List ℕ → List ℕ → (ℕ → Choice) → Type 0
Finds f mode o n c = Way f mode (RouteStep o n c) (source o)

abbrev pub choice_in : ℕ → ℕ → Choice
choice_in r t = cond (eqb r 0) old (cond (ltb r t) new (cond (eqb r t) either old))

abbrev pub choice_at : List ℕ → List ℕ → ℕ → ℕ → Choice
choice_at ids zs t v = choice_in (round_no ids zs v) t

pub record Chooses (c : ℕ → Choice) (cl : List ℕ) : Type 0 where
  pub at : (v : ℕ) → v < 512 → choices cl v ≡ c v

some_not_none : {w : ℕ} → ◌≡◌ {A = Option ℕ} none (some w) → ⊥
some_not_none e = let z : ◌≡◌ {A = ℕ} 0 1 = cc in omega arith

told_some : {p : Option ℕ} {a w : ℕ} → Told p a → p ≡ some w → (a ≡ w) × (w < 512)
told_some nothing e = absurd (some_not_none e)
told_some handed e = absurd (some_not_none e)
told_some {w = w} (onward {w = u} h) e = let q : u ≡ w = cc in (q, omega arith)

told_node : {p : Option ℕ} {a : ℕ} → Told p a → a < 512 → p ≡ some a
told_node nothing h = absurd (omega arith)
told_node handed h = absurd (omega arith)
told_node (onward k) h = refl

told_none : {p : Option ℕ} {a : ℕ} → Told p a → p ≡ none → (a ≡ 513 → ⊥) → a ≡ 512
told_none nothing e h = refl
told_none handed e h = absurd (h refl)
told_none (onward k) e h = absurd (some_not_none (sym e))

told_nothing : {p : Option ℕ} {a : ℕ} → Told p a → a ≡ 512 → p ≡ none
told_nothing nothing e = refl
told_nothing handed e = refl
told_nothing (onward k) e = absurd (omega arith)

-- where the state X sends the node v by the next values on o and n
abbrev sends : List ℕ → List ℕ → State → ℕ → ℕ
sends o n X v = cond (X v) (value n v) (value o v)

module _ {o n : List ℕ} (g : Good o n) (X : State) where
  pub told_in : (v : ℕ) → Told (in_state o n X v) (sends o n X v)
  told_in v = go (X v)
    where
      go : (b : Bool) → Told (cond b (rule n v) (rule o v)) (cond b (value n v) (value o v))
      go true = told g.new v
      go false = told g.old v

  handed_last : (v : ℕ) → sends o n X v ≡ 513 → v ≡ destination o
  handed_last v e = go (X v) e
    where
      go : (b : Bool) → cond b (value n v) (value o v) ≡ 513 → v ≡ destination o
      go true e = handed_destination g.new v e ∙ sym g.destinations
      go false e = handed_destination g.old v e

  last_handed : (v : ℕ) → v ≡ destination o → sends o n X v ≡ 513
  last_handed v e = go (X v)
    where
      go : (b : Bool) → cond b (value n v) (value o v) ≡ 513
      go true = rw (e ∙ g.destinations) (value_destination g.new)
      go false = rw e (value_destination g.old)

  ruled_node : {v w : ℕ} → in_state o n X v ≡ some w → v < 512
  ruled_node {v} {w} e = go (X v) e
    where
      go : (b : Bool) → cond b (rule n v) (rule o v) ≡ some w → v < 512
      go true e = (hop_below g.new (rule_hop n v e)).0
      go false e = (hop_below g.old (rule_hop o v e)).0

  unruled : (v : ℕ) → (v ≡ destination o → ⊥) → in_state o n X v ≡ none → sends o n X v ≡ 512
  unruled v d e = told_none (told_in v) e (λ q. d (handed_last v q))

  ruled_next : (v : ℕ) {w : ℕ} → in_state o n X v ≡ some w → next (value o) (value n) X v ≡ w
  ruled_next v e = next_node (value o) (value n) X v (ruled_node e) ∙ (told_some (told_in v) e).0

  -- a node that a walk comes to by a hop
  entered : (s k : ℕ) {v : ℕ} → place (in_state o n X) s (suc k) ≡ some v → v < 512
  unfolding place
  entered s k {v} e = go (place (in_state o n X) s k) e
    where
      go : (p : Option ℕ) → hop (in_state o n X) p ≡ some v → v < 512
      go none e = absurd (some_not_none e)
      go (some u) e = (told_some (told_in u) e).1

  pub place_below : (s k : ℕ) {v : ℕ} → s < 512 → place (in_state o n X) s k ≡ some v → v < 512
  unfolding place
  place_below s zero {v} h e = let q : s ≡ v = cc in omega arith
  place_below s (suc k) h e = entered s k e

  pub place_walk : (s k : ℕ) {v : ℕ} → place (in_state o n X) s k ≡ some v → walk (value o) (value n) X s k ≡ v
  unfolding place
  place_walk s zero e = cc
  place_walk s (suc k) {v} e = go (place (in_state o n X) s k) (λ u. place_walk s k) e
    where
      go :
          (p : Option ℕ)
          → ((u : ℕ) → p ≡ some u → walk (value o) (value n) X s k ≡ u)
          → hop (in_state o n X) p ≡ some v
          → walk (value o) (value n) X s (suc k) ≡ v
      go none rec e = absurd (some_not_none e)
      go (some u) rec e = ap (next (value o) (value n) X) (rec u refl) ∙ ruled_next u e

  -- a walk that is among the nodes after one hop more was so before it
  was_node : (u : ℕ) → next (value o) (value n) X u < 512 → u < 512
  was_node u h = go (dec_lt u 512)
    where
      go : Dec (u < 512) → u < 512
      go (yes k) = k
      go (no k) = absurd (omega (arith, next_end (value o) (value n) X u (omega arith)))

  pub walk_place : (s k : ℕ) {v : ℕ} → v < 512 → walk (value o) (value n) X s k ≡ v → place (in_state o n X) s k ≡ some v
  unfolding place
  walk_place s zero h e = ap some e
  walk_place s (suc k) {v} h e =
      let l : walk (value o) (value n) X s k < 512 = was_node (walk (value o) (value n) X s k) (omega arith) in
      let q : sends o n X (walk (value o) (value n) X s k) ≡ v =
      sym (next_node (value o) (value n) X (walk (value o) (value n) X s k) l) ∙ e
      in
      ap (hop (in_state o n X)) (walk_place s k l refl)
      ∙ told_node (told_in (walk (value o) (value n) X s k)) (omega arith)
      ∙ ap some q

  source_node : source o < 512
  source_node = g.old.ids 0 (omega (arith, g.old.least))

  -- where the walk comes to nothing, the last node before has no rule and isn't the destination
  stops :
      (k : ℕ)
      → walk (value o) (value n) X (source o) k ≡ 512
      → Drops o n X
  stops zero e = absurd (omega (arith, source_node))
  stops (suc k) e = go (dec_lt u 512) (stops k)
    where
      u : ℕ
      u = walk (value o) (value n) X (source o) k

      go : Dec (u < 512) → (u ≡ 512 → Drops o n X) → Drops o n X
      go (no h) rec = rec (sym (next_end (value o) (value n) X u (omega arith)) ∙ e)
      go (yes h) rec =
          let q : sends o n X u ≡ 512 = sym (next_node (value o) (value n) X u h) ∙ e in
          record {
            hops = k;
            node = u;
            comes = walk_place (source o) k h refl;
            elsewhere = λ d. omega (arith, last_handed u d);
            no_rule = told_nothing (told_in u) q;
          }

  pub drops_walk : Drops o n X ↔ eqv.Drops (value o) (value n) (source o) X
  drops_walk = (forth, λ d. stops d.hops d.dropped)
    where
      forth : Drops o n X → eqv.Drops (value o) (value n) (source o) X
      forth d =
          record {
            hops = suc d.hops;
            dropped =
                ap (next (value o) (value n) X) (place_walk (source o) d.hops d.comes)
                ∙ next_node (value o) (value n) X d.node (place_below (source o) d.hops source_node d.comes)
                ∙ unruled d.node d.elsewhere d.no_rule;
          }

  pub relaxed_walk : LoopsRelaxed o n X ↔ eqv.Loops (value o) (value n) (source o) X
  relaxed_walk = (forth, back)
    where
      forth : LoopsRelaxed o n X → eqv.Loops (value o) (value n) (source o) X
      forth l =
          let t : Twice (in_state o n X) (source o) l.node l.hops = l.twice in
          let p : walk (value o) (value n) X (source o) t.sooner ≡ l.node = place_walk (source o) t.sooner t.there in
          record {
            first = t.sooner;
            second = l.hops;
            later = t.before;
            again = p ∙ sym (place_walk (source o) l.hops t.again);
            node = rw p (place_below (source o) t.sooner source_node t.there);
          }

      back : eqv.Loops (value o) (value n) (source o) X → LoopsRelaxed o n X
      back l =
          record {
            hops = l.second;
            node = walk (value o) (value n) X (source o) l.first;
            twice =
                record {
                  sooner = l.first;
                  before = l.later;
                  there = walk_place (source o) l.first l.node refl;
                  again = walk_place (source o) l.second l.node (sym l.again);
                };
          }

  pub strong_walk : LoopsStrong o n X ↔ eqv.LoopsStrong (value o) (value n) X
  strong_walk = (λ l. forth l.node l.hops l.some_hops l.back, back)
    where
      forth :
          (v k : ℕ)
          → 0 < k
          → place (in_state o n X) v k ≡ some v
          → eqv.LoopsStrong (value o) (value n) X
      forth v zero h e = absurd (omega arith)
      forth v (suc k) h e = record { at = v; node = entered v k e; hops = k; again = place_walk v (suc k) e }

      back : eqv.LoopsStrong (value o) (value n) X → LoopsStrong o n X
      back l =
          record {
            hops = suc l.hops;
            node = l.at;
            some_hops = omega arith;
            back = walk_place l.at (suc l.hops) l.node l.again;
          }

  pub ruled_step : {c : ℕ → Choice} → Respects c X → {v w : ℕ} → in_state o n X v ≡ some w → RouteStep o n c v w
  ruled_step r {v} e = record { node = ruled_node e; bit = X v; allowed = r.respects v; goes = (told_some (told_in v) e).0 }

  pub unruled_step :
      {c : ℕ → Choice}
      → Respects c X
      → {v : ℕ}
      → v < 512
      → (v ≡ destination o → ⊥)
      → in_state o n X v ≡ none
      → RouteStep o n c v 512
  unruled_step r {v} h d e = record { node = h; bit = X v; allowed = r.respects v; goes = unruled v d e }

within_steps :
    {S : ℕ → Type 0} {R R' : ℕ → ℕ → Type 0} → ((u v : ℕ) → R u v → R' u v) → (u v : ℕ) → Within S R u v → Within S R' u v
within_steps f u v s = record { from = s.from; steps = f u v s.steps; to = s.to }

pub possible_maps : {c : ℕ → Choice} {S T : State → Type 0} → ((X : State) → S X → T X) → Possible c S → Possible c T
possible_maps f p = record { state = p.state; respected = p.respected; shows = f p.state p.shows }

possible_via :
    {c : ℕ → Choice} {S T : State → Type 0} {A : Type 0} → ((X : State) → S X ↔ T X) → Possible c T ↔ A → Possible c S ↔ A
possible_via f e = (λ p. e.0 (possible_maps (λ X. (f X).0) p), λ a. possible_maps (λ X. (f X).1) (e.1 a))

module _ {o n : List ℕ} (g : Good o n) (c : ℕ → Choice) where
  pub possible_drop : Possible c (Drops o n) ↔ Path (RouteStep o n c) 512 (source o)
  possible_drop = possible_via (drops_walk g) (drops_path (value o) (value n) c (source o))

  pub possible_relaxed :
      Possible c (LoopsRelaxed o n) ↔ ((v : ℕ) × Path (RouteStep o n c) v (source o) × Around (RouteStep o n c) v)
  possible_relaxed = possible_via (relaxed_walk g) (loops_path (value o) (value n) c (source o))

  pub possible_strong : Possible c (LoopsStrong o n) ↔ ((v : ℕ) × Around (RouteStep o n c) v)
  possible_strong = possible_via (strong_walk g) (loops_strong_path (value o) (value n) c)

  pub possible_finds : (f : Fault) (mode : ℕ) → Possible c (Shows f mode o n) ↔ Finds f mode o n c
  possible_finds a_drop mode = possible_drop
  possible_finds a_loop zero = possible_strong
  possible_finds a_loop (suc m) = possible_relaxed

pub finds_relaxed :
    (mode : ℕ) (o n : List ℕ) (c : ℕ → Choice)
    → (v : ℕ) × Path (RouteStep o n c) v (source o) × Around (RouteStep o n c) v
    → Finds a_loop mode o n c
finds_relaxed zero o n c (v, P, A) = (v, A)
finds_relaxed (suc m) o n c p = p

pub choice_none : (r t : ℕ) → r ≡ 0 → choice_in r t ≡ old
choice_none r t e = rw (eq-eqb r 0 e)

pub choice_earlier : (r t : ℕ) → 0 < r → r < t → choice_in r t ≡ new
choice_earlier r t h k = rw (ne_eqb r 0 (λ e. omega arith), lt-ltb r t k)

pub choice_here : (r t : ℕ) → 0 < r → r ≡ t → choice_in r t ≡ either
choice_here r t h e = rw (ne_eqb r 0 (λ z. omega arith), le-ltb r t (omega arith), eq-eqb r t e)

pub choice_later : (r t : ℕ) → t < r → choice_in r t ≡ old
choice_later r t h =
    rw (ne_eqb r 0 (λ e. omega arith), le-ltb r t (omega arith), ne_eqb r t (λ e. omega arith))

old_false : (b : Bool) → Ok old b → b ≡ false
old_false true h = absurd h
old_false false h = refl

new_true : (b : Bool) → Ok new b → b ≡ true
new_true true h = refl
new_true false h = absurd h

either_any : (b : Bool) → Ok either b
either_any true = tt
either_any false = tt

pub state_respects : (ids zs : List ℕ) (t : ℕ) (X : State) → StateOf ids zs t X ↔ Respects (choice_at ids zs t) X
state_respects ids zs t X = (forth, back)
  where
    forth : StateOf ids zs t X → Respects (choice_at ids zs t) X
    forth s = record { respects = λ v. go v (ℕ_discrete (round_no ids zs v) 0) (dec_lt (round_no ids zs v) t) (dec_lt t (round_no ids zs v)) }
      where
        go : (v : ℕ) → Dec (round_no ids zs v ≡ 0) → Dec (round_no ids zs v < t) → Dec (t < round_no ids zs v) → Ok (choice_at ids zs t v) (X v)
        go v (yes e) k l = rw (choice_none (round_no ids zs v) t e, s.in_none v e) tt
        go v (no e) (yes k) l =
            rw (choice_earlier (round_no ids zs v) t (omega arith) k, s.earlier v (omega arith) k) tt
        go v (no e) (no k) (yes l) = rw (choice_later (round_no ids zs v) t l, s.later v l) tt
        go v (no e) (no k) (no l) =
            rw (choice_here (round_no ids zs v) t (omega arith) (omega arith)) (either_any (X v))

    back : Respects (choice_at ids zs t) X → StateOf ids zs t X
    back r =
        record {
          in_none = λ v e. old_false (X v) (rw (choice_none (round_no ids zs v) t e) at (r.respects v));
          earlier = λ v h k. new_true (X v) (rw (choice_earlier (round_no ids zs v) t h k) at (r.respects v));
          later = λ v h. old_false (X v) (rw (choice_later (round_no ids zs v) t h) at (r.respects v));
        }

pub bad_possible :
    (mode : ℕ) (o n ids zs : List ℕ) (t : ℕ) (f : Fault)
    → Bad mode o n ids zs t f ↔ Possible (choice_at ids zs t) (Shows f mode o n)
bad_possible mode o n ids zs t f = (forth, back)
  where
    forth : Bad mode o n ids zs t f → Possible (choice_at ids zs t) (Shows f mode o n)
    forth (X, s, h) = record { state = X; respected = (state_respects ids zs t X).0 s; shows = h }

    back : Possible (choice_at ids zs t) (Shows f mode o n) → Bad mode o n ids zs t f
    back p = (p.state, (state_respects ids zs t p.state).1 p.respected, p.shows)

pub bad_finds :
    {o n : List ℕ}
    → Good o n
    → (mode : ℕ) (ids zs : List ℕ) (t : ℕ) (f : Fault)
    → Bad mode o n ids zs t f ↔ Finds f mode o n (choice_at ids zs t)
bad_finds {o} {n} g mode ids zs t f = (
  λ b. (possible_finds g (choice_at ids zs t) f mode).0 ((bad_possible mode o n ids zs t f).0 b),
  λ p. (bad_possible mode o n ids zs t f).1 ((possible_finds g (choice_at ids zs t) f mode).1 p),
)

module _
    {o n a b cl : List ℕ} {c : ℕ → Choice}
    (x : Values o a)
    (y : Values n b)
    (z : Chooses c cl)
  where
    pub steps_route : (u v : ℕ) → Steps a b cl u v → RouteStep o n c u v
    steps_route u v s =
        record {
          node = s.node;
          bit = s.bit;
          allowed = rw (z.at u s.node) at s.allowed;
          goes = rw (x.at u s.node, y.at u s.node) at s.goes;
        }

    pub route_steps : (u v : ℕ) → RouteStep o n c u v → Steps a b cl u v
    route_steps u v s =
        record {
          node = s.node;
          bit = s.bit;
          allowed = rw (z.at u s.node) s.allowed;
          goes = rw (x.at u s.node, y.at u s.node) s.goes;
        }

    pub paths_same : (w s : ℕ) → Path (Steps a b cl) w s ↔ Path (RouteStep o n c) w s
    paths_same w s = (path_maps steps_route, path_maps route_steps)

    pub around_same : (v : ℕ) → Around (Steps a b cl) v ↔ Around (RouteStep o n c) v
    around_same v = (around_maps steps_route, around_maps route_steps)

    pub around_within_same : (S : ℕ → Type 0) (v : ℕ) → Around (Within S (Steps a b cl)) v ↔ Around (Within S (RouteStep o n c)) v
    around_within_same S v = (around_maps (within_steps steps_route), around_maps (within_steps route_steps))

pub shows_same : (f : Fault) (mode : ℕ) (o n : List ℕ) {X Y : State} → ((v : ℕ) → X v ≡ Y v) → Shows f mode o n X → Shows f mode o n Y
shows_same f mode o n h = subst (Shows f mode o n) (fun_ext h)
