-- The states of a round as a choice, and its faults as paths and closed paths. Assumes nothing.
--
--   between_respects     == the states of the round R after P are those that respect its choice
--   passes_finds         == of a good pair: the round passes exactly if there is neither the path nor the closed path that
--                           tells of a fault
--   finds_maps           == a fault told by one choice's steps is told by another's that has all of them
--   acyclic_finds        == where there is no closed path, none tells of a loop, in either mode
--   dec_finds            == whether a choice's paths tell of a fault is decided
--   dec_passes           == of a good pair: whether a round passes is decided
--   Goes o n P R x y     == a step of the round R after P: by the new rule of a node that has changed or may change, or by
--                           the old rule of one that has not changed
--   step_goes, goes_step == these are the steps of its choice
--   steps_joined         == a step of the round is one of the round with v
--   new_step             == the new step of v is one
--   steps_added          == and there is no other
use Prim.Native.Nat.{ℕ, zero, suc, ◌<◌}
use native.Mathlib.Decide.{ℕ_discrete}
use mathlib.Core.Path.{◌≡◌, refl, sym, ap, ◌∙◌}
use mathlib.Core.Bool.{Bool, true, false, cond, ◌||◌}
use mathlib.Core.List.{List}
use mathlib.Core.Logic.{◌⊎◌, inl, inr, ◌↔◌}
use lib.Dec.{eqb}
use borrow.Author.Tests.{eq-eqb, ne_eqb}
use Rattle.graph.specs.Graph.{Choice, old, new, either, Ok, Respects, Around}
use Rattle.graph.proofs.Paths.{path_cast, path_maps, around_maps}
use Rattle.graph.proofs.Equivalences.{Possible}
use Rattle.graph.proofs.Decide.{dec_path, dec_some_around, dec_reached_around, dec_step}
use Rattle.routes.specs.Routes.{source, Good}
use Rattle.routes.specs.Rules.{value}
use Rattle.routes.specs.Walk.{State}
use Rattle.rounds.specs.States.{Fault, a_drop, a_loop, Shows}
use Rattle.rounds.specs.Packet.{changed}
use Rattle.rounds.proofs.Bridge.{RouteStep, Finds, possible_finds}
use Rattle.plans.specs.Plan.{Between, RoundPasses, together}
use Rattle.plans.specs.Working.{round_choice}
use Rattle.plans.proofs.IdLists.{clash, or_right}

-- ---- what a node may use, by whether it is in the earlier rounds (p) and in the round (r)

abbrev pick : Bool → Bool → Choice
pick p r = cond p new (cond r either old)

new_may : (p r : Bool) → (p || r) ≡ true → Ok (pick p r) true
new_may true r e = tt
new_may false true e = tt
new_may false false e = clash e refl

old_may : (p r : Bool) → p ≡ false → Ok (pick p r) false
old_may true r e = clash refl e
old_may false true e = tt
old_may false false e = tt

may_new : (p r : Bool) → Ok (pick p r) true → (p || r) ≡ true
may_new true r k = refl
may_new false true k = refl
may_new false false k = absurd k

may_old : (p r : Bool) → Ok (pick p r) false → p ≡ false
may_old true r k = absurd k
may_old false r k = refl

pub between_respects : (P R X : State) → Between P R X ↔ Respects (round_choice P R) X
between_respects P R X = (forth, back)
  where
    allowed : (p r x : Bool) → (p ≡ true → x ≡ true) → (p ≡ false → r ≡ false → x ≡ false) → Ok (pick p r) x
    allowed p true true f g = new_may p true (or_right p refl)
    allowed true false true f g = tt
    allowed false false true f g = clash refl (g refl refl)
    allowed true r false f g = clash (f refl) refl
    allowed false r false f g = old_may false r refl

    forth : Between P R X → Respects (round_choice P R) X
    forth b = record { respects = λ v. allowed (P v) (R v) (X v) (b.earlier v) (b.nothing_else v) }

    has : (p r x : Bool) → Ok (pick p r) x → p ≡ true → x ≡ true
    has p r true k e = refl
    has p r false k e = clash e (may_old p r k)

    lacks : (p r x : Bool) → Ok (pick p r) x → p ≡ false → r ≡ false → x ≡ false
    lacks p r true k e f = clash (may_new p r k) (rw (e, f))
    lacks p r false k e f = refl

    back : Respects (round_choice P R) X → Between P R X
    back k =
        record {
          earlier = λ v. has (P v) (R v) (X v) (k.respects v);
          nothing_else = λ v. lacks (P v) (R v) (X v) (k.respects v);
        }

pub passes_finds :
    {o n : List ℕ}
    → Good o n
    → (mode : ℕ) (P R : State)
    → RoundPasses mode o n P R ↔ ((f : Fault) → Finds f mode o n (round_choice P R) → ⊥)
passes_finds {o} {n} g mode P R = (forth, back)
  where
    shown : (f : Fault) → Possible (round_choice P R) (Shows f mode o n) ↔ Finds f mode o n (round_choice P R)
    shown f = possible_finds g (round_choice P R) f mode

    forth : RoundPasses mode o n P R → (f : Fault) → Finds f mode o n (round_choice P R) → ⊥
    forth p f x = go f ((shown f).1 x)
      where
        go : (f : Fault) → Possible (round_choice P R) (Shows f mode o n) → ⊥
        go a_drop q = p.no_drop q.state ((between_respects P R q.state).1 q.respected) q.shows
        go a_loop q = p.no_loop q.state ((between_respects P R q.state).1 q.respected) q.shows

    fault : ((f : Fault) → Finds f mode o n (round_choice P R) → ⊥) → (f : Fault) (X : State) → Between P R X → Shows f mode o n X → ⊥
    fault h f X b s = h f ((shown f).0 (record { state = X; respected = (between_respects P R X).0 b; shows = s }))

    back : ((f : Fault) → Finds f mode o n (round_choice P R) → ⊥) → RoundPasses mode o n P R
    back h = record { no_drop = fault h a_drop; no_loop = fault h a_loop }

pub finds_maps :
    (f : Fault) (mode : ℕ) (o n o' n' : List ℕ) (c c' : ℕ → Choice)
    → source o ≡ source o'
    → ((x y : ℕ) → RouteStep o n c x y → RouteStep o' n' c' x y)
    → Finds f mode o n c
    → Finds f mode o' n' c'
finds_maps a_drop mode o n o' n' c c' e h P = path_cast (sym e) (path_maps h P)
finds_maps a_loop zero o n o' n' c c' e h (v, A) = (v, around_maps h A)
finds_maps a_loop (suc m) o n o' n' c c' e h (v, P, A) = (v, path_cast (sym e) (path_maps h P), around_maps h A)

pub acyclic_finds :
    (mode : ℕ) (o n : List ℕ) (c : ℕ → Choice) → ((v : ℕ) → Around (RouteStep o n c) v → ⊥) → Finds a_loop mode o n c → ⊥
acyclic_finds zero o n c h (v, A) = h v A
acyclic_finds (suc m) o n c h (v, P, A) = h v A

pub dec_finds : (f : Fault) (mode : ℕ) (o n : List ℕ) (c : ℕ → Choice) → Dec (Finds f mode o n c)
dec_finds a_drop mode o n c = dec_path (λ x y s. s.node) (dec_step (value o) (value n) c) 512 (source o)
dec_finds a_loop zero o n c = dec_some_around (λ x y s. s.node) (dec_step (value o) (value n) c)
dec_finds a_loop (suc m) o n c = dec_reached_around (λ x y s. s.node) (dec_step (value o) (value n) c) (source o)

pub dec_passes : {o n : List ℕ} → Good o n → (mode : ℕ) (P R : State) → Dec (RoundPasses mode o n P R)
dec_passes {o} {n} g mode P R =
    go (dec_finds a_drop mode o n (round_choice P R)) (dec_finds a_loop mode o n (round_choice P R))
  where
    go : Dec (Finds a_drop mode o n (round_choice P R)) → Dec (Finds a_loop mode o n (round_choice P R)) → Dec (RoundPasses mode o n P R)
    go (yes x) d = no (λ p. (passes_finds g mode P R).0 p a_drop x)
    go (no a) (yes x) = no (λ p. (passes_finds g mode P R).0 p a_loop x)
    go (no a) (no b) = yes ((passes_finds g mode P R).1 neither)
      where
        neither : (f : Fault) → Finds f mode o n (round_choice P R) → ⊥
        neither a_drop x = a x
        neither a_loop x = b x

-- ---- the steps of a round

pub data Goes (o n : List ℕ) (P R : State) (x y : ℕ) : Type 0 where
  by_new : x < 512 → together P R x ≡ true → value n x ≡ y → Goes o n P R x y
  by_old : x < 512 → P x ≡ false → value o x ≡ y → Goes o n P R x y

pub step_goes : (o n : List ℕ) (P R : State) {x y : ℕ} → RouteStep o n (round_choice P R) x y → Goes o n P R x y
step_goes o n P R {x} {y} s = go s.bit s.allowed s.goes
  where
    go : (b : Bool) → Ok (round_choice P R x) b → cond b (value n x) (value o x) ≡ y → Goes o n P R x y
    go true k e = by_new s.node (may_new (P x) (R x) k) e
    go false k e = by_old s.node (may_old (P x) (R x) k) e

pub goes_step : (o n : List ℕ) (P R : State) {x y : ℕ} → Goes o n P R x y → RouteStep o n (round_choice P R) x y
goes_step o n P R {x} (by_new h e q) = record { node = h; bit = true; allowed = new_may (P x) (R x) e; goes = q }
goes_step o n P R {x} (by_old h e q) = record { node = h; bit = false; allowed = old_may (P x) (R x) e; goes = q }

module _ (o n : List ℕ) (P R : State) (v : ℕ) where
  pub steps_joined : (x y : ℕ) → RouteStep o n (round_choice P R) x y → RouteStep o n (round_choice P (changed R v)) x y
  steps_joined x y s = goes_step o n P (changed R v) (go (step_goes o n P R s))
    where
      more : (p r b : Bool) → (p || r) ≡ true → (p || cond b true r) ≡ true
      more true r b e = refl
      more false r true e = refl
      more false r false e = e

      go : Goes o n P R x y → Goes o n P (changed R v) x y
      go (by_new h e q) = by_new h (more (P x) (R x) (eqb x v) e) q
      go (by_old h e q) = by_old h e q

  pub new_step : v < 512 → RouteStep o n (round_choice P (changed R v)) v (value n v)
  new_step h = goes_step o n P (changed R v) (by_new h (or_right (P v) (rw (eq-eqb v v refl))) refl)

  pub steps_added :
      (x y : ℕ)
      → RouteStep o n (round_choice P (changed R v)) x y
      → RouteStep o n (round_choice P R) x y ⊎ ((x ≡ v) × (y ≡ value n v))
  steps_added x y s = go (step_goes o n P (changed R v) s) (ℕ_discrete x v)
    where
      go : Goes o n P (changed R v) x y → Dec (x ≡ v) → RouteStep o n (round_choice P R) x y ⊎ ((x ≡ v) × (y ≡ value n v))
      go (by_old h e q) d = inl (goes_step o n P R (by_old h e q))
      go (by_new h e q) (yes i) = inr (i, sym q ∙ ap (value n) i)
      go (by_new h e q) (no i) = inl (goes_step o n P R (by_new h (rw (ne_eqb x v i) at e) q))
