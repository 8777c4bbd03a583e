-- Laws on the tests of a pair of routes: tests made in the order of their numbers give the refusal that is to be given.
--
--   refusal t w p  == what is given where the test t fails first for the route w at the place p
--   rank t         == its number
--   Passed o n k   == no test with a number below k fails
--   passed_none    == before the first test
--   passed_more    == a test that fails nowhere is passed
--   passed_clear   == all four passed: no refusal applies to the pair
--   passed_first   == the tests before t passed, and t fails: the refusal of its first failure is given
--   at_old, at_new, at_none == where a test over both routes fails first, from where it fails for each
--   sized          == a route of 2 to 256 ids has no wrong length
--   end_place      == the place of an end, by its route's number
--   ends_old, ends_new == ends that agree do not fail
--   wrong_spotted, right_spotted == where the test of ends fails first, from the place of the ends that differ
--   passed_low     == after the test of ids each id is below 512
--   passed_some    == after the test of lengths a route is not empty
--   Unmet P n i    == a run up to n has come to i, and P holds of no number before it
--   unmet_none, unmet_more, unmet_here, unmet_end == the run begins, goes on, stops where P holds, comes to the end
--   Marked l met i == the marks met are those of the ids of l before the index i, and none of these is a repeat
--   marked_none, marked_more, marked_here, marked_end == the run with marks begins, goes on, meets an id marked, the first
--                     repeat, comes to the end
--   first_at       == the number that a search finds, or its end, is the first number
--   FirstOn F z r  == r is where the test F fails first for the route z, or None where it doesn't
--   first_length, first_id, first_twice == where each of three tests fails first, from its search through one route
--   either_spotted == where a test over both routes fails first, from the two routes' searches
use Rattle.std.specs.Prelude.{Option, Some, None, unwrap_or}
use Prim.Native.Nat.{ℕ, zero, suc, ◌+◌, ◌-◌, ◌<◌, ◌≤◌}
use mathlib.Core.Path.{◌≡◌, ◌∙◌, refl, sym, ap, subst}
use mathlib.Core.Bool.{Bool, true, false}
use mathlib.Core.Logic.{◌⊎◌, inl, inr}
use mathlib.Core.List.{List, [], ◌∷◌}
use native.Mathlib.Decide.{ℕ_discrete, dec_lt}
use borrow.Author.Count.{below_more}
use borrow.Author.Tests.{lt-ltb, le-ltb}
use native.Mathlib.Omega.{arith}
use lib.ListN.{length, get_or, set, replicate, length-set, length-replicate}
use lib.Seq.{get_or-set_same, get_or-set_other}
use Rattle.house.specs.declared.Refusal.{Refusal}
use Rattle.house.specs.declared.Refusal.TheVariants.{RouteLength, RouteId, RouteRepeat, EndsDiffer}
use Rattle.std.specs.Bool.{then_some}
use Rattle.house.specs.Finds.{Finds, found, nowhere as found_none}
use Rattle.house.specs.Refusals.{number, site, place, Before, lower, sooner, nearer, First, Clear}
use Rattle.routes.specs.Routes.{
  source,
  destination,
  Side,
  old_side,
  new_side,
  no as no_of,
  route,
  Repeat,
  RouteFault,
  too_short,
  too_long,
  over,
  again,
  sources_differ,
  destinations_differ,
  FirstAt,
}
use Rattle.routes.specs.Tests.{
  Test,
  lengths,
  ids,
  repeats,
  ends,
  Fails,
  short,
  long,
  high,
  twice,
  first_ids,
  last_ids,
  Spotted,
  nowhere,
  at,
  ill_sized,
  InEither,
  in_old,
  in_new,
  in_neither,
  WrongEnd,
  at_firsts,
  at_lasts,
  ends_agree,
  LowIds,
}

abbrev pub refusal : Test → ℕ → ℕ → Refusal
refusal lengths w p = RouteLength w
refusal ids w p = RouteId w p
refusal repeats w p = RouteRepeat w p
refusal ends w p = EndsDiffer p

abbrev pub rank : Test → ℕ
rank lengths = 4
rank ids = 5
rank repeats = 6
rank ends = 7

rank_range : (t : Test) → (4 ≤ rank t) × (rank t < 8)
rank_range lengths = (omega arith, omega arith)
rank_range ids = (omega arith, omega arith)
rank_range repeats = (omega arith, omega arith)
rank_range ends = (omega arith, omega arith)

-- the test with the number k
back : ℕ → Test
back k = get_or (lengths ∷ ids ∷ repeats ∷ ends ∷ []) (k - 4) ends

back_rank : (t : Test) → back (rank t) ≡ t
unfolding back
back_rank lengths = refl
back_rank ids = refl
back_rank repeats = refl
back_rank ends = refl

rank_one : (t u : Test) → rank t ≡ rank u → t ≡ u
rank_one t u e = cc (back_rank t, back_rank u)

rank_number : (t : Test) (w p : ℕ) → number (refusal t w p) ≡ rank t
rank_number lengths w p = refl
rank_number ids w p = refl
rank_number repeats w p = refl
rank_number ends w p = refl

no_one : (y z : Side) → no_of y ≡ no_of z → y ≡ z
no_one old_side old_side e = refl
no_one old_side new_side e = absurd (omega arith)
no_one new_side old_side e = absurd (omega arith)
no_one new_side new_side e = refl

-- a failure is a fault, and a fault a failure
faulted : {o n : List ℕ} {t : Test} {z : Side} {w p : ℕ} → w ≡ no_of z → Fails o n t z p → RouteFault o n (refusal t w p)
faulted {z} e (short h) = too_short z e h
faulted {z} e (long h) = too_long z e h
faulted {z} e (high h s) = over z e h s
faulted {z} e (twice h s) = again z e h s
faulted e (first_ids h) = sources_differ refl h
faulted e (last_ids h) = destinations_differ refl h

data Failing (o n : List ℕ) (q : Refusal) : Type 0 where
  failing : (t : Test) (z : Side) {w p : ℕ} → w ≡ no_of z → Fails o n t z p → q ≡ refusal t w p → Failing o n q

failed : {o n : List ℕ} {q : Refusal} → RouteFault o n q → Failing o n q
failed (too_short z e h) = failing lengths z e (short h) refl
failed (too_long z e h) = failing lengths z e (long h) refl
failed (over z e h s) = failing ids z e (high h s) refl
failed (again z e h s) = failing repeats z e (twice h s) refl
failed (sources_differ e h) = failing ends old_side refl (first_ids h) (ap EndsDiffer e)
failed (destinations_differ e h) = failing ends new_side refl (last_ids h) (ap EndsDiffer e)

pub end_place : {o n : List ℕ} {z : Side} {p : ℕ} → Fails o n ends z p → no_of z ≡ suc p
end_place (first_ids h) = refl
end_place (last_ids h) = refl

pub record Passed (o n : List ℕ) (k : ℕ) : Type 0 where
  pub passed : (t : Test) (z : Side) (p : ℕ) → rank t < k → Fails o n t z p → ⊥

pub passed_none : {o n : List ℕ} → Passed o n 4
passed_none = record { passed = λ t z p h f. omega (arith, rank_range t) }

pub passed_more : {o n : List ℕ} (t : Test) → Passed o n (rank t) → Spotted (Fails o n t) None → Passed o n (suc (rank t))
passed_more {o} {n} t P (nowhere k) = record { passed = λ u z p h f. go u z p h f (ℕ_discrete (rank u) (rank t)) }
  where
    go : (u : Test) (z : Side) (p : ℕ) → rank u < suc (rank t) → Fails o n u z p → Dec (rank u ≡ rank t) → ⊥
    go u z p h f (yes e) = k z p (subst (λ (v : Test). Fails o n v z p) (rank_one u t e) f)
    go u z p h f (no e) = P.passed u z p (omega arith) f

pub passed_clear : {o n : List ℕ} → Passed o n 8 → Clear (RouteFault o n)
passed_clear {o} {n} P = record { clear = λ q f. go (failed f) }
  where
    go : {q : Refusal} → Failing o n q → ⊥
    go (failing t z {w} {p} e f s) = P.passed t z p (rank_range t).1 f

-- q is before r in the order of sites and places
Sooner : Refusal → Refusal → Type 0
Sooner q r = (site q < site r) ⊎ ((site q ≡ site r) × (place q < place r))

before_cases : {q r : Refusal} → Before q r → (number q < number r) ⊎ ((number q ≡ number r) × Sooner q r)
unfolding Sooner
before_cases (lower h) = inl h
before_cases (sooner e h) = inr (e, inl h)
before_cases (nearer e s h) = inr (e, inr (s, h))

-- of two failures of one test, the refusal of the sooner is for the old route, or for the same route and a lower place
order :
    {o n : List ℕ} (t : Test) (z y : Side) {w v p k : ℕ}
    → w ≡ no_of z
    → v ≡ no_of y
    → Fails o n t z p
    → Fails o n t y k
    → Sooner (refusal t v k) (refusal t w p)
    → (no_of y < no_of z) ⊎ ((y ≡ z) × (k < p))
unfolding Sooner
order lengths z y d e f g (inl h) = inl (omega arith)
order lengths z y d e f g (inr (s, h)) = absurd (omega arith)
order ids z y d e f g (inl h) = inl (omega arith)
order ids z y d e f g (inr (s, h)) = inr (no_one y z (omega arith), h)
order repeats z y d e f g (inl h) = inl (omega arith)
order repeats z y d e f g (inr (s, h)) = inr (no_one y z (omega arith), h)
order ends z y d e f g (inl h) = absurd (omega arith)
order ends z y d e f g (inr (s, h)) = inl (omega (arith, end_place f, end_place g))

pub passed_first :
    {o n : List ℕ} (t : Test) {w p : ℕ}
    → Passed o n (rank t)
    → Spotted (Fails o n t) (Some (w, p))
    → First (RouteFault o n) (refusal t w p)
passed_first {o} {n} t {w} {p} P (at z d f old here) =
    record { applies = faulted d f; lowest = λ q g b. go (failed g) (before_cases b) }
  where
    same :
        (y : Side) {v k : ℕ}
        → v ≡ no_of y
        → Fails o n t y k
        → Sooner (refusal t v k) (refusal t w p)
        → ⊥
    same y {v} {k} e g s = ends_here (order t z y d e f g s)
      where
        ends_here : (no_of y < no_of z) ⊎ ((y ≡ z) × (k < p)) → ⊥
        ends_here (inl h) = old y h k g
        ends_here (inr (a, h)) = here k h (subst (λ (x : Side). Fails o n t x k) a g)

    r : Refusal
    r = refusal t w p

    go : {q : Refusal} → Failing o n q → (number q < number r) ⊎ ((number q ≡ number r) × Sooner q r) → ⊥
    go {q} (failing u y {w = v} {p = k} e g s) (inl h) =
        P.passed u y k (omega (arith, rank_number t w p, rank_number u v k, ap number s)) g
    go {q} (failing u y {w = v} {p = k} e g s) (inr (h, b)) = same y e (rw a at g) (rw a at (rw s at b))
      where
        a : u ≡ t
        a = rank_one u t (omega (arith, rank_number t w p, rank_number u v k, ap number s))

at_least : (y : Side) → 1 ≤ no_of y
at_least old_side = omega arith
at_least new_side = omega arith

pub at_old : {F : Side → ℕ → Type 0} {p : ℕ} → F old_side p → ((k : ℕ) → k < p → F old_side k → ⊥) → Spotted F (Some (1, p))
at_old f b = at old_side refl f (λ y h k g. omega (arith, at_least y)) b

pub at_new :
    {F : Side → ℕ → Type 0} {p : ℕ}
    → ((k : ℕ) → F old_side k → ⊥)
    → F new_side p
    → ((k : ℕ) → k < p → F new_side k → ⊥)
    → Spotted F (Some (2, p))
at_new {F} a f b = at new_side refl f go b
  where
    go : (y : Side) → no_of y < 2 → (k : ℕ) → F y k → ⊥
    go old_side h = a
    go new_side h = absurd (omega arith)

pub at_none : {F : Side → ℕ → Type 0} → ((k : ℕ) → F old_side k → ⊥) → ((k : ℕ) → F new_side k → ⊥) → Spotted F None
at_none {F} a b = nowhere go
  where
    go : (z : Side) (k : ℕ) → F z k → ⊥
    go old_side = a
    go new_side = b

pub sized :
    {o n : List ℕ} (z : Side)
    → 2 ≤ length (route o n z)
    → length (route o n z) ≤ 256
    → (k : ℕ)
    → Fails o n lengths z k
    → ⊥
sized z a b k (short h) = omega arith
sized z a b k (long h) = omega arith

pub ends_old : {o n : List ℕ} → source o ≡ source n → (k : ℕ) → Fails o n ends old_side k → ⊥
ends_old e k (first_ids h) = h e

pub ends_new : {o n : List ℕ} → destination o ≡ destination n → (k : ℕ) → Fails o n ends new_side k → ⊥
ends_new e k (last_ids h) = h e

pub wrong_spotted : {o n : List ℕ} {p : ℕ} → WrongEnd o n (Some p) → Spotted (Fails o n ends) (Some (suc p, p))
wrong_spotted (at_firsts d) = at_old (first_ids d) (λ k h. absurd (omega arith))
wrong_spotted (at_lasts e d) = at_new (ends_old e) (last_ids d) (λ k h f. omega (arith, end_place f))

pub right_spotted : {o n : List ℕ} → WrongEnd o n None → Spotted (Fails o n ends) None
right_spotted (ends_agree e d) = at_none (ends_old e) (ends_new d)

pub passed_low : {o n : List ℕ} → Passed o n 6 → (z : Side) → LowIds (route o n z)
passed_low {o} {n} P z = record { low = low }
  where
    low : (i : ℕ) → i < length (route o n z) → get_or (route o n z) i 0 < 512
    low i h = let f : 511 < get_or (route o n z) i 0 → ⊥ = λ g. P.passed ids z i (omega arith) (high h g) in omega arith

pub passed_some : {o n : List ℕ} → Passed o n 7 → (z : Side) → 0 < length (route o n z)
passed_some {o} {n} P z =
    let f : length (route o n z) < 2 → ⊥ = λ g. P.passed lengths z 0 (omega arith) (short g) in omega arith

pub record Unmet (P : ℕ → Type 0) (n i : ℕ) : Type 0 where
  pub within : i ≤ n
  pub none_before : (k : ℕ) → k < i → P k → ⊥

pub unmet_none : {P : ℕ → Type 0} {n : ℕ} → Unmet P n 0
unmet_none = record { within = omega arith; none_before = λ k h. absurd (omega arith) }

pub unmet_more : {P : ℕ → Type 0} {n i : ℕ} → Unmet P n i → i < n → (P i → ⊥) → Unmet P n (i + 1)
unmet_more a h p = record { within = omega arith; none_before = below_more _ _ a.none_before p }

pub unmet_here : {P : ℕ → Type 0} {n i : ℕ} → Unmet P n i → P i → FirstAt P n i
unmet_here a p = record { within = a.within; none_before = a.none_before; found = λ h. p }

pub unmet_end : {P : ℕ → Type 0} {n i : ℕ} → Unmet P n i → n ≤ i → FirstAt P n i
unmet_end a h = record { within = a.within; none_before = a.none_before; found = λ l. absurd (omega arith) }

pub record Marked (l : List ℕ) (met : List Bool) (i : ℕ) : Type 0 where
  pub size : length met ≡ 512
  pub run : Unmet (Repeat l) (length l) i
  pub ahead : (j : ℕ) → j < i → get_or met (get_or l j 0) false ≡ true
  pub back : (v : ℕ) → get_or met v false ≡ true → (j : ℕ) × (j < i) × (get_or l j 0 ≡ v)

pub marked_here :
    {l : List ℕ} {met : List Bool} {i v : ℕ}
    → Marked l met i
    → i < length l
    → v ≡ get_or l i 0
    → get_or met v false ≡ true
    → Finds (Repeat l) (length l) (Some i)
marked_here {l} {met} {i} {v} a h e t = found h (go (a.back v t)) a.run.none_before
  where
    go : (j : ℕ) × (j < i) × (get_or l j 0 ≡ v) → Repeat l i
    go (j, k, s) = (j, k, s ∙ e)

pub marked_end : {l : List ℕ} {met : List Bool} {i : ℕ} → Marked l met i → length l ≤ i → Finds (Repeat l) (length l) None
marked_end a h = found_none (λ k b. a.run.none_before k (omega arith))

-- a list of falses has no true
no_mark : (n v : ℕ) → get_or (replicate n false) v false ≡ true → ⊥
no_mark zero v e = let z : ◌≡◌ {A = ℕ} 0 1 = cc in omega arith
no_mark (suc n) zero e = let z : ◌≡◌ {A = ℕ} 0 1 = cc in omega arith
no_mark (suc n) (suc v) e = no_mark n v e

pub marked_none : {l : List ℕ} → Marked l (replicate 512 false) 0
marked_none =
    record {
      size = length-replicate 512 false;
      run = unmet_none;
      ahead = λ j h. absurd (omega arith);
      back = λ v e. absurd (no_mark 512 v e);
    }

pub marked_more :
    {l : List ℕ} {met : List Bool} {i v : ℕ}
    → Marked l met i
    → i < length l
    → v ≡ get_or l i 0
    → v < 512
    → (get_or met v false ≡ true → ⊥)
    → Marked l (set met v true) (i + 1)
marked_more {l} {met} {i} {v} a h e b f =
    record {
      size = length-set met v true ∙ a.size;
      run = unmet_more a.run h (λ (j, k, s). f (rw (e ∙ sym s) (a.ahead j k)));
      ahead = λ j k. ahead j k (ℕ_discrete (get_or l j 0) v) (dec_lt j i);
      back = λ w t. back w t (ℕ_discrete w v);
    }
  where
    ahead : (j : ℕ) → j < i + 1 → Dec (get_or l j 0 ≡ v) → Dec (j < i) → get_or (set met v true) (get_or l j 0) false ≡ true
    ahead j k (yes s) d = rw s (get_or-set_same met v true false (omega (arith, a.size)))
    ahead j k (no s) (yes d) = get_or-set_other met v (get_or l j 0) true false s ∙ a.ahead j d
    ahead j k (no s) (no d) = let m : j ≡ i = omega arith in absurd (s (rw m (sym e)))

    sooner_met : {w : ℕ} → (j : ℕ) × (j < i) × (get_or l j 0 ≡ w) → (j : ℕ) × (j < i + 1) × (get_or l j 0 ≡ w)
    sooner_met (j, k, s) = (j, omega arith, s)

    back : (w : ℕ) → get_or (set met v true) w false ≡ true → Dec (w ≡ v) → (j : ℕ) × (j < i + 1) × (get_or l j 0 ≡ w)
    back w t (yes s) = (i, omega arith, cc)
    back w t (no s) = sooner_met (a.back w (sym (get_or-set_other met v w true false s) ∙ t))

pub first_at : {P : ℕ → Type 0} {n : ℕ} {r : Option ℕ} → Finds P n r → FirstAt P n (unwrap_or r n)
first_at (found h p f) = record { within = omega arith; none_before = f; found = λ _. p }
first_at (found_none f) = record { within = omega arith; none_before = f; found = λ h. absurd (omega arith) }

pub data FirstOn (F : Side → ℕ → Type 0) (z : Side) : Option ℕ → Type 0 where
  here : {i : ℕ} → F z i → ((k : ℕ) → k < i → F z k → ⊥) → FirstOn F z (Some i)
  not_here : ((k : ℕ) → F z k → ⊥) → FirstOn F z None

-- by the searches for a number below n of which P holds, if the test fails there and only there
first_on :
    {F : Side → ℕ → Type 0} {P : ℕ → Type 0} (z : Side) {n : ℕ} {r : Option ℕ}
    → ((k : ℕ) → k < n → P k → F z k)
    → ((k : ℕ) → F z k → (k < n) × P k)
    → Finds P n r
    → FirstOn F z r
first_on z into out (found {r} h p f) = here (into r h p) (λ k l g. f k l (out k g).1)
first_on z into out (found_none f) = not_here (λ k g. f k (out k g).0 (out k g).1)

pub first_length :
    {o n : List ℕ} (z : Side) {r : Option ℕ}
    → r ≡ then_some (ill_sized (length (route o n z))) 0
    → FirstOn (Fails o n lengths) z r
first_length {o} {n} z e = rw e (go (dec_lt m 2) (dec_lt 256 m))
  where
    m : ℕ
    m = length (route o n z)

    go : Dec (m < 2) → Dec (256 < m) → FirstOn (Fails o n lengths) z (then_some (ill_sized m) 0)
    go (yes h) d = rw (lt-ltb m 2 h) (here (short h) (λ k l g. absurd (omega arith)))
    go (no h) (yes k) = rw (le-ltb m 2 (omega arith), lt-ltb 256 m k) (here (long k) (λ k l g. absurd (omega arith)))
    go (no h) (no k) = rw (le-ltb m 2 (omega arith), le-ltb 256 m (omega arith)) (not_here (sized z (omega arith) (omega arith)))

pub first_id :
    {o n : List ℕ} (z : Side) {r : Option ℕ}
    → Finds (λ i. 511 < get_or (route o n z) i 0) (length (route o n z)) r
    → FirstOn (Fails o n ids) z r
first_id {o} {n} z f = first_on z (λ k. high) out f
  where
    out : (k : ℕ) → Fails o n ids z k → (k < length (route o n z)) × (511 < get_or (route o n z) k 0)
    out k (high h g) = (h, g)

pub first_twice :
    {o n : List ℕ} (z : Side) {r : Option ℕ}
    → Finds (Repeat (route o n z)) (length (route o n z)) r
    → FirstOn (Fails o n repeats) z r
first_twice {o} {n} z f = first_on z (λ k. twice) out f
  where
    out : (k : ℕ) → Fails o n repeats z k → (k < length (route o n z)) × Repeat (route o n z) k
    out k (twice h g) = (h, g)

pub either_spotted :
    {F : Side → ℕ → Type 0} {P Q : Option ℕ → Type 0} {s : Option (ℕ × ℕ)}
    → ((r : Option ℕ) → P r → FirstOn F old_side r)
    → ((r : Option ℕ) → Q r → FirstOn F new_side r)
    → InEither P Q s
    → Spotted F s
either_spotted {F} {P} {Q} p q (in_old {i} a) = go (p (Some i) a)
  where
    go : FirstOn F old_side (Some i) → Spotted F (Some (1, i))
    go (here f b) = at_old f b
either_spotted {F} {P} {Q} p q (in_new {i} a b) = go (p None a) (q (Some i) b)
  where
    go : FirstOn F old_side None → FirstOn F new_side (Some i) → Spotted F (Some (2, i))
    go (not_here n) (here f b) = at_new n f b
either_spotted {F} {P} {Q} p q (in_neither a b) = go (p None a) (q None b)
  where
    go : FirstOn F old_side None → FirstOn F new_side None → Spotted F None
    go (not_here n) (not_here m) = at_none n m
