-- The largest file that a valid schedule needs is 4,092 bytes long.
--
--   distinct_most    == a list of distinct numbers, all of which pass a test, is at most as long as the numbers that pass
--   sizes_most       == there are at most as many rounds as ids
--   schedule_ids     == a schedule has at most 509 ids
--   file_most        == the file of a valid schedule is at most 4,092 bytes long
--   old_route, new_route, all_ids, ones == two routes of 256 ids that share only their ends, and each due node a round of its own
--   routes_good, rounds_valid == these are a good pair and a valid schedule
--   file_needs       == their file is 4,092 bytes long
use Prim.Native.Nat.{ℕ, zero, suc, ◌+◌, ◌<◌, ◌≤◌}
use mathlib.Core.Path.{◌≡◌, refl, sym, ap, ◌∙◌}
use mathlib.Core.Bool.{Bool, true, false, cond, ◌&&◌}
use mathlib.Core.List.{List, [], ◌∷◌, ◌++◌}
use native.Mathlib.Decide.{ℕ_discrete}
use native.Mathlib.Omega.{arith}
use lib.ListN.{length, get_or, replicate, length-replicate, get_or-replicate, get_or-eq_default}
use lib.Dec.{eqb, ltb}
use borrow.Author.Tests.{eq-eqb, ne_eqb, eqb-true, ltb-true, lt-ltb}
use Rattle.routes.specs.Routes.{Good, GoodRoute}
use Rattle.routes.specs.Rules.{due, tally}
use Rattle.routes.specs.Jumps.{on}
use Rattle.routes.proofs.RuleLaws.{due_most, due_below, tally_cong, get_d_default}
use Rattle.rounds.specs.Schedule.{sum, Schedule}
use Rattle.rounds.proofs.ScheduleLaws.{off_nowhere}
use Rattle.planfile.specs.File.{file_of}
use Rattle.planfile.proofs.FileLaws.{length_file}

-- the test without one number
without : (ℕ → Bool) → ℕ → ℕ → Bool
without f x v = cond (eqb v x) false (f v)

without_other : (f : ℕ → Bool) (x v : ℕ) → (v ≡ x → ⊥) → without f x v ≡ f v
unfolding without
without_other f x v h = rw (ne_eqb v x h)

without_same : (f : ℕ → Bool) (x : ℕ) → without f x x ≡ false
unfolding without
without_same f x = rw (eq-eqb x x refl)

tally_less : (k : ℕ) (f : ℕ → Bool) (x : ℕ) → x < k → f x ≡ true → suc (tally k (without f x)) ≤ tally k f
unfolding tally
tally_less zero f x h e = absurd (omega arith)
tally_less (suc k) f x h e = go (ℕ_discrete x k) (tally_less k f x)
  where
    go :
        Dec (x ≡ k)
        → (x < k → f x ≡ true → suc (tally k (without f x)) ≤ tally k f)
        → suc (tally k (without f x) + cond (without f x k) 1 0) ≤ tally k f + cond (f k) 1 0
    go (yes d) r =
        let s : without f x k ≡ false = rw (sym d) (without_same f x) in
        let t : f k ≡ true = rw d at e in
        rw (s, t, tally_cong k (without f x) f (λ v l. without_other f x v (λ z. omega arith))) (omega arith)
    go (no d) r = rw (without_other f x k (λ z. d (sym z))) (omega (arith, r (omega arith) e))

pub distinct_most :
    (l : List ℕ) (k : ℕ) (f : ℕ → Bool)
    → ((i : ℕ) → i < length l → get_or l i 0 < k)
    → ((i : ℕ) → i < length l → f (get_or l i 0) ≡ true)
    → ((j i : ℕ) → j < i → i < length l → get_or l j 0 ≡ get_or l i 0 → ⊥)
    → length l ≤ tally k f
distinct_most [] k f low pass once = omega arith
distinct_most (x ∷ l) k f low pass once =
    omega (
      arith,
      tally_less k f x (low 0 (omega arith)) (pass 0 (omega arith)),
      distinct_most l k (without f x) (λ i h. low (suc i) (omega arith))
          (λ i h. without_other f x (get_or l i 0) (λ e. once 0 (suc i) (omega arith) (omega arith) (sym e)) ∙ pass (suc i) (omega arith))
          (λ j i h m. once (suc j) (suc i) (omega arith) (omega arith)),
    )

pub sizes_most : (zs : List ℕ) → ((i : ℕ) → i < length zs → 0 < get_or zs i 0) → length zs ≤ sum zs
unfolding sum
sizes_most [] h = omega arith
sizes_most (z ∷ zs) h = omega (arith, h 0 (omega arith), sizes_most zs (λ i l. h (suc i) (omega arith)))

module _ {o n is zs : List ℕ} (g : Good o n) (s : Schedule o n is zs) where
  pub schedule_ids : length is ≤ 509
  schedule_ids =
      omega (
        arith,
        due_most g,
        distinct_most is 512 (due o n) (λ i h. due_below g (get_or is i 0) (s.are_due i h)) s.are_due s.once,
      )

  pub file_most : (mode : ℕ) → length (file_of o n mode is zs) ≤ 4092
  file_most mode =
      omega (
        arith,
        length_file o n mode is zs s.sums,
        g.old.most,
        g.new.most,
        schedule_ids,
        s.sums,
        sizes_most zs s.sizes,
      )

-- ---- a schedule that needs all of it

-- k numbers from a on
unfoldable up_from : ℕ → ℕ → List ℕ
up_from a zero = []
up_from a (suc k) = a ∷ up_from (suc a) k

unfoldable pub old_route : List ℕ
unfolding up_from
old_route = up_from 0 255 ++ (511 ∷ [])

unfoldable pub new_route : List ℕ
unfolding up_from
new_route = 0 ∷ (up_from 255 254 ++ (511 ∷ []))

unfoldable pub all_ids : List ℕ
unfolding up_from
all_ids = up_from 0 509

unfoldable pub ones : List ℕ
ones = replicate 509 1

length_up : (a k : ℕ) → length (up_from a k) ≡ k
unfolding up_from
length_up a zero = refl
length_up a (suc k) = ap suc (length_up (suc a) k)

up_at : (a k i : ℕ) → i < k → get_or (up_from a k) i 0 ≡ a + i
unfolding up_from
up_at a zero i h = absurd (omega arith)
up_at a (suc k) zero h = omega arith
up_at a (suc k) (suc i) h = omega (arith, up_at (suc a) k i (omega arith))

-- a computed test of every number below k
abbrev all_below : ℕ → (ℕ → Bool) → Bool
all_below zero f = true
all_below (suc k) f = f k && all_below k f

all_at : (k : ℕ) (f : ℕ → Bool) → all_below k f ≡ true → (v : ℕ) → v < k → f v ≡ true
all_at zero f t v h = absurd (omega arith)
all_at (suc k) f t v h = go (f k) refl t (ℕ_discrete v k) (all_at k f)
  where
    go : (b : Bool) → f k ≡ b → (b && all_below k f) ≡ true → Dec (v ≡ k) → (all_below k f ≡ true → (u : ℕ) → u < k → f u ≡ true) → f v ≡ true
    go true e r (yes d) w = rw d e
    go true e r (no d) w = w r v (omega arith)
    go false e r d w = let z : ◌≡◌ {A = ℕ} 0 1 = cc in absurd (omega arith)

test_due : ℕ → Bool
unfolding due old_route new_route
test_due v = eqb (cond (due old_route new_route v) 1 0) (cond (ltb v 509) 1 0)

due_all : all_below 512 test_due ≡ true
unfolding test_due
due_all = refl

-- the ids of a route: each is an id, and above the one before it
test_route : List ℕ → ℕ → Bool
test_route l i = ltb (get_or l i 0) (get_or l (suc i) 512)

old_all : all_below 256 (test_route old_route) ≡ true
unfolding test_route old_route
old_all = refl

new_all : all_below 256 (test_route new_route) ≡ true
unfolding test_route new_route
new_all = refl

module _ (l : List ℕ) (size : length l ≡ 256) (test : all_below 256 (test_route l) ≡ true) where
  above : (i : ℕ) → i < 256 → get_or l i 0 < get_or l (suc i) 512
  unfolding test_route
  above i h = ltb-true (get_or l i 0) (get_or l (suc i) 512) (all_at 256 (test_route l) test i h)

  rises : (j i : ℕ) → j < i → i ≤ 256 → get_or l j 0 < get_or l i 512
  rises j zero h m = absurd (omega arith)
  rises j (suc k) h m = go (ℕ_discrete j k) (rises j k)
    where
      go : Dec (j ≡ k) → (j < k → k ≤ 256 → get_or l j 0 < get_or l k 512) → get_or l j 0 < get_or l (suc k) 512
      go (yes e) r = rw e (above k (omega arith))
      go (no e) r =
          omega (arith, r (omega arith) (omega arith), get_d_default l k 512 0 (omega (arith, size)), above k (omega arith))

  route_good : GoodRoute l
  route_good =
      record {
        least = omega (arith, size);
        most = omega (arith, size);
        ids = λ i h. omega (arith, rises i 256 (omega (arith, size)) (omega arith), get_or-eq_default l 512 {n = 256} (omega (arith, size)));
        distinct = λ j i h m e. omega (arith, rises j i h (omega (arith, size)), get_d_default l i 512 0 m);
      }

length_old : length old_route ≡ 256
unfolding old_route
length_old = refl

length_new : length new_route ≡ 256
unfolding new_route
length_new = refl

pub routes_good : Good old_route new_route
unfolding old_route new_route
routes_good =
    record {
      old = route_good old_route length_old old_all;
      new = route_good new_route length_new new_all;
      sources = refl;
      destinations = refl;
    }

due_is : (v : ℕ) → v < 512 → due old_route new_route v ≡ ltb v 509
unfolding test_due
due_is v h = same_bool (due old_route new_route v) (ltb v 509) (eqb-true (cond (due old_route new_route v) 1 0) (cond (ltb v 509) 1 0) (all_at 512 test_due due_all v h))
  where
    same_bool : (a b : Bool) → ◌≡◌ {A = ℕ} (cond a 1 0) (cond b 1 0) → a ≡ b
    same_bool true true e = refl
    same_bool true false e = absurd (omega arith)
    same_bool false true e = absurd (omega arith)
    same_bool false false e = refl

length_ids : length all_ids ≡ 509
unfolding all_ids
length_ids = length_up 0 509

id_at : (i : ℕ) → i < 509 → get_or all_ids i 0 ≡ i
unfolding all_ids
id_at i h = omega (arith, up_at 0 509 i h)

sum_ones : sum ones ≡ 509
unfolding sum ones
sum_ones = refl

length_ones : length ones ≡ 509
unfolding ones
length_ones = length-replicate {A = ℕ} 509 1

one_at : (i : ℕ) → i < 509 → get_or ones i 0 ≡ 1
unfolding ones
one_at i h = get_or-replicate 509 i 1 0 h

pub rounds_valid : Schedule old_route new_route all_ids ones
rounds_valid =
    record {
      sums = sum_ones ∙ sym length_ids;
      sizes = λ i h. omega (arith, one_at i (omega (arith, length_ones)));
      rising = λ j i h m e. apart j i h m;
      are_due = are_due;
      once = λ j i h m e. omega (arith, apart j i h m);
      all_due = λ v d. found v d (on all_ids v) refl;
    }
  where
    apart : (j i : ℕ) → j < i → i < length all_ids → get_or all_ids j 0 < get_or all_ids i 0
    apart j i h m = omega (arith, length_ids, id_at j (omega (arith, length_ids)), id_at i (omega (arith, length_ids)))

    are_due : (i : ℕ) → i < length all_ids → due old_route new_route (get_or all_ids i 0) ≡ true
    are_due i h =
        let l : i < 509 = omega (arith, length_ids) in
        rw (id_at i l) (due_is i (omega arith) ∙ lt-ltb i 509 l)

    found : (v : ℕ) → due old_route new_route v ≡ true → (b : Bool) → on all_ids v ≡ b → on all_ids v ≡ true
    found v d true e = e
    found v d false e =
        let l : v < 509 = ltb-true v 509 (sym (due_is v (due_below routes_good v d)) ∙ d) in
        absurd (off_nowhere all_ids v e v (omega (arith, length_ids)) (id_at v l))

pub file_needs : (mode : ℕ) → length (file_of old_route new_route mode all_ids ones) ≡ 4092
file_needs mode =
    omega (
      arith,
      length_file old_route new_route mode all_ids ones rounds_valid.sums,
      length_old,
      length_new,
      length_ids,
      length_ones,
    )
