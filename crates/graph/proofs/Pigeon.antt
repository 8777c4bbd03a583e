-- More places than holes: two places share a hole. By induction on the number of holes; the last place's hole is taken
-- away, and who sits in the last hole moves there. Assumes nothing.
--
--   Twice f k            == f has the same value at two numbers up to k
--   pigeon               == a function that maps the numbers up to N below N has one value twice
--   Among l x            == x stands in the list l
--   among_head, among_tail == where an element of y ∷ l stands
--   pigeon_among         == of the values of f up to l's length, all of which stand in l, one comes twice
--   Distinct l           == no element stands in the list l twice
--   distinct_length      == a list without repeats, all of whose elements stand in l, is no longer than l
use Prim.Native.Nat.{ℕ, zero, suc, ◌≤◌, ◌<◌}
use native.Mathlib.Omega.{arith}
use native.Mathlib.Decide.{ℕ_discrete, dec_le}
use mathlib.Core.Path.{◌≡◌, sym, ◌∙◌, ap}
use mathlib.Core.Logic.{◌⊎◌, inl, inr, ite}
use mathlib.Core.List.{List, [], ◌∷◌}
use lib.ListN.{length, get_or}

pub record Twice (f : ℕ → ℕ) (k : ℕ) : Type 0 where
  pub first : ℕ
  pub second : ℕ
  pub later : first < second
  pub within : second ≤ k
  pub same : f first ≡ f second

-- whether f takes the value x below k
find : (f : ℕ → ℕ) (x k : ℕ) → ((i : ℕ) × (i < k) × (f i ≡ x)) ⊎ ((i : ℕ) → i < k → f i ≡ x → ⊥)
find f x zero = inr (λ i h e. absurd (omega arith))
find f x (suc k) = go (find f x k) (ℕ_discrete (f k) x)
  where
    Found : ℕ → Type 0
    Found j = (i : ℕ) × (i < j) × (f i ≡ x)

    None : ℕ → Type 0
    None j = (i : ℕ) → i < j → f i ≡ x → ⊥

    go : Found k ⊎ None k → Dec (f k ≡ x) → Found (suc k) ⊎ None (suc k)
    go (inl (i, h, e)) d = inl (i, omega arith, e)
    go (inr none) (yes e) = inl (k, omega arith, e)
    go (inr none) (no h) = inr at
      where
        at : None (suc k)
        at i l e = here (ℕ_discrete i k)
          where
            here : Dec (i ≡ k) → ⊥
            here (yes d) = h (ap f (sym d) ∙ e)
            here (no d) = none i (omega arith) e

pub pigeon : (N : ℕ) (f : ℕ → ℕ) → ((i : ℕ) → i ≤ N → f i < N) → Twice f N
pigeon zero f h = absurd (omega (arith, h 0 (omega arith)))
pigeon (suc N) f h = go (pigeon N g) (find f (f (suc N)) (suc N))
  where
    pick : (i : ℕ) → Dec (f i ≡ N) → ℕ
    pick i d = ite d (f (suc N)) (f i)

    -- who sits in the last hole moves to the hole of the last place
    g : ℕ → ℕ
    g i = pick i (ℕ_discrete (f i) N)

    Free : Type 0
    Free = (i : ℕ) → i < suc N → f i ≡ f (suc N) → ⊥

    below : Free → (i : ℕ) → i ≤ N → (d : Dec (f i ≡ N)) → pick i d < N
    below none i l (yes e) =
        let ne : f i ≡ f (suc N) → ⊥ = none i (omega arith) in
        omega (arith, h (suc N) (omega arith))
    below none i l (no n) = omega (arith, h i (omega arith))

    same : Free → (i j : ℕ) → i ≤ N → j ≤ N → (d : Dec (f i ≡ N)) (e : Dec (f j ≡ N)) → pick i d ≡ pick j e → f i ≡ f j
    same none i j l m (yes d) (yes e) q = d ∙ sym e
    same none i j l m (yes d) (no e) q = absurd (none j (omega arith) (sym q))
    same none i j l m (no d) (yes e) q = absurd (none i (omega arith) q)
    same none i j l m (no d) (no e) q = q

    go : (((i : ℕ) → i ≤ N → g i < N) → Twice g N) → ((i : ℕ) × (i < suc N) × (f i ≡ f (suc N))) ⊎ Free → Twice f (suc N)
    go rec (inl (i, l, e)) = record { first = i; second = suc N; later = l; within = omega arith; same = e }
    go rec (inr none) =
        let t : Twice g N = rec (λ i l. below none i l (ℕ_discrete (f i) N)) in
        record {
          first = t.first;
          second = t.second;
          later = t.later;
          within = omega arith;
          same =
              same none t.first t.second (omega arith) t.within (ℕ_discrete (f t.first) N)
              (ℕ_discrete (f t.second) N)
              t.same;
        }

pub record Among (l : List ℕ) (x : ℕ) : Type 0 where
  pub place : ℕ
  pub inside : place < length l
  pub stands : get_or l place 0 ≡ x

pub among_head : {l : List ℕ} {y x : ℕ} → y ≡ x → Among (y ∷ l) x
among_head e = record { place = 0; inside = omega arith; stands = e }

pub among_tail : {l : List ℕ} {y x : ℕ} → Among l x → Among (y ∷ l) x
among_tail m = record { place = suc m.place; inside = omega arith; stands = m.stands }

among_cases : {l : List ℕ} {y x : ℕ} → Among (y ∷ l) x → (y ≡ x → ⊥) → Among l x
among_cases {l} {y} {x} m n = go m.place m.inside m.stands
  where
    go : (k : ℕ) → k < suc (length l) → get_or (y ∷ l) k 0 ≡ x → Among l x
    go zero h e = absurd (n e)
    go (suc k) h e = record { place = k; inside = omega arith; stands = e }

-- the first place at which x stands in l
index : List ℕ → ℕ → ℕ
index [] x = 0
index (y ∷ l) x = ite (ℕ_discrete y x) 0 (suc (index l x))

index_right : (l : List ℕ) (x : ℕ) → Among l x → (index l x < length l) × (get_or l (index l x) 0 ≡ x)
unfolding index
index_right [] x m = absurd (omega (arith, m.inside))
index_right (y ∷ l) x m = go (ℕ_discrete y x) (λ n. index_right l x (among_cases m n))
  where
    go : (d : Dec (y ≡ x))
        → ((y ≡ x → ⊥) → (index l x < length l) × (get_or l (index l x) 0 ≡ x))
        → (ite d 0 (suc (index l x)) < suc (length l)) × (get_or (y ∷ l) (ite d 0 (suc (index l x))) 0 ≡ x)
    go (yes e) rec = (omega arith, e)
    go (no n) rec = (omega (arith, (rec n).0), (rec n).1)

pub pigeon_among : (l : List ℕ) (f : ℕ → ℕ) → ((i : ℕ) → i ≤ length l → Among l (f i)) → Twice f (length l)
pigeon_among l f h =
    let t : Twice (λ i. index l (f i)) (length l) =
    pigeon (length l) (λ i. index l (f i)) (λ i k. (index_right l (f i) (h i k)).0)
    in
    record {
      first = t.first;
      second = t.second;
      later = t.later;
      within = t.within;
      same =
          sym (index_right l (f t.first) (h t.first (omega arith))).1
          ∙ ap (λ k. get_or l k 0) t.same
          ∙ (index_right l (f t.second) (h t.second t.within)).1;
    }

pub record Distinct (l : List ℕ) : Type 0 where
  pub differ : (i j : ℕ) → i < j → j < length l → get_or l i 0 ≡ get_or l j 0 → ⊥

pub distinct_length : (m l : List ℕ) → Distinct m → ((i : ℕ) → i < length m → Among l (get_or m i 0)) → length m ≤ length l
distinct_length m l d h = go (dec_le (length m) (length l))
  where
    go : Dec (length m ≤ length l) → length m ≤ length l
    go (yes k) = k
    go (no k) =
        let t : Twice (λ i. get_or m i 0) (length l) = pigeon_among l (λ i. get_or m i 0) (λ i j. h i (omega arith)) in
        absurd (d.differ t.first t.second t.later (omega arith) t.same)
