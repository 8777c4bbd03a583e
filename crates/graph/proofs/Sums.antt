-- Laws on sums over the first k numbers, over marks and over a queue, and on what a store changes. Assumes nothing.
--
--   set_cases      == after a store at i a place is i and holds the new value, or is another and holds the old one
--   mark_inside    == a marked number is below the number of marks
--   get_d_any      == inside a list no default counts
--   sum_same       == sums of the same numbers are the same
--   sum_more       == the sum of one number more
--   sum_zero       == the sum of no numbers
--   sum_ones       == the sum of k ones
--   sum_one        == where f is g but for d more at i, its sum is d more
--   sum_part       == a sum is at least each of its numbers
--   sum_bound      == a sum of k numbers up to b is at most k times b
--   sum_none       == a sum of nothing is 0
--   sum_front      == a sum is its first number and the sum of the others
--   get_d_repeat   == a list of one value holds that value, with itself as default
--   sum_found      == a sum that is not 0 has a number that is not 0
--   sum_longer     == a longer sum is at least a shorter one
--   among_part, among_bound == the same for a sum over marks
--   among_more, among_same == the sum over one number more, marked or not
--   among_count    == the number of marks is the count of what is true
--   among_less     == a sum over marks, and the sum without one of them
--   sent_same      == a store behind the first k places of a queue leaves their sum
--   sent_more      == the sum over one place more
use Prim.Native.Nat.{ℕ, zero, suc, ◌+◌, ◌*◌, ◌≤◌, ◌<◌}
use native.Mathlib.Nat.{suc-mul}
use native.Mathlib.Numerals.{add-one}
use native.Mathlib.Omega.{arith}
use native.Mathlib.Decide.{ℕ_discrete}
use mathlib.Core.Path.{◌≡◌, refl, ◌∙◌, ap}
use mathlib.Core.Bool.{Bool, true, false, cond}
use mathlib.Core.List.{List, [], ◌∷◌}
use mathlib.Core.Logic.{◌⊎◌, inl, inr, by_cases}
use lib.ListN.{get_or, length, set, replicate}
use lib.Seq.{get_or-set_same, get_or-set_other}
use Rattle.std.specs.List.{count_by}
use Rattle.std.proofs.lemmas.List.Recursion.{is_count_by}
use Rattle.graph.specs.Working.{sum, among, Sent}

pub set_cases : {A : Type 0} (l : List A) (i j : ℕ) (a d : A)
    → i < length l
    → ((j ≡ i) × (get_or (set l i a) j d ≡ a)) ⊎ ((j ≡ i → ⊥) × (get_or (set l i a) j d ≡ get_or l j d))
set_cases l i j a d h = go (ℕ_discrete j i)
  where
    go : Dec (j ≡ i) → ((j ≡ i) × (get_or (set l i a) j d ≡ a)) ⊎ ((j ≡ i → ⊥) × (get_or (set l i a) j d ≡ get_or l j d))
    go (yes e) = inl (e, rw e (get_or-set_same l i a d h))
    go (no n) = inr (n, get_or-set_other l i j a d n)

pub mark_inside : (m : List Bool) (v : ℕ) → get_or m v false ≡ true → v < length m
mark_inside [] v e = let z : ◌≡◌ {A = ℕ} 0 1 = cc in absurd (omega arith)
mark_inside (b ∷ m) zero e = omega arith
mark_inside (b ∷ m) (suc v) e = let h : v < length m = mark_inside m v e in omega arith

pub get_d_any : {A : Type 0} (l : List A) (i : ℕ) (a b : A) → i < length l → get_or l i a ≡ get_or l i b
get_d_any [] i a b h = absurd (omega arith)
get_d_any (x ∷ l) zero a b h = refl
get_d_any (x ∷ l) (suc i) a b h = get_d_any l i a b (omega arith)

pub sum_same : (k : ℕ) (f g : ℕ → ℕ) → ((i : ℕ) → i < k → f i ≡ g i) → sum k f ≡ sum k g
unfolding sum
sum_same zero f g h = refl
sum_same (suc k) f g h = let e : sum k f ≡ sum k g = sum_same k f g (λ i l. h i (omega arith)) in omega (arith, h k (omega arith))

pub sum_more : (k : ℕ) (f : ℕ → ℕ) → sum (k + 1) f ≡ sum k f + f k
unfolding sum
sum_more k f = rw add-one refl

pub sum_zero : (f : ℕ → ℕ) → sum 0 f ≡ 0
unfolding sum
sum_zero f = refl

pub sum_ones : (k : ℕ) → sum k (λ i. 1) ≡ k
unfolding sum
sum_ones zero = refl
sum_ones (suc k) = let e : sum k (λ i. 1) ≡ k = sum_ones k in omega arith

pub sum_one : (k i d : ℕ) (f g : ℕ → ℕ)
    → i < k
    → f i ≡ g i + d
    → ((j : ℕ) → (j ≡ i → ⊥) → f j ≡ g j)
    → sum k f ≡ sum k g + d
unfolding sum
sum_one zero i d f g l e h = absurd (omega arith)
sum_one (suc k) i d f g l e h =
    by_cases (ℕ_discrete k i)
    (λ p.
    let r : sum k f ≡ sum k g = sum_same k f g (λ j m. h j (λ q. omega arith)) in
    let t : f k ≡ g k + d = rw p e in
    omega arith)
    (λ p.
    let r : sum k f ≡ sum k g + d = sum_one k i d f g (omega arith) e h in
    let t : f k ≡ g k = h k p in
    omega arith)

pub sum_part : (k i : ℕ) (f : ℕ → ℕ) → i < k → f i ≤ sum k f
unfolding sum
sum_part zero i f l = absurd (omega arith)
sum_part (suc k) i f l =
    by_cases (ℕ_discrete k i)
    (λ p. rw (← p) (omega arith))
    (λ p. let r : f i ≤ sum k f = sum_part k i f (omega arith) in omega arith)

pub sum_bound : (k b : ℕ) (f : ℕ → ℕ) → ((i : ℕ) → f i ≤ b) → sum k f ≤ k * b
unfolding sum
sum_bound zero b f h = omega arith
sum_bound (suc k) b f h =
    let r : sum k f ≤ k * b = sum_bound k b f h in
    let s : f k ≤ b = h k in
    rw suc-mul (omega arith)

pub sum_found : (k : ℕ) (f : ℕ → ℕ) → 0 < sum k f → (i : ℕ) × (i < k) × (0 < f i)
unfolding sum
sum_found zero f h = absurd (omega arith)
sum_found (suc k) f h =
    by_cases (ℕ_discrete (f k) 0)
    (λ p. let r : (i : ℕ) × (i < k) × (0 < f i) = sum_found k f (omega arith) in (r.0, omega arith, r.2))
    (λ p. (k, omega arith, omega arith))

pub sum_longer : (k m : ℕ) (f : ℕ → ℕ) → k ≤ m → sum k f ≤ sum m f
unfolding sum
sum_longer zero m f l = omega arith
sum_longer (suc k) zero f l = absurd (omega arith)
sum_longer (suc k) (suc m) f l =
    by_cases (ℕ_discrete k m)
    (λ p. rw p (omega arith))
    (λ p. let r : sum (suc k) f ≤ sum m f = sum_longer (suc k) m f (omega arith) in omega arith)

pub sum_none : (k : ℕ) (f : ℕ → ℕ) → ((i : ℕ) → f i ≡ 0) → sum k f ≡ 0
unfolding sum
sum_none zero f h = refl
sum_none (suc k) f h = let e : sum k f ≡ 0 = sum_none k f h in let d : f k ≡ 0 = h k in omega arith

pub sum_front : (k : ℕ) (f : ℕ → ℕ) → sum (suc k) f ≡ f 0 + sum k (λ i. f (suc i))
unfolding sum
sum_front zero f = omega arith
sum_front (suc k) f = let e : sum (suc k) f ≡ f 0 + sum k (λ i. f (suc i)) = sum_front k f in omega arith

pub get_d_repeat : {A : Type 0} (k i : ℕ) (a : A) → get_or (replicate k a) i a ≡ a
get_d_repeat zero i a = refl
get_d_repeat (suc k) zero a = refl
get_d_repeat (suc k) (suc i) a = get_d_repeat k i a

pub among_part : (k : ℕ) (m : List Bool) (f : ℕ → ℕ) (w : ℕ) → w < k → get_or m w false ≡ true → f w ≤ among k m f
among_part k m f w l e =
    let b : cond (get_or m w false) (f w) 0 ≤ among k m f = sum_part k w (λ v. cond (get_or m v false) (f v) 0) l in
    rw e at b

pub among_bound : (k b : ℕ) (m : List Bool) (f : ℕ → ℕ) → ((v : ℕ) → f v ≤ b) → among k m f ≤ k * b
among_bound k b m f h = sum_bound k b (λ v. cond (get_or m v false) (f v) 0) (λ v. low (get_or m v false) (f v) (h v))
  where
    low : (t : Bool) (x : ℕ) → x ≤ b → cond t x 0 ≤ b
    low true x l = l
    low false x l = omega arith

pub among_more : (k : ℕ) (m : List Bool) (f : ℕ → ℕ) → get_or m k false ≡ true → among (k + 1) m f ≡ among k m f + f k
among_more k m f e =
    sum_more k (λ v. cond (get_or m v false) (f v) 0) ∙ ap (λ b. among k m f + cond b (f k) 0) e

pub among_same : (k : ℕ) (m : List Bool) (f : ℕ → ℕ) → get_or m k false ≡ false → among (k + 1) m f ≡ among k m f
among_same k m f e =
    let z = sum_more k (λ v. cond (get_or m v false) (f v) 0) ∙ ap (λ b. among k m f + cond b (f k) 0) e in omega arith

pub among_count : (m : List Bool) → among (length m) m (λ v. 1) ≡ count_by (λ b. b) m
among_count m = is_count_by marks (λ b. b) (sum_zero (λ v. 0)) more m
  where
    marks : List Bool → ℕ
    marks l = among (length l) l (λ v. 1)

    more : (b : Bool) (l : List Bool) → marks (b ∷ l) ≡ cond b (1 + marks l) (marks l)
    more true l = omega (arith, sum_front (length l) (λ v. cond (get_or (true ∷ l) v false) 1 0))
    more false l = omega (arith, sum_front (length l) (λ v. cond (get_or (false ∷ l) v false) 1 0))

pub among_less : (k i : ℕ) (m m' : List Bool) (f : ℕ → ℕ)
    → i < k
    → get_or m i false ≡ true
    → get_or m' i false ≡ false
    → ((j : ℕ) → (j ≡ i → ⊥) → get_or m j false ≡ get_or m' j false)
    → among k m f ≡ among k m' f + f i
among_less k i m m' f l t u h =
    sum_one k i (f i) (λ v. cond (get_or m v false) (f v) 0) (λ v. cond (get_or m' v false) (f v) 0) l here (λ j n. rw (h j n) refl)
  where
    here : cond (get_or m i false) (f i) 0 ≡ cond (get_or m' i false) (f i) 0 + f i
    here = rw (t, u) (omega arith)

pub sent_same : (q : List ℕ) (t w k : ℕ) (f : ℕ → ℕ) → k ≤ t → Sent (set q t w) k f ≡ Sent q k f
sent_same q t w k f l =
    sum_same k (λ i. f (get_or (set q t w) i 0)) (λ i. f (get_or q i 0)) (λ i h. ap f (get_or-set_other q t i w 0 (λ e. omega arith)))

pub sent_more : (q : List ℕ) (k : ℕ) (f : ℕ → ℕ) → Sent q (k + 1) f ≡ Sent q k f + f (get_or q k 0)
sent_more q k f = sum_more k (λ i. f (get_or q i 0))
