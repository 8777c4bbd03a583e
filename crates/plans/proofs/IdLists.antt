-- Laws of lists of ids: which ids stand on a list, and where.
--
--   by_bool            == a Bool is true or false, with the equation
--   clash              == no Bool is true and false
--   no_or, either_or, or_left, or_right == when `||` is true or false
--   on_nil             == no id is on the empty list
--   on_cons            == the ids on a list with one more in front
--   on_first, on_rest  == its first id, and the ids of its rest, are on it
--   on_index, index_on == an id is on l exactly if it stands at some index of l
--   position_append    == the position on two lists joined
--   on_append          == the ids on two lists joined
--   Distinct l         == no id stands twice on l
--   distinct_index     == by index; index_distinct == and the other way round
--   distinct_append    == two lists joined, with no id on both
--   on_reverse, distinct_reverse == the same list backward
--   on_keep, distinct_keep == the ids kept
use Prim.Native.Nat.{ℕ, zero, suc, ◌+◌, ◌<◌}
use mathlib.Core.Path.{◌≡◌, refl, sym}
use mathlib.Core.Bool.{Bool, true, false, cond, ◌&&◌, ◌||◌, or-false, or_comm, or_assoc, and-false}
use mathlib.Core.Logic.{◌⊎◌, inl, inr}
use mathlib.Core.List.{List, [], ◌∷◌, ◌++◌, reverse, reverse-cons}
use native.Mathlib.Nat.{le_of_suc-le-suc}
use native.Mathlib.Omega.{arith}
use lib.ListN.{length, get_or}
use lib.Dec.{eqb, leb-suc-suc}
use borrow.Author.Tests.{lt-ltb, eqb-true, eq-eqb, ne_eqb}
use Rattle.routes.specs.Jumps.{position, on}
use Rattle.routes.proofs.JumpLaws.{position_at, on_position, position_off}
use Rattle.plans.specs.Plan.{keep}

pub by_bool : {A : Type 0} (b : Bool) → (b ≡ true → A) → (b ≡ false → A) → A
by_bool true f g = f refl
by_bool false f g = g refl

pub clash : {A : Type 0} {b : Bool} → b ≡ true → b ≡ false → A
clash e f = let z : ◌≡◌ {A = ℕ} 0 1 = cc in absurd (omega arith)

pub or_left : {a : Bool} (b : Bool) → a ≡ true → (a || b) ≡ true
or_left b e = rw e

pub or_right : (a : Bool) {b : Bool} → b ≡ true → (a || b) ≡ true
or_right true e = refl
or_right false e = e

pub either_or : (a b : Bool) → (a || b) ≡ true → (a ≡ true) ⊎ (b ≡ true)
either_or true b e = inl refl
either_or false b e = inr e

pub no_or : (a b : Bool) → (a || b) ≡ false → (a ≡ false) × (b ≡ false)
no_or true b e = (e, clash refl e)
no_or false b e = (refl, e)

-- ---- where an id stands

pub on_nil : (v : ℕ) → on [] v ≡ false
on_nil v = position_off [] v (omega arith)

pub on_cons : (a : ℕ) (l : List ℕ) (v : ℕ) → on (a ∷ l) v ≡ (eqb v a || on l v)
unfolding on position
on_cons a l v =
    by_bool (eqb v a) (λ e. rw e (lt-ltb 0 (suc (length l)) (omega arith))) (λ e. rw e (leb-suc-suc (suc (position l v)) (length l)))

pub on_index : (l : List ℕ) (v : ℕ) → on l v ≡ true → (i : ℕ) × (i < length l) × (get_or l i 0 ≡ v)
on_index l v e = let h = on_position l v e in (position l v, h, position_at l v h)

pub on_first : (a : ℕ) (l : List ℕ) → on (a ∷ l) a ≡ true
on_first a l = rw (on_cons a l a, eq-eqb a a refl)

pub on_rest : (a : ℕ) (l : List ℕ) (v : ℕ) → on l v ≡ true → on (a ∷ l) v ≡ true
on_rest a l v e = rw (on_cons a l v) (or_right (eqb v a) e)

pub index_on : (l : List ℕ) (i : ℕ) → i < length l → on l (get_or l i 0) ≡ true
index_on [] i h = absurd (omega arith)
index_on (a ∷ l) zero h = on_first a l
index_on (a ∷ l) (suc i) h = on_rest a l (get_or l i 0) (index_on l i (le_of_suc-le-suc h))

pub position_append :
    (s t : List ℕ) (v : ℕ) → position (s ++ t) v ≡ cond (on s v) (position s v) (length s + position t v)
unfolding position
position_append [] t v = rw (on_nil v) (omega arith)
position_append (a ∷ s) t v =
    rw (on_cons a s v) (by_bool (eqb v a) (λ e. rw e) (λ e. rw (e, position_append s t v) (go (on s v))))
  where
    go :
        (b : Bool)
        → suc (cond b (position s v) (length s + position t v)) ≡ cond b (suc (position s v)) (suc (length s) + position t v)
    go true = refl
    go false = omega arith

pub on_append : (s t : List ℕ) (v : ℕ) → on (s ++ t) v ≡ (on s v || on t v)
on_append [] t v = rw (on_nil v)
on_append (a ∷ s) t v = rw (on_cons a (s ++ t) v, on_cons a s v, on_append s t v) (sym (or_assoc (eqb v a) (on s v) (on t v)))

-- ---- no id twice

abbrev pub Distinct : List ℕ → Type 0
Distinct [] = Unit
Distinct (a ∷ l) = (on l a ≡ false) × Distinct l

pub distinct_index : (l : List ℕ) → Distinct l → (j i : ℕ) → j < i → i < length l → get_or l j 0 ≡ get_or l i 0 → ⊥
distinct_index [] d j i h k e = omega arith
distinct_index (a ∷ l) d j zero h k e = omega arith
distinct_index (a ∷ l) d zero (suc i) h k e = clash (rw (sym e) at (index_on l i (le_of_suc-le-suc k))) d.0
distinct_index (a ∷ l) d (suc j) (suc i) h k e = distinct_index l d.1 j i (le_of_suc-le-suc h) (le_of_suc-le-suc k) e

pub index_distinct : (l : List ℕ) → ((j i : ℕ) → j < i → i < length l → get_or l j 0 ≡ get_or l i 0 → ⊥) → Distinct l
index_distinct [] d = tt
index_distinct (a ∷ l) d = (
  by_bool (on l a) (λ e. let x = on_index l a e in absurd (d 0 (suc x.0) (omega arith) (omega arith) (sym x.2))) (λ e. e),
  index_distinct l (λ j i h k e. d (suc j) (suc i) (omega arith) (omega arith) e),
)

pub distinct_append :
    (s t : List ℕ) → Distinct s → Distinct t → ((v : ℕ) → on s v ≡ true → on t v ≡ false) → Distinct (s ++ t)
distinct_append [] t d e f = e
distinct_append (a ∷ s) t d e f = (
  rw (on_append s t a, d.0) (f a (on_first a s)),
  distinct_append s t d.1 e (λ v h. f v (on_rest a s v h)),
)

pub on_reverse : (l : List ℕ) (v : ℕ) → on (reverse l) v ≡ on l v
on_reverse [] v = refl
on_reverse (a ∷ l) v =
    rw (reverse-cons a l, on_append (reverse l) (a ∷ []) v, on_cons a [] v, on_cons a l v, on_reverse l v)
    (rw (on_nil v, or-false (eqb v a)) (or_comm (on l v) (eqb v a)))

pub distinct_reverse : (l : List ℕ) → Distinct l → Distinct (reverse l)
distinct_reverse [] d = tt
distinct_reverse (a ∷ l) d =
    rw (reverse-cons a l)
    (distinct_append (reverse l) (a ∷ []) (distinct_reverse l d.1) (on_nil a, tt) only)
  where
    only : (v : ℕ) → on (reverse l) v ≡ true → on (a ∷ []) v ≡ false
    only v h = rw (on_cons a [] v, on_nil v, ne_eqb v a (λ e. clash (rw (on_reverse l v, e) at h) d.0))

pub on_keep : (f : ℕ → Bool) (l : List ℕ) (v : ℕ) → on (keep f l) v ≡ (on l v && f v)
unfolding keep
on_keep f [] v = rw (on_nil v)
on_keep f (a ∷ l) v =
    rw (on_cons a l v)
    (by_bool (f a) (λ e. rw (e, on_cons a (keep f l) v, on_keep f l v) (by_bool (eqb v a) (λ q. rw (q, eqb-true v a q, e)) (λ q. rw q)))
    (λ e. rw (e, on_keep f l v) (by_bool (eqb v a) (λ q. rw (q, eqb-true v a q, e) (and-false (on l a))) (λ q. rw q))))

pub distinct_keep : (f : ℕ → Bool) (l : List ℕ) → Distinct l → Distinct (keep f l)
unfolding keep
distinct_keep f [] d = tt
distinct_keep f (a ∷ l) d = go (f a) (distinct_keep f l d.1)
  where
    go : (b : Bool) → Distinct (keep f l) → Distinct (cond b (a ∷ keep f l) (keep f l))
    go true k = (rw (on_keep f l a, d.0), k)
    go false k = k
