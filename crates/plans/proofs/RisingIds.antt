-- The ids of one set, rising.
--
--   Below R             == the set R holds ids only
--   on_rising           == the ids of R, rising, are those of R
--   rising_member, member_rising == the same by index, of any set
--   rising_rises        == they rise
--   rising_distinct     == none stands there twice
--   length_rising       == they are as many as the ids below 512 in R
--   rising_none, none_rising == there are none exactly if no id below 512 is in R
use Prim.Native.Nat.{ℕ, zero, suc, ◌+◌, ◌<◌}
use mathlib.Core.Path.{◌≡◌, refl, sym, ◌∙◌}
use mathlib.Core.Bool.{Bool, true, false, cond, ◌&&◌, ◌||◌, or-false, and-true, and-false}
use mathlib.Core.List.{List, [], ◌∷◌, ◌++◌}
use native.Mathlib.Decide.{ℕ_discrete, dec_lt}
use native.Mathlib.Omega.{arith}
use lib.ListN.{length, get_or, length-append, get_or-append}
use lib.Seq.{get_or-append_seam}
use lib.Dec.{eqb, ltb}
use borrow.Author.Tests.{ltb-true, lt-ltb, le-ltb, eq-eqb, ne_eqb}
use Rattle.routes.specs.Rules.{tally}
use Rattle.routes.specs.Jumps.{on}
use Rattle.routes.specs.Walk.{State}
use Rattle.plans.specs.Plan.{rising_below, rising}
use Rattle.plans.proofs.IdLists.{by_bool, clash, on_nil, on_cons, on_index, index_on, on_append, Distinct, index_distinct}

abbrev pub Below : State → Type 0
Below R = (v : ℕ) → R v ≡ true → v < 512

on_one : (b : Bool) (k v : ℕ) → on (cond b (k ∷ []) []) v ≡ (b && eqb v k)
on_one true k v = rw (on_cons k [] v, on_nil v) (or-false (eqb v k))
on_one false k v = on_nil v

on_below : (k : ℕ) (R : State) (v : ℕ) → on (rising_below k R) v ≡ (ltb v k && R v)
unfolding rising_below
on_below zero R v = rw (on_nil v, le-ltb v 0 (omega arith))
on_below (suc k) R v =
    rw (on_append (rising_below k R) (cond (R k) (k ∷ []) []) v, on_below k R v, on_one (R k) k v) (go (ℕ_discrete v k) (dec_lt v k))
  where
    go : Dec (v ≡ k) → Dec (v < k) → ((ltb v k && R v) || (R k && eqb v k)) ≡ (ltb v (suc k) && R v)
    go (yes e) d = rw (le-ltb v k (omega arith), eq-eqb v k e, lt-ltb v (suc k) (omega arith), e) (and-true (R k))
    go (no e) (yes h) = rw (lt-ltb v k h, ne_eqb v k e, lt-ltb v (suc k) (omega arith), and-false (R k)) (or-false (R v))
    go (no e) (no h) = rw (le-ltb v k (omega arith), ne_eqb v k e, le-ltb v (suc k) (omega arith)) (and-false (R k))

length_below : (k : ℕ) (R : State) → length (rising_below k R) ≡ tally k R
unfolding rising_below tally
length_below zero R = refl
length_below (suc k) R = rw (length-append (rising_below k R) (cond (R k) (k ∷ []) []), length_below k R) (go (R k))
  where
    go : (b : Bool) → tally k R + length (cond b (k ∷ []) []) ≡ tally k R + cond b 1 0
    go true = refl
    go false = refl

below_rises : (k : ℕ) (R : State) (j i : ℕ) → j < i → i < length (rising_below k R) → get_or (rising_below k R) j 0 < get_or (rising_below k R) i 0
unfolding rising_below
below_rises zero R j i h l = absurd (omega arith)
below_rises (suc k) R j i h l = go (R k) (below_rises k R j i h) l
  where
    less : (j : ℕ) → j < length (rising_below k R) → get_or (rising_below k R) j 0 < k
    less j h =
        by_bool (ltb (get_or (rising_below k R) j 0) k) (λ e. ltb-true _ _ e)
        (λ e. clash (index_on (rising_below k R) j h) (on_below k R (get_or (rising_below k R) j 0) ∙ rw e))

    at : (t : List ℕ) (j : ℕ) → j < length (rising_below k R) → get_or (rising_below k R ++ t) j 0 ≡ get_or (rising_below k R) j 0
    at t j h = get_or-append (rising_below k R) t 0 j h

    go :
        (b : Bool)
        → (i < length (rising_below k R) → get_or (rising_below k R) j 0 < get_or (rising_below k R) i 0)
        → i < length (rising_below k R ++ cond b (k ∷ []) [])
        → get_or (rising_below k R ++ cond b (k ∷ []) []) j 0 < get_or (rising_below k R ++ cond b (k ∷ []) []) i 0
    go true r l = last (dec_lt i (length (rising_below k R)))
      where
        last : Dec (i < length (rising_below k R)) → get_or (rising_below k R ++ (k ∷ [])) j 0 < get_or (rising_below k R ++ (k ∷ [])) i 0
        last (yes m) = rw (at (k ∷ []) j (omega arith), at (k ∷ []) i m) (r m)
        last (no m) =
            let e : i ≡ length (rising_below k R) = omega (arith, length-append (rising_below k R) (k ∷ [])) in
            rw (e, get_or-append_seam (rising_below k R) k [] 0, at (k ∷ []) j (omega arith)) (less j (omega arith))
    go false r l =
        let m : i < length (rising_below k R) = omega (arith, length-append (rising_below k R) []) in
        rw (at [] j (omega arith), at [] i m) (r m)

pub on_rising : {R : State} → Below R → (v : ℕ) → on (rising R) v ≡ R v
unfolding rising
on_rising {R} h v = on_below 512 R v ∙ by_bool (R v) (λ e. rw (e, lt-ltb v 512 (h v e))) (λ e. rw e (and-false (ltb v 512)))

both : (a b : Bool) → (a && b) ≡ true → (a ≡ true) × (b ≡ true)
both true b e = (refl, e)
both false b e = clash e refl

pub rising_member : (R : State) (i : ℕ) → i < length (rising R) → (get_or (rising R) i 0 < 512) × (R (get_or (rising R) i 0) ≡ true)
unfolding rising
rising_member R i h =
    let x = both (ltb (get_or (rising R) i 0) 512) (R (get_or (rising R) i 0)) (sym (on_below 512 R (get_or (rising R) i 0)) ∙ index_on (rising R) i h) in
    (ltb-true _ _ x.0, x.1)

pub member_rising : (R : State) (v : ℕ) → v < 512 → R v ≡ true → (i : ℕ) × (i < length (rising R)) × (get_or (rising R) i 0 ≡ v)
unfolding rising
member_rising R v h e = on_index (rising R) v (on_below 512 R v ∙ rw (lt-ltb v 512 h, e))

pub rising_rises : (R : State) (j i : ℕ) → j < i → i < length (rising R) → get_or (rising R) j 0 < get_or (rising R) i 0
unfolding rising
rising_rises R = below_rises 512 R

pub rising_distinct : (R : State) → Distinct (rising R)
rising_distinct R = index_distinct (rising R) (λ j i h k e. omega (arith, rising_rises R j i h k))

pub length_rising : (R : State) → length (rising R) ≡ tally 512 R
unfolding rising
length_rising R = length_below 512 R

pub rising_none : (R : State) → length (rising R) ≡ 0 → (v : ℕ) → v < 512 → R v ≡ false
rising_none R z v h = by_bool (R v) (λ e. absurd (omega (arith, (member_rising R v h e).1))) (λ e. e)

pub none_rising : (R : State) → ((v : ℕ) → v < 512 → R v ≡ false) → length (rising R) ≡ 0
none_rising R f = go (dec_lt 0 (length (rising R)))
  where
    go : Dec (0 < length (rising R)) → length (rising R) ≡ 0
    go (yes h) = let x = rising_member R 0 h in clash x.1 (f (get_or (rising R) 0 0) x.0)
    go (no h) = omega arith
