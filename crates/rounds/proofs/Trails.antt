-- Trails: lists of places, the latest first, each of which a step leads to from the one before it; and how many different
-- numbers meet a test. Assumes nothing.
--
--   Chain R s l          == the list l, read from its end, goes from s by steps of R
--   chain_maps           == a chain of R is one of R', where each step of R is a step of R'
--   chain_path           == a path leads from s to the latest place
--   chain_back           == a path leads from each place to the latest
--   chain_twice          == where a place stands twice, a path from s leads to a closed path
--   chain_all            == what holds of s and of all that a step leads to holds of each place
--   members k f          == the numbers below k of which the test f holds
--   members_length       == they are as many as the tally says
--   members_among        == each number below k of which f holds is among them
--   distinct_tally       == a list without repeats, of whose elements f holds, is no longer than the tally
use Prim.Native.Nat.{ℕ, zero, suc, ◌+◌, ◌≤◌, ◌<◌}
use native.Mathlib.Omega.{arith}
use native.Mathlib.Decide.{ℕ_discrete}
use mathlib.Core.Path.{◌≡◌, refl, sym, ◌∙◌, ap, subst}
use mathlib.Core.Bool.{Bool, true, false, cond}
use mathlib.Core.List.{List, [], ◌∷◌}
use lib.ListN.{length, get_or}
use Rattle.graph.specs.Graph.{Path, stop, Around}
use Rattle.graph.proofs.Paths.{path_cast, path_more}
use Rattle.graph.proofs.Pigeon.{Among, among_head, among_tail, Distinct, distinct_length}
use Rattle.routes.specs.Rules.{tally}

pub data Chain (R : ℕ → ℕ → Type 0) (s : ℕ) : List ℕ → Type 0 where
  starts : {l : List ℕ} → l ≡ s ∷ [] → Chain R s l
  goes : {w v : ℕ} {l : List ℕ} → Chain R s (v ∷ l) → R v w → Chain R s (w ∷ v ∷ l)

pub chain_maps : {R R' : ℕ → ℕ → Type 0} {s : ℕ} {l : List ℕ} → ((v w : ℕ) → R v w → R' v w) → Chain R s l → Chain R' s l
chain_maps f (starts e) = starts e
chain_maps f (goes {w} {v} C r) = goes (chain_maps f C) (f v w r)

pub chain_path : {R : ℕ → ℕ → Type 0} {s : ℕ} {l : List ℕ} → Chain R s l → Path R (get_or l 0 0) s
chain_path (starts e) = stop (sym (ap (λ l. get_or l 0 0) e))
chain_path (goes C r) = path_more (chain_path C) r

pub chain_back : {R : ℕ → ℕ → Type 0} {s : ℕ} {l : List ℕ} → Chain R s l → (j : ℕ) → j < length l → Path R (get_or l 0 0) (get_or l j 0)
chain_back C zero h = stop refl
chain_back (starts e) (suc j) h = absurd (omega (arith, ap length e))
chain_back (goes C r) (suc j) h = path_more (chain_back C j (omega arith)) r

pub chain_twice :
    {R : ℕ → ℕ → Type 0} {s : ℕ} {l : List ℕ}
    → Chain R s l
    → (i j : ℕ)
    → i < j
    → j < length l
    → get_or l i 0 ≡ get_or l j 0
    → (v : ℕ) × Path R v s × Around R v
chain_twice C i zero h k e = absurd (omega arith)
chain_twice (starts q) i (suc j) h k e = absurd (omega (arith, ap length q))
chain_twice (goes {w} {v} C r) zero (suc j) h k e = (v, chain_path C, (w, r, path_cast e (chain_back C j (omega arith))))
chain_twice (goes C r) (suc i) (suc j) h k e = chain_twice C i j (omega arith) (omega arith) e

pub chain_all :
    {R : ℕ → ℕ → Type 0} {s : ℕ} {l : List ℕ} (S : ℕ → Type 0)
    → S s
    → ((v w : ℕ) → R v w → S w)
    → Chain R s l
    → (i : ℕ)
    → i < length l
    → S (get_or l i 0)
chain_all S z f (starts e) zero h = subst S (sym (ap (λ l. get_or l 0 0) e)) z
chain_all S z f (starts e) (suc i) h = absurd (omega (arith, ap length e))
chain_all S z f (goes {w} {v} C r) zero h = f v w r
chain_all S z f (goes C r) (suc i) h = chain_all S z f C i (omega arith)

unfoldable pub members : ℕ → (ℕ → Bool) → List ℕ
members zero f = []
members (suc k) f = cond (f k) (k ∷ members k f) (members k f)

pub members_length : (k : ℕ) (f : ℕ → Bool) → length (members k f) ≡ tally k f
unfolding members tally
members_length zero f = refl
members_length (suc k) f = go (f k) (members_length k f)
  where
    go :
        (b : Bool)
        → length (members k f) ≡ tally k f
        → length (cond b (k ∷ members k f) (members k f)) ≡ tally k f + cond b 1 0
    go true e = omega arith
    go false e = omega arith

pub members_among : (k : ℕ) (f : ℕ → Bool) (x : ℕ) → x < k → f x ≡ true → Among (members k f) x
unfolding members
members_among zero f x h e = absurd (omega arith)
members_among (suc k) f x h e = go (f k) refl (ℕ_discrete k x) (members_among k f x)
  where
    go :
        (b : Bool)
        → f k ≡ b
        → Dec (k ≡ x)
        → (x < k → f x ≡ true → Among (members k f) x)
        → Among (cond b (k ∷ members k f) (members k f)) x
    go true q (yes d) rec = among_head d
    go true q (no d) rec = among_tail (rec (omega arith) e)
    go false q (yes d) rec = let c : f x ≡ false = ap f (sym d) ∙ q in let z : ◌≡◌ {A = ℕ} 0 1 = cc in absurd (omega arith)
    go false q (no d) rec = rec (omega arith) e

pub distinct_tally :
    (k : ℕ) (f : ℕ → Bool) (l : List ℕ)
    → Distinct l
    → ((i : ℕ) → i < length l → (get_or l i 0 < k) × (f (get_or l i 0) ≡ true))
    → length l ≤ tally k f
distinct_tally k f l d h =
    omega (
      arith,
      members_length k f,
      distinct_length l (members k f) d (λ i j. members_among k f (get_or l i 0) (h i j).0 (h i j).1),
    )
