-- Laws of marks: those of one list that another has not, and those of two lists. Assumes nothing.
--
--   newly m k, both m k  == which marks k has and m has not, and which one of them has
--   Marking f m m' n i   == the n marks m' are as f says below i, and as those of m from i on
--   marking_begins, marking_more == nothing is marked yet, and one mark more
--   fresh_made, merged   == all nodes that are new are marked, and all that one of both lists marks
--   fresh_high           == past the last node none is new
--   closing_none         == where none is new, no closed path lies among them
use Prim.Native.Nat.{ℕ, ◌+◌, ◌<◌, ◌≤◌}
use native.Mathlib.Omega.{arith}
use native.Mathlib.Decide.{dec_lt, ℕ_discrete}
use mathlib.Core.Path.{◌≡◌, refl, ◌∙◌}
use mathlib.Core.Bool.{Bool, true, false, not, ◌&&◌, ◌||◌}
use mathlib.Core.List.{List}
use lib.ListN.{length, get_or, set, length-set, get_or-eq_default}
use lib.Seq.{get_or-set_same, get_or-set_other}
use Rattle.graph.specs.Search.{Steps, Marked}
use Rattle.graph.proofs.Peel.{peel_empty}
use Rattle.plans.specs.Working.{Fresh, Closing, Merged}
use Rattle.plans.proofs.IdLists.{clash}

abbrev pub newly : List Bool → List Bool → ℕ → Bool
newly m k v = get_or k v false && not (get_or m v false)

abbrev pub both : List Bool → List Bool → ℕ → Bool
both m k v = get_or m v false || get_or k v false

pub record Marking (f : ℕ → Bool) (m m' : List Bool) (n i : ℕ) : Type 0 where
  pub size : length m' ≡ n
  pub below : (v : ℕ) → v < i → get_or m' v false ≡ f v
  pub past : (v : ℕ) → i ≤ v → get_or m' v false ≡ get_or m v false

pub marking_begins : (f : ℕ → Bool) (m : List Bool) {n : ℕ} → length m ≡ n → Marking f m m n 0
marking_begins f m e = record { size = e; below = λ v h. absurd (omega arith); past = λ v h. refl }

pub marking_more : {f : ℕ → Bool} {m m' : List Bool} {n i : ℕ} {y : Bool} → Marking f m m' n i → i < n → y ≡ f i → Marking f m (set m' i y) n (i + 1)
marking_more {f} {m} {m'} {n} {i} {y} s h e =
    record {
      size = length-set m' i y ∙ s.size;
      below = λ v l. go v l (ℕ_discrete v i);
      past = λ v l. get_or-set_other m' i v y false (λ q. omega arith) ∙ s.past v (omega arith);
    }
  where
    go : (v : ℕ) → v < i + 1 → Dec (v ≡ i) → get_or (set m' i y) v false ≡ f v
    go v l (yes q) = rw q (get_or-set_same m' i y false (omega (arith, s.size)) ∙ e)
    go v l (no d) = get_or-set_other m' i v y false (λ q. d (omega arith)) ∙ s.below v (omega arith)

pub fresh_made : {m k z f : List Bool} → Marking (newly m k) z f 512 512 → Fresh m k f
fresh_made s = record { size = s.size; at = s.below }

pub merged : {m k m' : List Bool} → Marking (both m k) m m' 514 514 → Merged m k m'
merged s = record { size = s.size; at = s.below }

pub fresh_high : {m k f : List Bool} → Fresh m k f → (v : ℕ) → 512 ≤ v → get_or f v false ≡ false
fresh_high {f} s v h = get_or-eq_default f false {n = v} (omega (arith, s.size))

pub closing_none :
    (a b c : List ℕ) {m k f : List Bool}
    → Fresh m k f
    → ((v : ℕ) → v < 512 → get_or f v false ≡ true → ⊥)
    → Closing a b c m k false
closing_none a b c {f} s n =
    record { among = f; fresh = s; closed = peel_empty {R = Steps a b c} (Marked f) (λ v h. none v h.marked (dec_lt v 512)) }
  where
    none : (v : ℕ) → get_or f v false ≡ true → Dec (v < 512) → ⊥
    none v e (yes h) = n v h e
    none v e (no h) = clash e (fresh_high s v (omega arith))
