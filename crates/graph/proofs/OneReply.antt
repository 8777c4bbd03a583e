-- The searches have one reply each: no second answer fits the same tables. Assumes nothing.
--
--   reach_one_reply      == two lists of marks that hold exactly what is reached from s are equal
--   leads_one_reply      == two answers to whether a path leads from s to w are equal
--   cyclic_one_reply     == two answers to whether a closed path lies within the set are equal
use Prim.Native.Nat.{ℕ}
use native.Mathlib.Omega.{arith}
use mathlib.Core.Path.{◌≡◌, refl, sym, ◌∙◌}
use mathlib.Core.Bool.{Bool, true, false}
use mathlib.Core.List.{List}
use lib.ListN.{get_or}
use lib.Seq.{ext_get_or}
use Rattle.graph.specs.Search.{Reached, Leads, Cyclic}

same : (b d : Bool) → (b ≡ true → d ≡ true) → (d ≡ true → b ≡ true) → b ≡ d
same true d f g = sym (f refl)
same false true f g = g refl
same false false f g = refl

pub reach_one_reply : {o n c : List ℕ} {s : ℕ} {m m' : List Bool} → Reached o n c s m → Reached o n c s m' → m ≡ m'
reach_one_reply {m = m} {m'} r r' =
    ext_get_or false m m' (r.size ∙ sym r'.size)
    (λ i l.
    same (get_or m i false) (get_or m' i false)
    (λ e. r'.reached_is_marked i (omega (arith, r.size)) (r.marked_is_reached i e))
    (λ e. r.reached_is_marked i (omega (arith, r.size)) (r'.marked_is_reached i e)))

pub leads_one_reply : (o n c : List ℕ) (s w : ℕ) (r r' : Bool) → Leads o n c s w r → Leads o n c s w r' → r ≡ r'
leads_one_reply o n c s w true true h k = refl
leads_one_reply o n c s w true false (l, p) k = absurd (k l p)
leads_one_reply o n c s w false true h (l, p) = absurd (h l p)
leads_one_reply o n c s w false false h k = refl

pub cyclic_one_reply : (o n c : List ℕ) (a : List Bool) (r r' : Bool) → Cyclic o n c a r → Cyclic o n c a r' → r ≡ r'
cyclic_one_reply o n c a true true h k = refl
cyclic_one_reply o n c a true false (v, p) k = absurd (k v p)
cyclic_one_reply o n c a false true h (v, p) = absurd (h v p)
cyclic_one_reply o n c a false false h k = refl
