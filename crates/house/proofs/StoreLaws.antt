-- Laws on bytes stored in lent memory (`sets`).
--
--   sets_append      == two lists of bytes stored one behind the other
--   sets_more        == one byte more is stored
--   sets_front       == bytes stored from the front
--   sets_past        == bytes past the end are left out
--   sets_at          == a part of the memory written at once
--   sets_part        == storing as many bytes as there is room for is storing all
use Prim.Native.Nat.{ℕ, zero, suc, ◌+◌, ◌-◌, ◌<◌, ◌≤◌, min}
use mathlib.Core.Path.{◌≡◌, refl, sym, ap, ◌∙◌}
use mathlib.Core.List.{List, [], ◌∷◌, ◌++◌, append_assoc}
use native.Mathlib.Nat.{add-zero, zero-add}
use native.Mathlib.Numerals.{add-one}
use native.Mathlib.Decide.{dec_lt}
use native.Mathlib.Omega.{arith}
use lib.ListN.{length, get_or, take, drop, set, length-set}
use borrow.Rule.Slice.PartMut.{put_mid}
use lib.Seq.{length-take-le, sets, sets-eq, set_out, take-suc, take_all, drop-drop}

pub sets_append : (a b l : List ℕ) (i : ℕ) → sets l i (a ++ b) ≡ sets (sets l i a) (i + length a) b
sets_append [] b l i = rw (add-zero i)
sets_append (x ∷ a) b l i =
    let e : suc i + length a ≡ i + suc (length a) = omega arith in
    sets_append a b (set l i x) (suc i) ∙ ap (λ (k : ℕ). sets (sets (set l i x) (suc i) a) k b) e

pub sets_more :
    (l s : List ℕ) (at i : ℕ)
    → i < length s
    → set (sets l at (take i s)) (at + i) (get_or s i 0) ≡ sets l at (take (i + 1) s)
sets_more l s at i h =
    rw (add-one, take-suc s i 0 h, sets_append (take i s) (get_or s i 0 ∷ []) l at, length-take-le i s (omega arith))

pub sets_front : (l vs : List ℕ) → length vs ≤ length l → sets l 0 vs ≡ vs ++ drop (length vs) l
sets_front l vs h = sets-eq vs l 0 (omega arith) ∙ rw (zero-add (length vs))

pub sets_past : (s l : List ℕ) (at i : ℕ) → length l ≤ at + i → sets l at (take i s) ≡ sets l at s
sets_past [] l at zero h = refl
sets_past [] l at (suc i) h = refl
sets_past (x ∷ s) l at zero h =
    let e : set l at x ≡ l = set_out l at x (omega arith) in
    rw e (sets_past s l (suc at) 0 (omega arith))
sets_past (x ∷ s) l at (suc i) h = sets_past s (set l at x) (suc at) i (omega (arith, length-set l at x))

pub sets_at : (t l : List ℕ) (at k : ℕ) → length t ≡ k → at + k ≤ length l → put_mid at k l t ≡ sets l at t
sets_at t l at k e h =
    rw (drop-drop k at l)
    (sym (append_assoc (take at l) t (drop (at + k) l)) ∙ rw e at (sym (sets-eq t l at (omega arith))))

pub sets_part : (s l : List ℕ) (at n : ℕ) → n ≡ min (length s) (length l - at) → sets l at (take n s) ≡ sets l at s
sets_part s l at n e = go (dec_lt n (length s))
  where
    go : Dec (n < length s) → sets l at (take n s) ≡ sets l at s
    go (yes d) = sets_past s l at n (omega arith)
    go (no d) = ap (sets l at) (take_all n s (omega arith))
