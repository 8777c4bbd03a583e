-- Laws on bytes stored in lent memory.
--
--   encode_one       == one entry as bytes
--   are_bytes        == lent bytes are numbers under 256
--   overlaid_none    == no entry in front: the bytes as they are
--   length_overlaid  == lent memory keeps its length
--   overlaid_bytes   == whole entries stored from the front are their entries in front
--   overlaid_more    == bytes stored behind the entries in front are more entries in front
--   overlaid_put     == so is an entry that is put behind them
--   overlaid_back    == and those of whole entries are these
use Rattle.std.proofs.Common.{Fits, w8}
use Prim.Native.Nat.{ℕ, ◌+◌, ◌*◌, ◌≤◌}
use mathlib.Core.Path.{◌≡◌, refl, sym, ap, ◌∙◌}
use mathlib.Core.List.{List, [], ◌∷◌, ◌++◌}
use native.Mathlib.Omega.{arith}
use lib.ListN.{length, get_or, drop, length-append, length-drop}
use lib.Seq.{sets}
use Rattle.house.specs.Numbers.{bytes, entries, encode, put_number, Whole}
use Rattle.house.proofs.StoreLaws.{sets_append, sets_front}
use Rattle.house.proofs.NumberLaws.{Under, length_encode, length_entries, encode_entries}
use Rattle.plans.proofs.WriteLaws.{overlaid_more as overlaid-one}
use Rattle.plans.specs.Replies.{overlaid}

pub are_bytes : {b : List ℕ} → ((i : ℕ) → Fits w8 (get_or b i 0)) → Under 256 b
are_bytes h = record { below = λ i. omega (arith, h i) }

pub overlaid_none : (b : List ℕ) → b ≡ overlaid [] b
unfolding overlaid encode
overlaid_none b = refl

overlaid_is : (xs b : List ℕ) → 2 * length xs ≤ length b → overlaid xs b ≡ sets b 0 (encode 2 xs)
unfolding overlaid
overlaid_is xs b h =
    let e = length_encode 2 xs in
    rw (sym e) (sym (sets_front b (encode 2 xs) (omega arith)))

encode_append : (xs ys : List ℕ) → encode 2 (xs ++ ys) ≡ encode 2 xs ++ encode 2 ys
unfolding encode
encode_append [] ys = refl
encode_append (x ∷ xs) ys = ap (λ (l : List ℕ). bytes 2 x ++ l) (encode_append xs ys)

-- bytes of entries stored behind the entries in front
overlaid_behind :
    (xs ys b : List ℕ)
    → 2 * length xs + 2 * length ys ≤ length b
    → sets (overlaid xs b) (2 * length xs) (encode 2 ys) ≡ overlaid (xs ++ ys) b
overlaid_behind xs ys b h =
    let n : length (xs ++ ys) ≡ length xs + length ys = length-append xs ys in
    let e : 2 * length xs ≡ 0 + length (encode 2 xs) = omega (arith, length_encode 2 xs) in
    ap (λ (l : List ℕ). sets l (2 * length xs) (encode 2 ys)) (overlaid_is xs b (omega arith))
    ∙ ap (λ (k : ℕ). sets (sets b 0 (encode 2 xs)) k (encode 2 ys)) e
    ∙ sym (sets_append (encode 2 xs) (encode 2 ys) b 0)
    ∙ ap (sets b 0) (sym (encode_append xs ys))
    ∙ sym (overlaid_is (xs ++ ys) b (omega arith))

pub length_overlaid : (xs b : List ℕ) → 2 * length xs ≤ length b → length (overlaid xs b) ≡ length b
unfolding overlaid
length_overlaid xs b h =
    omega (arith, length-append (encode 2 xs) (drop (2 * length xs) b), length_encode 2 xs, length-drop (2 * length xs) b)

pub overlaid_bytes :
    (s b : List ℕ) → Whole s → Under 256 s → length s ≤ length b → sets b 0 s ≡ overlaid (entries s) b
overlaid_bytes s b w u h =
    let e = encode_entries s w u in
    ap (sets b 0) (sym e) ∙ sym (overlaid_is (entries s) b (omega (arith, length_entries s)))

pub overlaid_more :
    (xs s b : List ℕ) (at : ℕ)
    → at ≡ 2 * length xs
    → Whole s
    → Under 256 s
    → at + length s ≤ length b
    → sets (overlaid xs b) at s ≡ overlaid (xs ++ entries s) b
overlaid_more xs s b at e w u h =
    rw e (ap (sets (overlaid xs b) (2 * length xs)) (sym (encode_entries s w u)) ∙ overlaid_behind xs (entries s) b (omega (arith, length_entries s)))

pub encode_one : (x : ℕ) → encode 2 (x ∷ []) ≡ bytes 2 x
unfolding encode
encode_one x = refl

pub overlaid_put :
    (xs b : List ℕ) (i x : ℕ)
    → i ≡ length xs
    → 2 * i + 2 ≤ length b
    → put_number 2 (overlaid xs b) i x ≡ overlaid (xs ++ (x ∷ [])) b
overlaid_put xs b i x e h = rw e (overlaid-one xs b x (omega (arith, length_overlaid xs b (omega arith))))

pub overlaid_back : (s b : List ℕ) → Whole s → Under 256 s → overlaid (entries s) b ≡ s ++ drop (length s) b
unfolding overlaid
overlaid_back s b w u =
    let e : 2 * length (entries s) ≡ length s = omega (arith, length_entries s, w.even) in
    rw (encode_entries s w u, e)
