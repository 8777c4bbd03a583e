-- Laws on house lists: numbers of w bytes each, entries (w is 2) and words (w is 8).
--
--   Under m l        == every element of l is below m
--   under_nil, under_cons, under_tail, under_append, under_take, under_drop == of such a list
--   length_bytes, bytes_under, le_bytes == the bytes of a number: how many, below 256, and the number again
--   le_take_under, le_under == the number of some bytes is below a power of 256
--   bytes_le         == the bytes of the number of some bytes are these
--   length_numbers, length_entries, length_words == how many numbers there are
--   get_d_numbers    == number i is the number of the w bytes from w * i
--   le_chunk         == number i is that of the bytes of chunk i, and 0 past the end, where they are zeros
--   le_two, le_eight == the number of two or eight bytes is what std's `from_le_bytes` reads
--   numbers_under, entries_under, words_under == how large a number can be
--   put_number_in, put_number_out == a number that is whole is stored; for another nothing is
--   number_fits, put_number_past == a number that is there is whole; where it is not nothing changes
--   length_put_number, numbers_put, entries_put, words_put == after a number is put: the length, and the numbers
--   numbers_append, entries_append == the numbers of two lists that are joined where a number ends
--   length_encode, encode_under, numbers_encode, entries_encode, encode_numbers, encode_entries == encoding and reading
--                       are each other's inverse
--   eight_same, eight_words == the first eight of eight words are these
use Prim.Native.Nat.{ℕ, zero, suc, ◌+◌, ◌*◌, ◌/◌, ◌%◌, ◌^◌, ◌<◌, ◌≤◌}
use mathlib.Core.Path.{◌≡◌, refl, sym, ap, ◌∙◌}
use mathlib.Core.Bool.{Bool, true, false, cond}
use mathlib.Core.List.{List, [], ◌∷◌, ◌++◌}
use native.Mathlib.Nat.{mul-suc, mul-zero, add_comm, zero-add, add-suc, suc-add}
use native.Mathlib.Nat.{mul_comm, mul-le-mul_left, div-lt_iff_lt-mul, le-div_iff_mul-le, pow-suc, one-le-pow}
use native.Mathlib.Decide.{dec_lt}
use native.Mathlib.Omega.{arith}
use borrow.Author.Tests.{le-leb, lt-leb}
use lib.Dec.{leb}
use lib.ListN.{length, get_or, take, drop, set, replicate, length-append, length-drop}
use lib.Seq.{
  drop-drop,
  drop-set-add,
  take-set-le,
  sets,
  sets-eq,
  set_out,
  length-sets,
  length-take-le,
  take-length,
  take_at,
  drop_at,
  take_all,
  take-append-le,
  drop-append-le,
  take-add,
  get_or-drop,
}
use Rattle.std.specs.Int.{w16, w64, from_le_bytes}
use Rattle.std.specs.Simd.{first_chunks}
use Rattle.house.specs.Numbers.{le, bytes, numbers, entries, words, eight, put_number, encode, Whole}

pub record Under (m : ℕ) (l : List ℕ) : Type 0 where
  pub below : (k : ℕ) → get_or l k 0 < m

pub under_tail : {m a : ℕ} {l : List ℕ} → Under m (a ∷ l) → Under m l
under_tail u = record { below = λ k. u.below (suc k) }

pub under_cons : {m a : ℕ} {l : List ℕ} → a < m → Under m l → Under m (a ∷ l)
under_cons {m} {a} {l} h u = record { below = go }
  where
    go : (k : ℕ) → get_or (a ∷ l) k 0 < m
    go zero = h
    go (suc k) = u.below k

pub under_nil : {m : ℕ} → 0 < m → Under m []
under_nil h = record { below = λ k. h }

pub under_append : {m : ℕ} (a b : List ℕ) → Under m a → Under m b → Under m (a ++ b)
under_append [] b u v = v
under_append (x ∷ a) b u v = under_cons (u.below 0) (under_append a b (under_tail u) v)

pub under_drop : {m : ℕ} (w : ℕ) (b : List ℕ) → Under m b → Under m (drop w b)
under_drop w b u = record { below = λ k. rw (get_or-drop w b k 0) (u.below (w + k)) }

pub under_take : {m : ℕ} (w : ℕ) (b : List ℕ) → 0 < m → Under m b → Under m (take w b)
under_take zero b h u = under_nil h
under_take (suc w) [] h u = under_nil h
under_take (suc w) (a ∷ b) h u = under_cons (u.below 0) (under_take w b h (under_tail u))

pub length_bytes : (w x : ℕ) → length (bytes w x) ≡ w
unfolding bytes
length_bytes zero x = refl
length_bytes (suc w) x = ap suc (length_bytes w (x / 256))

pub bytes_under : (w x : ℕ) → Under 256 (bytes w x)
unfolding bytes
bytes_under zero x = under_nil (omega arith)
bytes_under (suc w) x = under_cons (omega arith) (bytes_under w (x / 256))

pub le_bytes : (w x : ℕ) → x < 256 ^ w → le (bytes w x) ≡ x
unfolding bytes le
le_bytes zero x h = omega arith
le_bytes (suc w) x h =
    let e : le (bytes w (x / 256)) ≡ x / 256 = le_bytes w (x / 256) ((div-lt_iff_lt-mul (omega arith)).1 (rw (pow-suc 256 w) at h)) in
    omega arith

pub le_take_under : (w : ℕ) (l : List ℕ) → Under 256 l → le (take w l) < 256 ^ w
unfolding le
le_take_under zero l u = omega arith
le_take_under (suc w) [] u = one-le-pow (suc w) 256 (omega arith)
le_take_under (suc w) (a ∷ l) u = rw (pow-suc 256 w) (omega (arith, u.below 0, le_take_under w l (under_tail u)))

pub le_under : (l : List ℕ) → Under 256 l → le l < 256 ^ length l
le_under l u = rw (take-length l) at (le_take_under (length l) l u)

pub bytes_le : (l : List ℕ) → Under 256 l → bytes (length l) (le l) ≡ l
unfolding bytes le
bytes_le [] u = refl
bytes_le (a ∷ l) u =
    let d : (a + 256 * le l) / 256 ≡ le l = omega (arith, u.below 0) in
    let m : (a + 256 * le l) % 256 ≡ a = omega (arith, u.below 0) in
    rw (d, m) (ap (λ (x : List ℕ). a ∷ x) (bytes_le l (under_tail u)))

pub length_numbers : (w n : ℕ) (b : List ℕ) → length (numbers w n b) ≡ n
unfolding numbers
length_numbers w zero b = refl
length_numbers w (suc n) b = ap suc (length_numbers w n (drop w b))

pub length_entries : (b : List ℕ) → length (entries b) ≡ length b / 2
unfolding entries
length_entries b = length_numbers 2 (length b / 2) b

pub length_words : (b : List ℕ) → length (words b) ≡ length b / 8
unfolding words
length_words b = length_numbers 8 (length b / 8) b

pub get_d_numbers : (w n : ℕ) (b : List ℕ) (i : ℕ) → i < n → get_or (numbers w n b) i 0 ≡ le (take w (drop (w * i) b))
unfolding numbers
get_d_numbers w zero b i h = absurd (omega arith)
get_d_numbers w (suc n) b zero h = rw mul-zero refl
get_d_numbers w (suc n) b (suc i) h =
    get_d_numbers w n (drop w b) i (omega arith)
    ∙ ap (λ (l : List ℕ). le (take w l)) (drop-drop (w * i) w b ∙ rw (mul-suc w i, add_comm (w * i) w) refl)

pub eight_same : (ws : List ℕ) → length ws ≡ 8 → eight ws ≡ ws
eight_same [] e = absurd (omega arith)
eight_same (a ∷ []) e = absurd (omega arith)
eight_same (a ∷ b ∷ []) e = absurd (omega arith)
eight_same (a ∷ b ∷ c ∷ []) e = absurd (omega arith)
eight_same (a ∷ b ∷ c ∷ d ∷ []) e = absurd (omega arith)
eight_same (a ∷ b ∷ c ∷ d ∷ f ∷ []) e = absurd (omega arith)
eight_same (a ∷ b ∷ c ∷ d ∷ f ∷ g ∷ []) e = absurd (omega arith)
eight_same (a ∷ b ∷ c ∷ d ∷ f ∷ g ∷ h ∷ []) e = absurd (omega arith)
eight_same (a ∷ b ∷ c ∷ d ∷ f ∷ g ∷ h ∷ i ∷ []) e = refl
eight_same (a ∷ b ∷ c ∷ d ∷ f ∷ g ∷ h ∷ i ∷ j ∷ ws) e = absurd (omega arith)

le_zeros : (w : ℕ) → le (replicate w 0) ≡ 0
unfolding le
le_zeros zero = refl
le_zeros (suc w) = omega (arith, le_zeros w)

pub le_chunk : (w n : ℕ) (b : List ℕ) (i : ℕ) → le (get_or (first_chunks w n b) i (replicate w 0)) ≡ get_or (numbers w n b) i 0
unfolding numbers
le_chunk w zero b i = le_zeros w
le_chunk w (suc n) b zero = refl
le_chunk w (suc n) b (suc i) = le_chunk w n (drop w b) i

pub le_two : (l : List ℕ) → length l ≡ 2 → from_le_bytes w16 l ≡ le l
unfolding le
le_two [] e = absurd (omega arith)
le_two (a ∷ []) e = absurd (omega arith)
le_two (a ∷ b ∷ []) e = omega arith
le_two (a ∷ b ∷ c ∷ l) e = absurd (omega arith)

pub le_eight : (l : List ℕ) → length l ≡ 8 → from_le_bytes w64 l ≡ le l
unfolding le
le_eight l e = omega (arith, ap le (eight_same l e))

pub numbers_under : (w n : ℕ) (b : List ℕ) → Under 256 b → Under (256 ^ w) (numbers w n b)
unfolding numbers
numbers_under w zero b u = under_nil (one-le-pow w 256 (omega arith))
numbers_under w (suc n) b u =
    under_cons (le_take_under w b u) (numbers_under w n (drop w b) (under_drop w b u))

pub entries_under : (b : List ℕ) → Under 256 b → Under 65536 (entries b)
unfolding entries
entries_under b u = numbers_under 2 (length b / 2) b u

pub words_under : (b : List ℕ) → Under 256 b → Under (2 ^ 64) (words b)
unfolding words
words_under b u = numbers_under 8 (length b / 8) b u

-- storing past the first w elements leaves these, and is storing in the rest
take_sets : (w : ℕ) (vs b : List ℕ) (j : ℕ) → take w (sets b (w + j) vs) ≡ take w b
take_sets w [] b j = refl
take_sets w (v ∷ vs) b j =
    rw (sym (add-suc w j)) (take_sets w vs (set b (w + j) v) (suc j) ∙ take-set-le w b (w + j) v (omega arith))

drop_sets : (w : ℕ) (vs b : List ℕ) (j : ℕ) → drop w (sets b (w + j) vs) ≡ sets (drop w b) j vs
drop_sets w [] b j = refl
drop_sets w (v ∷ vs) b j =
    rw (sym (add-suc w j)) (drop_sets w vs (set b (w + j) v) (suc j) ∙ ap (λ (l : List ℕ). sets l (suc j) vs) (drop-set-add w b j v))

sets_front : (vs b : List ℕ) (w : ℕ) → length vs ≡ w → w ≤ length b → sets b (w * 0) vs ≡ vs ++ drop w b
sets_front vs b w e h = rw (mul-zero w, sets-eq vs b 0 (omega arith), zero-add (length vs), e) refl

-- bytes stored at a whole number
numbers_sets : (w n : ℕ) (b : List ℕ) (i x : ℕ) → x < 256 ^ w → w * i + w ≤ length b
    → numbers w n (sets b (w * i) (bytes w x)) ≡ set (numbers w n b) i x
unfolding numbers
numbers_sets w zero b i x hx h = refl
numbers_sets w (suc n) b zero x hx h =
    rw (
      sets_front (bytes w x) b w (length_bytes w x) (omega (arith, mul-zero w)),
      take_at (bytes w x) (drop w b) w (length_bytes w x),
      drop_at (bytes w x) (drop w b) w (length_bytes w x),
      le_bytes w x hx,
    )
numbers_sets w (suc n) b (suc i) x hx h =
    let e : w * suc i ≡ w + w * i = omega (arith, mul-suc w i) in
    rw (e, take_sets w (bytes w x) b (w * i), drop_sets w (bytes w x) b (w * i))
    (ap (λ (l : List ℕ). le (take w b) ∷ l) (numbers_sets w n (drop w b) i x hx (omega (arith, length-drop w b))))

pub length_put_number : (w : ℕ) (b : List ℕ) (i x : ℕ) → length (put_number w b i x) ≡ length b
unfolding put_number
length_put_number w b i x = go (leb (w * i + w) (length b))
  where
    go : (t : Bool) → length (cond t (sets b (w * i) (bytes w x)) b) ≡ length b
    go true = length-sets b (w * i) (bytes w x)
    go false = refl

pub put_number_in : (w : ℕ) (b : List ℕ) (i x : ℕ) → w * i + w ≤ length b → put_number w b i x ≡ sets b (w * i) (bytes w x)
unfolding put_number
put_number_in w b i x h = rw (le-leb _ _ h)

pub put_number_out : (w : ℕ) (b : List ℕ) (i x : ℕ) → length b < w * i + w → put_number w b i x ≡ b
unfolding put_number
put_number_out w b i x h = rw (lt-leb _ _ h)

pub number_fits : (w i n : ℕ) → 0 < w → i < n / w → w * i + w ≤ n
number_fits w i n h l = omega (arith, mul-suc w i, mul_comm w (suc i), (le-div_iff_mul-le h).0 l)

pub put_number_past : (w : ℕ) (b : List ℕ) (i x : ℕ) → 0 < w → length b / w ≤ i → put_number w b i x ≡ b
put_number_past w b i x h l =
    let d : length b / w < suc i = omega arith in
    put_number_out w b i x (omega (arith, mul-suc w i, mul_comm w (suc i), (div-lt_iff_lt-mul h).0 d))

pub numbers_put : (w n : ℕ) (b : List ℕ) (i x : ℕ) → x < 256 ^ w → w * n ≤ length b
    → numbers w n (put_number w b i x) ≡ set (numbers w n b) i x
numbers_put w n b i x hx h = go (dec_lt (length b) (w * i + w))
  where
    past : length b < w * i + w → Dec (i < n) → n ≤ i
    past l (yes k) = absurd (omega (arith, mul-suc w i, mul-le-mul_left w k))
    past l (no k) = omega arith

    go : Dec (length b < w * i + w) → numbers w n (put_number w b i x) ≡ set (numbers w n b) i x
    go (yes l) =
        rw (put_number_out w b i x l) (sym (set_out (numbers w n b) i x (rw (length_numbers w n b) (past l (dec_lt i n)))))
    go (no l) = rw (put_number_in w b i x (omega arith)) (numbers_sets w n b i x hx (omega arith))

pub entries_put : (b : List ℕ) (i x : ℕ) → x < 65536 → entries (put_number 2 b i x) ≡ set (entries b) i x
unfolding entries
entries_put b i x hx = rw (length_put_number 2 b i x) (numbers_put 2 (length b / 2) b i x hx (omega arith))

pub words_put : (b : List ℕ) (i x : ℕ) → x < 2 ^ 64 → words (put_number 8 b i x) ≡ set (words b) i x
unfolding words
words_put b i x hx = rw (length_put_number 8 b i x) (numbers_put 8 (length b / 8) b i x hx (omega arith))

pub numbers_append : (w m n : ℕ) (a b : List ℕ) → length a ≡ w * m → numbers w (m + n) (a ++ b) ≡ numbers w m a ++ numbers w n b
unfolding numbers
numbers_append w zero n [] b e = rw (zero-add n)
numbers_append w zero n (x ∷ a) b e = absurd (omega (arith, mul-zero w))
numbers_append w (suc m) n a b e =
    let f : w * suc m ≡ w + w * m = omega (arith, mul-suc w m) in
    rw (suc-add m n, take-append-le w a b (omega arith), drop-append-le w a b (omega arith))
    (ap (λ (l : List ℕ). le (take w a) ∷ l) (numbers_append w m n (drop w a) b (omega (arith, length-drop w a))))

pub entries_append : (a b : List ℕ) → Whole a → entries (a ++ b) ≡ entries a ++ entries b
unfolding entries
entries_append a b h =
    let e : length (a ++ b) / 2 ≡ length a / 2 + length b / 2 = omega (arith, length-append a b, h.even) in
    rw e (numbers_append 2 (length a / 2) (length b / 2) a b (omega (arith, h.even)))

pub length_encode : (w : ℕ) (xs : List ℕ) → length (encode w xs) ≡ w * length xs
unfolding encode
length_encode w [] = sym (mul-zero w)
length_encode w (x ∷ xs) = omega (arith, length-append (bytes w x) (encode w xs), length_bytes w x, length_encode w xs, mul-suc w (length xs))

pub encode_under : (w : ℕ) (xs : List ℕ) → Under 256 (encode w xs)
unfolding encode
encode_under w [] = under_nil (omega arith)
encode_under w (x ∷ xs) = under_append (bytes w x) (encode w xs) (bytes_under w x) (encode_under w xs)

pub numbers_encode : (w : ℕ) (xs : List ℕ) → Under (256 ^ w) xs → numbers w (length xs) (encode w xs) ≡ xs
unfolding numbers encode
numbers_encode w [] u = refl
numbers_encode w (x ∷ xs) u =
    rw (
      take_at (bytes w x) (encode w xs) w (length_bytes w x),
      drop_at (bytes w x) (encode w xs) w (length_bytes w x),
      le_bytes w x (u.below 0),
    )
    (ap (λ (l : List ℕ). x ∷ l) (numbers_encode w xs (under_tail u)))

pub entries_encode : (xs : List ℕ) → Under 65536 xs → entries (encode 2 xs) ≡ xs
unfolding entries
entries_encode xs u =
    let e : length (encode 2 xs) / 2 ≡ length xs = omega (arith, length_encode 2 xs) in
    rw e (numbers_encode 2 xs u)

pub encode_numbers : (w n : ℕ) (b : List ℕ) → Under 256 b → w * n ≤ length b → encode w (numbers w n b) ≡ take (w * n) b
unfolding numbers encode
encode_numbers w zero b u h = rw mul-zero
encode_numbers w (suc n) b u h =
    let e : w * suc n ≡ w + w * n = omega (arith, mul-suc w n) in
    let l : length (take w b) ≡ w = length-take-le w b (omega arith) in
    let f : bytes w (le (take w b)) ≡ take w b = rw l at (bytes_le (take w b) (under_take w b (omega arith) u)) in
    rw (f, e, take-add w (w * n) b)
    (ap (λ (r : List ℕ). take w b ++ r) (encode_numbers w n (drop w b) (under_drop w b u) (omega (arith, length-drop w b))))

pub encode_entries : (b : List ℕ) → Whole b → Under 256 b → encode 2 (entries b) ≡ b
unfolding entries
encode_entries b h u =
    encode_numbers 2 (length b / 2) b u (omega arith) ∙ take_all (2 * (length b / 2)) b (omega (arith, h.even))

pub eight_words : (b : List ℕ) → length b ≡ 64 → eight (words b) ≡ words b
eight_words b e = eight_same (words b) (omega (arith, length_words b))
