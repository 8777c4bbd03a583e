-- Laws on sets of ids. A set of nodes is eight words below 2 ^ 64.
--
--   Set ws           == ws is eight words below 2 ^ 64
--   has_at           == the id 64 k + j is bit j of word k
--   has_none, has_zeros, size_zeros, zeros_set == of a set whose words are 0: nothing is in it
--   eight_set        == the first eight words of some bytes are a set
--   has_past         == nothing from 512 on is in a set of eight words
--   has_put_same, has_put_other == what is in a set after an id is put
--   length_put, put_set == a set stays one
--   size_put         == an id that was not in a set makes it larger by one
--   put_or, one_shifted == putting an id is a bitwise or in its word
--   size_sum         == the size of a set is the sum of its words' ones
--   put_out          == putting an id that has no word changes nothing
--   sets_same        == two sets with the same members are equal
--   size_count       == the size is the number of members
--   first_here, none_here == looking for the lowest id word by word
--   lowest_one       == a set has one lowest id
use Prim.Native.Nat.{ℕ, zero, suc, ◌+◌, ◌-◌, ◌*◌, ◌/◌, ◌%◌, ◌^◌, ◌<◌, ◌≤◌}
use mathlib.Core.Path.{◌≡◌, refl, sym, ap, ap₂, ◌∙◌}
use mathlib.Core.Bool.{Bool, true, false, cond}
use mathlib.Core.List.{List, [], ◌∷◌}
use mathlib.Core.Logic.{◌≢◌}
use native.Mathlib.Nat.{one-mul, mod-eq_of_lt}
use native.Mathlib.Decide.{dec_lt, ℕ_discrete}
use native.Mathlib.Omega.{arith}
use lib.Bits.{bit_or}
use lib.Count.{ones, count_trailing_zeros}
use lib.Pow.{pow-lt, shr-shr}
use lib.ListN.{length, get_or, set, replicate, length-set, get_or-eq_default}
use lib.Seq.{set_out, get_or-set_same, get_or-set_other, set-get_or, ext_get_or}
use Rattle.std.specs.Prelude.{Some}
use Rattle.std.specs.List.{sum_by}
use Rattle.std.proofs.lemmas.List.Sums.{sum_by-cons}
use Rattle.std.proofs.lemmas.Bool.{true≢false}
use Rattle.house.specs.Numbers.{words, eight}
use Rattle.house.specs.Sets.{bit, has, put, size, count_below, Lowest}
use Rattle.house.specs.Finds.{Finds, found}
use Rattle.house.proofs.NumberLaws.{Under, under_nil, under_tail, under_cons, words_under}
use Rattle.house.proofs.BitLaws.{
  bit_zero,
  bit_raise_same,
  bit_raise_other,
  raise_below,
  ones_raise,
  or_raise,
  bits_same,
  trailing_none,
  trailing_one,
  count_below_split,
  count_below_same,
  ones_count,
}

pub record Set (ws : List ℕ) : Type 0 where
  pub eight_long : length ws ≡ 8
  pub words_fit : Under (2 ^ 64) ws

pub has_at : (ws : List ℕ) (k j : ℕ) → j < 64 → has ws (64 * k + j) ≡ bit (get_or ws k 0) j
unfolding has
has_at ws k j h =
    let d : (64 * k + j) / 64 ≡ k = omega arith in
    let m : (64 * k + j) % 64 ≡ j = omega arith in
    rw (d, m)

-- an id without a word
has_out : (ws : List ℕ) (i : ℕ) → length ws ≤ i / 64 → has ws i ≡ false
unfolding has
has_out ws i h = rw (get_or-eq_default ws 0 h) (bit_zero (i % 64))

pub has_past : (ws : List ℕ) (i : ℕ) → length ws ≡ 8 → 512 ≤ i → has ws i ≡ false
has_past ws i e h = has_out ws i (omega arith)

pub has_none : (ws : List ℕ) (i : ℕ) → ((k : ℕ) → get_or ws k 0 ≡ 0) → has ws i ≡ false
unfolding has
has_none ws i f = rw (f (i / 64)) (bit_zero (i % 64))

zeros_at : (n k : ℕ) → ◌≡◌ {A = ℕ} (get_or (replicate n 0) k 0) 0
zeros_at zero k = refl
zeros_at (suc n) zero = refl
zeros_at (suc n) (suc k) = zeros_at n k

pub has_zeros : (n i : ℕ) → has (replicate n 0) i ≡ false
has_zeros n i = has_none (replicate n 0) i (zeros_at n)

pub size_zeros : (n : ℕ) → size (replicate n 0) ≡ 0
unfolding size ones
size_zeros zero = refl
size_zeros (suc n) = omega (arith, size_zeros n)

pub zeros_set : Set (replicate 8 0)
zeros_set = record { eight_long = refl; words_fit = record { below = λ k. rw (zeros_at 8 k) (omega arith) } }

pub eight_set : (b : List ℕ) → Under 256 b → Set (eight (words b))
eight_set b u =
    let w = (words_under b u).below in
    record {
      eight_long = refl;
      words_fit =
          under_cons (w 0) (under_cons (w 1) (under_cons (w 2) (under_cons (w 3)
          (under_cons (w 4) (under_cons (w 5) (under_cons (w 6) (under_cons (w 7) (under_nil (omega arith)))))))));
    }

-- the two ways of `put`
put_known : (ws : List ℕ) (i : ℕ) → has ws i ≡ true → put ws i ≡ ws
unfolding put
put_known ws i e = rw e

put_fresh : (ws : List ℕ) (i : ℕ) → has ws i ≡ false → put ws i ≡ set ws (i / 64) (get_or ws (i / 64) 0 + 2 ^ (i % 64))
unfolding put
put_fresh ws i e = rw e

pub put_out : (ws : List ℕ) (i : ℕ) → length ws ≤ i / 64 → put ws i ≡ ws
put_out ws i h = put_fresh ws i (has_out ws i h) ∙ set_out ws (i / 64) (get_or ws (i / 64) 0 + 2 ^ (i % 64)) h

pub put_or : (ws : List ℕ) (i : ℕ) → set ws (i / 64) (bit_or (get_or ws (i / 64) 0) (2 ^ (i % 64))) ≡ put ws i
unfolding put has
put_or ws i = rw (or_raise (get_or ws (i / 64) 0) (i % 64)) (go (bit (get_or ws (i / 64) 0) (i % 64)))
  where
    go : (t : Bool) → set ws (i / 64) (cond t (get_or ws (i / 64) 0) (get_or ws (i / 64) 0 + 2 ^ (i % 64)))
        ≡ cond t ws (set ws (i / 64) (get_or ws (i / 64) 0 + 2 ^ (i % 64)))
    go true = set-get_or ws (i / 64) 0
    go false = refl

-- a one shifted by less than 64 loses nothing
pub one_shifted : (j : ℕ) → j < 64 → (1 * 2 ^ j) % 2 ^ 64 ≡ 2 ^ j
one_shifted j h = rw (one-mul (2 ^ j)) (mod-eq_of_lt (pow-lt h))

pub length_put : (ws : List ℕ) (i : ℕ) → length (put ws i) ≡ length ws
length_put ws i = go (has ws i) refl
  where
    go : (t : Bool) → has ws i ≡ t → length (put ws i) ≡ length ws
    go true e = ap length (put_known ws i e)
    go false e = ap length (put_fresh ws i e) ∙ simp length-set

pub has_put_same : (ws : List ℕ) (i : ℕ) → i < 64 * length ws → has (put ws i) i ≡ true
unfolding has
has_put_same ws i h = go (has ws i) refl
  where
    go : (t : Bool) → has ws i ≡ t → has (put ws i) i ≡ true
    go true e = rw (put_known ws i e) e
    go false e =
        rw (put_fresh ws i e, get_or-set_same ws (i / 64) (get_or ws (i / 64) 0 + 2 ^ (i % 64)) 0 (omega arith))
        (bit_raise_same (get_or ws (i / 64) 0) (i % 64) e)

pub has_put_other : (ws : List ℕ) (i j : ℕ) → j ≢ i → has (put ws i) j ≡ has ws j
unfolding has
has_put_other ws i j n = go (has ws i) refl (dec_lt (i / 64) (length ws)) (ℕ_discrete (j / 64) (i / 64))
  where
    go : (t : Bool) → has ws i ≡ t → Dec (i / 64 < length ws) → Dec (j / 64 ≡ i / 64) → has (put ws i) j ≡ has ws j
    go true e d f = rw (put_known ws i e)
    go false e (no d) f = rw (put_out ws i (omega arith))
    go false e (yes d) (no f) = rw (put_fresh ws i e, get_or-set_other ws (i / 64) (j / 64) (get_or ws (i / 64) 0 + 2 ^ (i % 64)) 0 f)
    go false e (yes d) (yes f) =
        rw (put_fresh ws i e, f, get_or-set_same ws (i / 64) (get_or ws (i / 64) 0 + 2 ^ (i % 64)) 0 d)
        (bit_raise_other (get_or ws (i / 64) 0) (i % 64) (j % 64) e (λ m. n (omega arith)))

under_set : {m : ℕ} (l : List ℕ) (k v : ℕ) → v < m → Under m l → Under m (set l k v)
under_set [] k v h u = u
under_set (a ∷ l) zero v h u = under_cons h (under_tail u)
under_set (a ∷ l) (suc k) v h u = under_cons (u.below 0) (under_set l k v h (under_tail u))

pub put_set : {ws : List ℕ} (i : ℕ) → Set ws → Set (put ws i)
unfolding has
put_set {ws} i s = record { eight_long = length_put ws i ∙ s.eight_long; words_fit = go (has ws i) refl }
  where
    go : (t : Bool) → has ws i ≡ t → Under (2 ^ 64) (put ws i)
    go true e = rw (put_known ws i e) s.words_fit
    go false e =
        rw (put_fresh ws i e)
        (under_set ws (i / 64) (get_or ws (i / 64) 0 + 2 ^ (i % 64))
        (raise_below 64 (get_or ws (i / 64) 0) (i % 64) e (omega arith) (s.words_fit.below (i / 64)))
        s.words_fit)

pub size_sum : (ws : List ℕ) → sum_by ones ws ≡ size ws
unfolding size
size_sum [] = refl
size_sum (w ∷ ws) = omega (arith, sum_by-cons ones w ws, size_sum ws)

size_set : (ws : List ℕ) (k v : ℕ) → k < length ws → size (set ws k v) + ones (get_or ws k 0) ≡ size ws + ones v
unfolding size
size_set [] k v h = absurd (omega arith)
size_set (w ∷ ws) zero v h = omega arith
size_set (w ∷ ws) (suc k) v h = omega (arith, size_set ws k v (omega arith))

pub size_put : (ws : List ℕ) (i : ℕ) → i < 64 * length ws → has ws i ≡ false → size (put ws i) ≡ suc (size ws)
unfolding has
size_put ws i h e =
    rw (put_fresh ws i e)
    (omega (
      arith,
      size_set ws (i / 64) (get_or ws (i / 64) 0 + 2 ^ (i % 64)) (omega arith),
      ones_raise (get_or ws (i / 64) 0) (i % 64) e,
    ))

pub sets_same : {ws vs : List ℕ} → Set ws → Set vs → ((i : ℕ) → i < 512 → has ws i ≡ has vs i) → ws ≡ vs
sets_same {ws} {vs} s t f =
    ext_get_or 0 ws vs (s.eight_long ∙ sym t.eight_long) (λ k h.
    bits_same 64 (get_or ws k 0) (get_or vs k 0) (s.words_fit.below k) (t.words_fit.below k) (λ j l.
    sym (has_at ws k j l) ∙ f (64 * k + j) (omega (arith, s.eight_long)) ∙ has_at vs k j l))

-- what is in a set with one word more in front
has_first : (w : ℕ) (ws : List ℕ) (i : ℕ) → i < 64 → bit w i ≡ has (w ∷ ws) i
unfolding has
has_first w ws i h =
    let d : i / 64 ≡ 0 = omega arith in
    let m : i % 64 ≡ i = omega arith in
    rw (d, m)

has_later : (w : ℕ) (ws : List ℕ) (i : ℕ) → has ws i ≡ has (w ∷ ws) (64 + i)
unfolding has
has_later w ws i =
    let d : (64 + i) / 64 ≡ suc (i / 64) = omega arith in
    let m : (64 + i) % 64 ≡ i % 64 = omega arith in
    rw (d, m)

count_below_zero : (f : ℕ → Bool) → count_below 0 f ≡ 0
unfolding count_below
count_below_zero f = refl

size_count_all : (ws : List ℕ) → Under (2 ^ 64) ws → size ws ≡ count_below (64 * length ws) (has ws)
unfolding size
size_count_all [] u = sym (count_below_zero (has []))
size_count_all (w ∷ ws) u =
    let e : 64 + 64 * length ws ≡ 64 * suc (length ws) = omega arith in
    ap₂ ◌+◌
    (ones_count 64 w (u.below 0) ∙ count_below_same (bit w) (has (w ∷ ws)) 64 (has_first w ws))
    (size_count_all ws (under_tail u)
    ∙ count_below_same (has ws) (λ i. has (w ∷ ws) (64 + i)) (64 * length ws) (λ i l. has_later w ws i))
    ∙ sym (count_below_split (has (w ∷ ws)) 64 (64 * length ws))
    ∙ ap (λ (n : ℕ). count_below n (has (w ∷ ws))) e

pub size_count : {ws : List ℕ} → Set ws → size ws ≡ count_below 512 (has ws)
size_count {ws} s =
    let e : 64 * length ws ≡ 512 = omega (arith, s.eight_long) in
    size_count_all ws s.words_fit ∙ ap (λ (n : ℕ). count_below n (has ws)) e

-- an id of the word that `at` lies in, as a bit of that word without its bits below `at`
has_beyond : (ws : List ℕ) (at i : ℕ) → at % 64 + i < 64 → has ws (at + i) ≡ bit (get_or ws (at / 64) 0 / 2 ^ (at % 64)) i
unfolding has bit
has_beyond ws at i h =
    let d : (at + i) / 64 ≡ at / 64 = omega arith in
    let m : (at + i) % 64 ≡ at % 64 + i = omega arith in
    rw (d, m, shr-shr (get_or ws (at / 64) 0) (at % 64) i)

none_more : (ws : List ℕ) (from at i : ℕ) → ((j : ℕ) → from ≤ j → j < at → has ws j ≡ false) → from ≤ i
    → i < at + count_trailing_zeros 64 (get_or ws (at / 64) 0 / 2 ^ (at % 64)) → i < 64 * (at / 64) + 64 → has ws i ≡ false
none_more ws from at i f g h l = go (dec_lt i at)
  where
    go : Dec (i < at) → has ws i ≡ false
    go (yes d) = f i g d
    go (no d) =
        let s : at + (i - at) ≡ i = omega arith in
        rw s at (has_beyond ws at (i - at) (omega arith) ∙ trailing_none 64 (get_or ws (at / 64) 0 / 2 ^ (at % 64)) (i - at) (omega arith))

-- word k has no one from the id `at` in it on
pub none_here : (ws : List ℕ) (from at k i : ℕ) → at / 64 ≡ k → ((j : ℕ) → from ≤ j → j < at → has ws j ≡ false)
    → 64 ≤ at % 64 + count_trailing_zeros 64 (get_or ws k 0 / 2 ^ (at % 64)) → from ≤ i → i < 64 * (k + 1) → has ws i ≡ false
none_here ws from at k i e f l g h =
    let m : 64 ≤ at % 64 + count_trailing_zeros 64 (get_or ws (at / 64) 0 / 2 ^ (at % 64)) = rw e l in
    none_more ws from at i f g (omega arith) (omega arith)

-- the lowest one of word k, from the id `at` in it on
pub first_here :
    (ws : List ℕ) (from at k : ℕ)
    → at / 64 ≡ k
    → k < 8
    → from ≤ at
    → ((i : ℕ) → from ≤ i → i < at → has ws i ≡ false)
    → at % 64 + count_trailing_zeros 64 (get_or ws k 0 / 2 ^ (at % 64)) < 64
    → Finds (λ i. (from ≤ i) × (has ws i ≡ true)) 512 (Some (at + count_trailing_zeros 64 (get_or ws k 0 / 2 ^ (at % 64))))
first_here ws from at k e h a f l =
    let z = count_trailing_zeros 64 (get_or ws (at / 64) 0 / 2 ^ (at % 64)) in
    let m : at % 64 + z < 64 = rw e l in
    rw (sym e)
    (found {r = at + z}
    (omega arith)
    (omega arith, has_beyond ws at z m ∙ trailing_one 64 (get_or ws (at / 64) 0 / 2 ^ (at % 64)) (omega arith))
    (λ i g p. true≢false (sym p.1 ∙ none_more ws from at i f p.0 (omega arith) (omega arith))))

pub lowest_one : {ws : List ℕ} {from r q : ℕ} → Lowest ws from r → Lowest ws from q → r ≡ q
lowest_one {ws} {from} {r} {q} a b = go (dec_lt r q) (dec_lt q r)
  where
    go : Dec (r < q) → Dec (q < r) → r ≡ q
    go (yes l) d = let t = a.found (omega (arith, b.within)) in absurd (true≢false (sym t.1 ∙ b.none_before r t.0 l))
    go (no l) (yes d) = let t = b.found (omega (arith, a.within)) in absurd (true≢false (sym t.1 ∙ a.none_before q t.0 d))
    go (no l) (no d) = omega arith
