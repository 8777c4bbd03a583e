-- Laws on the bits of one number.
--
--   bit_low, bit_up  == bit 0 is the parity; bit i + 1 is bit i of the half
--   bit_zero         == 0 has no ones
--   bit_raise_same, bit_raise_other == with 2 ^ i added where bit i is zero: bit i is one, and each other is as it was
--   raise_below      == and a number of k digits has k digits still, for i below k
--   ones_raise       == and one more bit is one
--   or_raise         == the bitwise or with 2 ^ i adds it where bit i is zero
--   bits_same        == two numbers of k digits with the same bits are equal
--   trailing_none, trailing_one == below the trailing zeros the bits are zero; the next is one, if it is among the k digits
--   count_below_split, count_below_same == counting in two parts; counting what is the same
--   ones_count       == the ones of a number of k digits are the bits below k that are one
use Prim.Native.Nat.{ℕ, zero, suc, ◌+◌, ◌*◌, ◌/◌, ◌%◌, ◌^◌, ◌<◌, max}
use mathlib.Core.Path.{◌≡◌, refl, sym, ap, ◌∙◌}
use mathlib.Core.Bool.{Bool, true, false, cond}
use mathlib.Core.Logic.{◌≢◌}
use native.Mathlib.Nat.{pow-suc, zero-div, div-div-eq-div-mul, div-one, mul_comm, add-zero, add-suc, mod-lt, max-zero}
use native.Mathlib.Numerals.{one-add}
use native.Mathlib.Omega.{arith}
use borrow.Author.Tests.{eq-eqb, eqb-true, eqb-false}
use lib.Dec.{eqb}
use lib.Bits.{bit_or, or_step, or_zero_r}
use lib.Count.{ones, ones_step, count_trailing_zeros, under}
use Rattle.house.specs.Sets.{bit, count_below}

pub bit_low : (w : ℕ) → bit w 0 ≡ eqb (w % 2) 1
unfolding bit
bit_low w = rw div-one

pub bit_up : (w i : ℕ) → bit w (suc i) ≡ bit (w / 2) i
unfolding bit
bit_up w i = rw (pow-suc 2 i, mul_comm (2 ^ i) 2, div-div-eq-div-mul w 2 (2 ^ i))

pub bit_zero : (i : ℕ) → bit 0 i ≡ false
unfolding bit
bit_zero i = rw zero-div

-- the lowest bit as a parity
odd : (w : ℕ) → bit w 0 ≡ true → w % 2 ≡ 1
odd w e = eqb-true _ _ (sym (bit_low w) ∙ e)

even : (w : ℕ) → bit w 0 ≡ false → w % 2 ≡ 0
even w e = omega (arith, eqb-false (w % 2) 1 (sym (bit_low w) ∙ e))

-- 2 ^ (i + 1) added: the parity is the same, and half of it is added to the half
up_even : (w i : ℕ) → (w + 2 ^ suc i) % 2 ≡ w % 2
up_even w i = rw (pow-suc 2 i) (omega arith)

up_half : (w i : ℕ) → (w + 2 ^ suc i) / 2 ≡ w / 2 + 2 ^ i
up_half w i = rw (pow-suc 2 i) (omega arith)

pub bit_raise_same : (w i : ℕ) → bit w i ≡ false → bit (w + 2 ^ i) i ≡ true
bit_raise_same w zero e = bit_low (w + 1) ∙ eq-eqb ((w + 1) % 2) 1 (omega (arith, even w e))
bit_raise_same w (suc i) e =
    bit_up (w + 2 ^ suc i) i ∙ rw (up_half w i) (bit_raise_same (w / 2) i (sym (bit_up w i) ∙ e))

pub bit_raise_other : (w i j : ℕ) → bit w i ≡ false → j ≢ i → bit (w + 2 ^ i) j ≡ bit w j
bit_raise_other w zero zero e n = absurd (n refl)
bit_raise_other w zero (suc j) e n =
    let h : (w + 1) / 2 ≡ w / 2 = omega (arith, even w e) in
    rw (bit_up (w + 1) j, bit_up w j, h)
bit_raise_other w (suc i) zero e n = rw (bit_low (w + 2 ^ suc i), bit_low w, up_even w i)
bit_raise_other w (suc i) (suc j) e n =
    rw (bit_up (w + 2 ^ suc i) j, bit_up w j, up_half w i)
    (bit_raise_other (w / 2) i j (sym (bit_up w i) ∙ e) (λ f. n (ap suc f)))

pub raise_below : (k w i : ℕ) → bit w i ≡ false → i < k → w < 2 ^ k → w + 2 ^ i < 2 ^ k
raise_below zero w i e l h = absurd (omega arith)
raise_below (suc k) w zero e l h = rw (pow-suc 2 k) (omega (arith, rw (pow-suc 2 k) at h, even w e))
raise_below (suc k) w (suc i) e l h =
    let g : w < 2 ^ k * 2 = rw (pow-suc 2 k) at h in
    rw (pow-suc 2 k, pow-suc 2 i) (omega (arith, raise_below k (w / 2) i (sym (bit_up w i) ∙ e) (omega arith) (omega arith)))

pub ones_raise : (w i : ℕ) → bit w i ≡ false → ones (w + 2 ^ i) ≡ suc (ones w)
ones_raise w zero e =
    let h : (w + 1) / 2 ≡ w / 2 = omega (arith, even w e) in
    omega (arith, ones_step (w + 1), ones_step w, ap ones h, even w e)
ones_raise w (suc i) e =
    let h : ones ((w + 2 ^ suc i) / 2) ≡ suc (ones (w / 2)) = rw (up_half w i) (ones_raise (w / 2) i (sym (bit_up w i) ∙ e)) in
    omega (arith, ones_step (w + 2 ^ suc i), ones_step w, up_even w i)

pub or_raise : (w i : ℕ) → bit_or w (2 ^ i) ≡ cond (bit w i) w (w + 2 ^ i)
or_raise w zero = rw (or_step w 1, or_zero_r (w / 2), bit_low w) (go (w % 2) refl (mod-lt w (omega arith)))
  where
    go : (d : ℕ) → w % 2 ≡ d → w % 2 < 2 → w / 2 * 2 + max (w % 2) 1 ≡ cond (eqb (w % 2) 1) w (w + 1)
    go zero e l = rw e (omega arith)
    go (suc zero) e l = rw e (omega arith)
    go (suc (suc d)) e l = absurd (omega arith)
or_raise w (suc i) =
    let h : 2 ^ suc i / 2 ≡ 2 ^ i = rw (pow-suc 2 i) (omega arith) in
    let m : 2 ^ suc i % 2 ≡ 0 = rw (pow-suc 2 i) (omega arith) in
    rw (or_step w (2 ^ suc i), h, m, max-zero (w % 2), bit_up w i, or_raise (w / 2) i) (go (bit (w / 2) i))
  where
    go : (b : Bool) → cond b (w / 2) (w / 2 + 2 ^ i) * 2 + w % 2 ≡ cond b w (w + 2 ^ suc i)
    go true = omega arith
    go false = rw (pow-suc 2 i) (omega arith)

-- the parities are the same where the lowest bits are
same_low : (w v : ℕ) (b : Bool) → bit w 0 ≡ b → bit v 0 ≡ b → w % 2 ≡ v % 2
same_low w v true d e = omega (arith, odd w d, odd v e)
same_low w v false d e = omega (arith, even w d, even v e)

pub bits_same : (k w v : ℕ) → w < 2 ^ k → v < 2 ^ k → ((i : ℕ) → i < k → bit w i ≡ bit v i) → w ≡ v
bits_same zero w v h g f = omega arith
bits_same (suc k) w v h g f =
    let h' : w < 2 ^ k * 2 = rw (pow-suc 2 k) at h in
    let g' : v < 2 ^ k * 2 = rw (pow-suc 2 k) at g in
    let low : w % 2 ≡ v % 2 = same_low w v (bit w 0) refl (sym (f 0 (omega arith))) in
    let up : w / 2 ≡ v / 2 = bits_same k (w / 2) (v / 2) (omega arith) (omega arith) (λ i l. sym (bit_up w i) ∙ f (suc i) (omega arith) ∙ bit_up v i) in
    omega arith

pub trailing_none : (k w i : ℕ) → i < count_trailing_zeros k w → bit w i ≡ false
unfolding count_trailing_zeros
trailing_none zero w i l = absurd (omega arith)
trailing_none (suc k) w i l = go (w % 2) refl i l (λ j. trailing_none k (w / 2) j)
  where
    go : (d : ℕ) → w % 2 ≡ d → (i : ℕ) → i < under d (count_trailing_zeros k (w / 2))
        → ((j : ℕ) → j < count_trailing_zeros k (w / 2) → bit (w / 2) j ≡ false) → bit w i ≡ false
    go zero e zero l f = rw (bit_low w, e)
    go zero e (suc i) l f = rw (bit_up w i) (f i (omega arith))
    go (suc d) e i l f = absurd (omega arith)

pub trailing_one : (k w : ℕ) → count_trailing_zeros k w < k → bit w (count_trailing_zeros k w) ≡ true
unfolding count_trailing_zeros
trailing_one zero w l = absurd (omega arith)
trailing_one (suc k) w l = go (w % 2) refl l (trailing_one k (w / 2))
  where
    go : (d : ℕ) → w % 2 ≡ d → under d (count_trailing_zeros k (w / 2)) < suc k
        → (count_trailing_zeros k (w / 2) < k → bit (w / 2) (count_trailing_zeros k (w / 2)) ≡ true)
        → bit w (under d (count_trailing_zeros k (w / 2))) ≡ true
    go zero e l f = rw (bit_up w (count_trailing_zeros k (w / 2))) (f (omega arith))
    go (suc d) e l f = bit_low w ∙ eq-eqb (w % 2) 1 (omega arith)

pub count_below_split : (f : ℕ → Bool) (a b : ℕ) → count_below (a + b) f ≡ count_below a f + count_below b (λ i. f (a + i))
unfolding count_below
count_below_split f a zero = rw (add-zero a) (sym (add-zero (count_below a f)))
count_below_split f a (suc b) = rw (add-suc a b) (go (f (a + b)) (count_below_split f a b))
  where
    go : (t : Bool) → count_below (a + b) f ≡ count_below a f + count_below b (λ i. f (a + i))
        → cond t (suc (count_below (a + b) f)) (count_below (a + b) f)
        ≡ count_below a f + cond t (suc (count_below b (λ i. f (a + i)))) (count_below b (λ i. f (a + i)))
    go true e = omega arith
    go false e = e

pub count_below_same : (f g : ℕ → Bool) (n : ℕ) → ((i : ℕ) → i < n → f i ≡ g i) → count_below n f ≡ count_below n g
unfolding count_below
count_below_same f g zero h = refl
count_below_same f g (suc n) h = rw (h n (omega arith), count_below_same f g n (λ i l. h i (omega arith)))

pub ones_count : (k w : ℕ) → w < 2 ^ k → ones w ≡ count_below k (bit w)
unfolding count_below ones
ones_count zero w h = let e : w ≡ 0 = omega arith in rw e
ones_count (suc k) w h =
    let h' : w < 2 ^ k * 2 = rw (pow-suc 2 k) at h in
    let up : count_below k (λ i. bit w (1 + i)) ≡ count_below k (bit (w / 2)) = count_below_same (λ i. bit w (1 + i)) (bit (w / 2)) k (λ i l. rw (one-add i) (bit_up w i)) in
    let split : count_below (1 + k) (bit w) ≡ count_below 1 (bit w) + count_below k (λ i. bit w (1 + i)) = count_below_split (bit w) 1 k in
    let rest : ones (w / 2) ≡ count_below k (bit (w / 2)) = ones_count k (w / 2) (omega arith) in
    let sum : ones w ≡ count_below (1 + k) (bit w) = omega (arith, ones_step w, low (bit w 0) refl) in
    sum ∙ ap (λ (n : ℕ). count_below n (bit w)) (one-add k)
  where
    low : (b : Bool) → bit w 0 ≡ b → count_below 1 (bit w) ≡ w % 2
    low true e = rw e (sym (odd w e))
    low false e = rw e (sym (even w e))
