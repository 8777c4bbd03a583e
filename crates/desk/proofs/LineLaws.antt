-- Laws on lines of text, stored part by part.
--
--   digits_many      == a number's text has as many bytes as it has digits
--   fewest_short     == a number below 10 ^ k has at most k digits
--   fields_append    == fields behind fields
--   text_more        == text stored behind text
--   put_none         == no fields, nothing stored
--   put_join         == fields stored behind fields
--   put_one          == a space and the digits of a number are its field
--   field_short      == a field of a number below 10 ^ k takes at most k + 1 bytes
--   line_ends        == a word, fields and a line feed stored from the front are the line
use Prim.Native.Nat.{ℕ, zero, suc, ◌+◌, ◌-◌, ◌/◌, ◌%◌, ◌^◌, ◌<◌, ◌≤◌}
use mathlib.Core.Path.{◌≡◌, refl, sym, ap, ◌∙◌}
use mathlib.Core.List.{List, [], ◌∷◌, ◌++◌, append_assoc, append-nil}
use native.Mathlib.Nat.{pow-le-pow_right}
use native.Mathlib.Decide.{dec_lt}
use native.Mathlib.Omega.{arith}
use lib.ListN.{length, drop, length-append}
use lib.Seq.{sets}
use Rattle.io.specs.Digits.{hex_digit_ascii, last_digits, IsDigitCount}
use Rattle.house.proofs.StoreLaws.{sets_append, sets_front}
use Rattle.desk.specs.Text.{Fields, no_more, field}
use Rattle.desk.specs.Parts.{PutText, PutFields, PutLine}

pub digits_many : (k n : ℕ) → length (last_digits 10 k n) ≡ k
digits_many zero n = refl
digits_many (suc k) n =
    omega (arith, length-append (last_digits 10 k (n / 10)) (hex_digit_ascii (n % 10) ∷ []), digits_many k (n / 10))

pub fewest_short : {n m : ℕ} (k : ℕ) → IsDigitCount 10 1 n m → 0 < k → n < 10 ^ k → m ≤ k
fewest_short {n} {m} k x h l = go (dec_lt k m)
  where
    go : Dec (k < m) → m ≤ k
    go (no f) = omega arith
    go (yes f) =
        absurd (omega (arith, x.2 (omega arith), pow-le-pow_right {n = 10} (omega arith) {i = k} {j = m - 1} (omega arith)))

pub fields_append : {ns ms ts us : List ℕ} → Fields ns ts → Fields ms us → Fields (ns ++ ms) (ts ++ us)
fields_append (no_more e) g = rw e g
fields_append {us = us} (field {d = d} {ts = ts} x f e) g =
    field x (fields_append f g) (ap (λ (l : List ℕ). l ++ us) e ∙ ap (λ (l : List ℕ). 32 ∷ l) (append_assoc d ts us))

pub text_more :
    {out t o' s o'' : List ℕ} {at a r : ℕ} → PutText out at t a o' → PutText o' a s r o'' → PutText out at (t ++ s) r o''
text_more {out} {t} {o'} {s} {o''} {at} {a} {r} p q =
    record {
      stored = q.stored ∙ rw (p.stored, p.next) (sym (sets_append t s out at));
      next = omega (arith, p.next, q.next, length-append t s);
    }

pub put_none : (out : List ℕ) (at : ℕ) → PutFields out at [] at out
put_none out at =
    record { text = []; fields = no_more refl; put = record { stored = refl; next = omega arith } }

pub put_join :
    {out ns o' ms o'' : List ℕ} {at a r : ℕ}
    → PutFields out at ns a o'
    → PutFields o' a ms r o''
    → PutFields out at (ns ++ ms) r o''
put_join p q =
    record {
      text = p.text ++ q.text;
      fields = fields_append p.fields q.fields;
      put = text_more p.put q.put;
    }

pub put_one :
    {out o' d o'' : List ℕ} {at a r n k : ℕ}
    → PutText out at (32 ∷ []) a o'
    → PutText o' a d r o''
    → IsDigitCount 10 1 n k
    → d ≡ last_digits 10 k n
    → PutFields out at (n ∷ []) r o''
put_one {d = d} {k = k} p q w e =
    record {
      text = 32 ∷ d;
      fields = field {ts = []} (record { many = k; fewest = w; spelled = e }) (no_more refl) (ap (λ (l : List ℕ). 32 ∷ l) (sym (append-nil d)));
      put = text_more p q;
    }

pub field_short :
    {out o' : List ℕ} {at r n : ℕ} (k : ℕ) → PutFields out at (n ∷ []) r o' → 0 < k → n < 10 ^ k → r ≤ at + (k + 1)
field_short {at = at} {r} {n} k p h l = go p.fields p.put.next
  where
    go : {ts : List ℕ} → Fields (n ∷ []) ts → r ≡ at + length ts → r ≤ at + (k + 1)
    go (field {d = d} {ts = us} x (no_more u) e) y =
        omega (
          arith,
          y,
          ap length e,
          length-append d us,
          ap length u,
          ap length x.spelled,
          digits_many x.many n,
          fewest_short k x.fewest h l,
        )

pub line_ends :
    {w ns out o1 o2 o3 : List ℕ} {a e r : ℕ}
    → PutText out 0 w a o1
    → PutFields o1 a ns e o2
    → PutText o2 e (10 ∷ []) r o3
    → r ≤ length out
    → PutLine w ns out r o3
line_ends {w} {ns} {out} {o1} {o2} {o3} {a} {e} {r} p f z h =
    record {
      text = w ++ (f.text ++ (10 ∷ []));
      line = record { numbers = f.text; fields = f.fields; text = refl };
      puts = record { size = omega (arith, all.next); after = all.stored ∙ front };
    }
  where
    all : PutText out 0 (w ++ (f.text ++ (10 ∷ []))) r o3
    all = text_more p (text_more f.put z)

    front : sets out 0 (w ++ (f.text ++ (10 ∷ []))) ≡ (w ++ (f.text ++ (10 ∷ []))) ++ drop r out
    front =
        let l : r ≡ length (w ++ (f.text ++ (10 ∷ []))) = omega (arith, all.next) in
        rw l (sets_front out (w ++ (f.text ++ (10 ∷ []))) (omega arith))
