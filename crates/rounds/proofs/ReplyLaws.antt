-- Laws of the reply of the check and of the words that it writes. Assumes nothing.
--
--   encode_more      == the bytes of a list of numbers with one more
--   write_more       == one more number is written after those that are written
--   Begun ws l b i   == the first i of eight words ws are written to the front of l, which is then b
--   write_none, write_next, write_all == writing begins, goes on by a word, and ends
--   judged_sound, judged_faulty == what the reply of judging the change says
--   no_mode          == a number up to 1 is a mode
--   short_first, short_refused == 1 is given where the lent bytes are too short, and they stay as they were
--   change_first     == what judging the change refuses is refused
--   change_clear_set == nothing of 1 and 4 to 14 applies where nothing applies to the change and the lent bytes are long enough
--   reply_no, bad_refused == the refusal of the first bad round is the reply
use Rattle.std.specs.Prelude.{Ok, Err, Some}
use Prim.Native.Nat.{ℕ, ◌+◌, ◌*◌, ◌<◌, ◌≤◌}
use native.Mathlib.Nat.{mul-suc}
use native.Mathlib.Numerals.{add-one}
use native.Mathlib.Omega.{arith}
use mathlib.Core.Path.{◌≡◌, refl, sym, ◌∙◌, ap, ap₂}
use mathlib.Core.List.{List, [], ◌∷◌, ◌++◌, append_assoc, append-nil}
use lib.ListN.{length, get_or, take, drop, length-append, length-drop}
use lib.Seq.{sets-eq, take-suc, take_at, drop_at, drop-drop, take_all, length-take-le}
use Rattle.house.specs.Numbers.{bytes, put_number, encode}
use Rattle.house.specs.Refusals.{First, Clear}
use Rattle.house.specs.declared.Refusal.{Refusal}
use Rattle.house.specs.declared.Refusal.TheVariants.{Unfit}
use Rattle.house.specs.Numbers.{entries}
use Rattle.house.proofs.NumberLaws.{length_bytes, length_encode, put_number_in}
use Rattle.rounds.specs.Mode.{ModeOf, over}
use Rattle.rounds.specs.States.{Fault, FirstBad, Named}
use Rattle.rounds.specs.Replies.{ChangeFault, JudgesChange, sound, faulty, CheckFault, short_set}
use Rattle.rounds.specs.Replies.{change, written, Checks, refused, begins_faulty, shows}
use Rattle.rounds.specs.Working.{the_fault, Searched, Refuses, begins, shown}
use Rattle.rounds.specs.declared.check.BadRound.{BadRound}
use Rattle.house.proofs.RefusalLaws.{unfit_first}
use Rattle.rounds.proofs.NamingLaws.{searched_at}

pub encode_more : (w : ℕ) (xs : List ℕ) (x : ℕ) → encode w (xs ++ (x ∷ [])) ≡ encode w xs ++ bytes w x
unfolding encode
encode_more w [] x = append-nil (bytes w x)
encode_more w (y ∷ xs) x = ap (λ l. bytes w y ++ l) (encode_more w xs x) ∙ sym (append_assoc (bytes w y) (encode w xs) (bytes w x))

pub write_more :
    (w : ℕ) (ws l b : List ℕ) (i : ℕ)
    → i < length ws
    → w * i + w ≤ length l
    → b ≡ encode w (take i ws) ++ drop (w * i) l
    → put_number w b i (get_or ws i 0) ≡ encode w (take (i + 1) ws) ++ drop (w * (i + 1)) l
write_more w ws l b i h k e =
    put_number_in w b i x (omega (arith, long))
    ∙ sets-eq (bytes w x) b (w * i) (omega (arith, long, length_bytes w x))
    ∙ ap₂ (λ p q. p ++ bytes w x ++ q) front back
    ∙ ap (λ p. p ++ drop (w * (i + 1)) l) (sym more)
  where
    x : ℕ
    x = get_or ws i 0

    done : length (encode w (take i ws)) ≡ w * i
    done = length_encode w (take i ws) ∙ ap (λ (n : ℕ). w * n) (length-take-le i ws (omega arith))

    long : length b ≡ length l
    long = omega (arith, ap length e, length-append (encode w (take i ws)) (drop (w * i) l), done, length-drop (w * i) l)

    front : take (w * i) b ≡ encode w (take i ws)
    front = ap (take (w * i)) e ∙ take_at (encode w (take i ws)) (drop (w * i) l) (w * i) done

    back : drop (w * i + length (bytes w x)) b ≡ drop (w * (i + 1)) l
    back =
        let n : w * i + w ≡ w * (i + 1) = omega (arith, mul-suc w i, ap (λ (n : ℕ). w * n) (add-one i)) in
        ap (λ (n : ℕ). drop (w * i + n) b) (length_bytes w x)
        ∙ sym (drop-drop w (w * i) b)
        ∙ ap (drop w) (ap (drop (w * i)) e ∙ drop_at (encode w (take i ws)) (drop (w * i) l) (w * i) done)
        ∙ drop-drop w (w * i) l
        ∙ ap (λ (n : ℕ). drop n l) n

    more : encode w (take (i + 1) ws) ≡ encode w (take i ws) ++ bytes w x
    more =
        ap (λ (n : ℕ). encode w (take n ws)) (add-one i)
        ∙ ap (encode w) (take-suc ws i 0 h)
        ∙ encode_more w (take i ws) x

-- the first i of the words ws are written to the front of l, and the rest is kept
pub record Begun (ws l b : List ℕ) (i : ℕ) : Type 0 where
  pub within : i ≤ 8
  pub front : b ≡ encode 8 (take i ws) ++ drop (8 * i) l

pub write_none : (ws l : List ℕ) → Begun ws l l 0
unfolding encode
write_none ws l = record { within = omega arith; front = refl }

pub write_next :
    {ws l b c : List ℕ} {i : ℕ}
    → length ws ≡ 8
    → 64 ≤ length l
    → i < 8
    → Begun ws l b i
    → c ≡ put_number 8 b i (get_or ws i 0)
    → Begun ws l c (i + 1)
write_next {ws} {l} {b} {c} {i} e h k x d =
    record { within = omega arith; front = d ∙ write_more 8 ws l b i (omega arith) (omega arith) x.front }

pub write_all : {ws l b : List ℕ} {i : ℕ} → length ws ≡ 8 → 8 ≤ i → Begun ws l b i → b ≡ written ws l
unfolding written
write_all {ws} {l} {b} {i} e h x =
    let n : 8 * i ≡ 64 = omega (arith, x.within) in
    x.front ∙ ap₂ (λ p r. encode 8 p ++ r) (take_all i ws (omega arith)) (ap (λ (n : ℕ). drop n l) n)

pub judged_sound :
    {old new : List ℕ} {mode : ℕ} {ids sizes : List ℕ}
    → JudgesChange old new mode ids sizes (Ok tt)
    → Clear (ChangeFault old new mode ids sizes)
judged_sound (sound k) = k

pub judged_faulty :
    {old new : List ℕ} {mode : ℕ} {ids sizes : List ℕ} {r : Refusal}
    → JudgesChange old new mode ids sizes (Err r)
    → First (ChangeFault old new mode ids sizes) r
judged_faulty (faulty f) = f

pub no_mode : {n : ℕ} {r : Refusal} → ModeOf n (Err r) → n ≤ 1 → ⊥
no_mode (over h) l = omega arith

module _ {old new : List ℕ} {mode : ℕ} {ids sizes set : List ℕ} where
  pub short_first : length set < 64 → First (CheckFault old new mode ids sizes set) Unfit
  short_first h = unfit_first (short_set h)

  pub short_refused : length set < 64 → Checks old new mode ids sizes set (Err Unfit) set
  short_refused h = refused (short_first h) refl

  module _ (h : 64 ≤ length set) where
    into : {q : Refusal} → CheckFault old new mode ids sizes set q → ChangeFault old new mode ids sizes q
    into (short_set k) = absurd (omega arith)
    into (change f) = f

    pub change_first :
        {r : Refusal} → First (ChangeFault old new mode ids sizes) r → First (CheckFault old new mode ids sizes set) r
    change_first f = record { applies = change f.applies; lowest = λ q g. f.lowest q (into g) }

    pub change_clear_set : Clear (ChangeFault old new mode ids sizes) → Clear (CheckFault old new mode ids sizes set)
    change_clear_set k = record { clear = λ q g. k.clear q (into g) }

  pub reply_no :
      {t : ℕ} {f : Fault} {ws after : List ℕ} {r : Refusal}
      → Clear (CheckFault old new mode ids sizes set)
      → FirstBad mode (entries old) (entries new) (entries ids) (entries sizes) t f
      → Named mode (entries old) (entries new) (entries ids) (entries sizes) t f ws
      → Refuses f t ws set r after
      → Checks old new mode ids sizes set (Err r) after
  reply_no k b m (begins z) = begins_faulty k b m z refl
  reply_no k b m (shown z r e) = shows k b m z r e

  pub bad_refused :
      {b : BadRound} {cl ws after : List ℕ} {r : Refusal}
      → 64 ≤ length set
      → Clear (ChangeFault old new mode ids sizes)
      → Searched mode (entries old) (entries new) (entries ids) (entries sizes) (Some b) cl
      → Named mode (entries old) (entries new) (entries ids) (entries sizes) b.round (the_fault b.fault) ws
      → Refuses (the_fault b.fault) b.round ws set r after
      → Checks old new mode ids sizes set (Err r) after
  bad_refused h k b m x = reply_no (change_clear_set h k) (searched_at b).first m x
