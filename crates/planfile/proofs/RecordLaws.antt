-- Laws on records and on reading a file record by record.
--
--   Right f k p     == the record at the offset p is none of the ways wrong, where one of the kind k is expected
--   right, right_not == it is right exactly where it is not wrong
--   size_under      == a record's length is a two-byte number
--   head_at         == entry i of the bytes from p is the number of the two bytes from p + 2 i
--   body f p        == the body of the record at p
--   length_body     == it is as long as the record says
--   two_bytes       == two bytes are the bytes of their number
--   record_splits   == the bytes from a right record on are this record and the bytes from the next on
--   record_head     == a record is four bytes longer than its body
--   Begins f k p b r == the bytes of f from the offset p on are a record of the kind k with the body b, and then r
--   begins_size, begins_kind, begins_next, begins_right == what is read there, what is behind it, and that it is right
--   record_one      == bytes begin with one record only
--   expects_before  == a record that others were read behind is not wrong
--   expects_same    == at one offset one kind is expected
--   expects_place   == each of the kinds 1 to 3 is expected at one offset
--   expects_kind    == kinds are 1 to 4
--   next_expected   == behind a right record the next kind is expected
use Prim.Native.Nat.{ℕ, zero, suc, ◌+◌, ◌*◌, ◌-◌, ◌%◌, ◌/◌, ◌<◌, ◌≤◌}
use mathlib.Core.Path.{◌≡◌, refl, sym, ap, ◌∙◌}
use mathlib.Core.List.{List, ◌++◌, append_assoc}
use mathlib.Core.HLevel.{dec→stable}
use native.Mathlib.Decide.{ℕ_discrete, dec_lt}
use native.Mathlib.Omega.{arith}
use lib.ListN.{length, get_or, take, drop, length-append, length-drop, take-append-drop}
use lib.Seq.{drop-drop, length-take-le, take_all, take_at, drop_at}
use Rattle.house.specs.Numbers.{le, bytes, entries}
use Rattle.house.proofs.NumberLaws.{Under, under_take, under_drop, length_bytes, le_bytes, bytes_le, le_take_under, get_d_numbers}
use Rattle.planfile.specs.File.{record_of, size_at, kind_at, WrongAt, cut, odd, past, other_kind, mode_size, after, Expects, at_front, behind}

-- ---- one record

pub record Right (f : List ℕ) (k p : ℕ) : Type 0 where
  pub head : p + 4 ≤ length f
  pub even : size_at f p % 2 ≡ 0
  pub within : p + 4 + size_at f p ≤ length f
  pub kind : kind_at f p ≡ k
  pub mode_body : k ≡ 3 → size_at f p ≡ 2

pub right : {f : List ℕ} {k p : ℕ} → (WrongAt f k p → ⊥) → Right f k p
right {f} {k} {p} h =
    record {
      head = let n : length f < p + 4 → ⊥ = λ l. h (cut l) in omega arith;
      even = let n : size_at f p % 2 ≡ 1 → ⊥ = λ l. h (odd l) in omega arith;
      within = let n : length f < p + 4 + size_at f p → ⊥ = λ l. h (past l) in omega arith;
      kind = dec→stable (ℕ_discrete (kind_at f p) k) (λ l. h (other_kind l));
      mode_body = λ e. dec→stable (ℕ_discrete (size_at f p) 2) (λ l. h (mode_size e l));
    }

pub right_not : {f : List ℕ} {k p : ℕ} → Right f k p → WrongAt f k p → ⊥
right_not r (cut l) = omega (arith, r.head)
right_not r (odd l) = omega (arith, r.even)
right_not r (past l) = omega (arith, r.within)
right_not r (other_kind l) = l r.kind
right_not r (mode_size e l) = l (r.mode_body e)

pub size_under : (f : List ℕ) (p : ℕ) → Under 256 f → size_at f p < 65536
size_under f p u = le_take_under 2 (drop p f) (under_drop p f u)

pub head_at :
    (f : List ℕ) (p i : ℕ)
    → p + 2 * i + 2 ≤ length f
    → get_or (entries (take (length f - p) (drop p f))) i 0 ≡ le (take 2 (drop (p + 2 * i) f))
unfolding entries
head_at f p i h =
    rw (take_all (length f - p) (drop p f) (omega (arith, length-drop p f)))
    (get_d_numbers 2 (length (drop p f) / 2) (drop p f) i (omega (arith, length-drop p f))
    ∙ ap (λ (l : List ℕ). le (take 2 l)) (drop-drop (2 * i) p f))

abbrev pub body : List ℕ → ℕ → List ℕ
body f p = take (size_at f p) (drop (p + 4) f)

pub length_body : {f : List ℕ} {k p : ℕ} → Right f k p → length (body f p) ≡ size_at f p
length_body {f} {k} {p} r = length-take-le (size_at f p) (drop (p + 4) f) (omega (arith, length-drop (p + 4) f, r.within))

pub two_bytes : (f : List ℕ) (p : ℕ) → Under 256 f → p + 2 ≤ length f → bytes 2 (le (take 2 (drop p f))) ≡ take 2 (drop p f)
two_bytes f p u h =
    let l : length (take 2 (drop p f)) ≡ 2 = length-take-le 2 (drop p f) (omega (arith, length-drop p f)) in
    rw l at (bytes_le (take 2 (drop p f)) (under_take 2 (drop p f) (omega arith) (under_drop p f u)))

take_drop : (n p : ℕ) (f : List ℕ) → take n (drop p f) ++ drop (p + n) f ≡ drop p f
take_drop n p f = rw (sym (drop-drop n p f)) (take-append-drop n (drop p f))

pub record_splits :
    {f : List ℕ} {k p : ℕ}
    → Right f k p
    → Under 256 f
    → drop p f ≡ record_of k (body f p) ++ drop (p + 4 + size_at f p) f
unfolding record_of
record_splits {f} {k} {p} r u =
    let s = two_bytes f p u (omega (arith, r.head)) in
    let t = two_bytes f (p + 2) u (omega (arith, r.head)) in
    let a : p + 2 + 2 ≡ p + 4 = omega arith in
    let b = take_drop 2 p f in
    let c : take 2 (drop (p + 2) f) ++ drop (p + 4) f ≡ drop (p + 2) f = rw a at (take_drop 2 (p + 2) f) in
    let d = take_drop (size_at f p) (p + 4) f in
    rw (length_body r, s, sym r.kind, t, append_assoc, append_assoc, d, c, b)

-- ---- what begins with a record

pub record_head : (k : ℕ) (b : List ℕ) → length (record_of k b) ≡ 4 + length b
unfolding record_of
record_head k b =
    omega (
      arith,
      length-append (bytes 2 (length b)) (bytes 2 k ++ b),
      length-append (bytes 2 k) b,
      length_bytes 2 (length b),
      length_bytes 2 k,
    )

module _ (k : ℕ) (b r : List ℕ) where
  begins : record_of k b ++ r ≡ bytes 2 (length b) ++ (bytes 2 k ++ (b ++ r))
  unfolding record_of
  begins = append_assoc (bytes 2 (length b)) (bytes 2 k ++ b) r ∙ ap (λ (l : List ℕ). bytes 2 (length b) ++ l) (append_assoc (bytes 2 k) b r)

  record_size : length b < 65536 → le (take 2 (record_of k b ++ r)) ≡ length b
  record_size h = rw (begins, take_at (bytes 2 (length b)) (bytes 2 k ++ (b ++ r)) 2 (length_bytes 2 (length b))) (le_bytes 2 (length b) h)

  second : drop 2 (record_of k b ++ r) ≡ bytes 2 k ++ (b ++ r)
  second = rw begins (drop_at (bytes 2 (length b)) (bytes 2 k ++ (b ++ r)) 2 (length_bytes 2 (length b)))

  record_kind : k < 65536 → le (take 2 (drop 2 (record_of k b ++ r))) ≡ k
  record_kind h = rw (second, take_at (bytes 2 k) (b ++ r) 2 (length_bytes 2 k)) (le_bytes 2 k h)

  record_rest : drop 4 (record_of k b ++ r) ≡ b ++ r
  record_rest =
      sym (drop-drop 2 2 (record_of k b ++ r))
      ∙ ap (drop 2) second
      ∙ drop_at (bytes 2 k) (b ++ r) 2 (length_bytes 2 k)

pub record_one :
    (k : ℕ) (b b' r r' : List ℕ)
    → record_of k b ++ r ≡ record_of k b' ++ r'
    → length b < 65536
    → length b' < 65536
    → (b ≡ b') × (r ≡ r')
record_one k b b' r r' e h h' =
    let n : length b ≡ length b' =
    sym (record_size k b r h) ∙ ap (λ (l : List ℕ). le (take 2 l)) e ∙ record_size k b' r' h' in
    let f : b ++ r ≡ b' ++ r' = sym (record_rest k b r) ∙ ap (drop 4) e ∙ record_rest k b' r' in (
      sym (take_at b r (length b) refl) ∙ ap (take (length b)) f ∙ take_at b' r' (length b) (sym n),
      sym (drop_at b r (length b) refl) ∙ ap (drop (length b)) f ∙ drop_at b' r' (length b) (sym n),
    )

pub record Begins (f : List ℕ) (k p : ℕ) (b r : List ℕ) : Type 0 where
  pub from : drop p f ≡ record_of k b ++ r
  pub small : length b < 65536
  pub kind_small : k < 65536

module _ {f : List ℕ} {k p : ℕ} {b r : List ℕ} (g : Begins f k p b r) where
  pub begins_size : size_at f p ≡ length b
  begins_size = ap (λ (l : List ℕ). le (take 2 l)) g.from ∙ record_size k b r g.small

  pub begins_kind : kind_at f p ≡ k
  begins_kind =
      ap (λ (l : List ℕ). le (take 2 l)) (sym (drop-drop 2 p f) ∙ ap (drop 2) g.from)
      ∙ record_kind k b r g.kind_small

  begins_long : p + 4 + length b ≤ length f
  begins_long =
      omega (arith, length-drop p f, ap length g.from, length-append (record_of k b) r, record_head k b)

  pub begins_next : drop (p + 4 + size_at f p) f ≡ r
  begins_next =
      let e : p + 4 + size_at f p ≡ p + (4 + length b) = omega (arith, begins_size) in
      rw (e, sym (drop-drop (4 + length b) p f), g.from) (drop_at (record_of k b) r (4 + length b) (record_head k b))

  pub begins_right : length b % 2 ≡ 0 → (k ≡ 3 → length b ≡ 2) → Right f k p
  begins_right even m =
      record {
        head = omega (arith, begins_long);
        even = omega (arith, begins_size, even);
        within = omega (arith, begins_size, begins_long);
        kind = begins_kind;
        mode_body = λ e. begins_size ∙ m e;
      }

-- ---- reading record by record

-- the offset of record j, and the kind that is expected there
abbrev offset : List ℕ → ℕ → ℕ
offset f zero = 0
offset f (suc j) = offset f j + 4 + size_at f (offset f j)

abbrev kind_no : ℕ → ℕ
kind_no zero = 1
kind_no (suc zero) = 2
kind_no (suc (suc zero)) = 3
kind_no (suc (suc (suc j))) = 4

record Reached (f : List ℕ) (p k : ℕ) : Type 0 where
  records : ℕ
  place : p ≡ offset f records
  kind : k ≡ kind_no records
  fine : (i : ℕ) → i < records → WrongAt f (kind_no i) (offset f i) → ⊥

after_kind : (j : ℕ) → after (kind_no j) ≡ kind_no (suc j)
after_kind zero = refl
after_kind (suc zero) = refl
after_kind (suc (suc zero)) = refl
after_kind (suc (suc (suc j))) = refl

reached : {f : List ℕ} {p k : ℕ} → Expects f p k → Reached f p k
reached (at_front e d) = record { records = 0; place = e; kind = d; fine = λ i h. absurd (omega arith) }
reached {f} (behind {p} {k} {q} {m} x n e d) = go (reached x)
  where
    go : Reached f p k → Reached f q m
    go w =
        record {
          records = suc w.records;
          place = e ∙ ap (λ (z : ℕ). z + 4 + size_at f z) w.place;
          kind = d ∙ ap after w.kind ∙ after_kind w.records;
          fine = fine;
        }
      where
        fine : (i : ℕ) → i < suc w.records → WrongAt f (kind_no i) (offset f i) → ⊥
        fine i h = step (ℕ_discrete i w.records)
          where
            step : Dec (i ≡ w.records) → WrongAt f (kind_no i) (offset f i) → ⊥
            step (yes i=) v = n (rw (w.place, w.kind, sym i=) v)
            step (no i≠) v = w.fine i (omega arith) v

offset_rises : (f : List ℕ) (i j : ℕ) → i < j → offset f i < offset f j
offset_rises f i zero h = absurd (omega arith)
offset_rises f i (suc j) h = go (ℕ_discrete i j) (offset_rises f i j)
  where
    go : Dec (i ≡ j) → (i < j → offset f i < offset f j) → offset f i < offset f (suc j)
    go (yes e) r = rw e (omega arith)
    go (no e) r = omega (arith, r (omega arith))

pub expects_before :
    {f : List ℕ} {p k q m : ℕ} → Expects f p k → Expects f q m → p < q → WrongAt f k p → ⊥
expects_before {f} {p} {k} {q} {m} x y l v = go (reached x) (reached y)
  where
    go : Reached f p k → Reached f q m → ⊥
    go a b = step (dec_lt a.records b.records)
      where
        step : Dec (a.records < b.records) → ⊥
        step (yes h) = b.fine a.records h (rw (sym a.place, sym a.kind) v)
        step (no h) = tie_or (ℕ_discrete a.records b.records)
          where
            tie_or : Dec (a.records ≡ b.records) → ⊥
            tie_or (yes e) = omega (arith, a.place, b.place, ap (offset f) e)
            tie_or (no e) = omega (arith, a.place, b.place, offset_rises f b.records a.records (omega arith))

-- at one offset one record stands
same_records : (f : List ℕ) (i j : ℕ) → offset f i ≡ offset f j → i ≡ j
same_records f i j e = go (dec_lt i j) (dec_lt j i)
  where
    go : Dec (i < j) → Dec (j < i) → i ≡ j
    go (yes h) d = absurd (omega (arith, offset_rises f i j h))
    go (no h) (yes g) = absurd (omega (arith, offset_rises f j i g))
    go (no h) (no g) = omega arith

pub expects_same : {f : List ℕ} {p k q m : ℕ} → Expects f p k → Expects f q m → p ≡ q → k ≡ m
expects_same {f} x y e =
    let a = reached x in
    let b = reached y in
    let s : a.records ≡ b.records =
    same_records f a.records b.records (sym a.place ∙ e ∙ b.place) in
    a.kind ∙ ap kind_no s ∙ sym b.kind

kind_early : (j : ℕ) → kind_no j < 4 → kind_no j ≡ suc j
kind_early zero h = refl
kind_early (suc zero) h = refl
kind_early (suc (suc zero)) h = refl
kind_early (suc (suc (suc j))) h = absurd (omega arith)

pub expects_place : {f : List ℕ} {p q k : ℕ} → Expects f p k → Expects f q k → k < 4 → p ≡ q
expects_place {f} {p} {q} {k} x y h =
    let a = reached x in
    let b = reached y in
    let s : a.records ≡ b.records =
    omega (
      arith,
      a.kind,
      b.kind,
      kind_early a.records (omega (arith, a.kind)),
      kind_early b.records (omega (arith, b.kind)),
    ) in
    a.place ∙ ap (offset f) s ∙ sym b.place

kind_least : (j : ℕ) → (1 ≤ kind_no j) × (kind_no j ≤ 4)
kind_least zero = omega arith
kind_least (suc zero) = omega arith
kind_least (suc (suc zero)) = omega arith
kind_least (suc (suc (suc j))) = omega arith

pub expects_kind : {f : List ℕ} {p k : ℕ} → Expects f p k → (1 ≤ k) × (k ≤ 4)
expects_kind x = let a = reached x in omega (arith, a.kind, kind_least a.records)

pub next_expected : {f : List ℕ} {p k : ℕ} → Expects f p k → Right f k p → Expects f (p + 4 + size_at f p) (after k)
next_expected x r = behind x (right_not r) refl refl
