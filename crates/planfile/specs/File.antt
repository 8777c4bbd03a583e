-- The plan file. House records: length first, two bytes little-endian, counting the body only; then a kind of two bytes;
-- then the body. Order: kind 1 old route, kind 2 new route, kind 3 mode (body of 2), then any number of kind 4, a round
-- each, to the end.
--
--   record_of k body     == the record of the kind k with this body
--   round_records ids zs == a record of kind 4 for each round
--   file_of o n mode ids zs == the plan file of two routes, a mode and a schedule
--   Holds f o n mode ids zs == the file f holds two routes, a mode and a schedule, all of them two-byte numbers
--   size_at f p, kind_at f p == what stands at the offset p as a record's length and kind
--   WrongAt f k p        == the record at the offset p is wrong, where one of the kind k is expected
--   after k              == the kind that is expected after a record of the kind k
--   Expects f p k        == reading the file f from its front, a record of the kind k is expected at the offset p
--   Ended f p k          == there the file may end: all of it is read, and kind 3 has come
use Rattle.std.specs.Prelude.{ℕ, zero, suc, ◌+◌, ◌%◌, ◌<◌, ◌≡◌, List, [], ◌∷◌, ◌++◌, length, get_or, take, drop}
use Rattle.house.specs.Numbers.{le, bytes, encode}
use Rattle.rounds.specs.Schedule.{sum}

unfoldable pub record_of : ℕ → List ℕ → List ℕ
record_of k body = bytes 2 (length body) ++ (bytes 2 k ++ body)

unfoldable pub round_records : List ℕ → List ℕ → List ℕ
unfolding record_of
round_records ids [] = []
round_records ids (z ∷ zs) = record_of 4 (encode 2 (take z ids)) ++ round_records (drop z ids) zs

unfoldable pub file_of : List ℕ → List ℕ → ℕ → List ℕ → List ℕ → List ℕ
unfolding record_of round_records
file_of o n mode ids zs =
    record_of 1 (encode 2 o) ++ (record_of 2 (encode 2 n) ++ (record_of 3 (encode 2 (mode ∷ [])) ++ round_records ids zs))

pub record Holds (f o n : List ℕ) (mode : ℕ) (ids zs : List ℕ) : Type 0 where
  pub same : f ≡ file_of o n mode ids zs
  pub sums : sum zs ≡ length ids
  pub old_ids : (i : ℕ) → get_or o i 0 < 65536
  pub new_ids : (i : ℕ) → get_or n i 0 < 65536
  pub mode_fits : mode < 65536
  pub round_ids : (i : ℕ) → get_or ids i 0 < 65536

abbrev pub size_at : List ℕ → ℕ → ℕ
size_at f p = le (take 2 (drop p f))

abbrev pub kind_at : List ℕ → ℕ → ℕ
kind_at f p = le (take 2 (drop (p + 2) f))

pub data WrongAt (f : List ℕ) (k p : ℕ) : Type 0 where
  cut : length f < p + 4 → WrongAt f k p
  odd : size_at f p % 2 ≡ 1 → WrongAt f k p
  past : length f < p + 4 + size_at f p → WrongAt f k p
  other_kind : (kind_at f p ≡ k → ⊥) → WrongAt f k p
  mode_size : k ≡ 3 → (size_at f p ≡ 2 → ⊥) → WrongAt f k p

abbrev pub after : ℕ → ℕ
after zero = 1
after (suc zero) = 2
after (suc (suc zero)) = 3
after (suc (suc (suc k))) = 4

pub data Expects (f : List ℕ) : ℕ → ℕ → Type 0 where
  at_front : {p k : ℕ} → p ≡ 0 → k ≡ 1 → Expects f p k
  behind :
      {p k q m : ℕ}
      → Expects f p k
      → (WrongAt f k p → ⊥)
      → q ≡ p + 4 + size_at f p
      → m ≡ after k
      → Expects f q m

pub record Ended (f : List ℕ) (p k : ℕ) : Type 0 where
  pub all_read : p ≡ length f
  pub mode_came : k ≡ 4
