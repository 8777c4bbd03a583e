-- The replies of the reader and the writer as one number of 64 bits: six numbers, lowest first, with room for 4, 10, 10, 12, 12
-- and 16 bits; one that would not fit is the most that does. A yes has 0 first. Of the reader: the lengths of the two routes, the
-- schedule ids, the rounds and the mode. Of the writer: the bytes written stand fourth. A refusal has its number first, its where
-- second and its place fourth.
--
--   packed a b c d e f == the six numbers as one
--   refusal_packed, read_packed, write_packed == the number of a reply
--   ReadCall .. r o' n' i' z' == r is what `bench_read` returns, and the rest what the lent slices hold then
--   WriteCall .. r f'  == r is what `bench_write` returns, and f' what the lent slice holds then
use Rattle.std.specs.Prelude.{ℕ, ◌+◌, ◌*◌, min, ◌≡◌, List, Result, Ok, Err}
use Rattle.house.specs.declared.Refusal.{Refusal}
use Rattle.house.specs.Refusals.{number, site, place}
use Rattle.planfile.specs.declared.read.Content.{Content}
use Rattle.planfile.specs.Replies.{Reads, Writes}

unfoldable pub packed : ℕ → ℕ → ℕ → ℕ → ℕ → ℕ → ℕ
packed a b c d e f =
    min a 15 + 16 * (min b 1023 + 1024 * (min c 1023 + 1024 * (min d 4095 + 4096 * (min e 4095 + 4096 * min f 65535))))

abbrev pub refusal_packed : Refusal → ℕ
refusal_packed r = packed (number r) (site r) 0 (place r) 0 0

abbrev pub read_packed : Result Content Refusal → ℕ
read_packed (Ok c) = packed 0 c.olds c.news c.ids c.rounds c.mode
read_packed (Err r) = refusal_packed r

abbrev pub write_packed : Result ℕ Refusal → ℕ
write_packed (Ok size) = packed 0 0 0 size 0 0
write_packed (Err r) = refusal_packed r

pub record ReadCall (f old new ids sizes : List ℕ) (r : ℕ) (o' n' i' z' : List ℕ) : Type 0 where
  pub reply : Result Content Refusal
  pub replied : Reads f old new ids sizes reply o' n' i' z'
  pub in_one : r ≡ read_packed reply

pub record WriteCall (old new : List ℕ) (mode : ℕ) (ids sizes file : List ℕ) (r : ℕ) (f' : List ℕ) : Type 0 where
  pub reply : Result ℕ Refusal
  pub replied : Writes old new mode ids sizes file reply f'
  pub in_one : r ≡ write_packed reply
