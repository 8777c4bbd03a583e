-- The replies of the reader and the writer and the lent memory after them, for every input.
--
--   RecordIs f p k a   == a is the reply for the offset p of the file f, where a record of the kind k is expected
--   ReadFault .. r     == the refusal r, 1 to 4, applies to reading the file
--   Reads .. a o' n' i' z' == a is the reply of the reader; o', n', i' and z' are what the four lent slices hold afterwards
--   WriteFault .. r    == the refusal r, 1 or 4 to 14, applies to writing
--   Writes .. a f'     == a is the reply of the writer, and f' what the lent slice holds afterwards
use Rattle.std.specs.Prelude.{ℕ, ◌+◌, ◌/◌, ◌<◌, ◌≡◌, List, ◌++◌, length, drop, Option, Some, None, Result, Ok, Err}
use Rattle.house.specs.declared.Refusal.{Refusal}
use Rattle.house.specs.declared.Refusal.TheVariants.{Unfit, FileLong, RecordWrong, RouteLength}
use Rattle.house.specs.Numbers.{entries}
use Rattle.house.specs.Refusals.{First, Clear}
use Rattle.plans.specs.Replies.{overlaid}
use Rattle.rounds.specs.Replies.{ChangeFault}
use Rattle.planfile.specs.File.{file_of, Holds, size_at, WrongAt, Expects, Ended}
use Rattle.planfile.specs.declared.record.Record.{Record}
use Rattle.planfile.specs.declared.read.Content.{Content}

pub data RecordIs (f : List ℕ) (p k : ℕ) : Result (Option Record) Refusal → Type 0 where
  ended : Ended f p k → RecordIs f p k (Ok None)
  wrong_at : {q : ℕ} → (Ended f p k → ⊥) → WrongAt f k p → q ≡ p → RecordIs f p k (Err (RecordWrong q))
  stands :
      {r : Record}
      → (WrongAt f k p → ⊥)
      → r.start ≡ p + 4
      → r.size ≡ size_at f p
      → r.next ≡ p + 4 + size_at f p
      → RecordIs f p k (Ok (Some r))

pub data ReadFault (f old new ids sizes : List ℕ) : Refusal → Type 0 where
  short_old : length old < 512 → ReadFault f old new ids sizes Unfit
  short_new : length new < 512 → ReadFault f old new ids sizes Unfit
  short_ids : length ids < 4096 → ReadFault f old new ids sizes Unfit
  short_sizes : length sizes < 2048 → ReadFault f old new ids sizes Unfit
  long : 4092 < length f → ReadFault f old new ids sizes FileLong
  wrong : {p k : ℕ} → Expects f p k → (Ended f p k → ⊥) → WrongAt f k p → ReadFault f old new ids sizes (RecordWrong p)
  few : {p w : ℕ} → Expects f p w → w < 3 → size_at f p / 2 < 2 → ReadFault f old new ids sizes (RouteLength w)
  many : {p w : ℕ} → Expects f p w → w < 3 → 256 < size_at f p / 2 → ReadFault f old new ids sizes (RouteLength w)

pub data Reads (f old new ids sizes : List ℕ) : Result Content Refusal → List ℕ → List ℕ → List ℕ → List ℕ → Type 0 where
  refused :
      {r : Refusal} {o' n' i' z' : List ℕ}
      → First (ReadFault f old new ids sizes) r
      → o' ≡ old
      → n' ≡ new
      → i' ≡ ids
      → z' ≡ sizes
      → Reads f old new ids sizes (Err r) o' n' i' z'
  content :
      (o n is zs : List ℕ) {c : Content} {o' n' i' z' : List ℕ}
      → Clear (ReadFault f old new ids sizes)
      → Holds f o n c.mode is zs
      → c.olds ≡ length o
      → c.news ≡ length n
      → c.ids ≡ length is
      → c.rounds ≡ length zs
      → o' ≡ overlaid o old
      → n' ≡ overlaid n new
      → i' ≡ overlaid is ids
      → z' ≡ overlaid zs sizes
      → Reads f old new ids sizes (Ok c) o' n' i' z'

pub data WriteFault (old new : List ℕ) (mode : ℕ) (ids sizes file : List ℕ) : Refusal → Type 0 where
  short_file : length file < 4092 → WriteFault old new mode ids sizes file Unfit
  change : {r : Refusal} → ChangeFault old new mode ids sizes r → WriteFault old new mode ids sizes file r

pub data Writes (old new : List ℕ) (mode : ℕ) (ids sizes file : List ℕ) : Result ℕ Refusal → List ℕ → Type 0 where
  refused :
      {r : Refusal} {f' : List ℕ}
      → First (WriteFault old new mode ids sizes file) r
      → f' ≡ file
      → Writes old new mode ids sizes file (Err r) f'
  written :
      {f f' : List ℕ} {size : ℕ}
      → Clear (WriteFault old new mode ids sizes file)
      → f ≡ file_of (entries old) (entries new) mode (entries ids) (entries sizes)
      → size ≡ length f
      → f' ≡ f ++ drop size file
      → Writes old new mode ids sizes file (Ok size) f'
