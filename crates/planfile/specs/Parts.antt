-- What the parts of the reader and the writer ask and answer.
--
--   AllRight f        == no record of the file f is wrong
--   Scans f a         == a says which record is wrong, or how long the bodies of the two routes are
--   LengthIs w n r    == r refuses the route w exactly where its n ids are not 2 to 256
--   Room old new ids sizes == the lent slices are long enough
--   Fine f a b old new ids sizes == no record of f is wrong, a and b are the lengths of the bodies of the two routes, the file is
--                        not too long, and the lent slices have room
--   Ready f p ids sizes == no record of f is wrong, a round is expected at the offset p, and the lent slices have room
--   RoundsIn f p q ids zs == from the offset p to the offset q the file f holds the rounds of these ids and sizes
--   Copied .. c i' z' == the rounds from the offset p on are copied: c counts their ids and the rounds, and i' and z' are what
--                        the two lent slices hold afterwards
--
--   RecordRoom file at b == a record with the body b has room at the offset at, and its length is a two-byte number
--   PutRecord .. r f' == a record is stored there: r is the offset behind it, and f' what the lent slice holds afterwards
--   RoundsRoom file at ids sizes == the sizes add up to the ids, whole entries, and their records have room at the offset at
--   PutRounds .. r f' == the records of rounds are stored there
--   Writable old new mode ids sizes file == no refusal applies to the change, and the lent slice is long enough
--   PutFile .. r f'   == the plan file is stored at the front: r is its length
use Rattle.std.specs.Prelude.{ℕ, ◌+◌, ◌<◌, ◌≤◌, ◌≡◌, List, ◌++◌, length, get_or, drop, Result, Ok, Err}
use Rattle.std.proofs.lemmas.List.Edits.{sets}
use Rattle.house.specs.declared.Refusal.{Refusal}
use Rattle.house.specs.declared.Refusal.TheVariants.{RecordWrong, RouteLength}
use Rattle.house.specs.Numbers.{entries, Whole}
use Rattle.house.specs.Refusals.{Clear}
use Rattle.plans.specs.Replies.{overlaid}
use Rattle.rounds.specs.Replies.{ChangeFault}
use Rattle.rounds.specs.Schedule.{sum}
use Rattle.planfile.specs.File.{record_of, round_records, file_of, size_at, WrongAt, Expects, Ended}
use Rattle.planfile.specs.declared.read.Bodies.{Bodies}
use Rattle.planfile.specs.declared.read.Counts.{Counts}

pub record AllRight (f : List ℕ) : Type 0 where
  pub none_wrong : {p k : ℕ} → Expects f p k → (Ended f p k → ⊥) → WrongAt f k p → ⊥

pub data Scans (f : List ℕ) : Result Bodies Refusal → Type 0 where
  all_right : {b : Bodies} → AllRight f → b.old ≡ size_at f 0 → b.new ≡ size_at f (4 + b.old) → Scans f (Ok b)
  one_wrong : {p k q : ℕ} → Expects f p k → (Ended f p k → ⊥) → WrongAt f k p → q ≡ p → Scans f (Err (RecordWrong q))

pub data LengthIs (w n : ℕ) : Result (Unit {0}) Refusal → Type 0 where
  length_right : 2 ≤ n → n ≤ 256 → LengthIs w n (Ok tt)
  length_few : n < 2 → LengthIs w n (Err (RouteLength w))
  length_many : 256 < n → LengthIs w n (Err (RouteLength w))

pub record Room (old new ids sizes : List ℕ) : Type 0 where
  pub for_old : 512 ≤ length old
  pub for_new : 512 ≤ length new
  pub for_ids : 4096 ≤ length ids
  pub for_sizes : 2048 ≤ length sizes

pub record Fine (f : List ℕ) (a b : ℕ) (old new ids sizes : List ℕ) : Type 0 where
  pub right : AllRight f
  pub old_size : a ≡ size_at f 0
  pub new_size : b ≡ size_at f (4 + a)
  pub fits : length f ≤ 4092
  pub room : Room old new ids sizes

pub record Ready (f : List ℕ) (p : ℕ) (ids sizes : List ℕ) : Type 0 where
  pub right : AllRight f
  pub expected : Expects f p 4
  pub within : p ≤ length f
  pub fits : length f ≤ 4092
  pub room_ids : 4096 ≤ length ids
  pub room_sizes : 2048 ≤ length sizes

pub record RoundsIn (f : List ℕ) (p q : ℕ) (ids zs : List ℕ) : Type 0 where
  pub same : drop p f ≡ round_records ids zs ++ drop q f
  pub sums : sum zs ≡ length ids
  pub low : (i : ℕ) → get_or ids i 0 < 65536

pub record Copied (f : List ℕ) (p : ℕ) (ids sizes : List ℕ) (c : Counts) (i' z' : List ℕ) : Type 0 where
  pub is : List ℕ
  pub zs : List ℕ
  pub rounds_in : RoundsIn f p (length f) is zs
  pub count : c.ids ≡ length is
  pub rounds : c.rounds ≡ length zs
  pub ids_after : i' ≡ overlaid is ids
  pub sizes_after : z' ≡ overlaid zs sizes

pub record RecordRoom (file : List ℕ) (at : ℕ) (b : List ℕ) : Type 0 where
  pub room : at + 4 + length b ≤ length file
  pub short : length b < 65536

pub record PutRecord (file : List ℕ) (at k : ℕ) (b : List ℕ) (r : ℕ) (f' : List ℕ) : Type 0 where
  pub stored : f' ≡ sets file at (record_of k b)
  pub next : r ≡ at + 4 + length b

pub record RoundsRoom (file : List ℕ) (at : ℕ) (ids sizes : List ℕ) : Type 0 where
  pub whole : Whole ids
  pub sums : sum (entries sizes) ≡ length (entries ids)
  pub room : at + length (round_records (entries ids) (entries sizes)) ≤ length file
  pub short : length ids < 65536

pub record PutRounds (file : List ℕ) (at : ℕ) (ids sizes : List ℕ) (r : ℕ) (f' : List ℕ) : Type 0 where
  pub stored : f' ≡ sets file at (round_records (entries ids) (entries sizes))
  pub next : r ≡ at + length (round_records (entries ids) (entries sizes))

pub record Writable (old new : List ℕ) (mode : ℕ) (ids sizes file : List ℕ) : Type 0 where
  pub sound : Clear (ChangeFault old new mode ids sizes)
  pub room : 4092 ≤ length file

pub record PutFile (old new : List ℕ) (mode : ℕ) (ids sizes file : List ℕ) (r : ℕ) (f' : List ℕ) : Type 0 where
  pub stored : f' ≡ file_of (entries old) (entries new) mode (entries ids) (entries sizes) ++ drop r file
  pub size : r ≡ length (file_of (entries old) (entries new) mode (entries ids) (entries sizes))
