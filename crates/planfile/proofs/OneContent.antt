-- A file without faults holds exactly one content, and different contents have different files.
--
--   clear_right      == where no refusal applies to reading, no record is wrong
--   clear_short      == and the file is at most 4,092 bytes long
--   ExactlyOne f     == the file f holds a content, and no other
--   exactly_one      == a file to which no refusal of the reader applies holds exactly one content
--   Plain o n mode is zs == two-byte numbers, and sizes that add up to the ids
--   plain_holds      == the file of such a content holds it
--   file_injective   == two such contents with one file, shorter than 65,536 bytes, are the same. (A body of 65,536 bytes or more
--                       has no length of two bytes.)
use Prim.Native.Nat.{ℕ, ◌<◌, ◌≤◌}
use mathlib.Core.Path.{◌≡◌, refl}
use mathlib.Core.List.{List}
use native.Mathlib.Omega.{arith}
use lib.ListN.{length, get_or}
use Rattle.house.specs.Refusals.{Clear}
use Rattle.house.specs.declared.Refusal.TheVariants.{FileLong, RecordWrong}
use Rattle.house.proofs.NumberLaws.{Under}
use Rattle.rounds.specs.Schedule.{sum}
use Rattle.planfile.specs.File.{file_of, Holds}
use Rattle.planfile.specs.Parts.{AllRight}
use Rattle.planfile.specs.Replies.{ReadFault, long, wrong}
use Rattle.planfile.proofs.FileLaws.{Content, SameContent, holds_some, holds_one}

module _ {f old new ids sizes : List ℕ} (k : Clear (ReadFault f old new ids sizes)) where
  pub clear_right : AllRight f
  clear_right = record { none_wrong = λ {p} x n v. k.clear (RecordWrong p) (wrong x n v) }

  pub clear_short : length f ≤ 4092
  clear_short = let h : 4092 < length f → ⊥ = λ l. k.clear FileLong (long l) in omega arith

pub record ExactlyOne (f : List ℕ) : Type 0 where
  pub content : Content f
  pub only :
      {o n : List ℕ} {mode : ℕ} {is zs : List ℕ}
      → Holds f o n mode is zs
      → SameContent o n mode is zs content.old content.new content.mode content.ids content.sizes

pub exactly_one : {f old new ids sizes : List ℕ} → Clear (ReadFault f old new ids sizes) → Under 256 f → ExactlyOne f
exactly_one {f} k u = one (holds_some (clear_right k) u)
  where
    one : Content f → ExactlyOne f
    one c = record { content = c; only = λ h. holds_one h c.holds (omega (arith, clear_short k)) }

pub record Plain (o n : List ℕ) (mode : ℕ) (is zs : List ℕ) : Type 0 where
  pub sums : sum zs ≡ length is
  pub old_ids : (i : ℕ) → get_or o i 0 < 65536
  pub new_ids : (i : ℕ) → get_or n i 0 < 65536
  pub mode_fits : mode < 65536
  pub round_ids : (i : ℕ) → get_or is i 0 < 65536

pub plain_holds : {f o n : List ℕ} {mode : ℕ} {is zs : List ℕ} → Plain o n mode is zs → f ≡ file_of o n mode is zs → Holds f o n mode is zs
plain_holds p e =
    record {
      same = e;
      sums = p.sums;
      old_ids = p.old_ids;
      new_ids = p.new_ids;
      mode_fits = p.mode_fits;
      round_ids = p.round_ids;
    }

pub file_injective :
    {o n : List ℕ} {mode : ℕ} {is zs o' n' : List ℕ} {mode' : ℕ} {is' zs' : List ℕ}
    → Plain o n mode is zs
    → Plain o' n' mode' is' zs'
    → length (file_of o n mode is zs) < 65536
    → file_of o n mode is zs ≡ file_of o' n' mode' is' zs'
    → SameContent o n mode is zs o' n' mode' is' zs'
file_injective p q l e = holds_one (plain_holds p refl) (plain_holds q e) l
