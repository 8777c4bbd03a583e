-- The refusals: each has a number, a where and a place. Unnamed ones are 0.
--
--   number r, site r, place r == document 01's number, where and place of the refusal r (`where` is a reserved word)
--   Before q r    == q is given rather than r: a lower number, or the same and a lower where, or both the same and a
--                    lower place
--   First F r     == of all refusals that apply (F), r is the one that is given
--   Clear F       == no refusal applies
--   IsTold r t    == t is what is told of r: its number, where and place
--   told_text t   == the three numbers in decimal, a space between them
use Rattle.std.specs.Prelude.{ℕ, ◌<◌, ◌≡◌, List, ◌∷◌, ◌++◌}
use Rattle.std.specs.Fmt.{decimal}
use Rattle.house.specs.declared.Refusal.{Refusal}
use Rattle.house.specs.declared.Told.{Told}
use Rattle.house.specs.declared.Refusal.TheVariants.{
  Unfit,
  FileLong,
  RecordWrong,
  RouteLength,
  RouteId,
  RouteRepeat,
  EndsDiffer,
  ModeOver,
  SizesSum,
  RoundEmpty,
  NotRising,
  NotDue,
  Again,
  Missing,
  BeginsFaulty,
  Drop,
  Loop,
  NoJump,
  BothBackward,
}

abbrev pub number : Refusal → ℕ
number Unfit = 1
number FileLong = 2
number (RecordWrong o) = 3
number (RouteLength w) = 4
number (RouteId w i) = 5
number (RouteRepeat w i) = 6
number (EndsDiffer p) = 7
number ModeOver = 8
number SizesSum = 9
number (RoundEmpty t) = 10
number (NotRising t i) = 11
number (NotDue t i) = 12
number (Again t i) = 13
number (Missing v) = 14
number (BeginsFaulty t) = 15
number (Drop t m) = 16
number (Loop t m) = 17
number (NoJump v) = 18
number (BothBackward v) = 19

abbrev pub site : Refusal → ℕ
site Unfit = 0
site FileLong = 0
site (RecordWrong o) = 0
site (RouteLength w) = w
site (RouteId w i) = w
site (RouteRepeat w i) = w
site (EndsDiffer p) = 0
site ModeOver = 0
site SizesSum = 0
site (RoundEmpty t) = t
site (NotRising t i) = t
site (NotDue t i) = t
site (Again t i) = t
site (Missing v) = 0
site (BeginsFaulty t) = t
site (Drop t m) = t
site (Loop t m) = t
site (NoJump v) = 0
site (BothBackward v) = 0

abbrev pub place : Refusal → ℕ
place Unfit = 0
place FileLong = 0
place (RecordWrong o) = o
place (RouteLength w) = 0
place (RouteId w i) = i
place (RouteRepeat w i) = i
place (EndsDiffer p) = p
place ModeOver = 0
place SizesSum = 0
place (RoundEmpty t) = 0
place (NotRising t i) = i
place (NotDue t i) = i
place (Again t i) = i
place (Missing v) = v
place (BeginsFaulty t) = 0
place (Drop t m) = m
place (Loop t m) = m
place (NoJump v) = v
place (BothBackward v) = v

pub data Before (q r : Refusal) : Type 0 where
  lower : number q < number r → Before q r
  sooner : number q ≡ number r → site q < site r → Before q r
  nearer : number q ≡ number r → site q ≡ site r → place q < place r → Before q r

pub record First (F : Refusal → Type 0) (r : Refusal) : Type 0 where
  pub applies : F r
  pub lowest : (q : Refusal) → F q → Before q r → ⊥

pub record Clear (F : Refusal → Type 0) : Type 0 where
  pub clear : (q : Refusal) → F q → ⊥

pub record IsTold (r : Refusal) (t : Told) : Type 0 where
  pub number_is : t.number ≡ number r
  pub site_is : t.site ≡ site r
  pub place_is : t.place ≡ place r

abbrev pub told_text : Told → List ℕ
told_text t = decimal t.number ++ 32 ∷ (decimal t.site ++ 32 ∷ decimal t.place)
