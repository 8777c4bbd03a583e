-- What the two programs print for the bytes f that they read, and the lent memory after it.
--
--   FileFault f r      == the refusal r, 2 to 4, applies to reading f
--   told r             == a refusal as the NO line has it: number, where, place
--   subset r ws        == the ids that follow: of the set ws, rising, after 16 and 17
--   CheckerSays f w ns == the checker prints the word w and the numbers ns
--   PlannerGives f t   == the planner writes t: a whole plan file, or the NO line
--   Puts t out r out'  == t is put at the front of the lent bytes: r is its length, and out' what they hold afterwards
--   CheckerPuts, PlannerPuts == what each program prints is put at the front of the lent bytes
use Rattle.std.specs.Prelude.{ℕ, ◌≡◌, cond, ◌||◌, List, [], ◌∷◌, ◌++◌, length, drop, replicate, eqb, Ok, Err}
use Rattle.house.specs.declared.Refusal.{Refusal}
use Rattle.house.specs.Numbers.{words, encode}
use Rattle.house.specs.Sets.{has}
use Rattle.house.specs.Refusals.{number, site, place, First, Clear}
use Rattle.routes.specs.Walk.{State}
use Rattle.rounds.specs.Replies.{Checks}
use Rattle.rounds.specs.declared.check.Accepted.{Accepted}
use Rattle.plans.specs.Plan.{rising, PlanRounds, ids_of, sizes_of}
use Rattle.plans.specs.Replies.{PlanFault}
use Rattle.planfile.specs.File.{file_of, Holds}
use Rattle.planfile.specs.Replies.{ReadFault}
use Rattle.desk.specs.Text.{Line, OK, NO}

abbrev pub zeros : ℕ → List ℕ
zeros k = replicate k 0

abbrev pub FileFault : List ℕ → Refusal → Type 0
FileFault f = ReadFault f (zeros 512) (zeros 512) (zeros 4096) (zeros 2048)

abbrev pub told : Refusal → List ℕ
told r = number r ∷ site r ∷ place r ∷ []

unfoldable pub subset : Refusal → List ℕ → List ℕ
subset r ws = cond (eqb (number r) 16 || eqb (number r) 17) (rising (has ws)) []

pub data CheckerSays (f : List ℕ) : List ℕ → List ℕ → Type 0 where
  wrong_file : {r : Refusal} {w ns : List ℕ} → First (FileFault f) r → w ≡ NO → ns ≡ told r → CheckerSays f w ns
  accepted :
      {o n is zs : List ℕ} {mode : ℕ} {a : Accepted} {set w ns : List ℕ}
      → Clear (FileFault f)
      → Holds f o n mode is zs
      → Checks (encode 2 o) (encode 2 n) mode (encode 2 is) (encode 2 zs) (zeros 64) (Ok a) set
      → w ≡ OK
      → ns ≡ a.rounds ∷ a.dues ∷ []
      → CheckerSays f w ns
  refused :
      {o n is zs : List ℕ} {mode : ℕ} {r : Refusal} {set w ns : List ℕ}
      → Clear (FileFault f)
      → Holds f o n mode is zs
      → Checks (encode 2 o) (encode 2 n) mode (encode 2 is) (encode 2 zs) (zeros 64) (Err r) set
      → w ≡ NO
      → ns ≡ told r ++ subset r (words set)
      → CheckerSays f w ns

pub data PlannerGives (f : List ℕ) : List ℕ → Type 0 where
  wrong_file : {r : Refusal} {t : List ℕ} → First (FileFault f) r → Line NO (told r) t → PlannerGives f t
  refused :
      {o n is zs : List ℕ} {mode : ℕ} {r : Refusal} {t : List ℕ}
      → Clear (FileFault f)
      → Holds f o n mode is zs
      → First (PlanFault (encode 2 o) (encode 2 n) mode (zeros 1024) (zeros 1024)) r
      → Line NO (told r) t
      → PlannerGives f t
  planned :
      {o n is zs : List ℕ} {mode : ℕ} {Rs : List State} {t : List ℕ}
      → Clear (FileFault f)
      → Holds f o n mode is zs
      → Clear (PlanFault (encode 2 o) (encode 2 n) mode (zeros 1024) (zeros 1024))
      → PlanRounds mode o n Rs
      → t ≡ file_of o n mode (ids_of Rs) (sizes_of Rs)
      → PlannerGives f t

pub record Puts (t out : List ℕ) (r : ℕ) (out' : List ℕ) : Type 0 where
  pub size : r ≡ length t
  pub after : out' ≡ t ++ drop r out

pub record CheckerPuts (f out : List ℕ) (r : ℕ) (out' : List ℕ) : Type 0 where
  pub word : List ℕ
  pub numbers : List ℕ
  pub text : List ℕ
  pub says : CheckerSays f word numbers
  pub line : Line word numbers text
  pub puts : Puts text out r out'

pub record PlannerPuts (f out : List ℕ) (r : ℕ) (out' : List ℕ) : Type 0 where
  pub text : List ℕ
  pub gives : PlannerGives f text
  pub puts : Puts text out r out'
