-- What the parts of the two programs ask and answer. `out` is what the lent bytes hold before, `out'` what they hold after.
--
--   PutText out at t r out'    == the text t is stored from the offset at on; r is the offset behind it
--   PutFields out at ns r out' == so are the numbers ns in decimal, a space in front of each
--   PutLine w ns out r out'    == the line of the word w and the numbers ns is put at the front
--   IsRead f old new mode ids sizes == nothing is wrong with the file f; this is its content, the lists as bytes
--   Checked f a set            == the answer a of the check, with the set, is what the checker says of f
--   Refuses f q                == the NO line of the refusal q is what the planner gives for f
--   Planned f out a out'       == what the planner writes for f is put at the front; or it is refused, and nothing is put
use Rattle.std.specs.Prelude.{ℕ, ◌+◌, ◌≡◌, List, [], ◌∷◌, ◌++◌, length, Result, Ok, Err}
use Rattle.std.proofs.lemmas.List.Edits.{sets}
use Rattle.house.specs.declared.Refusal.{Refusal}
use Rattle.house.specs.Numbers.{words, eight, encode}
use Rattle.house.specs.Refusals.{Clear}
use Rattle.house.specs.Sets.{has}
use Rattle.rounds.specs.declared.check.Accepted.{Accepted}
use Rattle.plans.specs.Plan.{rising}
use Rattle.planfile.specs.File.{Holds}
use Rattle.desk.specs.Text.{Fields, Line, OK, NO}
use Rattle.desk.specs.Replies.{FileFault, told, CheckerSays, PlannerGives, Puts, PlannerPuts}

pub record PutText (out : List ℕ) (at : ℕ) (t : List ℕ) (r : ℕ) (out' : List ℕ) : Type 0 where
  pub stored : out' ≡ sets out at t
  pub next : r ≡ at + length t

pub record PutFields (out : List ℕ) (at : ℕ) (ns : List ℕ) (r : ℕ) (out' : List ℕ) : Type 0 where
  pub text : List ℕ
  pub fields : Fields ns text
  pub put : PutText out at text r out'

pub record PutLine (w ns out : List ℕ) (r : ℕ) (out' : List ℕ) : Type 0 where
  pub text : List ℕ
  pub line : Line w ns text
  pub puts : Puts text out r out'

pub record IsRead (f old new : List ℕ) (mode : ℕ) (ids sizes : List ℕ) : Type 0 where
  pub old_ids : List ℕ
  pub new_ids : List ℕ
  pub round_ids : List ℕ
  pub round_sizes : List ℕ
  pub clear : Clear (FileFault f)
  pub holds : Holds f old_ids new_ids mode round_ids round_sizes
  pub old_is : old ≡ encode 2 old_ids
  pub new_is : new ≡ encode 2 new_ids
  pub ids_is : ids ≡ encode 2 round_ids
  pub sizes_is : sizes ≡ encode 2 round_sizes

abbrev pub Checked : List ℕ → Result Accepted Refusal → List ℕ → Type 0
Checked f (Ok a) set = CheckerSays f OK (a.rounds ∷ a.dues ∷ [])
Checked f (Err q) set = CheckerSays f NO (told q ++ rising (has (eight (words set))))

pub record Refuses (f : List ℕ) (q : Refusal) : Type 0 where
  pub gives : (t : List ℕ) → Line NO (told q) t → PlannerGives f t

abbrev pub Planned : List ℕ → List ℕ → Result ℕ Refusal → List ℕ → Type 0
Planned f out (Ok n) out' = PlannerPuts f out n out'
Planned f out (Err q) out' = Refuses f q × (out' ≡ out)
