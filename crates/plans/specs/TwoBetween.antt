-- The quick plan. First round: all installs, if there are any. Last round: all removes, if there are any. Between them every
-- switch with a positive old-order jump in one round and the rest in a second, leaving out an empty round.
--
--   positive z, negative z == whether there is a jump z, and it is above 0 or below
--   forwards, backwards   == the switches with a positive old-order jump, and the rest
--   both_back o n v       == v is a switch that goes backward in both orders (BB)
--   NoneBack o n          == no switch is BB
--   quick_rounds o n      == the rounds of the quick plan, in either mode
--   TwoBetween o n ids zs == ids and zs are a schedule of the change from o to n that has all installs in a first round, if
--                           there are any, all removes in a last round, if there are any, and the switches in at most two
--                           rounds between
use Rattle.std.specs.Prelude.{ℕ, zero, suc, ◌<◌, ◌≡◌, Bool, true, false, not, ◌&&◌, List, ◌++◌, ◌⊎◌, ℤ, pos, negsuc}
use Rattle.std.proofs.Math.Option.{Option, none, some}
use Rattle.routes.specs.Rules.{due}
use Rattle.routes.specs.Jumps.{jump}
use Rattle.routes.specs.Walk.{State}
use Rattle.rounds.specs.Schedule.{round_no, Schedule}
use Rattle.plans.specs.Plan.{installs, removes, switched, some_round}

abbrev pub positive : Option ℤ → Bool
positive none = false
positive (some (pos zero)) = false
positive (some (pos (suc k))) = true
positive (some (negsuc k)) = false

abbrev pub negative : Option ℤ → Bool
negative none = false
negative (some (pos k)) = false
negative (some (negsuc k)) = true

unfoldable pub forwards : List ℕ → List ℕ → State
forwards o n v = switched o n v && positive (jump o n v)

unfoldable pub backwards : List ℕ → List ℕ → State
backwards o n v = switched o n v && not (positive (jump o n v))

unfoldable pub both_back : List ℕ → List ℕ → State
both_back o n v = switched o n v && (negative (jump o n v) && negative (jump n o v))

pub record NoneBack (o n : List ℕ) : Type 0 where
  pub none_back : (v : ℕ) → both_back o n v ≡ true → ⊥

unfoldable pub quick_rounds : List ℕ → List ℕ → List State
quick_rounds o n =
    some_round (installs o n) ++ (some_round (forwards o n) ++ (some_round (backwards o n) ++ some_round (removes o n)))

pub record TwoBetween (o n ids zs : List ℕ) : Type 0 where
  pub well_formed : Schedule o n ids zs
  pub installs_together : (u v : ℕ) → installs o n u ≡ true → installs o n v ≡ true → round_no ids zs u ≡ round_no ids zs v
  pub installs_first :
      (u v : ℕ) → installs o n u ≡ true → due o n v ≡ true → installs o n v ≡ false → round_no ids zs u < round_no ids zs v
  pub removes_together : (u v : ℕ) → removes o n u ≡ true → removes o n v ≡ true → round_no ids zs u ≡ round_no ids zs v
  pub removes_last :
      (u v : ℕ) → removes o n u ≡ true → due o n v ≡ true → removes o n v ≡ false → round_no ids zs v < round_no ids zs u
  pub one : ℕ
  pub other : ℕ
  pub two_rounds : (v : ℕ) → switched o n v ≡ true → (round_no ids zs v ≡ one) ⊎ (round_no ids zs v ≡ other)
