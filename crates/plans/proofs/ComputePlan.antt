-- Whether given rounds are the plan, by computing, and what the test tells. The given rounds say which switch is to join
-- which round; the test is that each that joins passes, and that each that waits does not. Assumes nothing.
--
-- Of a mode and routes o and n, and a round given as the list r:
--   failing P R          == the round R after the earlier rounds P does not pass
--   quiet_passes, failing_fails == what the two tests tell, of a good pair
--   grown b R v          == the round so far R, with v if it is to join (b)
--   tried b P R v        == v is to join and passes then, or it is to wait and does not
--   joined r vs R        == the round so far R with the switches of vs that are on r
--   waiting r vs         == the switches of vs that are not
--   joins_well P r vs R  == each that joins passes, and each that waits does not; joins_joining == what this tells
--   middles P vs rs      == the sets of the rounds rs of the switches vs, after P
--   middle_well P vs rs  == each of them joins well, and they are all; middle_is == what this tells
--   inner rs             == the rounds that have a switch
--   rounds_of rs         == the sets of all rounds
--   plan_well rs         == the plan is the rounds rs; plan_is == what this tells
use Prim.Native.Nat.{ℕ}
use mathlib.Core.Path.{◌≡◌, refl}
use mathlib.Core.Bool.{Bool, true, false, cond, ◌&&◌, ◌||◌}
use mathlib.Core.Logic.{⊎_elim}
use mathlib.Core.List.{List, [], ◌∷◌, ◌++◌, map}
use Rattle.routes.specs.Routes.{Good}
use Rattle.routes.specs.Jumps.{on}
use Rattle.routes.specs.Walk.{State}
use Rattle.rounds.specs.States.{Fault, a_drop, a_loop}
use Rattle.rounds.specs.Packet.{changed}
use Rattle.plans.specs.Plan.{
  RoundPasses,
  Joining,
  all_tried,
  joins,
  waits,
  nothing,
  together,
  Middle,
  all_placed,
  a_round,
  installs,
  removes,
  switches,
  rising,
  some_round,
}
use Rattle.plans.specs.Working.{round_choice}
use Rattle.plans.specs.Known.{IsPlan}
use Rattle.plans.proofs.IdLists.{clash, either_or}
use Rattle.plans.proofs.PlanPaths.{passes_finds}
use Rattle.plans.proofs.Compute.{any, and_both, sames, sames_are}
use Rattle.plans.proofs.ComputeFaults.{found, quiet, found_finds, quiet_none}

abbrev pub grown : Bool → State → ℕ → State
grown b R v = cond b (changed R v) R

unfoldable pub joined : List ℕ → List ℕ → State → State
unfolding on
joined r [] R = R
joined r (v ∷ vs) R = joined r vs (grown (on r v) R v)

unfoldable pub waiting : List ℕ → List ℕ → List ℕ
unfolding on
waiting r [] = []
waiting r (v ∷ vs) = cond (on r v) (waiting r vs) (v ∷ waiting r vs)

module _ (mode : ℕ) (o n : List ℕ) where
  unfoldable pub failing : State → State → Bool
  unfolding found
  failing P R = let r = found o n (round_choice P R) a_drop mode in found o n (round_choice P R) a_loop mode || r

  unfoldable pub tried : Bool → State → State → ℕ → Bool
  unfolding quiet failing
  tried true P R v = quiet o n (round_choice P (changed R v)) mode
  tried false P R v = failing P (changed R v)

  unfoldable pub joins_well : State → List ℕ → List ℕ → State → Bool
  unfolding on tried
  joins_well P r [] R = true
  joins_well P r (v ∷ vs) R = let w = joins_well P r vs (grown (on r v) R v) in tried (on r v) P R v && w

  unfoldable pub middles : State → List ℕ → List (List ℕ) → List State
  unfolding joined waiting
  middles P vs [] = []
  middles P vs (r ∷ rs) = joined r vs nothing ∷ middles (together P (joined r vs nothing)) (waiting r vs) rs

  unfoldable pub middle_well : State → List ℕ → List (List ℕ) → Bool
  unfolding joined waiting joins_well
  middle_well P [] [] = true
  middle_well P (v ∷ vs) [] = false
  middle_well P [] (r ∷ rs) = false
  middle_well P (v ∷ vs) (r ∷ rs) =
      let w = middle_well (together P (joined r (v ∷ vs) nothing)) (waiting r (v ∷ vs)) rs in
      joins_well P r (v ∷ vs) nothing && w

  unfoldable pub inner : List (List ℕ) → List (List ℕ)
  unfolding on switches any
  inner [] = []
  inner (r ∷ rs) = cond (any (on (switches o n)) r) (r ∷ inner rs) (inner rs)

  unfoldable pub rounds_of : List (List ℕ) → List State
  unfolding installs removes switches some_round middles inner
  rounds_of rs =
      some_round (installs o n) ++ (middles (installs o n) (switches o n) (inner rs) ++ some_round (removes o n))

  unfoldable pub plan_well : List (List ℕ) → Bool
  unfolding installs switches rising middle_well inner rounds_of sames
  plan_well rs = middle_well (installs o n) (switches o n) (inner rs) && sames (map rising (rounds_of rs)) rs

  module _ (g : Good o n) where
    pub quiet_passes : (P R : State) → quiet o n (round_choice P R) mode ≡ true → RoundPasses mode o n P R
    quiet_passes P R e = (passes_finds g mode P R).1 (quiet_none o n (round_choice P R) mode e)

    pub failing_fails : (P R : State) → failing P R ≡ true → RoundPasses mode o n P R → ⊥
    unfolding failing
    failing_fails P R e p =
        ⊎_elim (fault a_loop) (fault a_drop) (either_or _ _ e)
      where
        fault : (f : Fault) → found o n (round_choice P R) f mode ≡ true → ⊥
        fault f h = (passes_finds g mode P R).0 p f (found_finds o n (round_choice P R) f mode h)

    pub joins_joining :
        (P : State) (r vs : List ℕ) (R : State) → joins_well P r vs R ≡ true → Joining mode o n P vs R (joined r vs R) (waiting r vs)
    unfolding joins_well joined waiting
    joins_joining P r [] R e = all_tried
    joins_joining P r (v ∷ vs) R e =
        let x = and_both e in go (on r v) x.0 (joins_joining P r vs (grown (on r v) R v) x.1)
      where
        go :
            (b : Bool) {R' : State} {W : List ℕ}
            → tried b P R v ≡ true
            → Joining mode o n P vs (grown b R v) R' W
            → Joining mode o n P (v ∷ vs) R R' (cond b W (v ∷ W))
        go true e j = joins (quiet_passes P (changed R v) e) j
        go false e j = waits (failing_fails P (changed R v) e) j

    pub middle_is :
        (P : State) (vs : List ℕ) (rs : List (List ℕ)) → middle_well P vs rs ≡ true → Middle mode o n P vs (middles P vs rs)
    unfolding middle_well middles
    middle_is P [] [] e = all_placed
    middle_is P (v ∷ vs) [] e = clash e refl
    middle_is P [] (r ∷ rs) e = clash e refl
    middle_is P (v ∷ vs) (r ∷ rs) e =
        let x = and_both e in
        a_round (joins_joining P r (v ∷ vs) nothing x.0)
        (middle_is (together P (joined r (v ∷ vs) nothing)) (waiting r (v ∷ vs)) rs x.1)

    pub plan_is : (rs : List (List ℕ)) → plan_well rs ≡ true → IsPlan mode o n rs
    unfolding plan_well rounds_of
    plan_is rs e =
        let x = and_both e in
        record {
          good = g;
          rounds = rounds_of rs;
          planned =
              record {
                middle = middles (installs o n) (switches o n) (inner rs);
                joined = middle_is (installs o n) (switches o n) (inner rs) x.0;
                rounds = refl;
              };
          listed = sames_are (map rising (rounds_of rs)) rs x.1;
        }
