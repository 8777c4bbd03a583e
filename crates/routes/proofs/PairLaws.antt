-- Laws on judging a pair of routes.
--
--   clear_whole      == where no refusal applies, both slices are whole entries
--   clear_good       == where no refusal applies, the pair is good
--   good_clear       == to a good pair in whole entries no refusal applies
--   judged_clear, judged_first == the judgement of slices that are whole entries is that of their entries
--   judged_unfit     == 1 is given where a slice is not whole entries
--   judge_low        == the refusals of a pair have numbers up to 7
--   judge_first_in   == the refusal that is given for the pair is given among more refusals too, if those have higher numbers
--   judges_good      == a pair that is judged sound is good
--   judges_one       == `judge` has one reply
use Rattle.std.specs.Prelude.{Result, Ok, Err}
use Prim.Native.Nat.{ℕ, ◌%◌, ◌<◌, ◌≤◌}
use mathlib.Core.Path.{◌≡◌, refl, ap}
use mathlib.Core.Logic.{◌⊎◌, inl, inr}
use mathlib.Core.List.{List}
use native.Mathlib.Decide.{ℕ_discrete}
use native.Mathlib.Omega.{arith}
use lib.ListN.{length, get_or}
use Rattle.house.specs.declared.Refusal.{Refusal}
use Rattle.house.specs.declared.Refusal.TheVariants.{Unfit, RouteLength, RouteId, RouteRepeat, EndsDiffer}
use Rattle.house.specs.Numbers.{entries, Whole}
use Rattle.house.specs.Refusals.{number, Before, First, Clear}
use Rattle.house.proofs.RefusalLaws.{before_number, first_one, first_not_clear, unfit_first}
use Rattle.routes.specs.Routes.{
  source,
  destination,
  GoodRoute,
  Good,
  Side,
  old_side,
  new_side,
  no as no_of,
  route,
  RouteFault,
  too_short,
  too_long,
  over,
  again,
  sources_differ,
  destinations_differ,
}
use Rattle.routes.specs.Replies.{JudgeFault, half_old, half_new, pair, Judges, sound, faulty}

-- an equation of numbers that cannot fail holds
agree : (a b : ℕ) → ((a ≡ b → ⊥) → ⊥) → a ≡ b
agree a b h = go (ℕ_discrete a b)
  where
    go : Dec (a ≡ b) → a ≡ b
    go (yes e) = e
    go (no e) = absurd (h e)

pub clear_whole : {old new : List ℕ} → Clear (JudgeFault old new) → Whole old × Whole new
clear_whole {old} {new} k = (
  record { even = agree (length old % 2) 0 (λ h. k.clear Unfit (half_old (λ w. h w.even))) },
  record { even = agree (length new % 2) 0 (λ h. k.clear Unfit (half_new (λ w. h w.even))) },
)

clear_route : {o n : List ℕ} → Clear (RouteFault o n) → (z : Side) → GoodRoute (route o n z)
clear_route {o} {n} k z =
    record {
      least = by_least;
      most = by_most;
      ids = by_ids;
      distinct = λ j i l h e. k.clear (RouteRepeat (no_of z) i) (again z refl h (j, l, e));
    }
  where
    l : List ℕ
    l = route o n z

    by_least : 2 ≤ length l
    by_least = let h : length l < 2 → ⊥ = λ s. k.clear (RouteLength (no_of z)) (too_short z refl s) in omega arith

    by_most : length l ≤ 256
    by_most = let h : 256 < length l → ⊥ = λ s. k.clear (RouteLength (no_of z)) (too_long z refl s) in omega arith

    by_ids : (i : ℕ) → i < length l → get_or l i 0 < 512
    by_ids i h = let g : 511 < get_or l i 0 → ⊥ = λ s. k.clear (RouteId (no_of z) i) (over z refl h s) in omega arith

clear_pair : {o n : List ℕ} → Clear (RouteFault o n) → Good o n
clear_pair {o} {n} k =
    record {
      old = clear_route k old_side;
      new = clear_route k new_side;
      sources = agree (source o) (source n) (λ h. k.clear (EndsDiffer 0) (sources_differ refl h));
      destinations = agree (destination o) (destination n) (λ h. k.clear (EndsDiffer 1) (destinations_differ refl h));
    }

pub clear_good : {old new : List ℕ} → Clear (JudgeFault old new) → Good (entries old) (entries new)
clear_good {old} {new} k = clear_pair (record { clear = λ q f. k.clear q (pair f) })

-- a good pair's route
side : {o n : List ℕ} → Good o n → (z : Side) → GoodRoute (route o n z)
side g old_side = g.old
side g new_side = g.new

pair_clear : {o n : List ℕ} → Good o n → (q : Refusal) → RouteFault o n q → ⊥
pair_clear g q (too_short z e h) = let r = (side g z).least in omega arith
pair_clear g q (too_long z e h) = let r = (side g z).most in omega arith
pair_clear g q (over z {w} {i} e h s) = let r = (side g z).ids i h in omega arith
pair_clear g q (again z {w} {i} e h (j, l, s)) = (side g z).distinct j i l h s
pair_clear g q (sources_differ e h) = h g.sources
pair_clear g q (destinations_differ e h) = h g.destinations

pub judged_clear :
    {old new : List ℕ}
    → Whole old
    → Whole new
    → Clear (RouteFault (entries old) (entries new))
    → Clear (JudgeFault old new)
judged_clear {old} {new} a b f = record { clear = go }
  where
    go : (q : Refusal) → JudgeFault old new q → ⊥
    go q (half_old h) = h a
    go q (half_new h) = h b
    go q (pair g) = f.clear q g

pub good_clear : {old new : List ℕ} → Whole old → Whole new → Good (entries old) (entries new) → Clear (JudgeFault old new)
good_clear a b g = judged_clear a b (record { clear = pair_clear g })

pub judged_first :
    {old new : List ℕ} {r : Refusal}
    → Whole old
    → Whole new
    → First (RouteFault (entries old) (entries new)) r
    → First (JudgeFault old new) r
judged_first {old} {new} {r} a b f = record { applies = pair f.applies; lowest = go }
  where
    go : (q : Refusal) → JudgeFault old new q → Before q r → ⊥
    go q (half_old h) k = h a
    go q (half_new h) k = h b
    go q (pair g) k = f.lowest q g k

pub judge_low : {old new : List ℕ} {r : Refusal} → JudgeFault old new r → number r ≤ 7
judge_low (half_old h) = omega arith
judge_low (half_new h) = omega arith
judge_low (pair (too_short z e h)) = omega arith
judge_low (pair (too_long z e h)) = omega arith
judge_low (pair (over z e h s)) = omega arith
judge_low (pair (again z e h s)) = omega arith
judge_low (pair (sources_differ e h)) = omega arith
judge_low (pair (destinations_differ e h)) = omega arith

pub judged_unfit : {old new : List ℕ} → JudgeFault old new Unfit → First (JudgeFault old new) Unfit
judged_unfit f = unfit_first f

pub judge_first_in :
    {old new : List ℕ} {G : Refusal → Type 0} {r : Refusal}
    → ((q : Refusal) → G q → JudgeFault old new q ⊎ (7 < number q))
    → (JudgeFault old new r → G r)
    → First (JudgeFault old new) r
    → First G r
judge_first_in {old} {new} {G} {r} out into f = record { applies = into f.applies; lowest = λ q g. go q (out q g) }
  where
    low : number r ≤ 7
    low = judge_low f.applies

    go : (q : Refusal) → JudgeFault old new q ⊎ (7 < number q) → Before q r → ⊥
    go q (inl j) b = f.lowest q j b
    go q (inr h) b = omega (arith, low, before_number b)

pub judges_good : {old new : List ℕ} {u : Unit {0}} → Judges old new (Ok u) → Good (entries old) (entries new)
judges_good (sound k) = clear_good k

pub judges_one : {old new : List ℕ} {a b : Result (Unit {0}) Refusal} → Judges old new a → Judges old new b → a ≡ b
judges_one (sound k) (sound l) = refl
judges_one (sound k) (faulty f) = absurd (first_not_clear f k)
judges_one (faulty f) (sound k) = absurd (first_not_clear f k)
judges_one (faulty f) (faulty g) = ap Err (first_one f g)
