-- Laws on refusals.
--
--   told_one         == number, where and place tell the refusal
--   before_irreflexive, before_transitive == `Before` is a strict order
--   before_number    == a refusal that is before another has no higher number
--   before_or        == of two refusals one is before the other, or the three numbers are the same
--   first_one        == at most one refusal is the one that is given
--   first_not_clear  == where one is given, some applies
--   number_least     == the lowest number is 1
--   unfit_first      == 1 is given wherever it applies
use Prim.Native.Nat.{ℕ, ◌<◌, ◌≤◌}
use mathlib.Core.Path.{◌≡◌, refl}
use mathlib.Core.List.{[], ◌∷◌}
use mathlib.Core.Logic.{◌⊎◌, inl, inr}
use native.Mathlib.Decide.{dec_lt}
use native.Mathlib.Omega.{arith}
use lib.ListN.{get_or}
use Rattle.house.specs.Refusals.{number, site, place, Before, lower, sooner, nearer, First, Clear}
use Rattle.house.specs.declared.Refusal.{Refusal}
use Rattle.house.specs.declared.Refusal.TheVariants.{
  Unfit,
  FileLong,
  RecordWrong,
  RouteLength,
  RouteId,
  RouteRepeat,
  EndsDiffer,
  ModeOver,
  SizesSum,
  RoundEmpty,
  NotRising,
  NotDue,
  Again,
  Missing,
  BeginsFaulty,
  Drop,
  Loop,
  NoJump,
  BothBackward,
}

-- the refusal with the number n, the site w and the place p: `Unfit` stands for the number 0 too, and the last past the end
back : ℕ → ℕ → ℕ → Refusal
back n w p =
    get_or
    (Unfit
    ∷ Unfit
    ∷ FileLong
    ∷ RecordWrong p
    ∷ RouteLength w
    ∷ RouteId w p
    ∷ RouteRepeat w p
    ∷ EndsDiffer p
    ∷ ModeOver
    ∷ SizesSum
    ∷ RoundEmpty w
    ∷ NotRising w p
    ∷ NotDue w p
    ∷ Again w p
    ∷ Missing p
    ∷ BeginsFaulty w
    ∷ Drop w p
    ∷ Loop w p
    ∷ NoJump p
    ∷ [])
    n
    (BothBackward p)

back_told : (r : Refusal) → back (number r) (site r) (place r) ≡ r
unfolding back
back_told Unfit = refl
back_told FileLong = refl
back_told (RecordWrong o) = refl
back_told (RouteLength w) = refl
back_told (RouteId w i) = refl
back_told (RouteRepeat w i) = refl
back_told (EndsDiffer p) = refl
back_told ModeOver = refl
back_told SizesSum = refl
back_told (RoundEmpty t) = refl
back_told (NotRising t i) = refl
back_told (NotDue t i) = refl
back_told (Again t i) = refl
back_told (Missing v) = refl
back_told (BeginsFaulty t) = refl
back_told (Drop t m) = refl
back_told (Loop t m) = refl
back_told (NoJump v) = refl
back_told (BothBackward v) = refl

pub told_one : {q r : Refusal} → number q ≡ number r → site q ≡ site r → place q ≡ place r → q ≡ r
told_one {q} {r} n s p = cc (back_told q, back_told r)

pub before_irreflexive : {r : Refusal} → Before r r → ⊥
before_irreflexive (lower h) = omega arith
before_irreflexive (sooner e h) = omega arith
before_irreflexive (nearer e f h) = omega arith

pub before_transitive : {q r s : Refusal} → Before q r → Before r s → Before q s
before_transitive (lower h) (lower k) = lower (omega arith)
before_transitive (lower h) (sooner e k) = lower (omega arith)
before_transitive (lower h) (nearer e f k) = lower (omega arith)
before_transitive (sooner d h) (lower k) = lower (omega arith)
before_transitive (sooner d h) (sooner e k) = sooner (omega arith) (omega arith)
before_transitive (sooner d h) (nearer e f k) = sooner (omega arith) (omega arith)
before_transitive (nearer d g h) (lower k) = lower (omega arith)
before_transitive (nearer d g h) (sooner e k) = sooner (omega arith) (omega arith)
before_transitive (nearer d g h) (nearer e f k) = nearer (omega arith) (omega arith) (omega arith)

pub before_number : {q r : Refusal} → Before q r → number q ≤ number r
before_number (lower h) = omega arith
before_number (sooner e h) = omega arith
before_number (nearer e s h) = omega arith

-- one of the two numbers is lower, or they are equal
pick : {A : Type 0} (a b : ℕ) → (a < b → A) → (b < a → A) → (a ≡ b → A) → A
pick {A} a b f g h = go (dec_lt a b) (dec_lt b a)
  where
    go : Dec (a < b) → Dec (b < a) → A
    go (yes l) d = f l
    go (no l) (yes m) = g m
    go (no l) (no m) = h (omega arith)

pub before_or : (q r : Refusal) → Before q r ⊎ (Before r q ⊎ (q ≡ r))
before_or q r =
    pick (number q) (number r) (λ l. inl (lower l)) (λ l. inr (inl (lower l))) (λ n.
    pick (site q) (site r) (λ l. inl (sooner n l)) (λ l. inr (inl (sooner (omega arith) l))) (λ s.
    pick (place q) (place r) (λ l. inl (nearer n s l)) (λ l. inr (inl (nearer (omega arith) (omega arith) l))) (λ p. inr (inr (told_one n s p)))))

pub first_one : {F : Refusal → Type 0} {q r : Refusal} → First F q → First F r → q ≡ r
first_one {F} {q} {r} a b = go (before_or q r)
  where
    go : Before q r ⊎ (Before r q ⊎ (q ≡ r)) → q ≡ r
    go (inl l) = absurd (b.lowest q a.applies l)
    go (inr (inl l)) = absurd (a.lowest r b.applies l)
    go (inr (inr e)) = e

pub first_not_clear : {F : Refusal → Type 0} {r : Refusal} → First F r → Clear F → ⊥
first_not_clear {F} {r} a k = k.clear r a.applies

pub number_least : (q : Refusal) → 1 ≤ number q
number_least Unfit = omega arith
number_least FileLong = omega arith
number_least (RecordWrong w) = omega arith
number_least (RouteLength w) = omega arith
number_least (RouteId w p) = omega arith
number_least (RouteRepeat w p) = omega arith
number_least (EndsDiffer w) = omega arith
number_least ModeOver = omega arith
number_least SizesSum = omega arith
number_least (RoundEmpty w) = omega arith
number_least (NotRising w p) = omega arith
number_least (NotDue w p) = omega arith
number_least (Again w p) = omega arith
number_least (Missing w) = omega arith
number_least (BeginsFaulty w) = omega arith
number_least (Drop w p) = omega arith
number_least (Loop w p) = omega arith
number_least (NoJump w) = omega arith
number_least (BothBackward w) = omega arith

pub unfit_first : {F : Refusal → Type 0} → F Unfit → First F Unfit
unfit_first f = record { applies = f; lowest = λ q g b. go (number_least q) b }
  where
    go : {q : Refusal} → 1 ≤ number q → Before q Unfit → ⊥
    go m (lower h) = omega arith
    go m (sooner e h) = omega arith
    go m (nearer e s h) = omega arith
