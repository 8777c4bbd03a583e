-- Tests by computing over short lists, and what they tell. Only what a test that is passed tells is needed: a test may fail
-- of what holds. Assumes nothing.
--
--   every f l            == the test f passes for each element of l; the first that fails ends it
--   any f l              == it passes for one of them; the first that passes ends it
--   below k f            == it passes for each number below k
--   and_both             == two tests in one
--   every_on, any_on, below_at == what these tell
--   same l m, sames ls ms == two lists of ids, or of rounds, are equal
--   same_is, sames_are   == what these tell
use Prim.Native.Nat.{ℕ, zero, suc, ◌<◌}
use native.Mathlib.Omega.{arith}
use native.Mathlib.Decide.{ℕ_discrete}
use mathlib.Core.Path.{◌≡◌, refl, ap, ap₂, ◌∙◌}
use mathlib.Core.Bool.{Bool, true, false, ◌&&◌, ◌||◌, and-eq-true_iff}
use mathlib.Core.Logic.{⊎_elim}
use mathlib.Core.List.{List, [], ◌∷◌}
use lib.Dec.{eqb}
use borrow.Author.Tests.{eqb-true}
use Rattle.routes.specs.Jumps.{on}
use Rattle.plans.proofs.IdLists.{clash, either_or, on_nil, on_cons, on_first, on_rest}

unfoldable pub every : {A : Type 0} → (A → Bool) → List A → Bool
every f [] = true
every f (a ∷ l) = let r = every f l in f a && r

unfoldable pub any : (ℕ → Bool) → List ℕ → Bool
any f [] = false
any f (a ∷ l) = let r = any f l in f a || r

unfoldable pub below : ℕ → (ℕ → Bool) → Bool
below zero f = true
below (suc k) f = let r = below k f in f k && r

pub and_both : {a b : Bool} → (a && b) ≡ true → (a ≡ true) × (b ≡ true)
and_both {a} {b} e = (and-eq-true_iff a b).0 e

pub every_on : (f : ℕ → Bool) (l : List ℕ) → every f l ≡ true → (v : ℕ) → on l v ≡ true → f v ≡ true
unfolding every
every_on f [] e v h = clash h (on_nil v)
every_on f (a ∷ l) e v h =
    let x = and_both {a = f a} {b = every f l} e in
    ⊎_elim (λ d. ap f (eqb-true v a d) ∙ x.0) (every_on f l x.1 v) (either_or (eqb v a) (on l v) (rw (on_cons a l v) at h))

pub any_on : (f : ℕ → Bool) (l : List ℕ) → any f l ≡ true → (v : ℕ) × (on l v ≡ true) × (f v ≡ true)
unfolding any
any_on f [] e = clash e refl
any_on f (a ∷ l) e =
    ⊎_elim (λ q. (a, on_first a l, q)) (λ q. let x = any_on f l q in (x.0, on_rest a l x.0 x.1, x.2))
    (either_or (f a) (any f l) e)

pub below_at : (k : ℕ) (f : ℕ → Bool) → below k f ≡ true → (i : ℕ) → i < k → f i ≡ true
unfolding below
below_at zero f e i h = absurd (omega arith)
below_at (suc k) f e i h = let x = and_both {a = f k} {b = below k f} e in go x.0 (ℕ_discrete i k) (below_at k f x.1 i)
  where
    go : f k ≡ true → Dec (i ≡ k) → (i < k → f i ≡ true) → f i ≡ true
    go q (yes d) rec = ap f d ∙ q
    go q (no d) rec = rec (omega arith)

unfoldable pub same : List ℕ → List ℕ → Bool
same [] [] = true
same [] (b ∷ m) = false
same (a ∷ l) [] = false
same (a ∷ l) (b ∷ m) = eqb a b && same l m

pub same_is : (l m : List ℕ) → same l m ≡ true → l ≡ m
unfolding same
same_is [] [] e = refl
same_is [] (b ∷ m) e = clash e refl
same_is (a ∷ l) [] e = clash e refl
same_is (a ∷ l) (b ∷ m) e = let x = and_both e in ap₂ ◌∷◌ (eqb-true a b x.0) (same_is l m x.1)

unfoldable pub sames : List (List ℕ) → List (List ℕ) → Bool
unfolding same
sames [] [] = true
sames [] (b ∷ m) = false
sames (a ∷ l) [] = false
sames (a ∷ l) (b ∷ m) = same a b && sames l m

pub sames_are : (l m : List (List ℕ)) → sames l m ≡ true → l ≡ m
unfolding sames
sames_are [] [] e = refl
sames_are [] (b ∷ m) e = clash e refl
sames_are (a ∷ l) [] e = clash e refl
sames_are (a ∷ l) (b ∷ m) e = let x = and_both e in ap₂ ◌∷◌ (same_is a b x.0) (sames_are l m x.1)
