-- Searches by rising number, from std's law on `find` over a range (`first_from_Range`).
--
--   finds_in    == the search by `find` over the numbers below n, where the closure keeps what it holds and tells of each number
--                  whether P holds of it
--   finds_one   == two answers of one search are the same
use Rattle.std.proofs.Common.{ℕ, ◌<◌, ◌≤◌, ◌≡◌, refl, ap, Bool, true, false, List, Option, Some, None, arith}
use native.Mathlib.Decide.{dec_lt}
use denote.Ref.{Bor}
use denote.Param.Members.{Mut}
use Rattle.std.specs.declared.ops.Range.{Range}
use Rattle.std.specs.Bool.{⊤}
use Rattle.std.specs.Fn.{CalledAt}
use Rattle.std.specs.Iterator.{YieldsThen}
use Rattle.std.specs.List.{FoldsTo}
use Rattle.std.proofs.iter.Yields.{nat_range_steps}
use Rattle.std.specs.Option.{MatchOption}
use Rattle.std.proofs.lemmas.Iterator.{first_from_Range}
use Rattle.house.specs.Finds.{Finds, found, nowhere}

told : {P : ℕ → Type 0} {n : ℕ} {r : Option ℕ}
    → MatchOption r ((k : ℕ) → 0 ≤ k → k < n → P k → ⊥) (λ i. (0 ≤ i) × (i < n) × P i × ((k : ℕ) → 0 ≤ k → k < i → P k → ⊥))
    → Finds P n r
told {r = None} h = nowhere (λ k b p. h k (omega arith) b p)
told {r = Some i} h = found h.1 h.2 (λ k b p. h.3 k (omega arith) b p)

pub finds_in : {F : Type 0} {g : Mut F (Bor ℕ × Unit {0}) Bool} {n : ℕ} {f : F} {r : Option ℕ} {P : ℕ → Type 0} (u : Range ℕ)
    → (xs : List ℕ) × (j : F) × YieldsThen nat_range_steps (record { start = 0; end = n }) xs r u
    × FoldsTo (λ p x q. CalledAt g p x false q) f xs j × MatchOption r ⊤ (λ x. (h : F) × CalledAt g j x true h)
    → ((x : ℕ) (q : F) → CalledAt g f x true q → P x)
    → ((x : ℕ) (q : F) → CalledAt g f x false q → (q ≡ f) × (P x → ⊥))
    → Finds P n r
finds_in {P} u ran yes' no' = told (first_from_Range _ _ _ _ P (λ k. P k → ⊥) ran yes' no')

pub finds_one : {P : ℕ → Type 0} {n : ℕ} {q r : Option ℕ} → Finds P n q → Finds P n r → q ≡ r
finds_one (found {r = i} b p f) (found {r = j} c q g) = at (dec_lt i j) (dec_lt j i)
  where
    at : Dec (i < j) → Dec (j < i) → Some i ≡ Some j
    at (yes l) _ = absurd (g i l p)
    at (no _) (yes l) = absurd (f j l q)
    at (no l) (no m) = ap Some (omega (arith, l, m))
finds_one (found b p f) (nowhere g) = absurd (g _ b p)
finds_one (nowhere g) (found b p f) = absurd (g _ b p)
finds_one (nowhere g) (nowhere h) = refl
