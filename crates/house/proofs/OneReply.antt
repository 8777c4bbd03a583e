-- Each public function has one right reply to what it is given.
--
-- Settled by an equation, whose right side is the reply: entry, word, put_entry, put_word, store, and of a set new, from_bytes,
-- contains, insert and len, and of Told what it prints.
--
--   one_lowest   == two numbers that are each the lowest id in a set, from some number on, are the same
--   one_first    == `first_from`: two answers that its contract allows are the same
--   first_lowest == and such an answer is the lowest id, where 512 stands for none
--   one_told     == two values with a refusal's number, where and place are the same
--   one_from     == `From<Refusal>`: two values that its contract allows are the same
use Prim.Native.Nat.{ℕ, ◌≤◌}
use mathlib.Core.Path.{◌≡◌, sym, ◌∙◌}
use mathlib.Core.Bool.{true}
use mathlib.Core.List.{List}
use native.Mathlib.Omega.{arith}
use Rattle.std.specs.Prelude.{Option}
use Rattle.std.specs.Option.{unwrap_or}
use Rattle.std.proofs.lemmas.Bool.{false_from_ne_true}
use Rattle.house.specs.Sets.{has, Lowest}
use Rattle.house.specs.Finds.{Finds, found, nowhere}
use Rattle.house.specs.Refusals.{number, site, place, IsTold}
use Rattle.house.specs.declared.Refusal.{Refusal}
use Rattle.house.specs.declared.Told.{Told}
use Rattle.house.proofs.SetLaws.{lowest_one}
use Rattle.house.proofs.Finding.{finds_one}

pub one_lowest : {ws : List ℕ} {from r q : ℕ} → Lowest ws from r → Lowest ws from q → r ≡ q
one_lowest = lowest_one

pub one_first : (ws : List ℕ) (from : ℕ) {q r : Option ℕ} → Finds (λ k. (from ≤ k) × (has ws k ≡ true)) 512 q
    → Finds (λ k. (from ≤ k) × (has ws k ≡ true)) 512 r → q ≡ r
one_first ws from = finds_one

pub first_lowest : {ws : List ℕ} {from : ℕ} {r : Option ℕ} → Finds (λ i. (from ≤ i) × (has ws i ≡ true)) 512 r → Lowest ws from (unwrap_or r 512)
first_lowest (found b p f) = record {
  within = omega arith;
  none_before = λ i g h. false_from_ne_true _ (λ e. f i h (g, e));
  found = λ h. p;
}
first_lowest (nowhere f) = record {
  within = omega arith;
  none_before = λ i g h. false_from_ne_true _ (λ e. f i h (g, e));
  found = λ h. absurd (omega arith);
}

pub one_told : (r : Refusal) (t u : Told) → (t.number ≡ number r) × (t.site ≡ site r) × (t.place ≡ place r)
    → (u.number ≡ number r) × (u.site ≡ site r) × (u.place ≡ place r) → t ≡ u
one_told r t u (a, b, c) (d, e, f) = λ i. record {
  number = (a ∙ sym d) i;
  site = (b ∙ sym e) i;
  place = (c ∙ sym f) i;
}

pub one_from : {r : Refusal} {t u : Told} → IsTold r t → IsTold r u → t ≡ u
one_from {r} {t} {u} a b = one_told r t u (a.number_is, a.site_is, a.place_is) (b.number_is, b.site_is, b.place_is)
