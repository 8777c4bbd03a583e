-- Laws of the named subset and of the first bad round. Assumes nothing.
--
--   chosen_here      == in a round's own ids the state of a subset is the subset
--   chosen_state     == the state of a subset of round t is a state of round t
--   named_least      == the state of the named subset is the least state that shows the fault
--   least_named      == a subset whose state is the least one is the one that is named
--   has_one          == two subsets of a round whose states agree have the same members
--   named_one        == one subset is named
--   first_bad_round, first_bad_fault == there is one first bad round, and one fault that it is named for
--   passes_good      == a schedule that passes has no bad round
use Prim.Native.Nat.{ℕ, ◌<◌, ◌≤◌}
use native.Mathlib.Omega.{arith}
use native.Mathlib.Decide.{dec_lt, ℕ_discrete}
use mathlib.Core.Path.{◌≡◌, refl, sym, ◌∙◌}
use mathlib.Core.Bool.{Bool, true, false}
use mathlib.Core.List.{List}
use lib.ListN.{length}
use borrow.Author.Tests.{lt-ltb, le-ltb, eq-eqb, ne_eqb}
use Rattle.house.specs.Sets.{has}
use Rattle.house.proofs.SetLaws.{Set, sets_same}
use Rattle.graph.proofs.Naming.{Least, least_one}
use Rattle.rounds.specs.Schedule.{round_no}
use Rattle.rounds.specs.States.{StateOf, of_round, Passes, Fault, a_drop, a_loop, Shows, Bad, FirstBad, chosen, Named}
use Rattle.rounds.proofs.Bridge.{choice_at, state_respects}

true_or : (b c : Bool) → (b ≡ c → ⊥) → c ≡ false → b ≡ true
true_or true c d e = refl
true_or false c d e = absurd (d (sym e))

not_both : (b : Bool) → (b ≡ true → ⊥) → b ≡ false
not_both true d = absurd (d refl)
not_both false d = refl

module _ (ids zs : List ℕ) (t : ℕ) (ws : List ℕ) where
  pub chosen_here : (v : ℕ) → 0 < t → round_no ids zs v ≡ t → chosen ids zs t ws v ≡ has ws v
  chosen_here v h e =
      rw (
        ne_eqb (round_no ids zs v) 0 (λ z. omega arith),
        le-ltb (round_no ids zs v) t (omega arith),
        eq-eqb (round_no ids zs v) t e,
      )

  pub chosen_state : StateOf ids zs t (chosen ids zs t ws)
  chosen_state =
      record {
        in_none = λ v e. rw (eq-eqb (round_no ids zs v) 0 e);
        earlier = λ v h k. rw (ne_eqb (round_no ids zs v) 0 (λ z. omega arith), lt-ltb (round_no ids zs v) t k);
        later =
            λ v h.
            rw (
              ne_eqb (round_no ids zs v) 0 (λ z. omega arith),
              le-ltb (round_no ids zs v) t (omega arith),
              ne_eqb (round_no ids zs v) t (λ z. omega arith),
            );
      }

module _ {mode : ℕ} {o n ids zs : List ℕ} {t : ℕ} {f : Fault} where
  pub named_least : {ws : List ℕ} → Named mode o n ids zs t f ws → Least (Shows f mode o n) (choice_at ids zs t) (chosen ids zs t ws)
  named_least {ws} m =
      record {
        respected = (state_respects ids zs t (chosen ids zs t ws)).0 (chosen_state ids zs t ws);
        shows = m.shows;
        lowest =
            λ Z r s x same apart.
            let e : chosen ids zs t ws x ≡ false =
            m.first Z ((state_respects ids zs t Z).1 r) s x (λ k h. sym (same k h)) (λ q. apart (sym q))
            in
            (e, true_or (Z x) (chosen ids zs t ws x) (λ q. apart (sym q)) e);
      }

  pub least_named :
      {ws : List ℕ}
      → Set ws
      → ((v : ℕ) → has ws v ≡ true → round_no ids zs v ≡ t)
      → Least (Shows f mode o n) (choice_at ids zs t) (chosen ids zs t ws)
      → Named mode o n ids zs t f ws
  least_named {ws} s within l =
      record {
        eight_words = s.eight_long;
        word = s.words_fit.below;
        subset = within;
        shows = l.shows;
        first =
            λ Z r h i same apart.
            (l.lowest Z ((state_respects ids zs t Z).0 r) h i (λ v k. sym (same v k)) (λ q. apart (sym q))).0;
      }

pub has_one :
    (ids zs : List ℕ) (t : ℕ) (ws vs : List ℕ)
    → 0 < t
    → ((v : ℕ) → has ws v ≡ true → round_no ids zs v ≡ t)
    → ((v : ℕ) → has vs v ≡ true → round_no ids zs v ≡ t)
    → ((v : ℕ) → chosen ids zs t ws v ≡ chosen ids zs t vs v)
    → (v : ℕ)
    → has ws v ≡ has vs v
has_one ids zs t ws vs h x y same v = go (ℕ_discrete (round_no ids zs v) t)
  where
    go : Dec (round_no ids zs v ≡ t) → has ws v ≡ has vs v
    go (yes e) = sym (chosen_here ids zs t ws v h e) ∙ same v ∙ chosen_here ids zs t vs v h e
    go (no d) = not_both (has ws v) (λ e. d (x v e)) ∙ sym (not_both (has vs v) (λ e. d (y v e)))

pub named_one :
    {mode : ℕ} {o n ids zs : List ℕ} {t : ℕ} {f : Fault} {ws vs : List ℕ}
    → 0 < t
    → Named mode o n ids zs t f ws
    → Named mode o n ids zs t f vs
    → ws ≡ vs
named_one {ids = ids} {zs} {t} {ws = ws} {vs} h x y =
    sets_same (record { eight_long = x.eight_words; words_fit = record { below = x.word } })
    (record { eight_long = y.eight_words; words_fit = record { below = y.word } })
    (λ v k. has_one ids zs t ws vs h x.subset y.subset (least_one (named_least x) (named_least y)) v)

module _ {mode : ℕ} {o n ids zs : List ℕ} where
  pub first_bad_round :
      {t u : ℕ} {f g : Fault} → FirstBad mode o n ids zs t f → FirstBad mode o n ids zs u g → t ≡ u
  first_bad_round {t} {u} {f} {g} x y = go (dec_lt t u) (dec_lt u t)
    where
      go : Dec (t < u) → Dec (u < t) → t ≡ u
      go (yes h) d = absurd (y.earlier_good t x.from_one h f x.bad)
      go (no h) (yes k) = absurd (x.earlier_good u y.from_one k g y.bad)
      go (no h) (no k) = omega arith

  pub first_bad_fault : {t : ℕ} {f g : Fault} → FirstBad mode o n ids zs t f → FirstBad mode o n ids zs t g → f ≡ g
  first_bad_fault {t} {f} {g} x y = go f g x.bad y.bad x.drop_first y.drop_first
    where
      go :
          (f g : Fault)
          → Bad mode o n ids zs t f
          → Bad mode o n ids zs t g
          → (f ≡ a_loop → Bad mode o n ids zs t a_drop → ⊥)
          → (g ≡ a_loop → Bad mode o n ids zs t a_drop → ⊥)
          → f ≡ g
      go a_drop a_drop p q h k = refl
      go a_drop a_loop p q h k = absurd (k refl p)
      go a_loop a_drop p q h k = absurd (h refl q)
      go a_loop a_loop p q h k = refl

  pub passes_good :
      Passes mode o n ids zs → (t : ℕ) (f : Fault) → 0 < t → t ≤ length zs → Bad mode o n ids zs t f → ⊥
  passes_good p t a_drop h k (X, s, b) = p.no_drop X (of_round h k s) b
  passes_good p t a_loop h k (X, s, b) = p.no_loop X (of_round h k s) b
