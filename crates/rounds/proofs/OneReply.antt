-- "For every input each public function's wording settles its reply and the lent memory, refusals too": for the bytes and the
-- mode that the check is given, there is no second reply and no second content of the lent bytes that `Checks` fits.
-- Demand 1: "Every list, file and number gets a definite reply .., and what a refusal leaves in lent memory is fixed."
-- Assumes nothing.
--
--   checks_one  == two replies of the check to one input are one, and leave the same bytes
--   mode_one    == a number is that of one mode, or is refused
use Rattle.house.specs.declared.Refusal.{Refusal}
use Rattle.std.specs.Prelude.{Result, Ok, Err}
use Rattle.rounds.specs.declared.check.Accepted.{Accepted}
use Prim.Native.Nat.{ℕ, ◌<◌}
use native.Mathlib.Omega.{arith}
use mathlib.Core.Path.{◌≡◌, refl, sym, ◌∙◌, ap}
use mathlib.Core.List.{List}
use Rattle.house.specs.Sets.{size}
use Rattle.house.specs.declared.Refusal.TheVariants.{BeginsFaulty}
use Rattle.house.proofs.RefusalLaws.{first_one, first_not_clear}
use Rattle.rounds.specs.States.{Fault, FirstBad, Named}
use Rattle.rounds.specs.declared.mode.Mode.{Mode}
use Rattle.rounds.specs.declared.mode.Mode.TheVariants.{Strong, Relaxed}
use Rattle.rounds.specs.Mode.{mode_no, ModeOf, is_mode, over}
use Rattle.rounds.specs.Replies.{written, Checks, refused, passes, begins_faulty, shows}
use Rattle.rounds.proofs.NamedLaws.{named_one, first_bad_round, first_bad_fault, passes_good}

-- the first bad round, its fault and the subset that is named for it
record Found (mode : ℕ) (o n ids zs : List ℕ) (t : ℕ) (f : Fault) (ws : List ℕ) : Type 0 where
  first : FirstBad mode o n ids zs t f
  named : Named mode o n ids zs t f ws

found_one :
    {mode : ℕ} {o n ids zs : List ℕ} {t u : ℕ} {f g : Fault} {ws vs : List ℕ}
    → Found mode o n ids zs t f ws
    → Found mode o n ids zs u g vs
    → (t ≡ u) × (f ≡ g) × (ws ≡ vs)
found_one {mode} {o} {n} {ids} {zs} {t} {u} {f} {g} {ws} {vs} x y =
    same_round (first_bad_round x.first y.first)
  where
    same_round : t ≡ u → (t ≡ u) × (f ≡ g) × (ws ≡ vs)
    same_round e =
        let d : f ≡ g = first_bad_fault (rw e at x.first) y.first in
        (e, d, named_one y.first.from_one (rw (e, d) at x.named) y.named)

pub checks_one :
    {old new : List ℕ} {mode : ℕ} {ids sizes set : List ℕ} {a b : Result Accepted Refusal} {after after' : List ℕ}
    → Checks old new mode ids sizes set a after
    → Checks old new mode ids sizes set b after'
    → (a ≡ b) × (after ≡ after')
checks_one (refused f e) (refused g d) = (ap Err (first_one f g), e ∙ sym d)
checks_one (refused f e) (passes k p r d q) = absurd (first_not_clear f k)
checks_one (refused f e) (begins_faulty k b m z q) = absurd (first_not_clear f k)
checks_one (refused f e) (shows k b m z r q) = absurd (first_not_clear f k)
checks_one (passes k p r d q) (refused f e) = absurd (first_not_clear f k)
checks_one (passes {a = a} k p r d q) (passes {a = b} k' p' r' d' q') = (ap Ok (same (r ∙ sym r') (d ∙ sym d')), q ∙ sym q')
  where
    same : a.rounds ≡ b.rounds → a.dues ≡ b.dues → a ≡ b
    same e f = λ i. record { rounds = e i; dues = f i }
checks_one (passes k p r d q) (begins_faulty {t} {f} k' b m z q') =
    absurd (passes_good p t f b.from_one b.a_round b.bad)
checks_one (passes k p r d q) (shows {t} {f} k' b m z r' q') =
    absurd (passes_good p t f b.from_one b.a_round b.bad)
checks_one (begins_faulty k b m z q) (refused f e) = absurd (first_not_clear f k)
checks_one (begins_faulty {t} {f} k b m z q) (passes k' p r d q') =
    absurd (passes_good p t f b.from_one b.a_round b.bad)
checks_one (begins_faulty k b m z q) (begins_faulty k' b' m' z' q') =
    let (e, d, w) = found_one (record { first = b; named = m }) (record { first = b'; named = m' }) in
    (ap (λ x. Err (BeginsFaulty x)) e, q ∙ sym q')
checks_one (begins_faulty {ws = ws} k b m z q) (shows {ws = vs} k' b' m' z' r' q') =
    let (e, d, w) = found_one (record { first = b; named = m }) (record { first = b'; named = m' }) in
    absurd (omega (arith, ap size w))
checks_one (shows k b m z r q) (refused f e) = absurd (first_not_clear f k)
checks_one (shows {t} {f} k b m z r q) (passes k' p r' d q') =
    absurd (passes_good p t f b.from_one b.a_round b.bad)
checks_one (shows k b m z r q) (begins_faulty k' b' m' z' q') =
    let (e, d, w) = found_one (record { first = b; named = m }) (record { first = b'; named = m' }) in
    absurd (omega (arith, ap size w))
checks_one {set = set} (shows {t} {f} {ws} k b m z r q) (shows {t = u} {f = g} {ws = vs} k' b' m' z' r' q') =
    let (e, d, w) = found_one (record { first = b; named = m }) (record { first = b'; named = m' }) in
    (ap Err (r ∙ rw (e, d, w) (sym r')), q ∙ ap (λ x. written x set) w ∙ sym q')

low_mode : {n : ℕ} (m : Mode) → n ≡ mode_no m → 1 < n → ⊥
low_mode Strong e l = omega arith
low_mode Relaxed e l = omega arith

pub mode_one : {n : ℕ} {a b : Result Mode Refusal} → ModeOf n a → ModeOf n b → a ≡ b
mode_one (is_mode {m} e) (is_mode {m = k} d) = ap Ok (same m k (sym e ∙ d))
  where
    same : (m k : Mode) → mode_no m ≡ mode_no k → m ≡ k
    same Strong Strong e = refl
    same Strong Relaxed e = absurd (omega (arith, e))
    same Relaxed Strong e = absurd (omega (arith, e))
    same Relaxed Relaxed e = refl
mode_one (is_mode {m} e) (over l) = absurd (low_mode m e l)
mode_one (over l) (is_mode {m} e) = absurd (low_mode m e l)
mode_one (over l) (over k) = refl
