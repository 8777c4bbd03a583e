-- From rounds given as sets to the schedule that they are.
--
--   member_at Rs t      == the set number t, from 0
--   earlier Rs t        == the first t sets together
--   all Rs              == all sets together
--   all_at, at_all      == an id is in all sets together exactly if it is in one of them, by number
--   at_below            == each holds ids only if all together do
--   Disjoint Rs         == no id is in two of them
--   Filled Rs           == each of them has an id
--   length_sizes, sizes_at, sum_sizes == the sizes are those of the sets, and their sum is the number of ids
--   on_ids              == the ids of the schedule are those of the sets
--   first_in Rs v       == the number, from 1, of the first set that has v, and 0 where none has
--   bump t              == the number of a round with one more round in front; 0, of no round, stays
--   round_first         == this is the number of the round of v
--   round_member, member_round == the number of the round of v is suc t exactly if v is in the set t
--   round_none, none_round == it is 0 exactly if v is in no set
--   disjoint_at         == no id is in two sets, by number
--   state_between, between_state == the states of round suc t are those of the set t after the earlier ones
--   same_passes         == whether a round passes turns on the ids of the two sets only
--   PassesAll mode o n P Rs == after P each round passes, in turn
--   same_passes_all     == it turns on the ids of P only
--   passes_at, at_passes == the same by number
--   passes_schedule, schedule_passes == the schedule passes exactly if each round does, and with no rounds the one state
--   ids_distinct        == no id stands twice in the schedule
--   is_schedule         == sets with an id each, of which no two share one, and which together are the due nodes, are a schedule
use Prim.Native.Nat.{ℕ, zero, suc, ◌+◌, ◌-◌, ◌<◌, ◌≤◌}
use mathlib.Core.Path.{◌≡◌, refl, sym, ap, ◌∙◌}
use mathlib.Core.Bool.{Bool, true, false, cond, or-false, or_assoc}
use mathlib.Core.Logic.{◌⊎◌, inl, inr}
use mathlib.Core.List.{List, [], ◌∷◌, ◌++◌}
use native.Mathlib.Decide.{ℕ_discrete, dec_lt}
use native.Mathlib.Nat.{le_of_suc-le-suc}
use native.Mathlib.Omega.{arith}
use lib.ListN.{length, get_or, length-append, get_or-append}
use lib.Seq.{get_or-append-add}
use borrow.Author.Tests.{lt-ltb, le-ltb}
use Rattle.routes.specs.Routes.{Good}
use Rattle.routes.specs.Rules.{due}
use Rattle.routes.specs.Jumps.{position, on}
use Rattle.routes.specs.Walk.{State}
use Rattle.routes.proofs.JumpLaws.{on_position}
use Rattle.routes.proofs.RuleLaws.{due_below}
use Rattle.rounds.specs.Schedule.{sum, round_of, round_no, Schedule}
use Rattle.rounds.proofs.ScheduleLaws.{round_least}
use Rattle.rounds.specs.States.{StateOf, StateIn, of_round, of_none, Drops, Loops, Passes}
use Rattle.plans.specs.Plan.{Between, RoundPasses, nothing, together, rising, ids_of, sizes_of}
use Rattle.plans.proofs.IdLists.{
  by_bool,
  clash,
  or_left,
  or_right,
  either_or,
  no_or,
  on_nil,
  index_on,
  on_append,
  position_append,
  Distinct,
  distinct_index,
  distinct_append,
}
use Rattle.plans.proofs.RisingIds.{Below, on_rising, member_rising, rising_rises, rising_distinct}

abbrev pub member_at : List State → ℕ → State
member_at Rs t = get_or Rs t nothing

abbrev pub all : List State → State
all [] = nothing
all (R ∷ Rs) = together R (all Rs)

abbrev pub earlier : List State → ℕ → State
earlier [] t = nothing
earlier (R ∷ Rs) zero = nothing
earlier (R ∷ Rs) (suc t) = together R (earlier Rs t)

abbrev pub Disjoint : List State → Type 0
Disjoint [] = Unit
Disjoint (R ∷ Rs) = ((v : ℕ) → R v ≡ true → all Rs v ≡ false) × Disjoint Rs

abbrev pub Filled : List State → Type 0
Filled [] = Unit
Filled (R ∷ Rs) = ((v : ℕ) × (R v ≡ true)) × Filled Rs

pub all_at : (Rs : List State) (v : ℕ) → all Rs v ≡ true → (t : ℕ) × (t < length Rs) × (member_at Rs t v ≡ true)
all_at [] v e = clash e refl
all_at (R ∷ Rs) v e = go (either_or (R v) (all Rs v) e) (all_at Rs v)
  where
    go :
        ((R v ≡ true) ⊎ (all Rs v ≡ true))
        → (all Rs v ≡ true → (t : ℕ) × (t < length Rs) × (member_at Rs t v ≡ true))
        → (t : ℕ) × (t < length (R ∷ Rs)) × (member_at (R ∷ Rs) t v ≡ true)
    go (inl h) r = (0, omega arith, h)
    go (inr h) r = let x = r h in (suc x.0, omega arith, x.2)

pub at_all : (Rs : List State) (t v : ℕ) → member_at Rs t v ≡ true → all Rs v ≡ true
at_all [] t v e = e
at_all (R ∷ Rs) zero v e = or_left (all Rs v) e
at_all (R ∷ Rs) (suc t) v e = or_right (R v) (at_all Rs t v e)

pub at_below : (Rs : List State) (t : ℕ) → Below (all Rs) → Below (member_at Rs t)
at_below Rs t b v e = b v (at_all Rs t v e)

below_first : (R : State) (Rs : List State) → Below (all (R ∷ Rs)) → Below R
below_first R Rs b v e = b v (or_left (all Rs v) e)

below_rest : (R : State) (Rs : List State) → Below (all (R ∷ Rs)) → Below (all Rs)
below_rest R Rs b v e = b v (or_right (R v) e)

ids_nil : ids_of [] ≡ []
unfolding ids_of
ids_nil = refl

ids_cons : (R : State) (Rs : List State) → ids_of (R ∷ Rs) ≡ rising R ++ ids_of Rs
unfolding ids_of
ids_cons R Rs = refl

sizes_cons : (R : State) (Rs : List State) → sizes_of (R ∷ Rs) ≡ length (rising R) ∷ sizes_of Rs
unfolding sizes_of
sizes_cons R Rs = refl

pub length_sizes : (Rs : List State) → length (sizes_of Rs) ≡ length Rs
unfolding sizes_of
length_sizes [] = refl
length_sizes (R ∷ Rs) = ap suc (length_sizes Rs)

pub sizes_at : (Rs : List State) (t : ℕ) → t < length Rs → get_or (sizes_of Rs) t 0 ≡ length (rising (member_at Rs t))
unfolding sizes_of
sizes_at [] t h = absurd (omega arith)
sizes_at (R ∷ Rs) zero h = refl
sizes_at (R ∷ Rs) (suc t) h = sizes_at Rs t (le_of_suc-le-suc h)

pub sum_sizes : (Rs : List State) → sum (sizes_of Rs) ≡ length (ids_of Rs)
unfolding sum sizes_of ids_of
sum_sizes [] = refl
sum_sizes (R ∷ Rs) = omega (arith, length-append (rising R) (ids_of Rs), sum_sizes Rs)

pub on_ids : (Rs : List State) → Below (all Rs) → (v : ℕ) → on (ids_of Rs) v ≡ all Rs v
on_ids [] b v = rw (ids_nil, on_nil v)
on_ids (R ∷ Rs) b v =
    rw (
      ids_cons R Rs,
      on_append (rising R) (ids_of Rs) v,
      on_rising (below_first R Rs b) v,
      on_ids Rs (below_rest R Rs b) v,
    )

-- ---- the number of the round of an id

-- the number that one more round in front makes of a number
abbrev pub bump : ℕ → ℕ
bump zero = zero
bump (suc t) = suc (suc t)

abbrev pub first_in : List State → ℕ → ℕ
first_in [] v = 0
first_in (R ∷ Rs) v = cond (R v) 1 (bump (first_in Rs v))

bump_some : (t : ℕ) → 0 < t → bump t ≡ suc t
bump_some zero h = absurd (omega arith)
bump_some (suc t) h = refl

round_nil : (zs : List ℕ) (v : ℕ) → round_no [] zs v ≡ 0
unfolding round_no
round_nil zs v = rw (on_nil v)

round_cons :
    (xs ids zs : List ℕ) (v : ℕ) → round_no (xs ++ ids) (length xs ∷ zs) v ≡ cond (on xs v) 1 (bump (round_no ids zs v))
unfolding round_no
round_cons xs ids zs v =
    rw (on_append xs ids v, position_append xs ids v)
    (by_bool (on xs v) (λ e. rw (e, lt-ltb (position xs v) (length xs) (on_position xs v e)))
    (λ e.
    let q : length xs + position ids v - length xs ≡ position ids v = omega arith in
    rw (e, le-ltb (length xs + position ids v) (length xs) (omega arith), q)
    (by_bool (on ids v) (λ h. rw h (sym (bump_some (round_of zs (position ids v)) (round_least zs (position ids v))))) (λ h. rw h))))

pub round_first : (Rs : List State) → Below (all Rs) → (v : ℕ) → round_no (ids_of Rs) (sizes_of Rs) v ≡ first_in Rs v
round_first [] b v = rw (ids_nil, round_nil (sizes_of []) v)
round_first (R ∷ Rs) b v =
    rw (ids_cons R Rs, sizes_cons R Rs, round_cons (rising R) (ids_of Rs) (sizes_of Rs) v)
    (rw (on_rising (below_first R Rs b) v, round_first Rs (below_rest R Rs b) v))

-- the first of the sets that has an id, against the first t of them
data Came (b : Bool) (f t : ℕ) : Type 0 where
  sooner : b ≡ true → 0 < f → f ≤ t → Came b f t
  never : b ≡ false → f ≡ 0 → Came b f t
  later : b ≡ false → t < f → Came b f t

came : (Rs : List State) (t v : ℕ) → Came (earlier Rs t v) (first_in Rs v) t
came [] t v = never refl refl
came (R ∷ Rs) zero v = by_bool (R v) (λ e. later refl (rw e (omega arith))) (λ e. rw e (go (first_in Rs v)))
  where
    go : (f : ℕ) → Came false (bump f) zero
    go zero = never refl refl
    go (suc f) = later refl (omega arith)
came (R ∷ Rs) (suc t) v =
    by_bool (R v) (λ e. rw e (sooner refl (omega arith) (omega arith))) (λ e. rw e (go (first_in Rs v) (came Rs t v)))
  where
    go : (f : ℕ) → Came (earlier Rs t v) f t → Came (earlier Rs t v) (bump f) (suc t)
    go zero (sooner e h k) = absurd (omega arith)
    go zero (never e h) = never e refl
    go zero (later e h) = absurd (omega arith)
    go (suc f) (sooner e h k) = sooner e (omega arith) (omega arith)
    go (suc f) (never e h) = absurd (omega arith)
    go (suc f) (later e h) = later e (omega arith)

first_at : (Rs : List State) (t v : ℕ) → first_in Rs v ≡ suc t → (t < length Rs) × (member_at Rs t v ≡ true)
first_at [] t v e = absurd (omega arith)
first_at (R ∷ Rs) t v e =
    by_bool (R v) (λ h. here h t (rw h at e)) (λ h. past (first_in Rs v) refl (λ t. first_at Rs t v) t (rw h at e))
  where
    here : R v ≡ true → (t : ℕ) → 1 ≡ suc t → (t < length (R ∷ Rs)) × (member_at (R ∷ Rs) t v ≡ true)
    here h zero q = (omega arith, h)
    here h (suc t) q = absurd (omega arith)

    past :
        (f : ℕ)
        → first_in Rs v ≡ f
        → ((t : ℕ) → first_in Rs v ≡ suc t → (t < length Rs) × (member_at Rs t v ≡ true))
        → (t : ℕ)
        → bump f ≡ suc t
        → (t < length (R ∷ Rs)) × (member_at (R ∷ Rs) t v ≡ true)
    past zero h r t q = absurd (omega arith)
    past (suc f) h r zero q = absurd (omega arith)
    past (suc f) h r (suc t) q = let x = r t (omega arith) in (omega arith, x.1)

at_first : (Rs : List State) → Disjoint Rs → (t v : ℕ) → member_at Rs t v ≡ true → first_in Rs v ≡ suc t
at_first [] d t v e = clash e refl
at_first (R ∷ Rs) d zero v e = rw e
at_first (R ∷ Rs) d (suc t) v e =
    by_bool (R v) (λ h. clash (at_all Rs t v e) (d.0 v h)) (λ h. rw (h, at_first Rs d.1 t v e))

at_earlier : (Rs : List State) (t v : ℕ) → member_at Rs t v ≡ true → earlier Rs (suc t) v ≡ true
at_earlier [] t v e = e
at_earlier (R ∷ Rs) zero v e = or_left (earlier Rs zero v) e
at_earlier (R ∷ Rs) (suc t) v e = or_right (R v) (at_earlier Rs t v e)

first_none : (Rs : List State) (v : ℕ) → first_in Rs v ≡ 0 → all Rs v ≡ false
first_none [] v e = refl
first_none (R ∷ Rs) v e =
    by_bool (R v) (λ h. absurd (omega (arith, rw h at e))) (λ h. rw h (first_none Rs v (go (first_in Rs v) (rw h at e))))
  where
    go : (f : ℕ) → bump f ≡ 0 → f ≡ 0
    go zero q = refl
    go (suc f) q = absurd (omega arith)

none_first : (Rs : List State) (v : ℕ) → all Rs v ≡ false → first_in Rs v ≡ 0
none_first [] v e = refl
none_first (R ∷ Rs) v e = let x = no_or (R v) (all Rs v) e in rw (x.0, none_first Rs v x.1)

pub disjoint_at :
    (Rs : List State) → Disjoint Rs → (i j v : ℕ) → member_at Rs i v ≡ true → member_at Rs j v ≡ true → i ≡ j
disjoint_at Rs d i j v a b = omega (arith, at_first Rs d i v a, at_first Rs d j v b)

module _ (Rs : List State) (b : Below (all Rs)) where
  pub round_member : (t v : ℕ) → round_no (ids_of Rs) (sizes_of Rs) v ≡ suc t → (t < length Rs) × (member_at Rs t v ≡ true)
  round_member t v e = first_at Rs t v (sym (round_first Rs b v) ∙ e)

  pub member_round : Disjoint Rs → (t v : ℕ) → member_at Rs t v ≡ true → round_no (ids_of Rs) (sizes_of Rs) v ≡ suc t
  member_round d t v e = round_first Rs b v ∙ at_first Rs d t v e

  pub round_none : (v : ℕ) → round_no (ids_of Rs) (sizes_of Rs) v ≡ 0 → all Rs v ≡ false
  round_none v e = first_none Rs v (sym (round_first Rs b v) ∙ e)

  pub none_round : (v : ℕ) → all Rs v ≡ false → round_no (ids_of Rs) (sizes_of Rs) v ≡ 0
  none_round v e = round_first Rs b v ∙ none_first Rs v e

  pub state_between :
      (t : ℕ) {X : State} → StateOf (ids_of Rs) (sizes_of Rs) (suc t) X → Between (earlier Rs t) (member_at Rs t) X
  state_between t {X} s = record { earlier = λ v e. before v e (came Rs t v); nothing_else = λ v e f. else v e f (came Rs t v) }
    where
      before : (v : ℕ) → earlier Rs t v ≡ true → Came (earlier Rs t v) (first_in Rs v) t → X v ≡ true
      before v e (sooner _ h k) = s.earlier v (omega (arith, round_first Rs b v)) (omega (arith, round_first Rs b v))
      before v e (never q h) = clash e q
      before v e (later q h) = clash e q

      else :
          (v : ℕ) → earlier Rs t v ≡ false → member_at Rs t v ≡ false → Came (earlier Rs t v) (first_in Rs v) t → X v ≡ false
      else v e f (sooner q h k) = clash q e
      else v e f (never q h) = s.in_none v (round_first Rs b v ∙ h)
      else v e f (later q h) = go (ℕ_discrete (first_in Rs v) (suc t))
        where
          go : Dec (first_in Rs v ≡ suc t) → X v ≡ false
          go (yes p) = clash (first_at Rs t v p).1 f
          go (no p) = s.later v (omega (arith, round_first Rs b v))

  pub between_state :
      (t : ℕ) {X : State} → Between (earlier Rs t) (member_at Rs t) X → StateOf (ids_of Rs) (sizes_of Rs) (suc t) X
  between_state t {X} s =
      record {
        in_none = λ v e. outside v (λ h k. omega (arith, round_first Rs b v));
        earlier = λ v h k. before v (omega (arith, round_first Rs b v)) (omega (arith, round_first Rs b v)) (came Rs t v);
        later = λ v h. outside v (λ j k. omega (arith, round_first Rs b v));
      }
    where
      before : (v : ℕ) → 0 < first_in Rs v → first_in Rs v ≤ t → Came (earlier Rs t v) (first_in Rs v) t → X v ≡ true
      before v h k (sooner q m l) = s.earlier v q
      before v h k (never q m) = absurd (omega arith)
      before v h k (later q m) = absurd (omega arith)

      not_yet :
          (k v : ℕ)
          → k ≤ suc t
          → (0 < first_in Rs v → first_in Rs v ≤ suc t → ⊥)
          → Came (earlier Rs k v) (first_in Rs v) k
          → earlier Rs k v ≡ false
      not_yet k v l n (sooner q h m) = absurd (n h (omega arith))
      not_yet k v l n (never q h) = q
      not_yet k v l n (later q h) = q

      outside : (v : ℕ) → (0 < first_in Rs v → first_in Rs v ≤ suc t → ⊥) → X v ≡ false
      outside v n =
          s.nothing_else v (not_yet t v (omega arith) n (came Rs t v))
          (by_bool (member_at Rs t v)
          (λ e. clash (at_earlier Rs t v e) (not_yet (suc t) v (omega arith) n (came Rs (suc t) v))) (λ e. e))

-- ---- rounds that pass

pub same_passes :
    {mode : ℕ} {o n : List ℕ} {P Q R S : State}
    → ((v : ℕ) → P v ≡ Q v)
    → ((v : ℕ) → R v ≡ S v)
    → RoundPasses mode o n P R
    → RoundPasses mode o n Q S
same_passes {P = P} {Q} {R} {S} p q r = record { no_drop = λ X b. r.no_drop X (same b); no_loop = λ X b. r.no_loop X (same b) }
  where
    same : {X : State} → Between Q S X → Between P R X
    same b =
        record {
          earlier = λ v e. b.earlier v (sym (p v) ∙ e);
          nothing_else = λ v e f. b.nothing_else v (sym (p v) ∙ e) (sym (q v) ∙ f);
        }

abbrev pub PassesAll : ℕ → List ℕ → List ℕ → State → List State → Type 0
PassesAll mode o n P [] = Unit
PassesAll mode o n P (R ∷ Rs) = RoundPasses mode o n P R × PassesAll mode o n (together P R) Rs

module _ (mode : ℕ) (o n : List ℕ) where
  pub same_passes_all :
      (P Q : State) (Rs : List State) → ((v : ℕ) → P v ≡ Q v) → PassesAll mode o n P Rs → PassesAll mode o n Q Rs
  same_passes_all P Q [] e p = tt
  same_passes_all P Q (R ∷ Rs) e p =
      (same_passes e (λ v. refl) p.0, same_passes_all (together P R) (together Q R) Rs (λ v. rw (e v)) p.1)

  pub passes_at :
      (P : State) (Rs : List State)
      → PassesAll mode o n P Rs
      → (t : ℕ)
      → t < length Rs
      → RoundPasses mode o n (together P (earlier Rs t)) (member_at Rs t)
  passes_at P [] p t h = absurd (omega arith)
  passes_at P (R ∷ Rs) p zero h = same_passes (λ v. sym (or-false (P v))) (λ v. refl) p.0
  passes_at P (R ∷ Rs) p (suc t) h =
      same_passes (λ v. or_assoc (P v) (R v) (earlier Rs t v)) (λ v. refl)
      (passes_at (together P R) Rs p.1 t (le_of_suc-le-suc h))

  pub at_passes :
      (P : State) (Rs : List State)
      → ((t : ℕ) → t < length Rs → RoundPasses mode o n (together P (earlier Rs t)) (member_at Rs t))
      → PassesAll mode o n P Rs
  at_passes P [] f = tt
  at_passes P (R ∷ Rs) f = (
    same_passes (λ v. or-false (P v)) (λ v. refl) (f 0 (omega arith)),
    at_passes (together P R) Rs (λ t h. same_passes (λ v. sym (or_assoc (P v) (R v) (earlier Rs t v))) (λ v. refl) (f (suc t) (omega arith))),
  )

  pub passes_schedule :
      (Rs : List State)
      → Below (all Rs)
      → PassesAll mode o n nothing Rs
      → (length Rs ≡ 0 → RoundPasses mode o n nothing nothing)
      → Passes mode o n (ids_of Rs) (sizes_of Rs)
  passes_schedule Rs b p z = record { no_drop = λ X s. drop s; no_loop = λ X s. loop s }
    where
      at : (t : ℕ) → suc t ≤ length (sizes_of Rs) → RoundPasses mode o n (earlier Rs t) (member_at Rs t)
      at t h = passes_at nothing Rs p t (omega (arith, length_sizes Rs))

      one : {X : State} → ((v : ℕ) → X v ≡ false) → Between nothing nothing X
      one f = record { earlier = λ v e. clash e refl; nothing_else = λ v e g. f v }

      drop : {X : State} → StateIn (ids_of Rs) (sizes_of Rs) X → Drops o n X → ⊥
      drop (of_round {t = zero} h k s) = absurd (omega arith)
      drop (of_round {t = suc t} h k s) = (at t k).no_drop _ (state_between Rs b t s)
      drop (of_none h f) = (z (sym (length_sizes Rs) ∙ h)).no_drop _ (one f)

      loop : {X : State} → StateIn (ids_of Rs) (sizes_of Rs) X → Loops mode o n X → ⊥
      loop (of_round {t = zero} h k s) = absurd (omega arith)
      loop (of_round {t = suc t} h k s) = (at t k).no_loop _ (state_between Rs b t s)
      loop (of_none h f) = (z (sym (length_sizes Rs) ∙ h)).no_loop _ (one f)

  pub schedule_passes :
      (Rs : List State) → Below (all Rs) → Passes mode o n (ids_of Rs) (sizes_of Rs) → PassesAll mode o n nothing Rs
  schedule_passes Rs b p =
      at_passes nothing Rs
      (λ t h. record { no_drop = λ X s. p.no_drop X (in_round t h s); no_loop = λ X s. p.no_loop X (in_round t h s) })
    where
      in_round :
          (t : ℕ) → t < length Rs → {X : State} → Between (earlier Rs t) (member_at Rs t) X → StateIn (ids_of Rs) (sizes_of Rs) X
      in_round t h s = of_round {t = suc t} (omega arith) (omega (arith, length_sizes Rs)) (between_state Rs b t s)

-- ---- a well-formed schedule

filled_at : (Rs : List State) → Filled Rs → (t : ℕ) → t < length Rs → (v : ℕ) × (member_at Rs t v ≡ true)
filled_at [] f t h = absurd (omega arith)
filled_at (R ∷ Rs) f zero h = f.0
filled_at (R ∷ Rs) f (suc t) h = filled_at Rs f.1 t (le_of_suc-le-suc h)

-- within each round the ids rise
abbrev RoundsRise : List ℕ → List ℕ → Type 0
RoundsRise ids zs = (j i : ℕ) → j < i → i < length ids → round_of zs j ≡ round_of zs i → get_or ids j 0 < get_or ids i 0

at_rest : (xs ids : List ℕ) (i : ℕ) → length xs ≤ i → get_or (xs ++ ids) i 0 ≡ get_or ids (i - length xs) 0
at_rest xs ids i h =
    let e : i ≡ length xs + (i - length xs) = omega arith in
    ap (λ (k : ℕ). get_or (xs ++ ids) k 0) e ∙ get_or-append-add xs ids (i - length xs) 0

rise_cons :
    (xs ids zs : List ℕ)
    → ((j i : ℕ) → j < i → i < length xs → get_or xs j 0 < get_or xs i 0)
    → RoundsRise ids zs
    → RoundsRise (xs ++ ids) (length xs ∷ zs)
unfolding round_of
rise_cons xs ids zs f g j i h l e = go (dec_lt j (length xs)) (dec_lt i (length xs))
  where
    go : Dec (j < length xs) → Dec (i < length xs) → get_or (xs ++ ids) j 0 < get_or (xs ++ ids) i 0
    go (yes p) (yes q) = rw (get_or-append xs ids 0 j p, get_or-append xs ids 0 i q) (f j i h q)
    go (yes p) (no q) =
        absurd (omega (arith, round_least zs (i - length xs), rw (lt-ltb j (length xs) p, le-ltb i (length xs) (omega arith)) at e))
    go (no p) (yes q) = absurd (omega arith)
    go (no p) (no q) =
        rw (at_rest xs ids j (omega arith), at_rest xs ids i (omega arith))
        (g (j - length xs) (i - length xs) (omega arith) (omega (arith, length-append xs ids))
        (omega (arith, rw (le-ltb j (length xs) (omega arith), le-ltb i (length xs) (omega arith)) at e)))

ids_rise : (Rs : List State) → RoundsRise (ids_of Rs) (sizes_of Rs)
ids_rise [] = rw ids_nil (λ j i h l e. absurd (omega arith))
ids_rise (R ∷ Rs) = rw (ids_cons R Rs, sizes_cons R Rs) (rise_cons (rising R) (ids_of Rs) (sizes_of Rs) (rising_rises R) (ids_rise Rs))

pub ids_distinct : (Rs : List State) → Below (all Rs) → Disjoint Rs → Distinct (ids_of Rs)
ids_distinct [] b d = rw ids_nil tt
ids_distinct (R ∷ Rs) b d =
    rw (ids_cons R Rs)
    (distinct_append (rising R) (ids_of Rs) (rising_distinct R) (ids_distinct Rs rest d.1)
    (λ v e. on_ids Rs rest v ∙ d.0 v (sym (on_rising (below_first R Rs b) v) ∙ e)))
  where
    rest : Below (all Rs)
    rest v e = b v (or_right (R v) e)

pub is_schedule :
    {o n : List ℕ}
    → Good o n
    → (Rs : List State)
    → Disjoint Rs
    → Filled Rs
    → ((v : ℕ) → all Rs v ≡ due o n v)
    → Schedule o n (ids_of Rs) (sizes_of Rs)
is_schedule {o} {n} g Rs d f a =
    record {
      sums = sum_sizes Rs;
      sizes = λ i h. some i (omega (arith, length_sizes Rs));
      rising = ids_rise Rs;
      are_due = λ i h. sym (a (get_or (ids_of Rs) i 0)) ∙ sym (on_ids Rs b (get_or (ids_of Rs) i 0)) ∙ index_on (ids_of Rs) i h;
      once = distinct_index (ids_of Rs) (ids_distinct Rs b d);
      all_due = λ v e. on_ids Rs b v ∙ a v ∙ e;
    }
  where
    b : Below (all Rs)
    b v e = due_below g v (sym (a v) ∙ e)

    some : (i : ℕ) → i < length Rs → 0 < get_or (sizes_of Rs) i 0
    some i h =
        let x = filled_at Rs f i h in
        omega (arith, sizes_at Rs i h, (member_rising (member_at Rs i) x.0 (at_below Rs i b x.0 x.1) x.1).1)
