-- Whether a schedule passes, and which round and subset the check names, by computing, and what the tests tell. Assumes
-- nothing.
--
--   low v                == v is an id
--   set_of_set, has_set_of, size_set_of == the set of the ids of a list: eight words, these ids, and their number
--   none_state           == where a choice leads to no fault, no state that respects it shows the fault
--   fixed X              == the choice of the one state X
--
-- Of a mode, routes o and n, and a schedule:
--   rounds_quiet t       == no round before t leads to a fault
--   passes_well          == the schedule passes; passes_is == what this tells
--   drop_none f t        == where f is a loop, round t leads to no drop
--   bad_well f t         == round t is the first bad one, for the fault f; bad_is == what this tells
--   cut t X x            == the choice that is as the state X below x, old at x, and that of round t above x
--   named_well f t l     == the subset l of round t shows the fault f, and no state does that is as this one below an id of l and
--                           has that id unchanged; named_is == what this tells
use Prim.Native.Nat.{ℕ, suc, ◌*◌, ◌<◌}
use native.Mathlib.Omega.{arith}
use native.Mathlib.Decide.{ℕ_discrete, dec_lt}
use mathlib.Core.Path.{◌≡◌, refl, sym, ap, ◌∙◌}
use mathlib.Core.Bool.{Bool, true, false, cond, ◌&&◌, ◌||◌}
use mathlib.Core.Logic.{⊎_elim}
use mathlib.Core.List.{List, [], ◌∷◌}
use lib.ListN.{length}
use lib.Dec.{eqb, ltb, leb}
use borrow.Author.Tests.{ltb-true, lt-ltb, le-ltb, leb-true, eqb-true, eq-eqb, ne_eqb, not-true}
use Rattle.house.specs.Sets.{has, put, size}
use Rattle.house.proofs.SetLaws.{Set, zeros_set, has_zeros, size_zeros, put_set, has_put_same, has_put_other, size_put}
use Rattle.graph.specs.Graph.{Choice, old, new, Ok, Respects}
use Rattle.routes.specs.Routes.{Good}
use Rattle.routes.specs.Jumps.{on}
use Rattle.routes.specs.Walk.{State}
use Rattle.rounds.specs.Schedule.{round_no}
use Rattle.rounds.specs.States.{StateOf, StateIn, of_round, of_none, Passes, Fault, a_drop, a_loop, Shows, Bad, FirstBad, chosen, Named}
use Rattle.rounds.proofs.Bridge.{Finds, choice_at, state_respects, bad_finds, possible_finds, shows_same}
use Rattle.rounds.proofs.NamedLaws.{chosen_here, chosen_state}
use Rattle.plans.specs.Known.{set_of}
use Rattle.plans.proofs.IdLists.{by_bool, clash, either_or, on_nil, on_cons}
use Rattle.plans.proofs.Compute.{every, below, and_both, every_on, below_at}
use Rattle.plans.proofs.ComputeFaults.{found, free, quiet, found_finds, free_none, quiet_none}
use Rattle.plans.proofs.ComputeSchedule.{distinct}

-- ---- the set of the ids of a list

abbrev pub low : ℕ → Bool
low v = ltb v 512

pub set_of_set : (l : List ℕ) → Set (set_of l)
unfolding set_of
set_of_set [] = zeros_set
set_of_set (i ∷ l) = put_set i (set_of_set l)

-- an id has a word in it
worded : (l : List ℕ) (i : ℕ) → low i ≡ true → i < 64 * length (set_of l)
worded l i e = omega (arith, ltb-true i 512 e, (set_of_set l).eight_long)

pub has_set_of : (l : List ℕ) → every low l ≡ true → (v : ℕ) → has (set_of l) v ≡ on l v
unfolding set_of every
has_set_of [] e v = has_zeros 8 v ∙ sym (on_nil v)
has_set_of (i ∷ l) e v = let x = and_both {a = low i} {b = every low l} e in rw (on_cons i l v) (go x.0 (has_set_of l x.1 v) (ℕ_discrete v i))
  where
    go : low i ≡ true → has (set_of l) v ≡ on l v → Dec (v ≡ i) → has (put (set_of l) i) v ≡ (eqb v i || on l v)
    go h r (yes d) = ap (has (put (set_of l) i)) d ∙ has_put_same (set_of l) i (worded l i h) ∙ rw (eq-eqb v i d)
    go h r (no d) = has_put_other (set_of l) i v d ∙ r ∙ rw (ne_eqb v i d)

pub size_set_of : (l : List ℕ) → every low l ≡ true → distinct l ≡ true → size (set_of l) ≡ length l
unfolding set_of every distinct
size_set_of [] e d = size_zeros 8
size_set_of (i ∷ l) e d =
    let x = and_both {a = low i} {b = every low l} e in
    let y = and_both d in
    size_put (set_of l) i (worded l i x.0) (has_set_of l x.1 i ∙ not-true (on l i) y.0) ∙ ap suc (size_set_of l x.1 y.1)

-- ---- states

pub none_state :
    {o n : List ℕ}
    → Good o n
    → (c : ℕ → Choice) (f : Fault) (mode : ℕ)
    → (Finds f mode o n c → ⊥)
    → (X : State)
    → Respects c X
    → Shows f mode o n X
    → ⊥
none_state g c f mode h X r s = h ((possible_finds g c f mode).0 (record { state = X; respected = r; shows = s }))

abbrev pub fixed : State → ℕ → Choice
fixed X v = cond (X v) new old

fixed_ok : (b z : Bool) → z ≡ b → Ok (cond b new old) z
fixed_ok true z e = rw e tt
fixed_ok false z e = rw e tt

ok_fixed : (b z : Bool) → Ok (cond b new old) z → z ≡ b
ok_fixed true true h = refl
ok_fixed true false h = absurd h
ok_fixed false true h = absurd h
ok_fixed false false h = refl

module _ (mode : ℕ) (o n ids zs : List ℕ) where
  unfoldable pub rounds_quiet : ℕ → Bool
  unfolding round_no below quiet
  rounds_quiet t = below t (λ u. eqb u 0 || quiet o n (choice_at ids zs u) mode)

  unfoldable pub passes_well : Bool
  unfolding quiet rounds_quiet
  passes_well = quiet o n (λ v. old) mode && rounds_quiet (suc (length zs))

  unfoldable pub drop_none : Fault → ℕ → Bool
  unfolding round_no free
  drop_none a_drop t = true
  drop_none a_loop t = free o n (choice_at ids zs t) a_drop mode

  unfoldable pub bad_well : Fault → ℕ → Bool
  unfolding round_no rounds_quiet found drop_none
  bad_well f t =
      ltb 0 t
      && leb t (length zs)
      && rounds_quiet t
      && found o n (choice_at ids zs t) f mode
      && drop_none f t

  abbrev pub cut : ℕ → State → ℕ → ℕ → Choice
  cut t X x v = cond (ltb v x) (fixed X v) (cond (eqb v x) old (choice_at ids zs t v))

  unfoldable pub named_well : Fault → ℕ → List ℕ → Bool
  unfolding round_no has set_of every distinct found free
  named_well f t l =
      every low l
      && distinct l
      && every (λ v. eqb (round_no ids zs v) t) l
      && found o n (fixed (chosen ids zs t (set_of l))) f mode
      && every (λ x. free o n (cut t (chosen ids zs t (set_of l)) x) f mode) l

  module _ (g : Good o n) where
    quiet_state : (c : ℕ → Choice) → quiet o n c mode ≡ true → (f : Fault) (X : State) → Respects c X → Shows f mode o n X → ⊥
    quiet_state c e f = none_state g c f mode (quiet_none o n c mode e f)

    quiet_rounds :
        (t : ℕ) → rounds_quiet t ≡ true → (u : ℕ) → 0 < u → u < t → (f : Fault) (X : State) → StateOf ids zs u X → Shows f mode o n X → ⊥
    unfolding rounds_quiet
    quiet_rounds t e u h k f X s b =
        ⊎_elim (λ d. omega (arith, eqb-true u 0 d))
        (λ q. quiet_state (choice_at ids zs u) q f X ((state_respects ids zs u X).0 s) b)
        (either_or (eqb u 0) (quiet o n (choice_at ids zs u) mode) (below_at t _ e u k))

    pub passes_is : passes_well ≡ true → Passes mode o n ids zs
    unfolding passes_well
    passes_is e = let x = and_both e in record { no_drop = none x.0 x.1 a_drop; no_loop = none x.0 x.1 a_loop }
      where
        none :
            quiet o n (λ v. old) mode ≡ true
            → rounds_quiet (suc (length zs)) ≡ true
            → (f : Fault) (X : State)
            → StateIn ids zs X
            → Shows f mode o n X
            → ⊥
        none z e f X (of_round {t} h k s) = quiet_rounds (suc (length zs)) e t h (omega arith) f X s
        none z e f X (of_none h k) = quiet_state (λ v. old) z f X (record { respects = λ v. rw (k v) tt })

    pub bad_is : (f : Fault) (t : ℕ) → bad_well f t ≡ true → FirstBad mode o n ids zs t f
    unfolding bad_well
    bad_is f t e =
        let x = and_both e in
        let y = and_both x.0 in
        let z = and_both y.0 in
        let w = and_both z.0 in
        record {
          from_one = ltb-true 0 t w.0;
          a_round = leb-true t (length zs) w.1;
          earlier_good = λ u h k f b. quiet_rounds t z.1 u h k f b.0 b.1 b.2;
          bad = (bad_finds g mode ids zs t f).1 (found_finds o n (choice_at ids zs t) f mode y.1);
          drop_first = drops f x.1;
        }
      where
        drops : (f : Fault) → drop_none f t ≡ true → f ≡ a_loop → Bad mode o n ids zs t a_drop → ⊥
        drops a_drop h d b = let z : ◌≡◌ {A = ℕ} 0 1 = cc in omega arith
        drops a_loop h d b = free_none o n (choice_at ids zs t) a_drop mode h ((bad_finds g mode ids zs t a_drop).0 b)

    pub named_is :
        (f : Fault) (t : ℕ) (l : List ℕ)
        → 0 < t
        → named_well f t l ≡ true
        → Named mode o n ids zs t f (set_of l) × (size (set_of l) ≡ length l)
    unfolding named_well
    named_is f t l pt e =
        let x = and_both e in
        let y = and_both x.0 in
        let z = and_both y.0 in
        let w = and_both z.0 in (
          record {
            eight_words = (set_of_set l).eight_long;
            word = (set_of_set l).words_fit.below;
            subset = λ v h. eqb-true (round_no ids zs v) t (every_on _ l z.1 v (sym (has_set_of l w.0 v) ∙ h));
            shows = shown (found_finds o n (fixed Y) f mode y.1);
            first =
                λ Z r s i same apart.
                by_bool (Y i)
                (λ q.
                let d : Z i ≡ false = by_bool (Z i) (λ p. absurd (apart (p ∙ sym q))) (λ p. p) in
                let h : has (set_of l) i ≡ true = sym (chosen_here ids zs t (set_of l) i pt (inside Z r i q d)) ∙ q in
                let k : free o n (cut t Y i) f mode ≡ true = every_on _ l x.1 i (sym (has_set_of l w.0 i) ∙ h) in
                absurd (none_state g (cut t Y i) f mode (free_none o n (cut t Y i) f mode k) Z (respects Z r i same d) s))
                (λ q. q);
          },
          size_set_of l w.0 w.1,
        )
      where
        Y : State
        Y = chosen ids zs t (set_of l)

        shown : Finds f mode o n (fixed Y) → Shows f mode o n Y
        shown p =
            let q = (possible_finds g (fixed Y) f mode).1 p in
            shows_same f mode o n (λ v. ok_fixed (Y v) (q.state v) (q.respected.respects v)) q.shows

        -- an id that one state of the round has and another has not is of the round
        inside : (Z : State) → StateOf ids zs t Z → (i : ℕ) → Y i ≡ true → Z i ≡ false → round_no ids zs i ≡ t
        inside Z r i q d = go (ℕ_discrete (round_no ids zs i) 0) (dec_lt (round_no ids zs i) t) (dec_lt t (round_no ids zs i))
          where
            go : Dec (round_no ids zs i ≡ 0) → Dec (round_no ids zs i < t) → Dec (t < round_no ids zs i) → round_no ids zs i ≡ t
            go (yes h) a b = clash q ((chosen_state ids zs t (set_of l)).in_none i h)
            go (no h) (yes a) b = clash (r.earlier i (omega arith) a) d
            go (no h) (no a) (yes b) = clash q ((chosen_state ids zs t (set_of l)).later i b)
            go (no h) (no a) (no b) = omega arith

        respects : (Z : State) → StateOf ids zs t Z → (i : ℕ) → ((k : ℕ) → k < i → Z k ≡ Y k) → Z i ≡ false → Respects (cut t Y i) Z
        respects Z r i same d = record { respects = λ v. go v (dec_lt v i) (ℕ_discrete v i) }
          where
            go : (v : ℕ) → Dec (v < i) → Dec (v ≡ i) → Ok (cut t Y i v) (Z v)
            go v (yes h) k = rw (lt-ltb v i h) (fixed_ok (Y v) (Z v) (same v h))
            go v (no h) (yes k) = rw (le-ltb v i (omega arith), eq-eqb v i k, k, d) tt
            go v (no h) (no k) = rw (le-ltb v i (omega arith), ne_eqb v i k) (((state_respects ids zs t Z).0 r).respects v)
