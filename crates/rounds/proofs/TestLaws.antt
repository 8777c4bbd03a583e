-- Laws on the tests of a schedule: tests made in the order of their numbers give the refusal that is to be given, and what
-- the runs through ids and sizes keep.
--
--   refusal zs t i  == what is given where the test t fails first at i: an index of the sizes, an index of the ids, or an id
--   rank t          == its number
--   order           == of two refusals of one test, the one that is given rather is at the lower place
--   Passed .. k     == no refusal with a number below k applies
--   Tells .. t m P  == the refusal of t at i applies exactly where i is below m and P holds of it
--   run_first       == the tests before t passed, and t fails: the refusal of its first failure is given
--   run_passed      == a test that fails nowhere is passed
--   mode_first, mode_passed, total_first, total_passed == the same for the two tests that have one place only
--   passed_clear    == all passed: no refusal applies
--   empties_tell, falls_tell, strays_tell, agains_tell, losses_tell == what each test looks for
--   passed_low      == past the test of ids not due each id is one of a node
--   MarksDue o n m  == the marks m are those of the due nodes, and of no other number
--   marks_due       == so are the marks where the two tables of next values differ
--   answers_first   == the refusal that is given is the reply
--   change_unfit, change_judged, change_answers == the reply to a change from the reply to its parts
--   found_below     == what a search finds is below its end
--   Taken zs k left total == the first k sizes are taken from the total, and `left` is left
--   taken_none, taken_more, taken_in, taken_past == the sizes are taken one by one: from none of them, one more, until one
--                      exceeds what is left, or past all of them
--   located_end, located_before, located_round == what the place of an index tells: of the sum of all sizes, and of its round
--   Scan ids zs t end i == a run through the ids has come to i, t rounds are begun and end at `end`, and no id before i falls
--   scan_none, scan_some, scan_next, scan_rounds, scan_fits, scan_here, scan_on, scan_end == the run begins; within a round
--                      there is an id before; a round begins, there is one more, and it ends within the ids; the id at i
--                      falls, or does not; the run ends
--   LeftOf m ids left i == the marks left are those of m without the first i of the ids
--   left_more, left_end == the marks are struck out one by one
--   first_mark      == a search of 512 marks finds the first mark
--   unplaced_first  == the first mark left is the first that is lost
use Rattle.std.specs.Option.{MatchOption}
use Rattle.std.specs.List.{AllWithin, HoldsAt}
use Rattle.std.specs.Prelude.{Option, Some, None, Result, Ok, Err}
use Prim.Native.Nat.{ℕ, suc, ◌+◌, ◌-◌, ◌%◌, ◌<◌, ◌≤◌}
use mathlib.Core.Path.{◌≡◌, refl, sym, ap, ◌∙◌, subst}
use mathlib.Core.Bool.{Bool, true, false}
use mathlib.Core.List.{List, [], ◌∷◌}
use mathlib.Core.HLevel.{dec→stable}
use native.Mathlib.Decide.{ℕ_discrete, dec_lt}
use native.Mathlib.Numerals.{add-one}
use native.Mathlib.Omega.{arith}
use lib.ListN.{length, get_or, set, length-set, get_or-eq_default}
use lib.Seq.{get_or-set_same, get_or-set_other}
use lib.Dec.{eqb}
use borrow.Author.Count.{below_more}
use borrow.Author.Tests.{eq-eqb, ne_eqb, eqb-true, eqb-false}
use Rattle.std.proofs.lemmas.Bool.{true≢false}
use Rattle.house.specs.declared.Refusal.{Refusal}
use Rattle.house.specs.declared.Refusal.TheVariants.{Unfit, ModeOver, SizesSum, RoundEmpty, NotRising, NotDue, Again, Missing}
use Rattle.house.specs.Finds.{Finds, found, nowhere}
use Rattle.house.specs.Numbers.{entries}
use Rattle.house.specs.Refusals.{number, Before, lower, sooner, nearer, First, Clear}
use Rattle.routes.specs.Routes.{Good, Repeat}
use Rattle.routes.specs.Rules.{due, Values, Differ}
use Rattle.routes.specs.Tests.{LowIds}
use Rattle.routes.specs.Replies.{Judges, sound as Pair-sound, faulty as Pair-faulty}
use Rattle.house.proofs.RefusalLaws.{before_number, unfit_first}
use Rattle.routes.proofs.PairLaws.{judge_low}
use Rattle.routes.proofs.RuleLaws.{due_mark, due_below}
use Rattle.rounds.specs.Mode.{mode_no, ModeOf, is_mode, over}
use Rattle.rounds.specs.declared.mode.Mode.{Mode}
use Rattle.rounds.specs.declared.mode.Mode.TheVariants.{Strong, Relaxed}
use Rattle.rounds.specs.Schedule.{
  sum,
  round_of,
  ScheduleFault,
  mode_over,
  sum_differs,
  empty,
  not_rising,
  not_due,
  again,
  missing,
}
use Rattle.rounds.specs.Tests.{Located, Fitting, Falls, Stray, Lost, Unplaced, Answers, sound as All-sound, faulty as one-faulty}
use Rattle.rounds.specs.Replies.{ChangeFault, half_ids, half_sizes, judged, schedule, JudgesChange, sound, faulty}
use Rattle.rounds.proofs.ScheduleLaws.{
  up_to,
  up_to_none,
  up_to_suc,
  up_to_all,
  up_to_most,
  start,
  round_is,
  round_past,
  round_spans,
  round_before,
  repeat_earlier,
}

pub found_below : {P : ℕ → Type 0} {n r : ℕ} → Finds P n (Some r) → r < n
found_below (found h p f) = h

-- ---- tests in the order of their numbers

pub data Test : Type 0 where
  modes totals empties falls strays agains losses : Test

abbrev pub refusal : List ℕ → Test → ℕ → Refusal
refusal zs modes i = ModeOver
refusal zs totals i = SizesSum
refusal zs empties i = RoundEmpty (suc i)
refusal zs falls i = NotRising (round_of zs i) i
refusal zs strays i = NotDue (round_of zs i) i
refusal zs agains i = Again (round_of zs i) i
refusal zs losses i = Missing i

abbrev pub rank : Test → ℕ
rank modes = 8
rank totals = 9
rank empties = 10
rank falls = 11
rank strays = 12
rank agains = 13
rank losses = 14

rank_range : (t : Test) → (8 ≤ rank t) × (rank t < 15)
rank_range modes = (omega arith, omega arith)
rank_range totals = (omega arith, omega arith)
rank_range empties = (omega arith, omega arith)
rank_range falls = (omega arith, omega arith)
rank_range strays = (omega arith, omega arith)
rank_range agains = (omega arith, omega arith)
rank_range losses = (omega arith, omega arith)

rank_number : (zs : List ℕ) (t : Test) (i : ℕ) → number (refusal zs t i) ≡ rank t
rank_number zs modes i = refl
rank_number zs totals i = refl
rank_number zs empties i = refl
rank_number zs falls i = refl
rank_number zs strays i = refl
rank_number zs agains i = refl
rank_number zs losses i = refl

-- the test with the number k
back : ℕ → Test
back k = get_or (modes ∷ totals ∷ empties ∷ falls ∷ strays ∷ agains ∷ []) (k - 8) losses

back_rank : (t : Test) → back (rank t) ≡ t
unfolding back
back_rank modes = refl
back_rank totals = refl
back_rank empties = refl
back_rank falls = refl
back_rank strays = refl
back_rank agains = refl
back_rank losses = refl

rank_one : (t u : Test) → rank t ≡ rank u → t ≡ u
rank_one t u e = cc (back_rank t, back_rank u)

-- rounds rise with the indexes, so that a lower round is a lower index
pub order : (zs : List ℕ) (t : Test) (k i : ℕ) → Before (refusal zs t k) (refusal zs t i) → k < i
order zs t k i (lower h) = absurd (omega (arith, rank_number zs t k, rank_number zs t i))
order zs modes k i (sooner e h) = absurd (omega arith)
order zs totals k i (sooner e h) = absurd (omega arith)
order zs empties k i (sooner e h) = omega arith
order zs falls k i (sooner e h) = round_before zs k i h
order zs strays k i (sooner e h) = round_before zs k i h
order zs agains k i (sooner e h) = round_before zs k i h
order zs losses k i (sooner e h) = absurd (omega arith)
order zs modes k i (nearer e s h) = absurd (omega arith)
order zs totals k i (nearer e s h) = absurd (omega arith)
order zs empties k i (nearer e s h) = absurd (omega arith)
order zs falls k i (nearer e s h) = h
order zs strays k i (nearer e s h) = h
order zs agains k i (nearer e s h) = h
order zs losses k i (nearer e s h) = h

-- which test a refusal is of
data Told (zs : List ℕ) (q : Refusal) : Type 0 where
  told : (t : Test) (i : ℕ) → q ≡ refusal zs t i → Told zs q

tells : {o n : List ℕ} {mode : ℕ} {ids zs : List ℕ} {q : Refusal} → ScheduleFault o n mode ids zs q → Told zs q
tells (mode_over h) = told modes 0 refl
tells (sum_differs h) = told totals 0 refl
tells (empty {t} {i} e h z) = told empties i (ap RoundEmpty e)
tells (not_rising {t} {i} d h e r l) = told falls i (ap (λ (x : ℕ). NotRising x i) e)
tells (not_due {t} {i} h e d) = told strays i (ap (λ (x : ℕ). NotDue x i) e)
tells (again {t} {i} h e l r d) = told agains i (ap (λ (x : ℕ). Again x i) e)
tells (missing {v} d f) = told losses v refl

pub record MarksDue (o n : List ℕ) (m : List Bool) : Type 0 where
  pub size : length m ≡ 512
  pub at : (v : ℕ) → get_or m v false ≡ due o n v

pub record Passed (o n : List ℕ) (mode : ℕ) (ids zs : List ℕ) (k : ℕ) : Type 0 where
  pub passed : (t : Test) (i : ℕ) → rank t < k → ScheduleFault o n mode ids zs (refusal zs t i) → ⊥

pub record Tells (o n : List ℕ) (mode : ℕ) (ids zs : List ℕ) (t : Test) (m : ℕ) (P : ℕ → Type 0) : Type 0 where
  pub fault : (i : ℕ) → i < m → P i → ScheduleFault o n mode ids zs (refusal zs t i)
  pub holds : (i : ℕ) → ScheduleFault o n mode ids zs (refusal zs t i) → (i < m) × P i

module _ {o n : List ℕ} {mode : ℕ} {ids zs : List ℕ} where
  passed_none : Passed o n mode ids zs 8
  passed_none = record { passed = λ t i h f. omega (arith, (rank_range t).0) }

  passed_more :
      (t : Test)
      → Passed o n mode ids zs (rank t)
      → ((i : ℕ) → ScheduleFault o n mode ids zs (refusal zs t i) → ⊥)
      → Passed o n mode ids zs (suc (rank t))
  passed_more t p k = record { passed = λ u i h f. go u i h f (ℕ_discrete (rank u) (rank t)) }
    where
      go :
          (u : Test) (i : ℕ)
          → rank u < suc (rank t)
          → ScheduleFault o n mode ids zs (refusal zs u i)
          → Dec (rank u ≡ rank t)
          → ⊥
      go u i h f (yes e) =
          k i (subst (λ (v : Test). ScheduleFault o n mode ids zs (refusal zs v i)) (rank_one u t e) f)
      go u i h f (no e) = p.passed u i (omega arith) f

  pub passed_clear : Passed o n mode ids zs 15 → Clear (ScheduleFault o n mode ids zs)
  passed_clear p = record { clear = λ q f. go (tells f) f }
    where
      go : {q : Refusal} → Told zs q → ScheduleFault o n mode ids zs q → ⊥
      go (told t i e) f = p.passed t i (rank_range t).1 (rw e at f)

  passed_first :
      (t : Test) (i : ℕ)
      → Passed o n mode ids zs (rank t)
      → ScheduleFault o n mode ids zs (refusal zs t i)
      → ((k : ℕ) → k < i → ScheduleFault o n mode ids zs (refusal zs t k) → ⊥)
      → First (ScheduleFault o n mode ids zs) (refusal zs t i)
  passed_first t i p f none = record { applies = f; lowest = λ q g b. go (tells g) g b }
    where
      same :
          (u : Test) (k : ℕ)
          → u ≡ t
          → ScheduleFault o n mode ids zs (refusal zs u k)
          → Before (refusal zs u k) (refusal zs t i)
          → ⊥
      same u k e g b =
          none k (order zs t k i (subst (λ (v : Test). Before (refusal zs v k) (refusal zs t i)) e b))
          (subst (λ (v : Test). ScheduleFault o n mode ids zs (refusal zs v k)) e g)

      by_rank :
          (u : Test) (k : ℕ)
          → Dec (rank u < rank t)
          → ScheduleFault o n mode ids zs (refusal zs u k)
          → Before (refusal zs u k) (refusal zs t i)
          → ⊥
      by_rank u k (yes h) g b = p.passed u k h g
      by_rank u k (no h) g b =
          same u k (rank_one u t (omega (arith, rank_number zs u k, rank_number zs t i, before_number b))) g b

      go : {q : Refusal} → Told zs q → ScheduleFault o n mode ids zs q → Before q (refusal zs t i) → ⊥
      go (told u k e) g b = by_rank u k (dec_lt (rank u) (rank t)) (rw e at g) (rw e at b)

  pub run_first :
      {t : Test} {m r : ℕ} {P : ℕ → Type 0}
      → Tells o n mode ids zs t m P
      → Passed o n mode ids zs (rank t)
      → Finds P m (Some r)
      → First (ScheduleFault o n mode ids zs) (refusal zs t r)
  run_first {t} {r} a p (found h f none) = passed_first t r p (a.fault r h f) (λ k l g. none k l (a.holds k g).1)

  pub run_passed :
      {t : Test} {m : ℕ} {P : ℕ → Type 0}
      → Tells o n mode ids zs t m P
      → Passed o n mode ids zs (rank t)
      → Finds P m None
      → Passed o n mode ids zs (suc (rank t))
  run_passed {t} a p (nowhere none) = passed_more t p (λ i g. none i (a.holds i g).0 (a.holds i g).1)

  -- ---- what each test looks for

  pub mode_first : {r : Refusal} → ModeOf mode (Err r) → First (ScheduleFault o n mode ids zs) r
  mode_first (over h) = passed_first modes 0 passed_none (mode_over h) (λ k l. absurd (omega arith))

  pub mode_passed : {m : Mode} → ModeOf mode (Ok m) → Passed o n mode ids zs 9
  mode_passed (is_mode {m} e) = passed_more modes passed_none (λ i f. go m e f)
    where
      go : (m : Mode) → mode ≡ mode_no m → ScheduleFault o n mode ids zs ModeOver → ⊥
      go Strong e (mode_over l) = omega arith
      go Relaxed e (mode_over l) = omega arith

  pub total_first : Passed o n mode ids zs 9 → eqb (sum zs) (length ids) ≡ false → First (ScheduleFault o n mode ids zs) SizesSum
  total_first p e =
      passed_first totals 0 p (sum_differs (eqb-false (sum zs) (length ids) e)) (λ k l. absurd (omega arith))

  pub total_passed : Passed o n mode ids zs 9 → eqb (sum zs) (length ids) ≡ true → Passed o n mode ids zs 10
  total_passed p e = passed_more totals p (λ i f. go f)
    where
      go : ScheduleFault o n mode ids zs SizesSum → ⊥
      go (sum_differs h) = h (eqb-true (sum zs) (length ids) e)

  pub empties_tell : Tells o n mode ids zs empties (length zs) (λ k. get_or zs k 0 ≡ 0)
  empties_tell = record { fault = λ i h e. empty refl h e; holds = λ i f. go i (suc i) refl f }
    where
      go : (i t : ℕ) → t ≡ suc i → ScheduleFault o n mode ids zs (RoundEmpty t) → (i < length zs) × (get_or zs i 0 ≡ 0)
      go i t s (empty {i = j} e h z) = let d : j ≡ i = omega arith in (omega arith, rw d at z)

  pub falls_tell : Tells o n mode ids zs falls (length ids) (Falls ids zs)
  falls_tell =
      record {
        fault = λ i h f. not_rising f.next h refl f.together f.not_above;
        holds = λ i f. go f;
      }
    where
      go : {t i : ℕ} → ScheduleFault o n mode ids zs (NotRising t i) → (i < length ids) × Falls ids zs i
      go (not_rising {j} d h e r l) = (h, record { last = j; next = d; together = r; not_above = l })

  pub strays_tell :
      {m : List Bool}
      → MarksDue o n m
      → Tells o n mode ids zs strays (length ids) (Stray m ids)
  strays_tell {m} a =
      record { fault = λ i h e. not_due h refl (sym (a.at (get_or ids i 0)) ∙ e.unmarked); holds = λ i f. go f }
    where
      go : {t i : ℕ} → ScheduleFault o n mode ids zs (NotDue t i) → (i < length ids) × Stray m ids i
      go (not_due {i} h e d) = (h, record { unmarked = a.at (get_or ids i 0) ∙ d })

  pub agains_tell : Passed o n mode ids zs 12 → Tells o n mode ids zs agains (length ids) (Repeat ids)
  agains_tell p =
      record { fault = λ i h (j, l, e). again {j = j} h refl (omega arith) (repeat_earlier none j i l h e) e; holds = λ i f. go f }
    where
      none : (i : ℕ) → i < length ids → Falls ids zs i → ⊥
      none i h f = p.passed falls i (omega arith) (falls_tell.fault i h f)

      go : {t i : ℕ} → ScheduleFault o n mode ids zs (Again t i) → (i < length ids) × Repeat ids i
      go (again {i} {j} h e l r d) = (h, (j, round_before zs j i (omega arith), d))

  pub losses_tell :
      {m : List Bool}
      → Good o n
      → MarksDue o n m
      → Tells o n mode ids zs losses 512 (Lost m ids)
  losses_tell {m} g a =
      record {
        fault = λ v h l. missing (sym (a.at v) ∙ l.marked) l.nowhere;
        holds = λ v f. go f;
      }
    where
      go : {v : ℕ} → ScheduleFault o n mode ids zs (Missing v) → (v < 512) × Lost m ids v
      go (missing {v} d f) = (due_below g v d, record { marked = a.at v ∙ d; nowhere = f })

  pub passed_low : Good o n → Passed o n mode ids zs 13 → LowIds ids
  passed_low g p = record { low = λ i h. go i h (due o n (get_or ids i 0)) refl }
    where
      go : (i : ℕ) → i < length ids → (b : Bool) → due o n (get_or ids i 0) ≡ b → get_or ids i 0 < 512
      go i h true e = due_below g (get_or ids i 0) e
      go i h false e = absurd (p.passed strays i (omega arith) (not_due h refl e))

pub marks_due : {o n a b : List ℕ} {m : List Bool} → Good o n → Values o a → Values n b → Differ a b m → MarksDue o n m
marks_due {o} {n} {a} {b} {m} g x y d = record { size = d.size; at = λ v. go v (dec_lt v 512) (due o n v) refl }
  where
    go : (v : ℕ) → Dec (v < 512) → (t : Bool) → due o n v ≡ t → get_or m v false ≡ due o n v
    go v (yes h) t e = due_mark g x y d v h
    go v (no h) true e = absurd (h (due_below g v e))
    go v (no h) false e = get_or-eq_default m false (omega (arith, d.size)) ∙ sym e

-- ---- the reply to a change

pub answers_first : {F : Refusal → Type 0} {q r : Refusal} → q ≡ r → First F r → Answers F (Err q)
answers_first e f = one-faulty (rw (sym e) at f)

schedule_high : {o n : List ℕ} {mode : ℕ} {ids zs : List ℕ} {q : Refusal} → ScheduleFault o n mode ids zs q → 8 ≤ number q
schedule_high {zs} {q} f = go (tells f)
  where
    go : Told zs q → 8 ≤ number q
    go (told t i e) = omega (arith, rank_number zs t i, (rank_range t).0, ap number e)

module _ {old new : List ℕ} {mode : ℕ} {ids sizes : List ℕ} where
  pub change_unfit : ChangeFault old new mode ids sizes Unfit → JudgesChange old new mode ids sizes (Err Unfit)
  change_unfit f = faulty (unfit_first f)

  module _ (a : length ids % 2 ≡ 0) (b : length sizes % 2 ≡ 0) where
    pub change_judged : {r : Refusal} → Judges old new (Err r) → JudgesChange old new mode ids sizes (Err r)
    change_judged {r} (Pair-faulty f) = faulty (record { applies = judged f.applies; lowest = go })
      where
        go : (q : Refusal) → ChangeFault old new mode ids sizes q → Before q r → ⊥
        go q (half_ids h) l = h (record { even = a })
        go q (half_sizes h) l = h (record { even = b })
        go q (judged g) l = f.lowest q g l
        go q (schedule g) l = omega (arith, schedule_high g, judge_low f.applies, before_number l)

    pub change_answers :
        {u : Unit {0}} {r : Result (Unit {0}) Refusal}
        → Judges old new (Ok u)
        → Answers (ScheduleFault (entries old) (entries new) mode (entries ids) (entries sizes)) r
        → JudgesChange old new mode ids sizes r
    change_answers (Pair-sound k) (All-sound c) = sound (record { clear = go })
      where
        go : (q : Refusal) → ChangeFault old new mode ids sizes q → ⊥
        go q (half_ids h) = h (record { even = a })
        go q (half_sizes h) = h (record { even = b })
        go q (judged g) = k.clear q g
        go q (schedule g) = c.clear q g
    change_answers (Pair-sound k) (one-faulty {r} f) = faulty (record { applies = schedule f.applies; lowest = go })
      where
        go : (q : Refusal) → ChangeFault old new mode ids sizes q → Before q r → ⊥
        go q (half_ids h) l = h (record { even = a })
        go q (half_sizes h) l = h (record { even = b })
        go q (judged g) l = k.clear q g
        go q (schedule g) l = f.lowest q g l

-- ---- sizes taken from a total

pub record Taken (zs : List ℕ) (k left total : ℕ) : Type 0 where
  pub within : k ≤ length zs
  pub parts : up_to zs k + left ≡ total

pub taken_none : {zs : List ℕ} {total : ℕ} → Taken zs 0 total total
taken_none {zs} = record { within = omega arith; parts = omega (arith, up_to_none zs) }

module _ {zs : List ℕ} {k left total z : ℕ} (a : Taken zs k left total) (e : z ≡ get_or zs k 0) where
  pub taken_more : k < length zs → z ≤ left → Taken zs (k + 1) (left - z) total
  taken_more l h = record { within = omega arith; parts = rw (add-one k) (omega (arith, a.parts, up_to_suc zs k)) }

  pub taken_in : k < length zs → left < z → Located zs total k left
  taken_in l h = record { within = omega arith; parts = a.parts; inside = λ l. omega arith }

pub taken_past : {zs : List ℕ} {k left total n : ℕ} → Taken zs k left total → n ≡ length zs → n ≤ k → Located zs total n left
taken_past {zs} {k} {n} a e h =
    let s : k ≡ n = omega (arith, a.within) in
    record { within = omega arith; parts = rw s at a.parts; inside = λ l. absurd (omega arith) }

module _ {zs : List ℕ} {i k left : ℕ} (a : Located zs i k left) where
  pub located_end : k ≡ length zs → eqb left 0 ≡ eqb (sum zs) i
  located_end e = go (ℕ_discrete left 0)
    where
      go : Dec (left ≡ 0) → eqb left 0 ≡ eqb (sum zs) i
      go (yes z) = eq-eqb left 0 z ∙ sym (eq-eqb (sum zs) i (omega (arith, a.parts, up_to_all zs k (omega arith))))
      go (no z) = ne_eqb left 0 z ∙ sym (ne_eqb (sum zs) i (λ s. z (omega (arith, a.parts, up_to_all zs k (omega arith)))))

  pub located_before : {m : ℕ} → m ≡ length zs → (k ≡ m → ⊥) → eqb k m ≡ eqb (sum zs) i
  located_before {m} e f = ne_eqb k m f ∙ sym (ne_eqb (sum zs) i apart)
    where
      apart : sum zs ≡ i → ⊥
      apart s =
          let h : k < length zs = omega (arith, a.within, e, f) in
          omega (arith, a.parts, a.inside h, up_to_suc zs k, up_to_most zs (suc k))

  pub located_round : k + 1 ≡ round_of zs i
  located_round = add-one k ∙ sym (go (dec_lt k (length zs)))
    where
      go : Dec (k < length zs) → round_of zs i ≡ suc k
      go (yes h) = round_is zs k i (omega (arith, a.parts)) (omega (arith, a.parts, a.inside h, up_to_suc zs k))
      go (no h) =
          let s : k ≡ length zs = omega (arith, a.within) in
          round_past zs i (omega (arith, a.parts, up_to_all zs k (omega arith))) ∙ ap suc (sym s)

-- ---- a run through the ids by rounds

pub record Scan (ids zs : List ℕ) (t end i : ℕ) : Type 0 where
  pub ends : end ≡ up_to zs t
  pub inside : i ≤ end
  pub fresh : i ≡ 0 → t ≡ 0
  pub begun : 0 < i → start zs t < i
  pub none_falls : (k : ℕ) → k < i → Falls ids zs k → ⊥

pub scan_none : {ids zs : List ℕ} → Scan ids zs 0 0 0
scan_none {ids} {zs} =
    record {
      ends = sym (up_to_none zs);
      inside = omega arith;
      fresh = λ e. e;
      begun = λ h. absurd (omega arith);
      none_falls = λ k h. absurd (omega arith);
    }

module _ {ids zs : List ℕ} {t end i : ℕ} (f : Fitting ids zs) (a : Scan ids zs t end i) (h : i < length ids) where
  -- an id before lies in the round that was begun last
  last_round : {j : ℕ} → i ≡ suc j → round_of zs j ≡ t
  last_round {j} e =
      (round_spans zs t j (omega (arith, f.sums))).1
      (omega (arith, a.begun (omega arith)), omega (arith, a.ends, a.inside))

  module _ (e : i ≡ end) where
    pub scan_rounds : t < length zs
    scan_rounds =
        dec→stable (dec_lt t (length zs)) (λ l. omega (arith, a.ends, f.sums, up_to_all zs t (omega arith)))

    next_round : round_of zs i ≡ suc t
    next_round =
        round_is zs t i (omega (arith, a.ends)) (omega (arith, a.ends, up_to_suc zs t, f.sizes t scan_rounds))

    pub scan_fits : {z : ℕ} → z ≡ get_or zs t 0 → end + z ≤ length ids
    scan_fits {z} d = omega (arith, a.ends, f.sums, up_to_suc zs t, up_to_most zs (suc t))

    pub scan_next : {z : ℕ} → z ≡ get_or zs t 0 → Scan ids zs (t + 1) (end + z) (i + 1)
    scan_next {z} d =
        rw (add-one t)
        (record {
          ends = omega (arith, a.ends, up_to_suc zs t);
          inside = omega (arith, f.sizes t scan_rounds);
          fresh = λ e. absurd (omega arith);
          begun = λ l. omega (arith, a.ends);
          none_falls = below_more _ _ a.none_falls (λ w. omega (arith, last_round w.next, w.together, next_round));
        })

  module _ (d : i ≡ end → ⊥) where
    pub scan_some : 0 < i
    scan_some = go (ℕ_discrete i 0)
      where
        go : Dec (i ≡ 0) → 0 < i
        go (yes e) =
            let s : t ≡ 0 = a.fresh e in
            absurd (d (omega (arith, rw s at a.ends, up_to_none zs)))
        go (no e) = omega arith

    this_round : round_of zs i ≡ t
    this_round =
        (round_spans zs t i (omega (arith, f.sums))).1
        (omega (arith, a.begun scan_some), omega (arith, a.ends, a.inside))

    pub scan_here : get_or ids i 0 ≤ get_or ids (i - 1) 0 → Finds (Falls ids zs) (length ids) (Some i)
    scan_here l =
        let s : i ≡ suc (i - 1) = omega (arith, scan_some) in
        found h (record { last = i - 1; next = s; together = last_round s ∙ sym this_round; not_above = l }) a.none_falls

    pub scan_on : get_or ids (i - 1) 0 < get_or ids i 0 → Scan ids zs t end (i + 1)
    scan_on l =
        record {
          ends = a.ends;
          inside = omega (arith, a.inside);
          fresh = λ e. absurd (omega arith);
          begun = λ b. omega (arith, a.begun scan_some);
          none_falls = below_more _ _ a.none_falls above;
        }
      where
        above : Falls ids zs i → ⊥
        above w =
            let s : w.last ≡ i - 1 = omega (arith, w.next) in
            omega (arith, rw s at w.not_above)

pub scan_end : {ids zs : List ℕ} {t end i : ℕ} → Scan ids zs t end i → length ids ≤ i → Finds (Falls ids zs) (length ids) None
scan_end a h = nowhere (λ k l. a.none_falls k (omega arith))

-- ---- marks set and struck out

pub record LeftOf (m : List Bool) (ids : List ℕ) (left : List Bool) (i : ℕ) : Type 0 where
  pub size : length left ≡ 512
  pub within : i ≤ length ids
  pub of : (v : ℕ) → get_or left v false ≡ true → get_or m v false ≡ true
  pub struck : (v : ℕ) → get_or left v false ≡ true → (j : ℕ) → j < i → get_or ids j 0 ≡ v → ⊥
  pub kept : (v : ℕ) → get_or m v false ≡ true → ((j : ℕ) → j < i → get_or ids j 0 ≡ v → ⊥) → get_or left v false ≡ true

pub left_more :
    {m : List Bool} {ids : List ℕ} {left : List Bool} {i w : ℕ}
    → LeftOf m ids left i
    → i < length ids
    → w ≡ get_or ids i 0
    → w < 512
    → LeftOf m ids (set left w false) (i + 1)
left_more {m} {ids} {left} {i} {w} a h e b =
    record {
      size = length-set left w false ∙ a.size;
      within = omega arith;
      of = λ v t. a.of v (before v t);
      struck = struck;
      kept = kept;
    }
  where
    gone : (v : ℕ) → v ≡ w → get_or (set left w false) v false ≡ true → ⊥
    gone v s t =
        true≢false (sym (rw s at t) ∙ get_or-set_same left w false false (omega (arith, a.size)))

    before : (v : ℕ) → get_or (set left w false) v false ≡ true → get_or left v false ≡ true
    before v t = go (ℕ_discrete v w)
      where
        go : Dec (v ≡ w) → get_or left v false ≡ true
        go (yes s) = absurd (gone v s t)
        go (no s) = sym (get_or-set_other left w v false false s) ∙ t

    struck : (v : ℕ) → get_or (set left w false) v false ≡ true → (j : ℕ) → j < i + 1 → get_or ids j 0 ≡ v → ⊥
    struck v t j l s = go (dec_lt j i)
      where
        go : Dec (j < i) → ⊥
        go (yes k) = a.struck v (before v t) j k s
        go (no k) = let c : j ≡ i = omega arith in gone v (sym s ∙ rw c (sym e)) t

    kept :
        (v : ℕ)
        → get_or m v false ≡ true
        → ((j : ℕ) → j < i + 1 → get_or ids j 0 ≡ v → ⊥)
        → get_or (set left w false) v false ≡ true
    kept v t f =
        get_or-set_other left w v false false (λ s. f i (omega arith) (sym e ∙ sym s))
        ∙ a.kept v t (λ j l. f j (omega arith))

pub left_end :
    {m : List Bool} {ids : List ℕ} {left : List Bool} {i : ℕ} → LeftOf m ids left i → length ids ≤ i → Unplaced m ids left
left_end {m} {ids} {left} {i} a h =
    record {
      size = a.size;
      lost = λ v t. record { marked = a.of v t; nowhere = λ j l. a.struck v t j (omega arith) };
      left = λ v t. a.kept v t.marked (λ j l. t.nowhere j (omega (arith, a.within)));
    }

pub unplaced_first :
    {m : List Bool} {ids : List ℕ} {l : List Bool} {n : ℕ} {r : Option ℕ}
    → Unplaced m ids l
    → Finds (λ v. get_or l v false ≡ true) n r
    → Finds (Lost m ids) n r
unplaced_first u (found h t f) = found h (u.lost _ t) (λ k b w. f k b (u.left k w))
unplaced_first u (nowhere f) = nowhere (λ k b w. f k b (u.left k w))

pub first_mark :
    (l : List Bool) {r : Option ℕ}
    → length l ≡ 512
    → MatchOption r (AllWithin (λ b. b ≡ true → ⊥) l 0 (length l))
    (λ i. (i < length l) × HoldsAt (λ b. b ≡ true) l i × AllWithin (λ b. b ≡ true → ⊥) l 0 i)
    → Finds (λ v. get_or l v false ≡ true) 512 r
first_mark l {r = None} e h = nowhere (λ k b p. h k false (omega arith) (omega (arith, e)) p)
first_mark l {r = Some i} e h = found (omega (arith, e, h.0)) (h.1 false) (λ k b p. h.2 k false (omega arith) b p)
