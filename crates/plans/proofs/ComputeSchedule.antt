-- Whether a pair of routes is good, and which refusals of a schedule apply, by computing, and what the tests tell. Assumes
-- nothing.
--
--   distinct l           == no id stands twice on l
--   fit l, pair_fits o n == l is a good route; o and n are a good pair
--   distinct_is, fit_good, pair_good == what these tell
--   due_on               == a due node is on one of the two routes
--   before q r           == q is given rather than r; before_is == it is so wherever `Before` is
--
-- Of routes o and n, a mode, and a schedule:
--   rises i              == the id at the index i is above the one before it, where both are in one round
--   repeats i j          == the indexes i and j hold one id, and the round of j is before that of i
--   silent b             == of the refusals 8 to 14 for which the test b passes, none applies
--   silent_none          == what this tells
--   repeated t i, absent v == the refusals 13 and 14 apply so
--   applies r            == the refusal r, 13 or 14, applies; applies_is == what this tells
--   well_formed          == none of 8 to 14 applies; well_formed_clear == what this tells
--   given r              == of all that apply, r is the one that is given; given_first == what this tells
use Prim.Native.Nat.{ℕ, zero, suc}
use native.Mathlib.Omega.{arith}
use mathlib.Core.Path.{◌≡◌, refl, ap}
use mathlib.Core.Bool.{Bool, true, false, not, ◌&&◌, ◌||◌}
use mathlib.Core.Logic.{⊎_elim}
use mathlib.Core.List.{List, [], ◌∷◌, ◌++◌}
use mathlib.Core.Option.{some}
use lib.ListN.{length, get_or}
use lib.Dec.{eqb, ltb, leb}
use borrow.Author.Tests.{ltb-true, lt-ltb, leb-true, eqb-true, eq-eqb, not-true}
use Rattle.house.specs.declared.Refusal.{Refusal}
use Rattle.house.specs.declared.Refusal.TheVariants.{ModeOver, SizesSum, RoundEmpty, NotRising, NotDue, Again, Missing}
use Rattle.house.specs.Refusals.{number, site, place, Before, lower, sooner, nearer, First, Clear}
use Rattle.house.proofs.RefusalLaws.{told_one}
use Rattle.routes.specs.Routes.{source, destination, GoodRoute, Good}
use Rattle.routes.specs.Rules.{rule, due}
use Rattle.routes.specs.Jumps.{position, on}
use Rattle.routes.proofs.JumpLaws.{on_position}
use Rattle.routes.proofs.RuleLaws.{due_rule, rule_hop}
use Rattle.rounds.specs.Schedule.{sum, round_of, ScheduleFault, mode_over, sum_differs, empty, not_rising, not_due, again, missing}
use Rattle.rounds.proofs.ScheduleLaws.{nowhere_off, off_nowhere}
use Rattle.plans.proofs.IdLists.{clash, or_left, or_right, either_or, index_on, on_append, Distinct, distinct_index}
use Rattle.plans.proofs.Compute.{every, any, below, and_both, every_on, any_on, below_at}

-- ---- routes

unfoldable pub distinct : List ℕ → Bool
unfolding on
distinct [] = true
distinct (a ∷ l) = not (on l a) && distinct l

pub distinct_is : (l : List ℕ) → distinct l ≡ true → Distinct l
unfolding distinct
distinct_is [] e = tt
distinct_is (a ∷ l) e = let x = and_both e in (not-true (on l a) x.0, distinct_is l x.1)

unfoldable pub fit : List ℕ → Bool
unfolding every distinct
fit l = leb 2 (length l) && leb (length l) 256 && every (λ v. ltb v 512) l && distinct l

pub fit_good : (l : List ℕ) → fit l ≡ true → GoodRoute l
unfolding fit
fit_good l e =
    let x = and_both e in
    let y = and_both x.0 in
    let z = and_both y.0 in
    record {
      least = leb-true 2 (length l) z.0;
      most = leb-true (length l) 256 z.1;
      ids = λ i h. ltb-true (get_or l i 0) 512 (every_on (λ v. ltb v 512) l y.1 (get_or l i 0) (index_on l i h));
      distinct = distinct_index l (distinct_is l x.1);
    }

unfoldable pub pair_fits : List ℕ → List ℕ → Bool
unfolding fit
pair_fits o n = fit o && fit n && eqb (source o) (source n) && eqb (destination o) (destination n)

pub pair_good : (o n : List ℕ) → pair_fits o n ≡ true → Good o n
unfolding pair_fits
pair_good o n e =
    let x = and_both e in
    let y = and_both x.0 in
    let z = and_both y.0 in
    record {
      old = fit_good o z.0;
      new = fit_good n z.1;
      sources = eqb-true (source o) (source n) y.1;
      destinations = eqb-true (destination o) (destination n) x.1;
    }

pub due_on : (o n : List ℕ) (v : ℕ) → due o n v ≡ true → on (o ++ n) v ≡ true
due_on o n v e =
    rw (on_append o n v)
    (⊎_elim (λ x. or_left (on n v) (stands o x.1)) (λ x. or_right (on o v) (stands n x.1)) (due_rule o n v e))
  where
    stands : (l : List ℕ) {w : ℕ} → rule l v ≡ some w → on l v ≡ true
    stands l h = let x = rule_hop l v h in rw (← x.here) (index_on l x.index (omega (arith, x.within)))

-- ---- refusals

-- a test that is asked for only where b passes
then : (b : Bool) {t : Bool} → (not b || t) ≡ true → b ≡ true → t ≡ true
then true e h = e
then false e h = clash h refl

abbrev pub before : Refusal → Refusal → Bool
before q r =
    ltb (number q) (number r)
    || eqb (number q) (number r) && (ltb (site q) (site r) || eqb (site q) (site r) && ltb (place q) (place r))

pub before_is : (q r : Refusal) → Before q r → before q r ≡ true
before_is q r (lower h) = or_left _ (lt-ltb (number q) (number r) h)
before_is q r (sooner e h) =
    or_right (ltb (number q) (number r)) (rw (eq-eqb (number q) (number r) e) (or_left _ (lt-ltb (site q) (site r) h)))
before_is q r (nearer e d h) =
    or_right (ltb (number q) (number r))
    (rw (eq-eqb (number q) (number r) e)
    (or_right (ltb (site q) (site r)) (rw (eq-eqb (site q) (site r) d) (lt-ltb (place q) (place r) h))))

module _ (o n : List ℕ) (mode : ℕ) (ids zs : List ℕ) where
  unfoldable pub rises : ℕ → Bool
  unfolding round_of
  rises zero = true
  rises (suc j) = not (eqb (round_of zs j) (round_of zs (suc j))) || ltb (get_or ids j 0) (get_or ids (suc j) 0)

  unfoldable pub repeats : ℕ → ℕ → Bool
  unfolding round_of
  repeats i j = ltb (round_of zs j) (round_of zs i) && eqb (get_or ids j 0) (get_or ids i 0)

  unfoldable pub silent : (Refusal → Bool) → Bool
  unfolding sum round_of due on every below rises repeats
  silent b =
      (not (b ModeOver) || leb mode 1)
      && (not (b SizesSum) || eqb (sum zs) (length ids))
      && below (length zs) (λ i. not (b (RoundEmpty (suc i))) || ltb 0 (get_or zs i 0))
      && below (length ids) (λ i. not (b (NotRising (round_of zs i) i)) || rises i)
      && below (length ids) (λ i. not (b (NotDue (round_of zs i) i)) || due o n (get_or ids i 0))
      && below (length ids) (λ i. not (b (Again (round_of zs i) i)) || below (length ids) (λ j. not (repeats i j)))
      && every (λ v. not (b (Missing v)) || (not (due o n v) || on ids v)) (o ++ n)

  module _ (b : Refusal → Bool) (e : silent b ≡ true) where
    pub silent_none : (q : Refusal) → ScheduleFault o n mode ids zs q → b q ≡ true → ⊥
    unfolding silent
    silent_none =
        let x = and_both e in
        let y = and_both x.0 in
        let z = and_both y.0 in
        let w = and_both z.0 in
        let u = and_both w.0 in
        let t = and_both u.0 in
        by_kind t.0 t.1 u.1 w.1 z.1 y.1 x.1
      where
        by_kind :
            (not (b ModeOver) || leb mode 1) ≡ true
            → (not (b SizesSum) || eqb (sum zs) (length ids)) ≡ true
            → below (length zs) (λ i. not (b (RoundEmpty (suc i))) || ltb 0 (get_or zs i 0)) ≡ true
            → below (length ids) (λ i. not (b (NotRising (round_of zs i) i)) || rises i) ≡ true
            → below (length ids) (λ i. not (b (NotDue (round_of zs i) i)) || due o n (get_or ids i 0)) ≡ true
            → below (length ids) (λ i. not (b (Again (round_of zs i) i)) || below (length ids) (λ j. not (repeats i j))) ≡ true
            → every (λ v. not (b (Missing v)) || (not (due o n v) || on ids v)) (o ++ n) ≡ true
            → (q : Refusal)
            → ScheduleFault o n mode ids zs q
            → b q ≡ true
            → ⊥
        by_kind x8 x9 x10 x11 x12 x13 x14 q (mode_over l) h = omega (arith, leb-true mode 1 (then (b ModeOver) x8 h))
        by_kind x8 x9 x10 x11 x12 x13 x14 q (sum_differs d) h = d (eqb-true (sum zs) (length ids) (then (b SizesSum) x9 h))
        by_kind x8 x9 x10 x11 x12 x13 x14 q (empty {t} {i} d l z) h =
            omega (arith, ltb-true 0 (get_or zs i 0) (then (b (RoundEmpty (suc i))) (below_at (length zs) _ x10 i l) (rw d at h)))
        by_kind x8 x9 x10 x11 x12 x13 x14 q (not_rising {t} {i} {j} d l et er k) h =
            falls (rw d at (then (b (NotRising (round_of zs i) i)) (below_at (length ids) _ x11 i l) (rw et at h)))
          where
            falls : rises (suc j) ≡ true → ⊥
            falls r =
                ⊎_elim (λ c. clash (eq-eqb (round_of zs j) (round_of zs (suc j)) (rw d at er)) (not-true _ c))
                (λ c. omega (arith, ltb-true (get_or ids j 0) (get_or ids (suc j) 0) c, ap (λ (m : ℕ). get_or ids m 0) d))
                (either_or _ _ r)
        by_kind x8 x9 x10 x11 x12 x13 x14 q (not_due {t} {i} l et d) h =
            clash (then (b (NotDue (round_of zs i) i)) (below_at (length ids) _ x12 i l) (rw et at h)) d
        by_kind x8 x9 x10 x11 x12 x13 x14 q (again {t} {i} {j} l et lj k d) h =
            clash
            (rw (lt-ltb (round_of zs j) (round_of zs i) (omega arith), eq-eqb (get_or ids j 0) (get_or ids i 0) d))
            (not-true (repeats i j)
            (below_at (length ids) _ (then (b (Again (round_of zs i) i)) (below_at (length ids) _ x13 i l) (rw et at h)) j lj))
        by_kind x8 x9 x10 x11 x12 x13 x14 q (missing {v} d f) h =
            clash
            (then (due o n v) (then (b (Missing v)) (every_on _ (o ++ n) x14 v (due_on o n v d)) h) d)
            (nowhere_off ids v f)

  unfoldable pub repeated : ℕ → ℕ → Bool
  unfolding round_of position any repeats
  repeated t i = ltb i (length ids) && eqb t (round_of zs i) && any (λ v. repeats i (position ids v)) ids

  repeated_again : (t i : ℕ) → repeated t i ≡ true → ScheduleFault o n mode ids zs (Again t i)
  unfolding repeated
  repeated_again t i e =
      let x = and_both e in
      let y = and_both x.0 in
      let (v, l, q) = any_on (λ v. repeats i (position ids v)) ids x.1 in
      let z : (ltb (round_of zs (position ids v)) (round_of zs i) ≡ true) × (eqb (get_or ids (position ids v) 0) (get_or ids i 0) ≡ true) =
      and_both q
      in
      let d : t ≡ round_of zs i = eqb-true t (round_of zs i) y.1 in
      again (ltb-true i (length ids) y.0) d (on_position ids v l)
      (omega (arith, ltb-true (round_of zs (position ids v)) (round_of zs i) z.0))
      (eqb-true (get_or ids (position ids v) 0) (get_or ids i 0) z.1)

  unfoldable pub absent : ℕ → Bool
  unfolding due on
  absent v = due o n v && not (on ids v)

  absent_missing : (v : ℕ) → absent v ≡ true → ScheduleFault o n mode ids zs (Missing v)
  unfolding absent
  absent_missing v e = let x = and_both e in missing x.0 (off_nowhere ids v (not-true (on ids v) x.1))

  unfoldable pub applies : Refusal → Bool
  unfolding repeated absent
  applies r = eqb (number r) 13 && repeated (site r) (place r) || eqb (number r) 14 && (eqb (site r) 0 && absent (place r))

  pub applies_is : (r : Refusal) → applies r ≡ true → ScheduleFault o n mode ids zs r
  unfolding applies
  applies_is r e = ⊎_elim thirteen fourteen (either_or _ _ e)
    where
      thirteen : (eqb (number r) 13 && repeated (site r) (place r)) ≡ true → ScheduleFault o n mode ids zs r
      thirteen h =
          let x = and_both h in
          rw (told_one {q = r} {r = Again (site r) (place r)} (eqb-true (number r) 13 x.0) refl refl) (repeated_again (site r) (place r) x.1)

      fourteen : (eqb (number r) 14 && (eqb (site r) 0 && absent (place r))) ≡ true → ScheduleFault o n mode ids zs r
      fourteen h =
          let x = and_both h in
          let y = and_both x.1 in
          rw (told_one {q = r} {r = Missing (place r)} (eqb-true (number r) 14 x.0) (eqb-true (site r) 0 y.0) refl)
          (absent_missing (place r) y.1)

  unfoldable pub well_formed : Bool
  unfolding silent
  well_formed = silent (λ q. true)

  pub well_formed_clear : well_formed ≡ true → Clear (ScheduleFault o n mode ids zs)
  unfolding well_formed
  well_formed_clear e = record { clear = λ q f. silent_none (λ q. true) e q f refl }

  unfoldable pub given : Refusal → Bool
  unfolding silent applies
  given r = applies r && silent (λ q. before q r)

  pub given_first : (r : Refusal) → given r ≡ true → First (ScheduleFault o n mode ids zs) r
  unfolding given
  given_first r e =
      let x = and_both e in
      record {
        applies = applies_is r x.0;
        lowest = λ q f p. silent_none (λ q. before q r) x.1 q f (before_is q r p);
      }
