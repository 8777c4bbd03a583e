-- Laws of schedules and of judging a change.
--
-- Of sizes zs:
--   up_to zs k      == the first k sizes added up
--   up_to_none, up_to_suc, up_to_rises, up_to_all, up_to_most == of none and of one more; more sizes are more; of all, and at most
--   Inside zs i     == how many rounds are before that of the index i, and that it lies past these and not past its own
--   round_in        == each index below the sum is inside a round
--   round_is        == an index past the first k rounds, and not past one more, is in round k + 1
--   round_past      == an index past all rounds has one more than their number
--   round_least, round_most == rounds count from 1, and to the number of sizes
--   round_rises, round_before == the rounds of the indexes rise with these, so that an earlier round is a lower index
--   start zs t      == where round t begins: the sum of the sizes before it
--   round_spans     == an index is in round t exactly where it is at or past the start of t and below the start of the next
--
-- Of ids and sizes:
--   rising          == where no id falls against the one before it, the ids of one round rise
--   repeat_earlier  == then an id that stands before already stands in an earlier round
--   nowhere_off, off_nowhere == an id that no index holds isn't on the list, and the other way round
--   clear_mode, clear_schedule == where no refusal of a schedule applies, the mode is 0 or 1 and the schedule well-formed
--   schedule_clear  == and the other way round
--   SoundChange     == whole entries, a good pair, a mode and a well-formed schedule
--   clear_change, change_clear == a change is sound exactly where no refusal applies
--   judges_change_one == `judge` has one reply
--   number_of       == the round of an id is that of its position
--   number_none     == an id has the round 0 exactly where it is in none
--   number_most     == the round of an id is at most the number of rounds
--   position_once, number_at == in a schedule the id at index i has the position i, and the round of i
use Rattle.std.specs.Prelude.{Result, Err}
use Prim.Native.Nat.{ℕ, zero, suc, ◌+◌, ◌-◌, ◌%◌, ◌<◌, ◌≤◌}
use mathlib.Core.Path.{◌≡◌, refl, sym, ap, ◌∙◌}
use mathlib.Core.Bool.{Bool, true, false, cond}
use mathlib.Core.Logic.{◌↔◌}
use mathlib.Core.List.{List, [], ◌∷◌}
use mathlib.Core.HLevel.{dec→stable}
use native.Mathlib.Decide.{ℕ_discrete, dec_lt}
use native.Mathlib.Omega.{arith}
use lib.ListN.{length, get_or, take}
use lib.Seq.{take_all}
use lib.Dec.{ltb}
use borrow.Author.Tests.{lt-ltb, le-ltb}
use Rattle.std.proofs.lemmas.Bool.{true_from_ne_false, true≢false}
use Rattle.rounds.specs.Tests.{Falls}
use Rattle.rounds.specs.Schedule.{
  sum,
  round_of,
  round_no,
  ScheduleFault,
  mode_over,
  sum_differs,
  empty,
  not_rising,
  not_due,
  again,
  missing,
  Schedule,
}
use Rattle.rounds.specs.Replies.{ChangeFault, half_ids, half_sizes, judged, schedule, JudgesChange, sound, faulty}
use Rattle.house.specs.declared.Refusal.{Refusal}
use Rattle.house.specs.declared.Refusal.TheVariants.{Unfit, ModeOver, SizesSum, RoundEmpty, NotRising, NotDue, Again, Missing}
use Rattle.house.specs.Numbers.{entries, Whole}
use Rattle.house.specs.Refusals.{Clear}
use Rattle.house.proofs.RefusalLaws.{first_one, first_not_clear}
use Rattle.routes.specs.Routes.{Good}
use Rattle.routes.specs.Rules.{due}
use Rattle.routes.specs.Jumps.{position, on}
use Rattle.routes.specs.Replies.{JudgeFault}
use Rattle.routes.proofs.PairLaws.{clear_whole, clear_good, good_clear}
use Rattle.routes.proofs.JumpLaws.{position_at, position_before, position_off, position_on, on_position, position_is}

-- a number is below another or not, with the test
by_less : {A : Type 0} (a b : ℕ) → (a < b → ltb a b ≡ true → A) → (b ≤ a → ltb a b ≡ false → A) → A
by_less {A} a b f g = go (dec_lt a b)
  where
    go : Dec (a < b) → A
    go (yes h) = f h (lt-ltb a b h)
    go (no h) = let l : b ≤ a = omega arith in g l (le-ltb a b l)

-- ---- sizes added up

abbrev pub up_to : List ℕ → ℕ → ℕ
up_to zs k = sum (take k zs)

pub up_to_none : (zs : List ℕ) → up_to zs 0 ≡ 0
unfolding sum
up_to_none zs = refl

pub up_to_suc : (zs : List ℕ) (k : ℕ) → up_to zs (suc k) ≡ up_to zs k + get_or zs k 0
unfolding sum
up_to_suc [] zero = refl
up_to_suc [] (suc k) = refl
up_to_suc (z ∷ zs) zero = omega arith
up_to_suc (z ∷ zs) (suc k) = omega (arith, up_to_suc zs k)

pub up_to_rises : (zs : List ℕ) (j k : ℕ) → j ≤ k → up_to zs j ≤ up_to zs k
up_to_rises zs j zero h = let e : j ≡ zero = omega arith in rw e (omega arith)
up_to_rises zs j (suc k) h = go (ℕ_discrete j (suc k)) (up_to_rises zs j k)
  where
    go : Dec (j ≡ suc k) → (j ≤ k → up_to zs j ≤ up_to zs k) → up_to zs j ≤ up_to zs (suc k)
    go (yes e) r = rw e (omega arith)
    go (no e) r = omega (arith, up_to_suc zs k, r (omega arith))

pub up_to_all : (zs : List ℕ) (k : ℕ) → length zs ≤ k → up_to zs k ≡ sum zs
up_to_all zs k h = rw (take_all k zs h)

pub up_to_most : (zs : List ℕ) (k : ℕ) → up_to zs k ≤ sum zs
up_to_most zs k = go (dec_lt k (length zs))
  where
    go : Dec (k < length zs) → up_to zs k ≤ sum zs
    go (yes h) = omega (arith, up_to_rises zs k (length zs) (omega arith), up_to_all zs (length zs) (omega arith))
    go (no h) = omega (arith, up_to_all zs k (omega arith))

-- ---- the round of an index

pub round_least : (zs : List ℕ) (i : ℕ) → 1 ≤ round_of zs i
unfolding round_of
round_least [] i = omega arith
round_least (z ∷ zs) i = by_less i z (λ h e. rw e (omega arith)) (λ h e. rw e (omega arith))

pub round_is : (zs : List ℕ) (k i : ℕ) → up_to zs k ≤ i → i < up_to zs (suc k) → round_of zs i ≡ suc k
unfolding round_of sum
round_is [] k i a b = absurd (omega arith)
round_is (z ∷ zs) zero i a b = rw (lt-ltb i z (omega arith))
round_is (z ∷ zs) (suc k) i a b =
    rw (le-ltb i z (omega arith), round_is zs k (i - z) (omega arith) (omega arith))

pub round_past : (zs : List ℕ) (i : ℕ) → sum zs ≤ i → round_of zs i ≡ suc (length zs)
unfolding round_of sum
round_past [] i h = refl
round_past (z ∷ zs) i h = rw (le-ltb i z (omega arith), round_past zs (i - z) (omega arith))

pub record Inside (zs : List ℕ) (i : ℕ) : Type 0 where
  pub earlier : ℕ
  pub number : round_of zs i ≡ suc earlier
  pub from : up_to zs earlier ≤ i
  pub to : i < up_to zs (suc earlier)

pub round_in : (zs : List ℕ) (i : ℕ) → i < sum zs → Inside zs i
unfolding round_of sum
round_in [] i h = absurd (omega arith)
round_in (z ∷ zs) i h = by_less i z first (λ l e. next l e (round_in zs (i - z) (omega arith)))
  where
    first : i < z → ltb i z ≡ true → Inside (z ∷ zs) i
    first l e = record { earlier = 0; number = rw e; from = omega arith; to = omega arith }

    next : z ≤ i → ltb i z ≡ false → Inside zs (i - z) → Inside (z ∷ zs) i
    next l e r =
        record {
          earlier = suc r.earlier;
          number = rw (e, r.number);
          from = omega (arith, r.from);
          to = omega (arith, r.to);
        }

pub round_most : (zs : List ℕ) (i : ℕ) → i < sum zs → round_of zs i ≤ length zs
round_most zs i h = go (dec_lt r.earlier (length zs))
  where
    r : Inside zs i
    r = round_in zs i h

    go : Dec (r.earlier < length zs) → round_of zs i ≤ length zs
    go (yes l) = omega (arith, r.number)
    go (no l) = absurd (omega (arith, r.from, up_to_all zs r.earlier (omega arith)))

pub round_rises : (zs : List ℕ) (i j : ℕ) → i ≤ j → round_of zs i ≤ round_of zs j
unfolding round_of
round_rises [] i j h = omega arith
round_rises (z ∷ zs) i j h =
    by_less i z (λ l e. rw e (round_least (z ∷ zs) j))
    (λ l e. rw (e, le-ltb j z (omega arith)) (omega (arith, round_rises zs (i - z) (j - z) (omega arith))))

pub round_before : (zs : List ℕ) (i j : ℕ) → round_of zs i < round_of zs j → i < j
round_before zs i j h = dec→stable (dec_lt i j) (λ l. omega (arith, round_rises zs j i (omega arith)))

abbrev pub start : List ℕ → ℕ → ℕ
start zs zero = 0
start zs (suc k) = up_to zs k

pub round_spans :
    (zs : List ℕ) (t i : ℕ) → i < sum zs → (round_of zs i ≡ t) ↔ ((start zs t ≤ i) × (i < start zs (suc t)))
round_spans zs zero i h = (λ e. absurd (omega (arith, round_least zs i)), λ (a, b). absurd (omega (arith, up_to_none zs)))
round_spans zs (suc k) i h = (into (round_in zs i h), λ (a, b). round_is zs k i a b)
  where
    into : Inside zs i → round_of zs i ≡ suc k → (up_to zs k ≤ i) × (i < up_to zs (suc k))
    into r e =
        let d : r.earlier ≡ k = omega (arith, r.number) in
        (rw d at r.from, rw d at r.to)

-- ---- rising ids

pub rising :
    {ids zs : List ℕ}
    → ((i : ℕ) → i < length ids → Falls ids zs i → ⊥)
    → (j i : ℕ)
    → j < i
    → i < length ids
    → round_of zs j ≡ round_of zs i
    → get_or ids j 0 < get_or ids i 0
rising f j zero l h e = absurd (omega arith)
rising {ids} {zs} f j (suc k) l h e = go (dec_lt j k) (rising f j k)
  where
    with_last : round_of zs k ≡ round_of zs (suc k)
    with_last = omega (arith, round_rises zs j k (omega arith), round_rises zs k (suc k) (omega arith))

    above_last : get_or ids k 0 < get_or ids (suc k) 0
    above_last =
        let n : get_or ids (suc k) 0 ≤ get_or ids k 0 → ⊥ =
        λ b. f (suc k) h (record { last = k; next = refl; together = with_last; not_above = b }) in
        omega arith

    go :
        Dec (j < k)
        → (j < k → k < length ids → round_of zs j ≡ round_of zs k → get_or ids j 0 < get_or ids k 0)
        → get_or ids j 0 < get_or ids (suc k) 0
    go (yes b) r = omega (arith, r b (omega arith) (omega (arith, with_last)), above_last)
    go (no b) r = let d : j ≡ k = omega arith in rw d above_last

-- under the rising order an id that stands before already stands in an earlier round
pub repeat_earlier :
    {ids zs : List ℕ}
    → ((i : ℕ) → i < length ids → Falls ids zs i → ⊥)
    → (j i : ℕ)
    → j < i
    → i < length ids
    → get_or ids j 0 ≡ get_or ids i 0
    → round_of zs j < round_of zs i
repeat_earlier {ids} {zs} f j i l h e =
    dec→stable (dec_lt (round_of zs j) (round_of zs i))
    (λ b. omega (arith, rising f j i l h (omega (arith, round_rises zs j i (omega arith)))))

-- ---- what the tests tell

-- an id that no index holds isn't on the list, and the other way round
pub nowhere_off : (l : List ℕ) (v : ℕ) → ((i : ℕ) → i < length l → get_or l i 0 ≡ v → ⊥) → on l v ≡ false
nowhere_off l v f = go (dec_lt (position l v) (length l))
  where
    go : Dec (position l v < length l) → on l v ≡ false
    go (yes h) = absurd (f (position l v) h (position_at l v h))
    go (no h) = position_off l v (omega arith)

pub off_nowhere : (l : List ℕ) (v : ℕ) → on l v ≡ false → (i : ℕ) → i < length l → get_or l i 0 ≡ v → ⊥
off_nowhere l v e i h g = go (dec_lt i (position l v))
  where
    go : Dec (i < position l v) → ⊥
    go (yes b) = position_before l v i b g
    go (no b) = true≢false (sym (position_on l v (omega arith)) ∙ e)

module _ {o n : List ℕ} {mode : ℕ} {ids zs : List ℕ} (k : Clear (ScheduleFault o n mode ids zs)) where
  pub clear_mode : mode ≤ 1
  clear_mode = let h : 1 < mode → ⊥ = λ l. k.clear ModeOver (mode_over l) in omega arith

  none_falls : (i : ℕ) → i < length ids → Falls ids zs i → ⊥
  none_falls i h f =
      k.clear (NotRising (round_of zs i) i) (not_rising f.next h refl f.together f.not_above)

  pub clear_schedule : Schedule o n ids zs
  clear_schedule =
      record {
        sums = dec→stable (ℕ_discrete (sum zs) (length ids)) (λ h. k.clear SizesSum (sum_differs h));
        sizes = sized;
        rising = rising none_falls;
        are_due = λ i h. true_from_ne_false (due o n (get_or ids i 0)) (λ e. k.clear (NotDue (round_of zs i) i) (not_due h refl e));
        once = λ j i l h e. k.clear (Again (round_of zs i) i) (again h refl (omega arith) (repeat_earlier none_falls j i l h e) e);
        all_due = λ v d. true_from_ne_false (on ids v) (λ e. k.clear (Missing v) (missing d (off_nowhere ids v e)));
      }
    where
      sized : (i : ℕ) → i < length zs → 0 < get_or zs i 0
      sized i h = let z : get_or zs i 0 ≡ 0 → ⊥ = λ e. k.clear (RoundEmpty (suc i)) (empty refl h e) in omega arith

pub schedule_clear :
    {o n : List ℕ} {mode : ℕ} {ids zs : List ℕ} → mode ≤ 1 → Schedule o n ids zs → Clear (ScheduleFault o n mode ids zs)
schedule_clear {o} {n} {mode} {ids} {zs} m s = record { clear = go }
  where
    go : (q : Refusal) → ScheduleFault o n mode ids zs q → ⊥
    go q (mode_over h) = omega arith
    go q (sum_differs h) = h s.sums
    go q (empty {t} {i} e h z) = omega (arith, s.sizes i h)
    go q (not_rising {t} {i} {j} e h d r l) = omega (arith, s.rising j i (omega arith) h r)
    go q (not_due {t} {i} h e d) = true≢false (sym (s.are_due i h) ∙ d)
    go q (again {t} {i} {j} h e l r d) = s.once j i (round_before zs j i (omega arith)) h d
    go q (missing {v} d f) = true≢false (sym (s.all_due v d) ∙ nowhere_off ids v f)

-- ---- a sound change

pub record SoundChange (old new : List ℕ) (mode : ℕ) (ids sizes : List ℕ) : Type 0 where
  pub whole_old : Whole old
  pub whole_new : Whole new
  pub whole_ids : Whole ids
  pub whole_sizes : Whole sizes
  pub good : Good (entries old) (entries new)
  pub mode_low : mode ≤ 1
  pub schedule : Schedule (entries old) (entries new) (entries ids) (entries sizes)

pub clear_change :
    {old new : List ℕ} {mode : ℕ} {ids sizes : List ℕ}
    → Clear (ChangeFault old new mode ids sizes)
    → SoundChange old new mode ids sizes
clear_change {old} {new} {mode} {ids} {sizes} k =
    record {
      whole_old = (clear_whole pair).0;
      whole_new = (clear_whole pair).1;
      whole_ids = record { even = dec→stable (ℕ_discrete (length ids % 2) 0) (λ h. k.clear Unfit (half_ids (λ w. h w.even))) };
      whole_sizes = record { even = dec→stable (ℕ_discrete (length sizes % 2) 0) (λ h. k.clear Unfit (half_sizes (λ w. h w.even))) };
      good = clear_good pair;
      mode_low = clear_mode rounds;
      schedule = clear_schedule rounds;
    }
  where
    pair : Clear (JudgeFault old new)
    pair = record { clear = λ q f. k.clear q (judged f) }

    rounds : Clear (ScheduleFault (entries old) (entries new) mode (entries ids) (entries sizes))
    rounds = record { clear = λ q f. k.clear q (schedule f) }

pub change_clear :
    {old new : List ℕ} {mode : ℕ} {ids sizes : List ℕ}
    → SoundChange old new mode ids sizes
    → Clear (ChangeFault old new mode ids sizes)
change_clear {old} {new} {mode} {ids} {sizes} s = record { clear = go }
  where
    go : (q : Refusal) → ChangeFault old new mode ids sizes q → ⊥
    go q (half_ids h) = h s.whole_ids
    go q (half_sizes h) = h s.whole_sizes
    go q (judged f) = (good_clear s.whole_old s.whole_new s.good).clear q f
    go q (schedule f) = (schedule_clear s.mode_low s.schedule).clear q f

pub judges_change_one :
    {old new : List ℕ} {mode : ℕ} {ids sizes : List ℕ} {a b : Result (Unit {0}) Refusal}
    → JudgesChange old new mode ids sizes a
    → JudgesChange old new mode ids sizes b
    → a ≡ b
judges_change_one (sound k) (sound l) = refl
judges_change_one (sound k) (faulty f) = absurd (first_not_clear f k)
judges_change_one (faulty f) (sound k) = absurd (first_not_clear f k)
judges_change_one (faulty f) (faulty g) = ap Err (first_one f g)

-- ---- the round of an id

pub number_of : (ids zs : List ℕ) (v : ℕ) → on ids v ≡ true → round_no ids zs v ≡ round_of zs (position ids v)
unfolding round_no
number_of ids zs v e = rw e

pub number_none : (ids zs : List ℕ) (v : ℕ) → (round_no ids zs v ≡ 0) ↔ (on ids v ≡ false)
unfolding round_no
number_none ids zs v = (into (on ids v), λ e. rw e)
  where
    into : (b : Bool) → cond b (round_of zs (position ids v)) 0 ≡ 0 → b ≡ false
    into true e = absurd (omega (arith, round_least zs (position ids v)))
    into false e = refl

pub number_most : (ids zs : List ℕ) → sum zs ≡ length ids → (v : ℕ) → round_no ids zs v ≤ length zs
unfolding round_no
number_most ids zs s v = go (on ids v) (on_position ids v)
  where
    go : (b : Bool) → (b ≡ true → position ids v < length ids) → cond b (round_of zs (position ids v)) 0 ≤ length zs
    go true h = round_most zs (position ids v) (omega (arith, h refl))
    go false h = omega arith

module _ {o n ids zs : List ℕ} (s : Schedule o n ids zs) where
  pub position_once : (i : ℕ) → i < length ids → position ids (get_or ids i 0) ≡ i
  position_once i h =
      sym (position_is ids (get_or ids i 0) refl
      (record { within = omega arith; none_before = λ k b e. s.once k i b h e; found = λ _. refl }))

  pub number_at : (i : ℕ) → i < length ids → round_no ids zs (get_or ids i 0) ≡ round_of zs i
  number_at i h =
      let p : position ids (get_or ids i 0) ≡ i = position_once i h in
      number_of ids zs (get_or ids i 0) (position_on ids (get_or ids i 0) (omega arith)) ∙ ap (round_of zs) p
