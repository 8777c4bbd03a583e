-- What the two programs' answers mean, said over definitions alone. Assumes nothing.
--
--   Sound f ns       == the file f, of at most 4,092 bytes, holds a good pair of routes, a mode and a schedule of them that passes,
--                       and ns are the number of its rounds and of its due nodes
--   ok_means         == where the checker says OK, the file is sound, and these are the numbers
--   sound_ok         == the checker says OK of each sound file
--   no_means         == where it says NO, the file is not sound
--   planner_ok       == what the planner writes is a NO line, or a file of which the checker says OK
--   planned_ok       == it is the file, with the rounds of the plan, for each good pair and each mode, whatever rounds are read
use Rattle.std.specs.Prelude.{Ok}
use Rattle.rounds.specs.declared.check.Accepted.{Accepted}
use Prim.Native.Nat.{ℕ, ◌/◌, ◌<◌, ◌≤◌}
use mathlib.Core.Path.{◌≡◌, refl, sym, ap}
use mathlib.Core.List.{List, [], ◌∷◌}
use mathlib.Core.Logic.{◌⊎◌, inl, inr}
use native.Mathlib.Decide.{ℕ_discrete}
use native.Mathlib.Omega.{arith}
use lib.ListN.{length}
use Rattle.house.specs.declared.Refusal.{Refusal}
use Rattle.house.specs.declared.Refusal.TheVariants.{ModeOver}
use Rattle.house.specs.Numbers.{entries, encode}
use Rattle.house.specs.Refusals.{Clear}
use Rattle.house.proofs.NumberLaws.{entries_encode}
use Rattle.house.proofs.RefusalLaws.{first_not_clear}
use Rattle.routes.specs.Routes.{Good}
use Rattle.routes.specs.Rules.{due, tally}
use Rattle.routes.specs.Walk.{State}
use Rattle.routes.specs.Replies.{JudgeFault}
use Rattle.routes.proofs.PairLaws.{clear_good, good_clear}
use Rattle.rounds.specs.Schedule.{Schedule}
use Rattle.rounds.specs.States.{Passes}
use Rattle.rounds.specs.Replies.{CheckFault, short_set, change, Checks, passes}
use Rattle.rounds.proofs.ScheduleLaws.{SoundChange, clear_change, change_clear}
use Rattle.plans.specs.Plan.{PlanRounds, ids_of, sizes_of}
use Rattle.plans.specs.Replies.{PlanFault, short_ids, short_sizes, judged, mode_over}
use Rattle.plans.proofs.PlanSchedule.{length_sizes}
use Rattle.plans.proofs.PlanSets.{plan_schedule}
use Rattle.plans.proofs.Demand2.{plan_passes_always}
use Rattle.plans.proofs.CheckAccepts.{ids_entries, whole_encode}
use Rattle.planfile.specs.File.{file_of, Holds, size_at, Expects}
use Rattle.planfile.specs.Parts.{Room}
use Rattle.planfile.proofs.RecordLaws.{expects_kind}
use Rattle.planfile.proofs.FileLaws.{length_file, holds_right, holds_old, holds_new}
use Rattle.planfile.proofs.ReadLaws.{read_clear}
use Rattle.planfile.proofs.WriteLaws.{up_to_fits}
use Rattle.planfile.proofs.LengthLaws.{file_most}
use Rattle.planfile.proofs.OneContent.{clear_short, plain_holds}
use Rattle.desk.specs.Text.{Line, OK, NO}
use Rattle.desk.specs.Replies.{zeros, FileFault, told, CheckerSays, wrong_file, accepted, refused, PlannerGives, planned}
use Rattle.desk.proofs.OneReply.{checker_says_one, one_content}

pub record Sound (f ns : List ℕ) : Type 0 where
  pub old : List ℕ
  pub new : List ℕ
  pub mode : ℕ
  pub ids : List ℕ
  pub sizes : List ℕ
  pub holds : Holds f old new mode ids sizes
  pub short : length f ≤ 4092
  pub good : Good old new
  pub mode_low : mode ≤ 1
  pub schedule : Schedule old new ids sizes
  pub passing : Passes mode old new ids sizes
  pub numbers : ns ≡ length sizes ∷ tally 512 (due old new) ∷ []

-- ---- what a file holds, as bytes and back

module _ {f o n is zs : List ℕ} {mode : ℕ} (h : Holds f o n mode is zs) (l : length f ≤ 4092) where
  few : length is < 65536
  few = omega (arith, ap length h.same, length_file o n mode is zs h.sums)

  back_old : entries (encode 2 o) ≡ o
  back_old = entries_encode o (record { below = h.old_ids })

  back_new : entries (encode 2 n) ≡ n
  back_new = entries_encode n (record { below = h.new_ids })

  back_ids : entries (encode 2 is) ≡ is
  back_ids = entries_encode is (record { below = h.round_ids })

  back_sizes : entries (encode 2 zs) ≡ zs
  back_sizes = entries_encode zs (record { below = λ i. omega (arith, up_to_fits zs i, h.sums, few) })

  -- ---- the checker

  accepted_sound :
      {a : Accepted} {set ns : List ℕ}
      → Checks (encode 2 o) (encode 2 n) mode (encode 2 is) (encode 2 zs) (zeros 64) (Ok a) set
      → ns ≡ a.rounds ∷ a.dues ∷ []
      → Sound f ns
  accepted_sound (passes k p r d e) x =
      let s = clear_change (record { clear = λ q c. k.clear q (change c) }) in
      record {
        old = o;
        new = n;
        mode = mode;
        ids = is;
        sizes = zs;
        holds = h;
        short = l;
        good = rw (back_old, back_new) at s.good;
        mode_low = s.mode_low;
        schedule = rw (back_old, back_new, back_ids, back_sizes) at s.schedule;
        passing = rw (back_old, back_new, back_ids, back_sizes) at p;
        numbers = rw (r, d, back_old, back_new, back_sizes) at x;
      }

  read_sizes : Good o n → (v q : ℕ) → v < 3 → Expects f q v → (2 ≤ size_at f q / 2) × (size_at f q / 2 ≤ 256)
  read_sizes g v q m x = pick (ℕ_discrete v 2)
    where
      pick : Dec (v ≡ 2) → (2 ≤ size_at f q / 2) × (size_at f q / 2 ≤ 256)
      pick (yes e) = omega (arith, holds_new h (omega (arith, l)) (rw e at x), g.new.least, g.new.most)
      pick (no e) =
          let d : v ≡ 1 = omega (arith, expects_kind x) in
          omega (arith, holds_old h (omega (arith, l)) (rw d at x), g.old.least, g.old.most)

  good_read : Good o n → Clear (FileFault f)
  good_read g = read_clear room l (holds_right h (omega (arith, l))) (read_sizes g)
    where
      room : Room (zeros 512) (zeros 512) (zeros 4096) (zeros 2048)
      room = record { for_old = omega arith; for_new = omega arith; for_ids = omega arith; for_sizes = omega arith }

  sound_change : Good o n → mode ≤ 1 → Schedule o n is zs → SoundChange (encode 2 o) (encode 2 n) mode (encode 2 is) (encode 2 zs)
  sound_change g m s =
      record {
        whole_old = whole_encode o;
        whole_new = whole_encode n;
        whole_ids = whole_encode is;
        whole_sizes = whole_encode zs;
        good = rw (back_old, back_new) g;
        mode_low = m;
        schedule = rw (back_old, back_new, back_ids, back_sizes) s;
      }

  sound_accepted :
      Good o n
      → mode ≤ 1
      → Schedule o n is zs
      → Passes mode o n is zs
      → Checks (encode 2 o) (encode 2 n) mode (encode 2 is) (encode 2 zs) (zeros 64) (Ok (record { rounds = length zs; dues = tally 512 (due o n) })) (zeros 64)
  sound_accepted g m s p =
      passes {a = record { rounds = length zs; dues = tally 512 (due o n) }} (record { clear = none }) (rw (back_old, back_new, back_ids, back_sizes) p) (ap length (sym back_sizes))
      (rw (back_old, back_new)) refl
    where
      none : (q : Refusal) → CheckFault (encode 2 o) (encode 2 n) mode (encode 2 is) (encode 2 zs) (zeros 64) q → ⊥
      none q (short_set c) = omega arith
      none q (change c) = (change_clear (sound_change g m s)).clear q c

pub ok_means : {f ns : List ℕ} → CheckerSays f OK ns → Sound f ns
ok_means {f} {ns} x = go x refl
  where
    go : {w : List ℕ} → CheckerSays f w ns → w ≡ OK → Sound f ns
    go (wrong_file g e d) y = let z : ◌≡◌ {A = ℕ} 79 78 = cc in absurd (omega arith)
    go (accepted k h c e d) y = accepted_sound h (clear_short k) c d
    go (refused k h c e d) y = let z : ◌≡◌ {A = ℕ} 79 78 = cc in absurd (omega arith)

pub sound_ok : {f ns : List ℕ} → Sound f ns → CheckerSays f OK ns
sound_ok x =
    let h = x.holds in
    let l = x.short in
    accepted (good_read h l x.good) h (sound_accepted h l x.good x.mode_low x.schedule x.passing) refl x.numbers

pub no_means : {f ns ms : List ℕ} → CheckerSays f NO ns → Sound f ms → ⊥
no_means x y =
    let e = (checker_says_one x (sound_ok y)).0 in
    let z : ◌≡◌ {A = ℕ} 78 79 = cc in
    omega arith

-- ---- the planner

-- the file of a plan is sound
plan_sound_file :
    {f o n is zs t : List ℕ} {mode : ℕ} {Rs : List State}
    → Holds f o n mode is zs
    → Good o n
    → mode ≤ 1
    → PlanRounds mode o n Rs
    → t ≡ file_of o n mode (ids_of Rs) (sizes_of Rs)
    → Sound t (length Rs ∷ tally 512 (due o n) ∷ [])
plan_sound_file {o = o} {n} {mode = mode} {Rs} h g m p e =
    let s = plan_schedule g p in
    record {
      old = o;
      new = n;
      mode = mode;
      ids = ids_of Rs;
      sizes = sizes_of Rs;
      holds =
          plain_holds
          (record {
            sums = s.sums;
            old_ids = h.old_ids;
            new_ids = h.new_ids;
            mode_fits = h.mode_fits;
            round_ids = (ids_entries Rs).below;
          })
          e;
      short = omega (arith, ap length e, file_most g s mode);
      good = g;
      mode_low = m;
      schedule = s;
      passing = plan_passes_always g p;
      numbers = rw (length_sizes Rs) refl;
    }

module _ {f o n is zs : List ℕ} {mode : ℕ} (k : Clear (FileFault f)) (h : Holds f o n mode is zs) where
  pair_good : Clear (PlanFault (encode 2 o) (encode 2 n) mode (zeros 1024) (zeros 1024)) → Good o n
  pair_good c =
      let l = clear_short k in
      rw (back_old h l, back_new h l) at (clear_good (record { clear = λ q j. c.clear q (judged j) }))

  low_mode : Clear (PlanFault (encode 2 o) (encode 2 n) mode (zeros 1024) (zeros 1024)) → mode ≤ 1
  low_mode c = let x : 1 < mode → ⊥ = λ l. c.clear ModeOver (mode_over l) in omega arith

  good_plans : Good o n → mode ≤ 1 → Clear (PlanFault (encode 2 o) (encode 2 n) mode (zeros 1024) (zeros 1024))
  good_plans g m = record { clear = none }
    where
      pair : Clear (JudgeFault (encode 2 o) (encode 2 n))
      pair = good_clear (whole_encode o) (whole_encode n) (rw (back_old h (clear_short k), back_new h (clear_short k)) g)

      none : (q : Refusal) → PlanFault (encode 2 o) (encode 2 n) mode (zeros 1024) (zeros 1024) q → ⊥
      none q (short_ids c) = omega arith
      none q (short_sizes c) = omega arith
      none q (judged c) = pair.clear q c
      none q (mode_over c) = omega arith

pub planner_ok : {f t : List ℕ} → PlannerGives f t → ((r : Refusal) × Line NO (told r) t) ⊎ ((ns : List ℕ) × CheckerSays t OK ns)
planner_ok (wrong_file {r = r} g l) = inl (r, l)
planner_ok (refused {r = r} k h c l) = inl (r, l)
planner_ok (planned k h c p e) = inr (_, sound_ok (plan_sound_file h (pair_good k h c) (low_mode k h c) p e))

pub planned_ok :
    {f o n is zs t : List ℕ} {mode : ℕ}
    → Clear (FileFault f)
    → Holds f o n mode is zs
    → Good o n
    → mode ≤ 1
    → PlannerGives f t
    → (Rs : List State)
    × PlanRounds mode o n Rs
    × (t ≡ file_of o n mode (ids_of Rs) (sizes_of Rs))
    × CheckerSays t OK (length Rs ∷ tally 512 (due o n) ∷ [])
planned_ok k h g m (wrong_file w l) = absurd (first_not_clear w k)
planned_ok k h g m (refused k' h' c l) =
    let s = one_content k h' h in
    absurd (first_not_clear (rw (s.same_old, s.same_new, s.same_mode) at c) (good_plans k h g m))
planned_ok k h g m (planned {Rs = Rs} k' h' c p e) =
    let s = one_content k h' h in
    let q = rw (s.same_old, s.same_new, s.same_mode) at p in
    let d = rw (s.same_old, s.same_new, s.same_mode) at e in
    (Rs, q, d, sound_ok (plan_sound_file h g m q d))
