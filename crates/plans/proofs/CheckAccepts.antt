-- The check accepts the plan, byte for byte: of the bytes that the planner leaves in the lent memory, the first 2 * count of
-- the ids and the first 2 * rounds of the sizes, given to the check with the same routes and the same mode, are accepted, and
-- the check tells the planner's two numbers again and writes nothing. Assumes nothing.
--
--   tally_together   == two sets that share no id have together as many ids as each for itself
--   count_all        == the ids of disjoint rounds are as many as all rounds together have
--   plan_dues        == the ids of a plan are as many as the due nodes: each stands exactly once
--   ids_entries, sizes_entries == the ids and the sizes of rounds are two-byte numbers
--   whole_encode     == encoded entries are whole
--   front_overlaid   == the front of the lent bytes after the entries xs are written: xs encoded
--   plan_sound       == the plan's bytes are a sound change
--   plan_accepted    == a yes with the planner's two numbers, and nothing written, is a reply of the check to the plan's bytes
--   check_accepts    == each reply of the check to them is this one
use Rattle.std.specs.Prelude.{Result, Ok}
use Rattle.rounds.specs.declared.check.Accepted.{Accepted}
use Rattle.plans.specs.declared.Given.{Given}
use Prim.Native.Nat.{ℕ, zero, suc, ◌+◌, ◌*◌, ◌<◌, ◌≤◌}
use mathlib.Core.Path.{◌≡◌, refl, sym, ap, ◌∙◌}
use mathlib.Core.Bool.{true, false}
use mathlib.Core.List.{List, [], ◌∷◌}
use native.Mathlib.Decide.{dec_lt}
use native.Mathlib.Omega.{arith}
use lib.ListN.{length, get_or, take, drop, length-append, get_or-eq_default}
use lib.Seq.{take_at}
use Rattle.house.specs.declared.Refusal.{Refusal}
use Rattle.house.specs.declared.Refusal.TheVariants.{ModeOver}
use Rattle.house.specs.Numbers.{entries, encode, Whole}
use Rattle.house.specs.Refusals.{Clear}
use Rattle.house.proofs.NumberLaws.{Under, under_nil, under_cons, under_append, length_encode, entries_encode}
use Rattle.routes.specs.Routes.{Good}
use Rattle.routes.specs.Rules.{due, tally}
use Rattle.routes.specs.Walk.{State}
use Rattle.routes.specs.Replies.{JudgeFault}
use Rattle.routes.proofs.RuleLaws.{tally_cong, tally_most}
use Rattle.routes.proofs.PairLaws.{clear_whole, clear_good}
use Rattle.rounds.specs.Replies.{CheckFault, short_set, change, Checks, passes}
use Rattle.rounds.proofs.ScheduleLaws.{SoundChange, change_clear}
use Rattle.rounds.proofs.OneReply.{checks_one}
use Rattle.plans.specs.Plan.{nothing, together, rising, PlanRounds, ids_of, sizes_of}
use Rattle.plans.specs.Replies.{PlanFault, judged, mode_over, overlaid, Plans, given}
use Rattle.plans.proofs.IdLists.{by_bool}
use Rattle.plans.proofs.RisingIds.{rising_member, length_rising, none_rising}
use Rattle.plans.proofs.PlanSchedule.{all, Disjoint, length_sizes}
use Rattle.plans.proofs.PlanSets.{plan_all, plan_disjoint, plan_schedule}
use Rattle.plans.proofs.Demand2.{plan_passes_always}

-- ---- the ids of a plan are as many as the due nodes

pub tally_together :
    (k : ℕ) (P R : State) → ((v : ℕ) → P v ≡ true → R v ≡ false) → tally k (together P R) ≡ tally k P + tally k R
unfolding tally
tally_together zero P R d = refl
tally_together (suc k) P R d =
    rw (tally_together k P R d)
    (by_bool (P k) (λ e. rw (e, d k e) (omega arith)) (λ e. rw e (omega arith)))

pub count_all : (Rs : List State) → Disjoint Rs → length (ids_of Rs) ≡ tally 512 (all Rs)
unfolding ids_of
count_all [] d = omega (arith, none_rising nothing (λ v h. refl), length_rising nothing)
count_all (R ∷ Rs) d =
    omega (
      arith,
      length-append (rising R) (ids_of Rs),
      length_rising R,
      count_all Rs d.1,
      tally_together 512 R (all Rs) d.0,
    )

pub plan_dues :
    {mode : ℕ} {o n : List ℕ} {Rs : List State}
    → Good o n
    → PlanRounds mode o n Rs
    → length (ids_of Rs) ≡ tally 512 (due o n)
plan_dues {mode} {o} {n} {Rs} g p =
    count_all Rs (plan_disjoint g p) ∙ tally_cong 512 (all Rs) (due o n) (λ v h. plan_all g p v)

-- ---- the plan's bytes

rising_entries : (R : State) → Under 65536 (rising R)
rising_entries R = record { below = λ k. go k (dec_lt k (length (rising R))) }
  where
    go : (k : ℕ) → Dec (k < length (rising R)) → get_or (rising R) k 0 < 65536
    go k (yes h) = omega (arith, (rising_member R k h).0)
    go k (no h) =
        let past : length (rising R) ≤ k = omega arith in
        rw (get_or-eq_default (rising R) 0 past) (omega arith)

pub ids_entries : (Rs : List State) → Under 65536 (ids_of Rs)
unfolding ids_of
ids_entries [] = under_nil (omega arith)
ids_entries (R ∷ Rs) = under_append (rising R) (ids_of Rs) (rising_entries R) (ids_entries Rs)

pub sizes_entries : (Rs : List State) → Under 65536 (sizes_of Rs)
unfolding sizes_of
sizes_entries [] = under_nil (omega arith)
sizes_entries (R ∷ Rs) = under_cons (omega (arith, length_rising R, tally_most 512 R)) (sizes_entries Rs)

pub whole_encode : (xs : List ℕ) → Whole (encode 2 xs)
whole_encode xs = record { even = omega (arith, length_encode 2 xs) }

pub front_overlaid : (xs b : List ℕ) → take (2 * length xs) (overlaid xs b) ≡ encode 2 xs
unfolding overlaid
front_overlaid xs b = take_at (encode 2 xs) (drop (2 * length xs) b) (2 * length xs) (length_encode 2 xs)

-- ---- the check accepts them

module _
    {old new : List ℕ} {mode : ℕ} {ids sizes : List ℕ} {Rs : List State}
    (c : Clear (PlanFault old new mode ids sizes))
    (p : PlanRounds mode (entries old) (entries new) Rs)
  where
    pair : Clear (JudgeFault old new)
    pair = record { clear = λ q f. c.clear q (judged f) }

    good : Good (entries old) (entries new)
    good = clear_good pair

    read_ids : entries (encode 2 (ids_of Rs)) ≡ ids_of Rs
    read_ids = entries_encode (ids_of Rs) (ids_entries Rs)

    read_sizes : entries (encode 2 (sizes_of Rs)) ≡ sizes_of Rs
    read_sizes = entries_encode (sizes_of Rs) (sizes_entries Rs)

    pub plan_sound : SoundChange old new mode (encode 2 (ids_of Rs)) (encode 2 (sizes_of Rs))
    plan_sound =
        record {
          whole_old = (clear_whole pair).0;
          whole_new = (clear_whole pair).1;
          whole_ids = whole_encode (ids_of Rs);
          whole_sizes = whole_encode (sizes_of Rs);
          good = good;
          mode_low = let h : 1 < mode → ⊥ = λ l. c.clear ModeOver (mode_over l) in omega arith;
          schedule = rw (read_ids, read_sizes) (plan_schedule good p);
        }

    encoded_accepted :
        (set : List ℕ)
        → 64 ≤ length set
        → Checks old new mode (encode 2 (ids_of Rs)) (encode 2 (sizes_of Rs)) set (Ok (record { rounds = length Rs; dues = length (ids_of Rs) })) set
    encoded_accepted set h =
        passes (record { clear = none }) (rw (read_ids, read_sizes) (plan_passes_always good p))
        (sym (ap length read_sizes ∙ length_sizes Rs)) (plan_dues good p) refl
      where
        none : (q : Refusal) → CheckFault old new mode (encode 2 (ids_of Rs)) (encode 2 (sizes_of Rs)) set q → ⊥
        none q (short_set l) = omega arith
        none q (change f) = (change_clear plan_sound).clear q f

pub plan_accepted :
    {old new : List ℕ} {mode : ℕ} {ids sizes ids' sizes' : List ℕ} {g : Given}
    → Plans old new mode ids sizes (Ok g) ids' sizes'
    → (set : List ℕ)
    → 64 ≤ length set
    → Checks old new mode (take (2 * g.count) ids') (take (2 * g.rounds) sizes') set (Ok (record { rounds = g.rounds; dues = g.count })) set
plan_accepted {ids = ids} {sizes} (given {Rs = Rs} c p r k i z) set h =
    rw (r, k, i, z, front_overlaid (ids_of Rs) ids, sizes_front) (encoded_accepted c p set h)
  where
    sizes_front : take (2 * length Rs) (overlaid (sizes_of Rs) sizes) ≡ encode 2 (sizes_of Rs)
    sizes_front = rw (length_sizes Rs) at (front_overlaid (sizes_of Rs) sizes)

pub check_accepts :
    {old new : List ℕ} {mode : ℕ} {ids sizes ids' sizes' : List ℕ} {g : Given}
    → Plans old new mode ids sizes (Ok g) ids' sizes'
    → (set : List ℕ)
    → 64 ≤ length set
    → {a : Result Accepted Refusal} {after : List ℕ}
    → Checks old new mode (take (2 * g.count) ids') (take (2 * g.rounds) sizes') set a after
    → (a ≡ Ok (record { rounds = g.rounds; dues = g.count })) × (after ≡ set)
check_accepts p set h reply = checks_one reply (plan_accepted p set h)
