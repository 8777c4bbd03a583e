-- Demand 2, its check: "For a well-formed list the check says yes exactly when every state that a round can pass through,
-- whichever of its switches have changed, meets the loop-freedom of Foerster and others, strong or relaxed as chosen, and
-- drops nothing sent from the source. Its no names the first bad round and a set of changed switches that shows the fault."
--
-- How the statements render it:
--   a well_formed list   == Clear (CheckFault ..): none of the refusals 1 and 4 to 14 applies
--   the check's reply    == Checks .. a after, which is what the check promises of its reply a and of the lent bytes after it;
--                           `checks_one` of OneReply.antt says that no second reply fits
--   says yes             == a is Accepted, whatever numbers it carries
--   every state that a round can pass through meets the loop-freedom and drops nothing == Passes
--   its no               == a is Refused; the record No says what it names
--
--   yes_exactly          == the check says yes exactly when the schedule passes
--   yes_tells            == a yes carries the number of rounds and the number of due nodes, and writes nothing
--   No .. r after        == the refusal r, with the lent bytes after it, names the first bad round and its subset
--   no_names             == each no does
--   no_exactly           == the check says no exactly when some round has a bad state
--   not_well_formed      == a list that is not well-formed gets its refusal of 1 or 4 to 14, never a yes
-- Assumes nothing.
use Rattle.std.specs.Prelude.{Result, Ok, Err}
use Rattle.rounds.specs.declared.check.Accepted.{Accepted}
use Prim.Native.Nat.{ℕ, ◌<◌, ◌≤◌}
use native.Mathlib.Omega.{arith}
use mathlib.Core.Path.{◌≡◌, refl, sym, ◌∙◌, ap}
use mathlib.Core.Bool.{true, false}
use mathlib.Core.List.{List}
use mathlib.Core.Logic.{◌⊎◌, inl, inr, ◌↔◌}
use lib.ListN.{length}
use Rattle.house.specs.Numbers.{entries}
use Rattle.house.specs.Sets.{has, size}
use Rattle.house.specs.Refusals.{site, First, Clear}
use Rattle.house.specs.declared.Refusal.{Refusal}
use Rattle.house.specs.declared.Refusal.TheVariants.{BeginsFaulty}
use Rattle.house.proofs.RefusalLaws.{first_not_clear}
use Rattle.routes.specs.Rules.{due, tally}
use Rattle.routes.specs.Walk.{State}
use Rattle.rounds.specs.Schedule.{round_no}
use Rattle.rounds.specs.States.{StateOf, Passes, Fault, a_drop, a_loop, Shows, Bad, FirstBad, chosen, Named}
use Rattle.rounds.specs.Replies.{CheckFault, fault_of, written, Checks, refused, passes, begins_faulty, shows}
use Rattle.rounds.proofs.NamedLaws.{chosen_state, passes_good}

-- Of the old route o, the new route n, and a schedule with the ids `ids` and the sizes `zs`; `set` is the lent bytes before.
pub record No (mode : ℕ) (o n ids zs set : List ℕ) (r : Refusal) (after : List ℕ) : Type 0 where
  pub round : ℕ
  pub fault : Fault
  pub subset : List ℕ
  -- "names the first bad round": the refusal's where is a round of the schedule; no state of an earlier round drops or
  -- loops; some state of it shows the fault; and the fault is a loop only where no state of it drops
  pub names_round : site r ≡ round
  pub a_round : (0 < round) × (round ≤ length zs)
  pub earlier_pass : (u : ℕ) → 0 < u → u < round → (g : Fault) → Bad mode o n ids zs u g → ⊥
  pub bad : Bad mode o n ids zs round fault
  pub drop_first : fault ≡ a_loop → Bad mode o n ids zs round a_drop → ⊥
  -- "and a set of changed switches that shows the fault": the subset is of that round; with the earlier rounds and it
  -- changed, and nothing else, the round is in one of its states, and that state shows the fault
  pub of_round : (v : ℕ) → has subset v ≡ true → round_no ids zs v ≡ round
  pub a_state : StateOf ids zs round (chosen ids zs round subset)
  pub shows_fault : Shows fault mode o n (chosen ids zs round subset)
  -- "of all subsets of the round that show that fault, take the one without i where i is the lowest id in which two of
  -- them differ"
  pub first_of_all :
      (Z : State)
      → StateOf ids zs round Z
      → Shows fault mode o n Z
      → (i : ℕ)
      → ((k : ℕ) → k < i → Z k ≡ chosen ids zs round subset k)
      → (Z i ≡ chosen ids zs round subset i → ⊥)
      → chosen ids zs round subset i ≡ false
  -- how it is told: 16 or 17 with the subset's size and its eight words written; 15 where the subset is empty
  pub told :
      ((size subset ≡ 0) × (r ≡ BeginsFaulty round) × (after ≡ set))
      ⊎ ((0 < size subset) × (r ≡ fault_of fault round (size subset)) × (after ≡ written subset set))

accepted_not_refused : {k : Accepted} {r : Refusal} → ◌≡◌ {A = Result Accepted Refusal} (Err r) (Ok k) → ⊥
accepted_not_refused e = let z : ◌≡◌ {A = ℕ} 0 1 = cc in omega arith

-- the first bad round and the named subset are all that a no says
no_of :
    {mode : ℕ} {o n ids zs set : List ℕ} {t : ℕ} {f : Fault} {ws : List ℕ} {r : Refusal} {after : List ℕ}
    → FirstBad mode o n ids zs t f
    → Named mode o n ids zs t f ws
    → site r ≡ t
    → ((size ws ≡ 0) × (r ≡ BeginsFaulty t) × (after ≡ set)) ⊎ ((0 < size ws) × (r ≡ fault_of f t (size ws)) × (after ≡ written ws set))
    → No mode o n ids zs set r after
no_of {ids = ids} {zs} {t = t} {f} {ws} b m e told =
    record {
      round = t;
      fault = f;
      subset = ws;
      names_round = e;
      a_round = (b.from_one, b.a_round);
      earlier_pass = b.earlier_good;
      bad = b.bad;
      drop_first = b.drop_first;
      of_round = m.subset;
      a_state = chosen_state ids zs t ws;
      shows_fault = m.shows;
      first_of_all = m.first;
      told = told;
    }

site_fault : (f : Fault) (t m : ℕ) → site (fault_of f t m) ≡ t
site_fault a_drop t m = refl
site_fault a_loop t m = refl

module _
    {old new : List ℕ} {mode : ℕ} {ids sizes set : List ℕ}
    (well_formed : Clear (CheckFault old new mode ids sizes set))
  where
    pub yes_exactly :
        {a : Result Accepted Refusal} {after : List ℕ}
        → Checks old new mode ids sizes set a after
        → ((k : Accepted) × (a ≡ Ok k)) ↔ Passes mode (entries old) (entries new) (entries ids) (entries sizes)
    yes_exactly {a} {after} reply = (forth reply, back reply)
      where
        forth :
            {a : Result Accepted Refusal}
            → Checks old new mode ids sizes set a after
            → ((k : Accepted) × (a ≡ Ok k))
            → Passes mode (entries old) (entries new) (entries ids) (entries sizes)
        forth (refused f e) (k, q) = absurd (accepted_not_refused q)
        forth (passes c p r d e) (k, q) = p
        forth (begins_faulty c b w z e) (k, q) = absurd (accepted_not_refused q)
        forth (shows c b w z r e) (k, q) = absurd (accepted_not_refused q)

        back :
            {a : Result Accepted Refusal}
            → Checks old new mode ids sizes set a after
            → Passes mode (entries old) (entries new) (entries ids) (entries sizes)
            → ((k : Accepted) × (a ≡ Ok k))
        back (refused f e) p = absurd (first_not_clear f well_formed)
        back (passes {a = k} c q r d e) p = (k, refl)
        back (begins_faulty {t} {f} c b w z e) p = absurd (passes_good p t f b.from_one b.a_round b.bad)
        back (shows {t} {f} c b w z r e) p = absurd (passes_good p t f b.from_one b.a_round b.bad)

    pub yes_tells :
        {k : Accepted} {after : List ℕ}
        → Checks old new mode ids sizes set (Ok k) after
        → (k.rounds ≡ length (entries sizes)) × (k.dues ≡ tally 512 (due (entries old) (entries new))) × (after ≡ set)
    yes_tells (passes c p r d e) = (r, d, e)

    pub no_names :
        {r : Refusal} {after : List ℕ}
        → Checks old new mode ids sizes set (Err r) after
        → No mode (entries old) (entries new) (entries ids) (entries sizes) set r after
    no_names (refused f e) = absurd (first_not_clear f well_formed)
    no_names (begins_faulty c b w z e) = no_of b w refl (inl (z, refl, e))
    no_names (shows {t} {f} {ws} c b w z q e) =
        no_of b w (ap site q ∙ site_fault f t (size ws)) (inr (z, q, e))

    pub no_exactly :
        {a : Result Accepted Refusal} {after : List ℕ}
        → Checks old new mode ids sizes set a after
        → ((r : Refusal) × (a ≡ Err r))
        ↔ ((t : ℕ) × (f : Fault) × (0 < t) × (t ≤ length (entries sizes)) × Bad mode (entries old) (entries new) (entries ids) (entries sizes) t f)
    no_exactly {a} {after} reply = (forth reply, back reply)
      where
        Somewhere : Type 0
        Somewhere =
            (t : ℕ) × (f : Fault) × (0 < t) × (t ≤ length (entries sizes)) × Bad mode (entries old) (entries new) (entries ids) (entries sizes) t f

        forth : {a : Result Accepted Refusal} → Checks old new mode ids sizes set a after → ((r : Refusal) × (a ≡ Err r)) → Somewhere
        forth (refused f e) q = absurd (first_not_clear f well_formed)
        forth (passes c p r d e) (s, q) = absurd (accepted_not_refused (sym q))
        forth (begins_faulty {t} {f} c b w z e) q = (t, f, b.from_one, b.a_round, b.bad)
        forth (shows {t} {f} c b w z r e) q = (t, f, b.from_one, b.a_round, b.bad)

        back : {a : Result Accepted Refusal} → Checks old new mode ids sizes set a after → Somewhere → ((r : Refusal) × (a ≡ Err r))
        back (refused {r} f e) s = (r, refl)
        back (passes c p r d e) (t, f, h, k, b) = absurd (passes_good p t f h k b)
        back (begins_faulty {t} c b w z e) s = (BeginsFaulty t, refl)
        back (shows {r = r} c b w z q e) s = (r, refl)

pub not_well_formed :
    {old new : List ℕ} {mode : ℕ} {ids sizes set : List ℕ} {a : Result Accepted Refusal} {after : List ℕ}
    → (Clear (CheckFault old new mode ids sizes set) → ⊥)
    → Checks old new mode ids sizes set a after
    → (r : Refusal) × (a ≡ Err r) × First (CheckFault old new mode ids sizes set) r × (after ≡ set)
not_well_formed n (refused {r} f e) = (r, refl, f, e)
not_well_formed n (passes c p r d e) = absurd (n c)
not_well_formed n (begins_faulty c b w z e) = absurd (n c)
not_well_formed n (shows c b w z q e) = absurd (n c)
