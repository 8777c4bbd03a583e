-- The quick plan: it passes where no switch is BB, and then it is the plan; and where a switch is BB, no schedule passes that
-- has at most two rounds between. The statements are over definitions of specs/ alone. Assumes nothing.
--
--   as_planned           == where no switch is BB, the rounds of the quick plan are those of the plan, in either mode
--   quick_schedule       == then they are a schedule
--   quick_passes         == that passes in both modes
--   quick_two_between    == with at most two rounds between
--   none_two_between     == where a switch is BB, no schedule with at most two rounds between passes, in either mode
--   exactly_two_between  == so that there is such a schedule exactly if no switch is BB
--   none_shorter         == and none that passes has fewer rounds than the quick plan
--   first_middle         == of any good pair: the first round between of the plan is the forward switches
use Prim.Native.Nat.{ℕ, suc, ◌+◌, ◌<◌, ◌≤◌}
use native.Mathlib.Omega.{arith}
use native.Mathlib.Decide.{dec_le}
use mathlib.Core.Path.{◌≡◌, sym, ap, ◌∙◌}
use mathlib.Core.Bool.{true, false, ◌||◌}
use mathlib.Core.List.{List, ◌++◌, append_assoc, append-nil}
use mathlib.Core.Logic.{◌⊎◌, inl, inr, ⊎_elim, ◌↔◌}
use lib.ListN.{length, length-append}
use lib.Seq.{get_or-append-add}
use Rattle.routes.specs.Routes.{Good}
use Rattle.routes.specs.Rules.{due}
use Rattle.routes.specs.Walk.{State}
use Rattle.routes.proofs.RuleLaws.{due_below}
use Rattle.rounds.specs.Schedule.{round_no, Schedule}
use Rattle.rounds.specs.States.{Passes}
use Rattle.rounds.proofs.ScheduleLaws.{number_most}
use Rattle.plans.specs.Plan.{
  nothing,
  together,
  Middle,
  all_placed,
  installs,
  removes,
  switched,
  keep,
  switches,
  some_round,
  PlanRounds,
  ids_of,
  sizes_of,
}
use Rattle.plans.specs.TwoBetween.{forwards, backwards, both_back, NoneBack, quick_rounds, TwoBetween}
use Rattle.plans.proofs.IdLists.{clash, either_or, no_or}
use Rattle.plans.proofs.RisingIds.{Below}
use Rattle.plans.proofs.PlanSchedule.{member_at, member_round}
use Rattle.plans.proofs.PlanSets.{
  due_parts,
  install_due,
  switch_due,
  remove_due,
  install_only,
  switch_only,
  switch_no_install,
  length_some,
  some_or_none,
  plan_below,
  plan_disjoint,
  plan_schedule,
}
use Rattle.plans.proofs.OneReply.{middle_one}
use Rattle.plans.proofs.Middles.{Waiting, waiting_all, waiting_next, middle_exists}
use Rattle.plans.proofs.Demand2.{plan_passes_always}
use Rattle.plans.proofs.Signs.{Returns, backward_returns, backward_switch, both_return, forward_switch, halves}
use Rattle.plans.proofs.Stuck.{due_round, first_stuck, last_stuck}
use Rattle.plans.proofs.Halves.{first_half, second_half, some_has, some_middle, forwards_below, backwards_below}

first_at : {R : State} → Below R → (v : ℕ) → R v ≡ true → (Rs : List State) → member_at (some_round R ++ Rs) 0 v ≡ true
first_at b v e Rs = rw (some_has b v e) e

rest_at : (R : State) (Rs : List State) (t v : ℕ) → member_at (some_round R ++ Rs) (length (some_round R) + t) v ≡ member_at Rs t v
rest_at R Rs t v = rw (get_or-append-add (some_round R) Rs t nothing)

one_some : {R : State} → Below R → (v : ℕ) → R v ≡ true → length (some_round R) ≡ 1
one_some b v e = rw (some_has b v e)

module _ {o n : List ℕ} (g : Good o n) where
  -- the backward switches wait after the forward ones
  second_waiting : (mode : ℕ) → Waiting mode o n (together (installs o n) (forwards o n)) (keep (backwards o n) (switches o n))
  second_waiting mode = waiting_next g (waiting_all g mode) (first_half g mode)

  -- the rounds between, from those after the forward switches
  between :
      (mode : ℕ) {Rs : List State}
      → Middle mode o n (together (installs o n) (forwards o n)) (keep (backwards o n) (switches o n)) Rs
      → Middle mode o n (installs o n) (switches o n) (some_round (forwards o n) ++ Rs)
  between mode m = some_middle (switches o n) g (waiting_all g mode) (first_half g mode) (forwards_below g) m

  pub first_middle :
      {mode : ℕ} {Rs : List State}
      → PlanRounds mode o n Rs
      → (Ms : List State) × (Rs ≡ some_round (installs o n) ++ (some_round (forwards o n) ++ Ms))
  first_middle {mode} p = (
    x.0 ++ some_round (removes o n),
    p.rounds
        ∙ rw (
          middle_one p.joined (between mode x.1),
          append_assoc (some_round (forwards o n)) x.0 (some_round (removes o n)),
        ),
  )
    where
      x : (Ms : List State) × Middle mode o n (together (installs o n) (forwards o n)) (keep (backwards o n) (switches o n)) Ms
      x = middle_exists g mode (length (keep (backwards o n) (switches o n))) _ _ (omega arith) (second_waiting mode)

  pub as_planned : NoneBack o n → (mode : ℕ) → PlanRounds mode o n (quick_rounds o n)
  unfolding quick_rounds
  as_planned b mode =
      record {
        middle = some_round (forwards o n) ++ some_round (backwards o n);
        joined = between mode second;
        rounds =
            ap (λ (Rs : List State). some_round (installs o n) ++ Rs)
            (sym (append_assoc (some_round (forwards o n)) (some_round (backwards o n)) (some_round (removes o n))));
      }
    where
      second :
          Middle mode o n (together (installs o n) (forwards o n)) (keep (backwards o n) (switches o n)) (some_round (backwards o n))
      second =
          rw (append-nil (some_round (backwards o n))) at
          (some_middle (keep (backwards o n) (switches o n)) g (second_waiting mode) (second_half g mode b) (backwards_below g) all_placed)

  pub quick_schedule : NoneBack o n → Schedule o n (ids_of (quick_rounds o n)) (sizes_of (quick_rounds o n))
  quick_schedule b = plan_schedule g (as_planned b 0)

  pub quick_passes : NoneBack o n → (mode : ℕ) → Passes mode o n (ids_of (quick_rounds o n)) (sizes_of (quick_rounds o n))
  quick_passes b mode = plan_passes_always g (as_planned b mode)

-- ---- the rounds of the quick plan by number

module _ {o n : List ℕ} (g : Good o n) (b : NoneBack o n) where
  abbrev number : ℕ → ℕ
  number v = round_no (ids_of (quick_rounds o n)) (sizes_of (quick_rounds o n)) v

  -- how many rounds of installs, of forward and of backward switches there are
  abbrev fore : ℕ
  fore = length (some_round (installs o n))

  abbrev mid : ℕ
  mid = length (some_round (forwards o n))

  abbrev aft : ℕ
  aft = length (some_round (backwards o n))

  installs_below : Below (installs o n)
  installs_below v e = due_below g v (install_due o n v e)

  removes_below : Below (removes o n)
  removes_below v e = due_below g v (remove_due o n v e)

  numbered : (t v : ℕ) → member_at (quick_rounds o n) t v ≡ true → number v ≡ suc t
  numbered t v e = member_round (quick_rounds o n) (plan_below g (as_planned g b 0)) (plan_disjoint g (as_planned g b 0)) t v e

  install_number : (v : ℕ) → installs o n v ≡ true → (number v ≡ 1) × (fore ≡ 1)
  unfolding quick_rounds
  install_number v e = (numbered 0 v (first_at installs_below v e _), one_some installs_below v e)

  forward_number : (v : ℕ) → forwards o n v ≡ true → (number v ≡ suc fore) × (mid ≡ 1)
  unfolding quick_rounds
  forward_number v e = (
    omega (arith, numbered (fore + 0) v (rest_at (installs o n) _ 0 v ∙ first_at (forwards_below g) v e _)),
    one_some (forwards_below g) v e,
  )

  backward_number : (v : ℕ) → backwards o n v ≡ true → (number v ≡ suc (fore + mid)) × (aft ≡ 1)
  unfolding quick_rounds
  backward_number v e = (
    omega (
      arith,
      numbered (fore + (mid + 0)) v
          (rest_at (installs o n) _ (mid + 0) v ∙ rest_at (forwards o n) _ 0 v ∙ first_at (backwards_below g) v e _),
    ),
    one_some (backwards_below g) v e,
  )

  remove_number : (v : ℕ) → removes o n v ≡ true → number v ≡ suc (fore + mid + aft)
  unfolding quick_rounds
  remove_number v e =
      omega (
        arith,
        numbered (fore + (mid + (aft + 0))) v
            (rest_at (installs o n) _ (mid + (aft + 0)) v
            ∙ rest_at (forwards o n) _ (aft + 0) v
            ∙ rest_at (backwards o n) _ 0 v
            ∙ rw (some_has removes_below v e) e),
      )

  -- a due node is an install, a forward or a backward switch, or a remove
  by_part :
      {A : Type 0} (v : ℕ)
      → due o n v ≡ true
      → (installs o n v ≡ true → A)
      → (forwards o n v ≡ true → A)
      → (backwards o n v ≡ true → A)
      → (removes o n v ≡ true → A)
      → A
  by_part v d i f k r =
      ⊎_elim i (λ e. ⊎_elim (λ s. ⊎_elim f k (halves o n v s)) r (either_or (switched o n v) (removes o n v) e))
      (either_or (installs o n v) (switched o n v || removes o n v) (due_parts o n v ∙ d))

  pub quick_two_between : TwoBetween o n (ids_of (quick_rounds o n)) (sizes_of (quick_rounds o n))
  quick_two_between =
      record {
        well_formed = quick_schedule g b;
        installs_together = λ u v x y. (install_number u x).0 ∙ sym (install_number v y).0;
        installs_first =
            λ u v x d y.
            let i = install_number u x in
            by_part v d (λ e. clash e y) (λ e. omega (arith, i, forward_number v e)) (λ e. omega (arith, i, backward_number v e))
            (λ e. omega (arith, i, remove_number v e));
        removes_together = λ u v x y. remove_number u x ∙ sym (remove_number v y);
        removes_last =
            λ u v x d y.
            let r = remove_number u x in
            by_part v d (λ e. omega (arith, r, install_number v e)) (λ e. omega (arith, r, forward_number v e))
            (λ e. omega (arith, r, backward_number v e)) (λ e. clash e y);
        one = suc fore;
        other = suc (fore + mid);
        two_rounds = λ v s. ⊎_elim (λ e. inl (forward_number v e).0) (λ e. inr (backward_number v e).0) (halves o n v s);
      }

-- ---- where a switch is BB

pub none_two_between :
    {o n ids zs : List ℕ}
    → Good o n
    → (v : ℕ)
    → both_back o n v ≡ true
    → TwoBetween o n ids zs
    → (mode : ℕ)
    → Passes mode o n ids zs
    → ⊥
none_two_between {o} {n} {ids} {zs} g v e b mode p = go (both_return g v e)
  where
    go : (switched o n v ≡ true) × Returns o n v × Returns n o v → ⊥
    go (s, old, new) = side (dec_le b.one b.other) (b.two_rounds v s)
      where
        first : round_no ids zs v ≤ b.one → round_no ids zs v ≤ b.other → ⊥
        first h k = first_stuck g b v s (λ u z. ⊎_elim (λ q. omega arith) (λ q. omega arith) (b.two_rounds u z)) old mode p

        last : b.one ≤ round_no ids zs v → b.other ≤ round_no ids zs v → ⊥
        last h k = last_stuck g b v s (λ u z. ⊎_elim (λ q. omega arith) (λ q. omega arith) (b.two_rounds u z)) new mode p

        -- v is in the earlier or in the later of the two rounds
        side : Dec (b.one ≤ b.other) → (round_no ids zs v ≡ b.one) ⊎ (round_no ids zs v ≡ b.other) → ⊥
        side (yes h) (inl q) = first (omega arith) (omega arith)
        side (yes h) (inr q) = last (omega arith) (omega arith)
        side (no h) (inl q) = last (omega arith) (omega arith)
        side (no h) (inr q) = first (omega arith) (omega arith)

pub exactly_two_between :
    {o n : List ℕ}
    → Good o n
    → (mode : ℕ)
    → NoneBack o n ↔ ((ids zs : List ℕ) × TwoBetween o n ids zs × Passes mode o n ids zs)
exactly_two_between {o} {n} g mode = (
  λ b. (ids_of (quick_rounds o n), sizes_of (quick_rounds o n), quick_two_between g b, quick_passes g b mode),
  λ x. record { none_back = λ v e. none_two_between g v e x.2 mode x.3 },
)

-- ---- how many rounds

-- how many rounds R makes, 0 or 1
abbrev count : State → ℕ
count R = length (some_round R)

quick_count :
    (o n : List ℕ)
    → length (quick_rounds o n) ≡ count (installs o n) + count (forwards o n) + count (backwards o n) + count (removes o n)
unfolding quick_rounds
quick_count o n =
    omega (
      arith,
      length-append (some_round (installs o n)) (some_round (forwards o n) ++ (some_round (backwards o n) ++ some_round (removes o n))),
      length-append (some_round (forwards o n)) (some_round (backwards o n) ++ some_round (removes o n)),
      length-append (some_round (backwards o n)) (some_round (removes o n)),
    )

module _ {o n ids zs : List ℕ} (g : Good o n) (b : TwoBetween o n ids zs) where
  -- a switch is in a round after that of the installs, if there is one
  after_installs : (v : ℕ) → switched o n v ≡ true → count (installs o n) < round_no ids zs v
  after_installs v s =
      ⊎_elim (λ z. omega (arith, due_round b.well_formed v (switch_due o n v s)))
      (λ (u, i). omega (
        arith,
        length_some (installs o n),
        due_round b.well_formed u (install_due o n u i),
        b.installs_first u v i (switch_due o n v s) (switch_no_install o n v s),
      ))
      (some_or_none (installs o n))

  -- and what is no remove in a round before that of the removes
  before_removes : (v : ℕ) → due o n v ≡ true → removes o n v ≡ false → round_no ids zs v + count (removes o n) ≤ length zs
  before_removes v d e =
      ⊎_elim (λ z. omega (arith, number_most ids zs b.well_formed.sums v))
      (λ (u, r). omega (
        arith,
        length_some (removes o n),
        number_most ids zs b.well_formed.sums u,
        b.removes_last u v r d e,
      ))
      (some_or_none (removes o n))

  pub none_shorter : (mode : ℕ) → Passes mode o n ids zs → length (quick_rounds o n) ≤ length zs
  none_shorter mode p =
      ⊎_elim
      (λ a. ⊎_elim
      (λ f. ⊎_elim
      (λ i. ⊎_elim (λ r. omega (arith, quick_count o n)) (λ (v, e). with_remove a f i v e) (some_or_none (removes o n)))
      (λ (v, e). with_install a f v e) (some_or_none (installs o n)))
      (λ (v, e). with_forward a v e) (some_or_none (forwards o n)))
      (λ (v, e). with_backward (dec_le (length (quick_rounds o n)) (length zs)) v e) (some_or_none (backwards o n))
    where
      -- with fewer rounds a backward switch would be in the first round of switches
      with_backward :
          Dec (length (quick_rounds o n) ≤ length zs) → (v : ℕ) → backwards o n v ≡ true → length (quick_rounds o n) ≤ length zs
      with_backward (yes h) v e = h
      with_backward (no h) v e = absurd (first_stuck g b v s least (backward_returns g v e) mode p)
        where
          s : switched o n v ≡ true
          s = backward_switch o n v e

          least : (u : ℕ) → switched o n u ≡ true → round_no ids zs v ≤ round_no ids zs u
          least u z =
              omega (
                arith,
                quick_count o n,
                length_some (forwards o n),
                length_some (backwards o n),
                after_installs u z,
                before_removes v (switch_due o n v s) (switch_only o n v s),
              )

      with_forward : count (backwards o n) ≡ 0 → (v : ℕ) → forwards o n v ≡ true → length (quick_rounds o n) ≤ length zs
      with_forward a v e =
          let s = forward_switch o n v e in
          omega (
            arith,
            quick_count o n,
            length_some (forwards o n),
            after_installs v s,
            before_removes v (switch_due o n v s) (switch_only o n v s),
          )

      with_install :
          count (backwards o n) ≡ 0
          → count (forwards o n) ≡ 0
          → (v : ℕ)
          → installs o n v ≡ true
          → length (quick_rounds o n) ≤ length zs
      with_install a f v e =
          let d = install_due o n v e in
          omega (
            arith,
            quick_count o n,
            length_some (installs o n),
            due_round b.well_formed v d,
            before_removes v d (no_or (switched o n v) (removes o n v) (install_only o n v e)).1,
          )

      with_remove :
          count (backwards o n) ≡ 0
          → count (forwards o n) ≡ 0
          → count (installs o n) ≡ 0
          → (v : ℕ)
          → removes o n v ≡ true
          → length (quick_rounds o n) ≤ length zs
      with_remove a f i v e =
          omega (
            arith,
            quick_count o n,
            length_some (removes o n),
            due_round b.well_formed v (remove_due o n v e),
            number_most ids zs b.well_formed.sums v,
          )
