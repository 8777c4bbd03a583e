-- The rounds of switches: none of them drops, what one switch more does to a round, that the first switch tried always
-- joins, and that there are rounds for every good pair. Assumes nothing.
--
-- Of a good pair o, n:
--   Midway o n P R       == all installs are in the earlier rounds P, and no remove is in P or in the round R
--   midway_joins         == so it is with a switch more in the round
--   midway_done          == and after the round
--   midway_no_drop       == no path of such a round leads from the source to nothing: each node that is on a route goes on
--
-- One switch v more, where the round so far passes. By a path is meant one by the steps of the round so far:
--   Leads o n P R w a    == a path by the steps of the round R after P leads from a to w
--   Circles o n P R u    == u lies on a closed path by these steps
--   joins_passes         == it passes, where no path leads from v's new next value to v or to a closed path
--   strong_joins         == strong: it passes exactly if no path leads from v's new next value to v
--   relaxed_unreached    == relaxed: it passes where no path leads from the source to v
--   relaxed_joins        == relaxed: where one does, it passes exactly if none leads from v's new next value to v or to a
--                           closed path
--   reached_joins        == a path of the round with v leads to w exactly if one of the round so far does, or one leads to v
--                           and one from v's new next value to w
--
--   nearest_joins        == a first switch v passes, where all switches after it on the new route are in P: all nodes there go
--                           by their new rules, along the new route, to hand-off
--
-- The switches that wait:
--   Rests o n P l vs     == vs are switches of l, in l's order, and all other switches of l are in P
--   rests_all            == the switches of l are so
--   rests_nearest        == of the new route backward: the first of vs is a switch, and the switches after it on the new route
--                           are in P
--   Waiting mode o n P vs == the switches vs wait after the rounds P
--   waiting_all          == all switches wait after the installs
--   waiting_joins        == the first switch that waits joins the next round
--   waiting_fewer        == so that round has it, and fewer wait after it
--   waiting_next         == and they wait as these did
--
--   joining_exists       == one can go through any switches
--   middle_exists        == there are rounds for the switches that wait
--   plan_exists          == for every good pair and each mode there is a plan
use Prim.Native.Nat.{ℕ, zero, suc, ◌-◌, ◌<◌, ◌≤◌}
use native.Mathlib.Omega.{arith}
use native.Mathlib.Decide.{ℕ_discrete, dec_lt}
use mathlib.Core.Path.{◌≡◌, refl, sym, ap, ◌∙◌}
use mathlib.Core.Bool.{true, false}
use mathlib.Core.List.{List, [], ◌∷◌, ◌++◌, reverse, reverse-cons, nil≢cons}
use mathlib.Core.Logic.{◌⊎◌, inl, inr, ⊎_elim, ◌↔◌}
use lib.ListN.{length, get_or, length-reverse, get_or-append}
use lib.Seq.{get_or_at}
use borrow.Author.Tests.{eq-eqb, ne_eqb}
use Rattle.graph.specs.Graph.{Path, step, Around, Within}
use Rattle.graph.proofs.Paths.{path_joins, path_maps, path_stays, around_maps, around_carries}
use Rattle.graph.proofs.OneMore.{path_added, around_added, reached_added}
use Rattle.graph.proofs.Rank.{rank}
use Rattle.routes.specs.Routes.{source, Good}
use Rattle.routes.specs.Rules.{value}
use Rattle.routes.specs.Jumps.{position}
use Rattle.routes.specs.Walk.{State}
use Rattle.routes.proofs.JumpLaws.{position_at, position_index}
use Rattle.rounds.specs.States.{Fault, a_drop, a_loop}
use Rattle.rounds.specs.Packet.{changed}
use Rattle.rounds.proofs.Bridge.{RouteStep, Finds}
use Rattle.plans.specs.Plan.{
  RoundPasses,
  Joining,
  all_tried,
  joins,
  waits,
  nothing,
  together,
  Middle,
  all_placed,
  a_round,
  is_install,
  is_remove,
  is_switch,
  installs,
  removes,
  keep,
  switches,
  some_round,
  PlanRounds,
  switched,
}
use Rattle.plans.specs.Working.{round_choice}
use Rattle.plans.proofs.IdLists.{by_bool, clash, or_left, or_right}
use Rattle.plans.proofs.PlanSets.{install_only, switch_only, joining_passes, joining_keeps, waits_most, over_passes}
use Rattle.plans.proofs.NodeLaws.{
  On,
  OnWay,
  off_value,
  on_value,
  on_below,
  end_off,
  source_on,
  way_not_nothing,
  Next,
  ends,
  goes_on,
  onward_next,
  next_on,
  way_next,
  Kind,
  kept,
  install,
  remove,
  switch,
  kind,
  switch_values,
  keep_switches,
}
use Rattle.plans.proofs.PlanPaths.{
  passes_finds,
  dec_passes,
  Goes,
  by_new,
  by_old,
  step_goes,
  steps_joined,
  new_step,
  steps_added,
}
use Rattle.plans.proofs.FixedRounds.{installed_passes}

pub record Midway (o n : List ℕ) (P R : State) : Type 0 where
  pub installed : (v : ℕ) → installs o n v ≡ true → P v ≡ true
  pub not_removed : (v : ℕ) → removes o n v ≡ true → together P R v ≡ false

pub midway_joins : {o n : List ℕ} {P R : State} (v : ℕ) → Midway o n P R → switched o n v ≡ true → Midway o n P (changed R v)
midway_joins {o} {n} {P} {R} v m s = record { installed = m.installed; not_removed = λ u e. go u e (ℕ_discrete u v) }
  where
    go : (u : ℕ) → removes o n u ≡ true → Dec (u ≡ v) → together P (changed R v) u ≡ false
    go u e (yes q) = clash (ap (removes o n) (sym q) ∙ e) (switch_only o n v s)
    go u e (no q) = rw (ne_eqb u v q) (m.not_removed u e)

pub midway_done : {o n : List ℕ} {P R : State} → Midway o n P R → Midway o n (together P R) nothing
midway_done {R = R} m =
    record { installed = λ v e. or_left (R v) (m.installed v e); not_removed = λ v e. rw (m.not_removed v e) }

module _ {o n : List ℕ} (g : Good o n) {P R : State} (m : Midway o n P R) where
  -- a node on a route that may use its new rule is on the new route, and one that may use its old rule on the old
  uses_new : (x : ℕ) → On o x ⊎ On n x → together P R x ≡ true → On n x
  unfolding removes
  uses_new x w e = go (dec_lt (position n x) (length n))
    where
      go : Dec (On n x) → On n x
      go (yes h) = h
      go (no h) = absurd (⊎_elim (λ k. none k (kind g x)) h w)
        where
          off : value n x ≡ 512
          off = off_value n x (omega arith)

          none : On o x → Kind o n x → ⊥
          none k (kept i c) = on_value g.old x k (i ∙ off)
          none k (install a b c) = omega (arith, off)
          none k (remove a b c) = clash e (m.not_removed x (ap is_remove c))
          none k (switch a b c) = omega (arith, off)

  uses_old : (x : ℕ) → On o x ⊎ On n x → P x ≡ false → On o x
  unfolding installs
  uses_old x w e = go (dec_lt (position o x) (length o))
    where
      go : Dec (On o x) → On o x
      go (yes h) = h
      go (no h) = absurd (⊎_elim h (λ k. none k (kind g x)) w)
        where
          off : value o x ≡ 512
          off = off_value o x (omega arith)

          none : On n x → Kind o n x → ⊥
          none k (kept i c) = on_value g.new x k (sym i ∙ off)
          none k (install a b c) = clash (m.installed x (ap is_install c)) e
          none k (remove a b c) = omega (arith, off)
          none k (switch a b c) = omega (arith, off)

  pub midway_no_drop : Path (RouteStep o n (round_choice P R)) 512 (source o) → ⊥
  midway_no_drop Q = none (path_stays OnEither stays (inr (inl (source_on g.old))) Q)
    where
      OnEither : ℕ → Type 0
      OnEither y = (y ≡ 513) ⊎ (On o y ⊎ On n y)

      stays : (x y : ℕ) → OnEither x → RouteStep o n (round_choice P R) x y → OnEither y
      stays x y (inl e) s = absurd (omega (arith, s.node))
      stays x y (inr w) s = go (step_goes o n P R s)
        where
          old_way : OnWay o y → OnEither y
          old_way (inl e) = inl e
          old_way (inr h) = inr (inl h)

          new_way : OnWay n y → OnEither y
          new_way (inl e) = inl e
          new_way (inr h) = inr (inr h)

          go : Goes o n P R x y → OnEither y
          go (by_new h e q) = new_way (way_next g.new x y (uses_new x w e) q)
          go (by_old h e q) = old_way (way_next g.old x y (uses_old x w e) q)

      none : OnEither 512 → ⊥
      none (inl e) = omega arith
      none (inr (inl h)) = way_not_nothing g.old (inr h)
      none (inr (inr h)) = way_not_nothing g.new (inr h)

-- ---- one switch more

abbrev pub Leads : List ℕ → List ℕ → State → State → ℕ → ℕ → Type 0
Leads o n P R w a = Path (RouteStep o n (round_choice P R)) w a

abbrev pub Circles : List ℕ → List ℕ → State → State → ℕ → Type 0
Circles o n P R u = Around (RouteStep o n (round_choice P R)) u

module _
    {o n : List ℕ} (g : Good o n) {P R : State} (m : Midway o n P R) (v : ℕ)
    (s : switched o n v ≡ true)
  where
    new_id : v < 512
    new_id = on_below g.new v (omega (arith, onward_next g.new v (switch_values g v s).1))

    joined_path : {w a : ℕ} → Leads o n P R w a → Leads o n P (changed R v) w a
    joined_path = path_maps (steps_joined o n P R v)

    joined_around : {u : ℕ} → Circles o n P R u → Circles o n P (changed R v) u
    joined_around = around_maps (steps_joined o n P R v)

    onward : {w : ℕ} → Leads o n P R w (value n v) → Leads o n P (changed R v) w v
    onward Q = step (new_step o n P R v new_id) (joined_path Q)

    closes : Leads o n P R v (value n v) → Circles o n P (changed R v) v
    closes Q = (value n v, new_step o n P R v new_id, joined_path Q)

    faultless :
        (mode : ℕ)
        → (Finds a_loop mode o n (round_choice P (changed R v)) → ⊥)
        → RoundPasses mode o n P (changed R v)
    faultless mode h = (passes_finds g mode P (changed R v)).1 none
      where
        none : (f : Fault) → Finds f mode o n (round_choice P (changed R v)) → ⊥
        none a_drop Q = midway_no_drop g (midway_joins v m s) Q
        none a_loop x = h x

    pub joins_passes :
        (mode : ℕ)
        → RoundPasses mode o n P R
        → (Leads o n P R v (value n v) → ⊥)
        → ((u : ℕ) → Leads o n P R u (value n v) → Circles o n P R u → ⊥)
        → RoundPasses mode o n P (changed R v)
    joins_passes zero p back circle =
        faultless zero
        (λ x. ⊎_elim (λ A. (passes_finds g zero P R).0 p a_loop (x.0, A)) (λ q. back q.1) (around_added (steps_added o n P R v) x.1))
    joins_passes (suc k) p back circle =
        faultless (suc k)
        (λ x. ⊎_elim ((passes_finds g (suc k) P R).0 p a_loop) (λ q. ⊎_elim back (λ y. circle y.0 y.1 y.2) q.1)
        (reached_added (steps_added o n P R v) x))

    pub strong_joins : RoundPasses 0 o n P R → RoundPasses 0 o n P (changed R v) ↔ (Leads o n P R v (value n v) → ⊥)
    strong_joins p = (
      λ q Q. (passes_finds g 0 P (changed R v)).0 q a_loop (v, closes Q),
      λ back. joins_passes 0 p back (λ u Q A. (passes_finds g 0 P R).0 p a_loop (u, A)),
    )

    pub relaxed_unreached :
        {k : ℕ} → RoundPasses (suc k) o n P R → (Leads o n P R v (source o) → ⊥) → RoundPasses (suc k) o n P (changed R v)
    relaxed_unreached {k} p far =
        faultless (suc k)
        (λ x. ⊎_elim ((passes_finds g (suc k) P R).0 p a_loop) (λ q. far q.0) (reached_added (steps_added o n P R v) x))

    pub relaxed_joins :
        {k : ℕ}
        → RoundPasses (suc k) o n P R
        → Leads o n P R v (source o)
        → RoundPasses (suc k) o n P (changed R v)
        ↔ ((Leads o n P R v (value n v) → ⊥) × ((u : ℕ) → Leads o n P R u (value n v) → Circles o n P R u → ⊥))
    relaxed_joins {k} p near = (
      λ q. (
        λ Q. (passes_finds g (suc k) P (changed R v)).0 q a_loop (v, joined_path near, closes Q),
        λ u Q A. (passes_finds g (suc k) P (changed R v)).0 q a_loop
            (u, path_joins (joined_path near) (onward Q), joined_around A),
      ),
      λ h. joins_passes (suc k) p h.0 h.1,
    )

    pub reached_joins :
        (w a : ℕ) → Leads o n P (changed R v) w a ↔ (Leads o n P R w a ⊎ (Leads o n P R v a × Leads o n P R w (value n v)))
    reached_joins w a = (
      path_added (steps_added o n P R v),
      ⊎_elim joined_path (λ q. path_joins (joined_path q.0) (onward q.1)),
    )

-- ---- the switch nearest to the destination

module _
    {o n : List ℕ} (g : Good o n) {P : State} (m : Midway o n P nothing) (v : ℕ)
    (s : switched o n v ≡ true)
    (nearest : (u : ℕ) → On n u → position n v < position n u → switched o n u ≡ true → P u ≡ true)
  where
    abbrev After : ℕ → Type 0
    After y = (y ≡ 513) ⊎ (On n y × (position n v < position n y))

    -- a node after v on the new route goes by its new rule
    goes_new : (x y : ℕ) → On n x → position n v < position n x → Goes o n P nothing x y → value n x ≡ y
    unfolding installs
    goes_new x y h l (by_new k e q) = q
    goes_new x y h l (by_old k e q) = go (kind g x)
      where
        go : Kind o n x → value n x ≡ y
        go (kept i c) = sym i ∙ q
        go (install a b c) = clash (m.installed x (ap is_install c)) e
        go (remove a b c) = absurd (on_value g.new x h b)
        go (switch a b c) = clash (nearest x h l (ap is_switch c)) e

    after_next : (x y : ℕ) → On n x → position n v ≤ position n x → value n x ≡ y → After y
    after_next x y h l e = go (next_on g.new x h)
      where
        go : Next n x → After y
        go (ends q) = inl (sym e ∙ q)
        go (goes_on a p q) = inr (omega (arith, ap (position n) e), omega (arith, ap (position n) e))

    after_stays : (x y : ℕ) → After x → RouteStep o n (round_choice P nothing) x y → After y
    after_stays x y (inl e) t = absurd (omega (arith, t.node))
    after_stays x y (inr w) t =
        after_next x y w.0 (omega (arith, w.1)) (goes_new x y w.0 w.1 (step_goes o n P nothing t))

    after_rises : (x y : ℕ) → Within After (RouteStep o n (round_choice P nothing)) x y → position n x < position n y
    after_rises x y t = go t.from t.to
      where
        go : After x → After y → position n x < position n y
        go (inl e) z = absurd (omega (arith, t.steps.node))
        go (inr w) (inl e) = omega (arith, w.0, end_off g.new y (omega arith))
        go (inr w) (inr z) =
            let q : value n x ≡ y = goes_new x y w.0 w.1 (step_goes o n P nothing t.steps) in
            omega (arith, ap (position n) q, (onward_next g.new x (omega (arith, on_below g.new y z.0))).0)

    pub nearest_joins : (mode : ℕ) → RoundPasses mode o n P nothing → RoundPasses mode o n P (changed nothing v)
    nearest_joins mode p = joins_passes g m v s mode p (λ Q. off (stay Q)) (λ u Q A. rank (position n) after_rises u (around_carries After after_stays (stay Q) A))
      where
        on : On n v
        on = omega (arith, onward_next g.new v (switch_values g v s).1)

        stay : {w : ℕ} → Leads o n P nothing w (value n v) → After w
        stay Q = path_stays After after_stays (after_next v (value n v) on (omega arith) refl) Q

        off : After v → ⊥
        off (inl e) = omega (arith, on_below g.new v on)
        off (inr w) = omega (arith, w.1)

-- ---- the switches that wait

pub data Rests (o n : List ℕ) (P : State) : List ℕ → List ℕ → Type 0 where
  none : Rests o n P [] []
  skip : {u : ℕ} {l vs : List ℕ} → (switched o n u ≡ true → P u ≡ true) → Rests o n P l vs → Rests o n P (u ∷ l) vs
  take : {v : ℕ} {l vs : List ℕ} → switched o n v ≡ true → Rests o n P l vs → Rests o n P (v ∷ l) (v ∷ vs)

pub rests_all : (o n : List ℕ) (P : State) (l : List ℕ) → Rests o n P l (keep (switched o n) l)
unfolding keep
rests_all o n P [] = none
rests_all o n P (v ∷ l) =
    by_bool (switched o n v) (λ e. rw e (take e (rests_all o n P l))) (λ e. rw e (skip (λ s. clash s e) (rests_all o n P l)))

-- where the first of the switches that wait stands on l, and that the switches before it are in P
record Stands (o n : List ℕ) (P : State) (l : List ℕ) (v : ℕ) : Type 0 where
  index : ℕ
  within : index < length l
  there : get_or l index 0 ≡ v
  is_switch_known : switched o n v ≡ true
  before : (j : ℕ) → j < index → switched o n (get_or l j 0) ≡ true → P (get_or l j 0) ≡ true

stands : {o n : List ℕ} {P : State} {l vs : List ℕ} (v : ℕ) (us : List ℕ) → Rests o n P l vs → vs ≡ v ∷ us → Stands o n P l v
stands v us none e = absurd (nil≢cons e)
stands {o} {n} {P} v us (skip {u} {l} h r) e = go (stands v us r e)
  where
    go : Stands o n P l v → Stands o n P (u ∷ l) v
    go s =
        record {
          index = suc s.index;
          within = omega (arith, s.within);
          there = s.there;
          is_switch_known = s.is_switch_known;
          before = before;
        }
      where
        before : (j : ℕ) → j < suc s.index → switched o n (get_or (u ∷ l) j 0) ≡ true → P (get_or (u ∷ l) j 0) ≡ true
        before zero k = h
        before (suc j) k = s.before j (omega arith)
stands {o} {n} {P} v us (take {v = w} {l} h r) e =
    let q : w ≡ v = cc in
    record { index = 0; within = omega arith; there = q; is_switch_known = rw q at h; before = λ j k. absurd (omega arith) }

get_d_reverse : (l : List ℕ) (j : ℕ) → j < length l → get_or (reverse l) j 0 ≡ get_or l (length l - suc j) 0
get_d_reverse [] j h = absurd (omega arith)
get_d_reverse (a ∷ l) j h = rw (reverse-cons a l) (go (ℕ_discrete j (length l)) (get_d_reverse l j))
  where
    go :
        Dec (j ≡ length l)
        → (j < length l → get_or (reverse l) j 0 ≡ get_or l (length l - suc j) 0)
        → get_or (reverse l ++ (a ∷ [])) j 0 ≡ get_or (a ∷ l) (suc (length l) - suc j) 0
    go (yes e) rec =
        let q : suc (length l) - suc j ≡ 0 = omega arith in
        rw q (get_or_at (reverse l) a [] 0 j (length-reverse l ∙ sym e))
    go (no e) rec =
        let q : suc (length l) - suc j ≡ suc (length l - suc j) = omega arith in
        rw q (get_or-append (reverse l) (a ∷ []) 0 j (omega (arith, length-reverse l)) ∙ rec (omega arith))

pub rests_nearest :
    {o n : List ℕ} {P : State} {v : ℕ} {vs : List ℕ}
    → Good o n
    → Rests o n P (reverse n) (v ∷ vs)
    → (switched o n v ≡ true)
    × ((u : ℕ) → On n u → position n v < position n u → switched o n u ≡ true → P u ≡ true)
rests_nearest {o} {n} {P} {v} {vs} g r = go (stands v vs r refl)
  where
    go :
        Stands o n P (reverse n) v
        → (switched o n v ≡ true)
        × ((u : ℕ) → On n u → position n v < position n u → switched o n u ≡ true → P u ≡ true)
    go s = (s.is_switch_known, later)
      where
        inside : s.index < length n
        inside = omega (arith, s.within, length-reverse n)

        place : position n v ≡ length n - suc s.index
        place =
            ap (position n) (sym s.there ∙ get_d_reverse n s.index inside)
            ∙ position_index g.new (length n - suc s.index) (omega (arith, inside))

        later : (u : ℕ) → On n u → position n v < position n u → switched o n u ≡ true → P u ≡ true
        later u h l e =
            let j : ℕ = length n - suc (position n u) in
            let i : length n - suc j ≡ position n u = omega arith in
            let q : get_or (reverse n) j 0 ≡ u =
            get_d_reverse n j (omega arith) ∙ ap (λ (k : ℕ). get_or n k 0) i ∙ position_at n u h
            in
            rw q at (s.before j (omega (arith, place, inside)) (rw q e))

rests_joined :
    {mode : ℕ} {o n : List ℕ} {P R R' : State} {l vs W : List ℕ}
    → Rests o n P l vs
    → Joining mode o n P vs R R' W
    → Rests o n (together P R') l W
rests_joined none all_tried = none
rests_joined {R' = R'} (skip {u} h r) j = skip (λ s. or_left (R' u) (h s)) (rests_joined r j)
rests_joined {P = P} {R = R} (take {v} s r) (joins p j) =
    skip (λ e. or_right (P v) (joining_keeps v j (rw (eq-eqb v v refl)))) (rests_joined {R = changed R v} r j)
rests_joined (take s r) (waits q j) = take s (rests_joined r j)

rests_midway :
    {mode : ℕ} {o n : List ℕ} {P R R' : State} {l vs W : List ℕ}
    → Rests o n P l vs
    → Joining mode o n P vs R R' W
    → Midway o n P R
    → Midway o n P R'
rests_midway none all_tried m = m
rests_midway (skip h r) j m = rests_midway r j m
rests_midway {R = R} (take {v} s r) (joins p j) m = rests_midway {R = changed R v} r j (midway_joins v m s)
rests_midway (take s r) (waits q j) m = rests_midway r j m

pub record Waiting (mode : ℕ) (o n : List ℕ) (P : State) (vs : List ℕ) : Type 0 where
  pub midway : Midway o n P nothing
  pub passes : RoundPasses mode o n P nothing
  pub rests : Rests o n P (reverse n) vs

pub waiting_all : {o n : List ℕ} → Good o n → (mode : ℕ) → Waiting mode o n (installs o n) (switches o n)
waiting_all {o} {n} g mode =
    record {
      midway = record { installed = λ v e. e; not_removed = λ v e. rw (apart v e) };
      passes = installed_passes g mode;
      rests = rw (keep_switches o n) (rests_all o n (installs o n) (reverse n));
    }
  where
    apart : (v : ℕ) → removes o n v ≡ true → installs o n v ≡ false
    apart v e =
        by_bool (installs o n v) (λ i. clash (or_right (switched o n v) e) (install_only o n v i)) (λ i. i)

module _ {mode : ℕ} {o n : List ℕ} (g : Good o n) {P : State} where
  pub waiting_joins : {v : ℕ} {vs : List ℕ} → Waiting mode o n P (v ∷ vs) → RoundPasses mode o n P (changed nothing v)
  waiting_joins {v} w =
      let x = rests_nearest g w.rests in
      nearest_joins g w.midway v x.0 x.1 mode w.passes

  first_joins :
      {R R' : State} {v : ℕ} {vs W : List ℕ}
      → RoundPasses mode o n P (changed R v)
      → Joining mode o n P (v ∷ vs) R R' W
      → (R' v ≡ true) × (length W ≤ length vs)
  first_joins {v = v} p (joins q j) = (joining_keeps v j (rw (eq-eqb v v refl)), waits_most j)
  first_joins p (waits q j) = absurd (q p)

  pub waiting_fewer :
      {R : State} {v : ℕ} {vs W : List ℕ}
      → Waiting mode o n P (v ∷ vs)
      → Joining mode o n P (v ∷ vs) nothing R W
      → (R v ≡ true) × (length W ≤ length vs)
  waiting_fewer w j = first_joins (waiting_joins w) j

  pub waiting_next :
      {R : State} {vs W : List ℕ}
      → Waiting mode o n P vs
      → Joining mode o n P vs nothing R W
      → Waiting mode o n (together P R) W
  waiting_next w j =
      record {
        midway = midway_done (rests_midway w.rests j w.midway);
        passes = over_passes (joining_passes j w.passes);
        rests = rests_joined w.rests j;
      }

-- ---- there is a plan

pub joining_exists :
    {o n : List ℕ}
    → Good o n
    → (mode : ℕ) (P : State) (vs : List ℕ) (R : State)
    → (R' : State) × (W : List ℕ) × Joining mode o n P vs R R' W
joining_exists g mode P [] R = (R, [], all_tried)
joining_exists {o} {n} g mode P (v ∷ vs) R =
    go (dec_passes g mode P (changed R v)) (joining_exists g mode P vs (changed R v)) (joining_exists g mode P vs R)
  where
    Through : List ℕ → State → Type 0
    Through l S = (R' : State) × (W : List ℕ) × Joining mode o n P l S R' W

    go : Dec (RoundPasses mode o n P (changed R v)) → Through vs (changed R v) → Through vs R → Through (v ∷ vs) R
    go (yes p) (R', W, j) y = (R', W, joins p j)
    go (no p) x (R', W, j) = (R', v ∷ W, waits p j)

pub middle_exists :
    {o n : List ℕ}
    → Good o n
    → (mode k : ℕ) (P : State) (vs : List ℕ)
    → length vs ≤ k
    → Waiting mode o n P vs
    → (Rs : List State) × Middle mode o n P vs Rs
middle_exists g mode zero P [] h w = ([], all_placed)
middle_exists g mode zero P (v ∷ vs) h w = absurd (omega arith)
middle_exists g mode (suc k) P [] h w = ([], all_placed)
middle_exists {o} {n} g mode (suc k) P (v ∷ vs) h w = go (joining_exists g mode P (v ∷ vs) nothing) (λ Q W. middle_exists g mode k Q W)
  where
    go :
        (R : State) × (W : List ℕ) × Joining mode o n P (v ∷ vs) nothing R W
        → ((Q : State) (W : List ℕ) → length W ≤ k → Waiting mode o n Q W → (Rs : List State) × Middle mode o n Q W Rs)
        → (Rs : List State) × Middle mode o n P (v ∷ vs) Rs
    go (R, W, j) rec =
        let x = rec (together P R) W (omega (arith, (waiting_fewer g w j).1)) (waiting_next g w j) in
        (R ∷ x.0, a_round j x.1)

pub plan_exists : {o n : List ℕ} → Good o n → (mode : ℕ) → (Rs : List State) × PlanRounds mode o n Rs
plan_exists {o} {n} g mode =
    let x = middle_exists g mode (length (switches o n)) (installs o n) (switches o n) (omega arith) (waiting_all g mode) in
    (some_round (installs o n) ++ (x.0 ++ some_round (removes o n)), record { middle = x.0; joined = x.1; rounds = refl })
