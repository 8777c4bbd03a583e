-- Where a walk comes back. In a law p and q are a good pair, and v a node whose next meeting node along q stands before it on
-- p. Assumes nothing.
--
--   stuck                == if v goes along q, and each other node along q exactly where it is not on p, and else along p, then
--                           a path leads from the source to v, and from v back to v: along p to v, along q through nodes that
--                           are off p to the meeting node, and along p to v again
--   backward_stuck       == after the installs no round with a backward switch passes
--   first_stuck          == nor a round of a schedule with a switch that returns in the old order, if no switch is in an earlier
--                           round, each install is, and each remove is in a later one
--   last_stuck           == nor with a switch that returns in the new order, if no switch is in a later round
--   due_round            == in a schedule a due node has a round, and so a number above 0
use Prim.Native.Nat.{ℕ, zero, suc, ◌+◌, ◌-◌, ◌<◌, ◌≤◌}
use native.Mathlib.Omega.{arith}
use native.Mathlib.Numerals.{add-one}
use native.Mathlib.Decide.{dec_lt, ℕ_discrete}
use mathlib.Core.Path.{◌≡◌, refl, sym, ap, ◌∙◌}
use mathlib.Core.Bool.{true, false}
use mathlib.Core.List.{List}
use mathlib.Core.Option.{some}
use lib.ListN.{length, get_or, drop}
use borrow.Author.Tests.{eq-eqb}
use Rattle.graph.specs.Graph.{Ok, Path, stop, step, Around}
use Rattle.graph.proofs.Paths.{path_cast, path_joins}
use Rattle.routes.specs.Routes.{source, Good}
use Rattle.routes.specs.Rules.{value, due}
use Rattle.routes.specs.Jumps.{position, on, first_on}
use Rattle.routes.specs.Walk.{State}
use Rattle.routes.proofs.JumpLaws.{
  position_at,
  position_before,
  position_index,
  position_on,
  first_on_past,
  first_on_here,
  first_on_end,
  HasJump,
  has_swap,
  meeting_is,
}
use Rattle.routes.proofs.RuleLaws.{value_at, good_swap, due_values, due_below}
use Rattle.rounds.specs.Schedule.{round_no, Schedule}
use Rattle.rounds.specs.States.{a_loop, Passes}
use Rattle.rounds.specs.Packet.{changed}
use Rattle.rounds.proofs.Bridge.{RouteStep, choice_in, choice_at, choice_none, choice_earlier, choice_here, choice_later, finds_relaxed, bad_finds}
use Rattle.rounds.proofs.ScheduleLaws.{round_least, number_of, number_none, number_most}
use Rattle.rounds.proofs.NamedLaws.{passes_good}
use Rattle.plans.specs.Plan.{RoundPasses, is_install, is_remove, is_switch, installs, removes, switched}
use Rattle.plans.specs.TwoBetween.{backwards, TwoBetween}
use Rattle.plans.specs.Working.{round_choice}
use Rattle.plans.proofs.IdLists.{by_bool, clash, or_left, on_index}
use Rattle.plans.proofs.NodeLaws.{On, on_value, on_below, value_on, Kind, kept, install, remove, switch, kind, install_values, install_remove}
use Rattle.plans.proofs.PlanPaths.{passes_finds, by_new, by_old, goes_step, new_step}
use Rattle.plans.proofs.PlanSets.{install_due, switch_due, switch_only, switch_no_install}
use Rattle.plans.proofs.Signs.{Returns, switch_jumps, backward_switch, backward_returns}

-- a node that is on q alone is an install
new_only : {p q : List ℕ} → Good p q → (u : ℕ) → On q u → (On p u → ⊥) → installs p q u ≡ true
unfolding installs
new_only {p} {q} g u h f = go (kind g u)
  where
    off : (value p u ≡ 512 → ⊥) → ⊥
    off w = f (value_on g.old u w)

    go : Kind p q u → installs p q u ≡ true
    go (kept a c) = absurd (off (λ w. on_value g.new u h (sym a ∙ w)))
    go (install a b c) = ap is_install c
    go (remove a b c) = absurd (off (λ w. omega arith))
    go (switch a b c) = absurd (off (λ w. omega arith))

module _
    {p q : List ℕ} (g : Good p q) (v : ℕ) (h : HasJump p q v) (r : Returns p q v) (S : ℕ → ℕ → Type 0)
    (stays : (u : ℕ) → u < 512 → installs p q u ≡ false → (u ≡ v → ⊥) → S u (value p u))
    (goes : (u : ℕ) → u < 512 → installs p q u ≡ true → S u (value q u))
    (turns : S v (value q v))
  where
    to_itself : (k i : ℕ) → i + k ≡ position p v → Path S v (get_or p i 0)
    to_itself zero i e =
        let d : i ≡ position p v = omega arith in
        stop (ap (λ (j : ℕ). get_or p j 0) d ∙ position_at p v h.on_old)
    to_itself (suc k) i e = step next (to_itself k (i + 1) (omega arith))
      where
        l : i + 1 < length p
        l = omega (arith, h.on_old)

        u : ℕ
        u = get_or p i 0

        on_p : On p u
        on_p = omega (arith, position_index g.old i (omega arith))

        next : S u (get_or p (i + 1) 0)
        next =
            rw (value_at g.old i l) at
            (stays u (on_below g.old u on_p)
            (by_bool (installs p q u) (λ z. absurd (on_value g.old u on_p (install_values g u z).0)) (λ z. z))
            (position_before p v i (omega arith)))

    to_meeting : (k i : ℕ) → i + k ≡ length q → first_on p (drop i q) ≡ some r.node → Path S r.node (get_or q i 0)
    to_meeting zero i e f = absurd (let z : ◌≡◌ {A = ℕ} 0 1 = cc (first_on_end p q i (omega arith)) in omega arith)
    to_meeting (suc k) i e f = by_bool (on p u) here (λ z. past z (to_meeting k (i + 1) (omega arith)) (dec_lt (i + 1) (length q)))
      where
        u : ℕ
        u = get_or q i 0

        here : on p u ≡ true → Path S r.node u
        here z = let d : u ≡ r.node = cc (first_on_here p q i (omega arith) z) in stop d

        past :
            on p u ≡ false
            → (first_on p (drop (i + 1) q) ≡ some r.node → Path S r.node (get_or q (i + 1) 0))
            → Dec (i + 1 < length q)
            → Path S r.node u
        past z rec d = go d (rec rest)
          where
            rest : first_on p (drop (i + 1) q) ≡ some r.node
            rest = rw add-one (sym (first_on_past p q i (omega arith) z) ∙ f)

            go : Dec (i + 1 < length q) → Path S r.node (get_or q (i + 1) 0) → Path S r.node u
            go (no l) Q = absurd (let y : ◌≡◌ {A = ℕ} 0 1 = cc (rest, first_on_end p q (i + 1) (omega arith)) in omega arith)
            go (yes l) Q = step (rw (value_at g.new i l) at (goes u (on_below g.new u on_q) (new_only g u on_q off))) Q
              where
                on_q : On q u
                on_q = omega (arith, position_index g.new i (omega arith))

                off : On p u → ⊥
                off w = clash (position_on p u w) z

    pub stuck : (u : ℕ) × Path S u (source p) × Around S u
    stuck = (v, to_itself (position p v) 0 (omega arith), (value q v, turns, path_joins across again))
      where
        i : ℕ
        i = position q v

        l : i + 1 < length q
        l = omega (arith, r.met.later, r.met.within)

        next : value q v ≡ get_or q (i + 1) 0
        next = rw (position_at q v h.on_new) at (value_at g.new i l)

        across : Path S r.node (value q v)
        across =
            path_cast next (to_meeting (length q - (i + 1)) (i + 1) (omega arith) (rw add-one (sym (meeting_is q p v) ∙ r.met.meets)))

        again : Path S v r.node
        again =
            path_cast (sym (position_at p r.node r.met.shared))
            (to_itself (position p v - position p r.node) (position p r.node) (omega (arith, r.before)))

pub backward_stuck :
    {o n : List ℕ}
    → Good o n
    → (v : ℕ)
    → backwards o n v ≡ true
    → (R : State) (mode : ℕ)
    → RoundPasses mode o n (installs o n) (changed R v)
    → ⊥
backward_stuck {o} {n} g v e R mode p =
    (passes_finds g mode (installs o n) (changed R v)).0 p a_loop
    (finds_relaxed mode o n (round_choice (installs o n) (changed R v))
    (stuck g v j (backward_returns g v e) (RouteStep o n (round_choice (installs o n) (changed R v))) stays goes turns))
  where
    j : HasJump o n v
    j = switch_jumps g v (backward_switch o n v e)

    stays : (u : ℕ) → u < 512 → installs o n u ≡ false → (u ≡ v → ⊥) → RouteStep o n (round_choice (installs o n) (changed R v)) u (value o u)
    stays u l i k = goes_step o n (installs o n) (changed R v) (by_old l i refl)

    goes : (u : ℕ) → u < 512 → installs o n u ≡ true → RouteStep o n (round_choice (installs o n) (changed R v)) u (value n u)
    goes u l i = goes_step o n (installs o n) (changed R v) (by_new l (or_left (changed R v u) i) refl)

    turns : RouteStep o n (round_choice (installs o n) (changed R v)) v (value n v)
    turns = new_step o n (installs o n) R v (on_below g.old v j.on_old)

-- ---- a round of a schedule

may_new : (r t : ℕ) → 0 < r → r ≤ t → Ok (choice_in r t) true
may_new r t h k = go (ℕ_discrete r t)
  where
    go : Dec (r ≡ t) → Ok (choice_in r t) true
    go (yes e) = rw (choice_here r t h e) tt
    go (no e) = rw (choice_earlier r t h (omega arith)) tt

may_old : (r t : ℕ) → 0 < t → t ≤ r → Ok (choice_in r t) false
may_old r t h k = go (ℕ_discrete r t)
  where
    go : Dec (r ≡ t) → Ok (choice_in r t) false
    go (yes e) = rw (choice_here r t (omega arith) e) tt
    go (no e) = rw (choice_later r t (omega arith)) tt

pub due_round : {o n ids zs : List ℕ} → Schedule o n ids zs → (v : ℕ) → due o n v ≡ true → 0 < round_no ids zs v
due_round {ids = ids} {zs = zs} s v d = omega (arith, number_of ids zs v (s.all_due v d), round_least zs (position ids v))

module _ {o n ids zs : List ℕ} (g : Good o n) (b : TwoBetween o n ids zs) (v : ℕ) (s : switched o n v ≡ true) where
  abbrev number : ℕ → ℕ
  number u = round_no ids zs u

  abbrev Steps : ℕ → ℕ → Type 0
  Steps = RouteStep o n (choice_at ids zs (number v))

  unplaced : (u : ℕ) → due o n u ≡ false → number u ≡ 0
  unplaced u d =
      (number_none ids zs u).1
      (by_bool (on ids u)
      (λ e. let x = on_index ids u e in clash (rw x.2 at (b.well_formed.are_due x.0 x.1)) d) (λ e. e))

  node : v < 512
  node = due_below g v (switch_due o n v s)

  goes_new : (u : ℕ) → u < 512 → due o n u ≡ true → number u ≤ number v → Steps u (value n u)
  goes_new u l d h = record { node = l; bit = true; allowed = may_new (number u) (number v) (due_round b.well_formed u d) h; goes = refl }

  goes_old : (u : ℕ) → u < 512 → number v ≤ number u → Steps u (value o u)
  goes_old u l h =
      record { node = l; bit = false; allowed = may_old (number u) (number v) (due_round b.well_formed v (switch_due o n v s)) h; goes = refl }

  keeps : (u : ℕ) → u < 512 → value o u ≡ value n u → Steps u (value o u)
  keeps u l e =
      let d : due o n u ≡ false = due_values g u ∙ rw (eq-eqb (value o u) (value n u) e) in
      record { node = l; bit = false; allowed = rw (choice_none (number u) (number v) (unplaced u d)) tt; goes = refl }

  installs_new : (u : ℕ) → u < 512 → installs o n u ≡ true → Steps u (value n u)
  installs_new u l e = goes_new u l (install_due o n u e) (omega (arith, b.installs_first u v e (switch_due o n v s) (switch_no_install o n v s)))

  removes_old : (u : ℕ) → u < 512 → removes o n u ≡ true → Steps u (value o u)
  removes_old u l e = goes_old u l (omega (arith, b.removes_last u v e (switch_due o n v s) (switch_only o n v s)))

  fails : (u : ℕ) × Path Steps u (source o) × Around Steps u → (mode : ℕ) → Passes mode o n ids zs → ⊥
  fails x mode p =
      passes_good p (number v) a_loop (due_round b.well_formed v (switch_due o n v s)) (number_most ids zs b.well_formed.sums v)
      ((bad_finds g mode ids zs (number v) a_loop).1 (finds_relaxed mode o n (choice_at ids zs (number v)) x))

  pub first_stuck :
      ((u : ℕ) → switched o n u ≡ true → round_no ids zs v ≤ round_no ids zs u)
      → Returns o n v
      → (mode : ℕ)
      → Passes mode o n ids zs
      → ⊥
  unfolding installs removes
  first_stuck f r =
      fails (stuck g v (switch_jumps g v s) r Steps (λ u l i k. stays u l i (kind g u)) installs_new turns)
    where
      stays : (u : ℕ) → u < 512 → installs o n u ≡ false → Kind o n u → Steps u (value o u)
      stays u l i (kept e c) = keeps u l e
      stays u l i (install x y c) = clash (ap is_install c) i
      stays u l i (remove x y c) = removes_old u l (ap is_remove c)
      stays u l i (switch x y c) = goes_old u l (f u (ap is_switch c))

      turns : Steps v (value n v)
      turns = goes_new v node (switch_due o n v s) (omega arith)

  pub last_stuck :
      ((u : ℕ) → switched o n u ≡ true → round_no ids zs u ≤ round_no ids zs v)
      → Returns n o v
      → (mode : ℕ)
      → Passes mode o n ids zs
      → ⊥
  unfolding installs removes
  last_stuck f r = fails (x.0, path_cast g.sources x.1, x.2)
    where
      stays : (u : ℕ) → u < 512 → removes o n u ≡ false → Kind o n u → Steps u (value n u)
      stays u l i (kept e c) = rw e at (keeps u l e)
      stays u l i (install x y c) = installs_new u l (ap is_install c)
      stays u l i (remove x y c) = clash (ap is_remove c) i
      stays u l i (switch x y c) = goes_new u l (switch_due o n u (ap is_switch c)) (f u (ap is_switch c))

      x : (u : ℕ) × Path Steps u (source n) × Around Steps u
      x =
          stuck (good_swap g) v (has_swap g (switch_jumps g v s)) r Steps
          (λ u l i k. stays u l (sym (install_remove o n u) ∙ i) (kind g u))
          (λ u l i. removes_old u l (sym (install_remove o n u) ∙ i))
          (goes_old v node (omega arith))
