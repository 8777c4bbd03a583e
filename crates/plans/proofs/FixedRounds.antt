-- The first round, all installs, and the last, all removes, pass, in both modes. Assumes nothing.
--
-- In the first round nothing has changed, and from the source the walk stays on the old route, which no install is on, so
-- nothing drops. A node that is only on the new route has its place there as its rank, a node of the old route 256 plus its
-- place there; the rank rises along every step. In the last round the steps are those of the first round of the change back.
--
--   first_passes         == the round of all installs passes
--   installed_passes     == after it, nothing changed passes
--   last_passes          == the round of all removes passes, after rounds that have all installs and all switches
use Prim.Native.Nat.{ℕ, ◌+◌, ◌<◌}
use native.Mathlib.Omega.{arith}
use native.Mathlib.Decide.{dec_lt}
use mathlib.Core.Path.{◌≡◌, refl, sym, ap, ◌∙◌}
use mathlib.Core.Bool.{true}
use mathlib.Core.List.{List}
use mathlib.Core.Logic.{inl, inr, ite}
use lib.ListN.{length}
use Rattle.graph.proofs.Paths.{path_stays}
use Rattle.graph.proofs.Rank.{rank_nodes}
use Rattle.routes.specs.Routes.{Good}
use Rattle.routes.specs.Rules.{value}
use Rattle.routes.specs.Jumps.{position}
use Rattle.routes.specs.Walk.{State}
use Rattle.routes.proofs.RuleLaws.{good_swap}
use Rattle.rounds.specs.States.{Fault, a_drop, a_loop}
use Rattle.rounds.proofs.Bridge.{RouteStep, Finds}
use Rattle.plans.specs.Plan.{RoundPasses, nothing, is_install, is_remove, is_switch, installs, removes, switched}
use Rattle.plans.specs.Working.{round_choice}
use Rattle.plans.proofs.IdLists.{clash}
use Rattle.plans.proofs.PlanSets.{over_passes}
use Rattle.plans.proofs.NodeLaws.{On, OnWay, on_value, source_on, way_not_nothing, onward_next, way_next}
use Rattle.plans.proofs.NodeLaws.{Kind, kept, install, remove, switch, kind, install_values, install_remove}
use Rattle.plans.proofs.PlanPaths.{passes_finds, finds_maps, acyclic_finds, Goes, by_new, by_old, step_goes, goes_step}

module _ {o n : List ℕ} (g : Good o n) where
  stays : (x y : ℕ) → OnWay o x → RouteStep o n (round_choice nothing (installs o n)) x y → OnWay o y
  stays x y w s = go w (step_goes o n nothing (installs o n) s)
    where
      go : OnWay o x → Goes o n nothing (installs o n) x y → OnWay o y
      go (inl e) t = absurd (omega (arith, s.node))
      go (inr h) (by_new k e q) = absurd (on_value g.old x h (install_values g x e).0)
      go (inr h) (by_old k e q) = way_next g.old x y h q

  rank_at : (x : ℕ) → Dec (On o x) → ℕ
  rank_at x d = ite d (256 + position o x) (position n x)

  rises : (x y : ℕ) → RouteStep o n (round_choice nothing (installs o n)) x y → y < 512 → (d : Dec (On o x)) (e : Dec (On o y)) → rank_at x d < rank_at y e
  unfolding rank_at
  rises x y s h d e = go (step_goes o n nothing (installs o n) s) d e
    where
      go : Goes o n nothing (installs o n) x y → (d : Dec (On o x)) (e : Dec (On o y)) → rank_at x d < rank_at y e
      go (by_new k i q) (yes a) e = absurd (on_value g.old x a (install_values g x i).0)
      go (by_new k i q) (no a) (yes b) = omega (arith, g.new.most, (onward_next g.new x (omega arith)).1)
      go (by_new k i q) (no a) (no b) = omega (arith, ap (position n) q, (onward_next g.new x (omega arith)).0)
      go (by_old k i q) (yes a) (yes b) = omega (arith, ap (position o) q, (onward_next g.old x (omega arith)).0)
      go (by_old k i q) (yes a) (no b) = absurd (b (omega (arith, ap (position o) q, onward_next g.old x (omega arith))))
      go (by_old k i q) (no a) e = absurd (a (omega (arith, (onward_next g.old x (omega arith)).1)))

  pub first_passes : (mode : ℕ) → RoundPasses mode o n nothing (installs o n)
  first_passes mode = (passes_finds g mode nothing (installs o n)).1 none
    where
      rank : ℕ → ℕ
      rank x = rank_at x (dec_lt (position o x) (length o))

      none : (f : Fault) → Finds f mode o n (round_choice nothing (installs o n)) → ⊥
      none a_drop P = way_not_nothing g.old (path_stays (OnWay o) stays (inr (source_on g.old)) P)
      none a_loop x =
          acyclic_finds mode o n (round_choice nothing (installs o n))
          (rank_nodes (value o) (value n) (round_choice nothing (installs o n)) rank
          (λ x y s h. rises x y s h (dec_lt (position o x) (length o)) (dec_lt (position o y) (length o))))
          x

  pub installed_passes : (mode : ℕ) → RoundPasses mode o n (installs o n) nothing
  installed_passes mode = over_passes (first_passes mode)

pub last_passes :
    {o n : List ℕ}
    → Good o n
    → (mode : ℕ) (P : State)
    → ((v : ℕ) → installs o n v ≡ true → P v ≡ true)
    → ((v : ℕ) → switched o n v ≡ true → P v ≡ true)
    → RoundPasses mode o n P (removes o n)
unfolding installs removes
last_passes {o} {n} g mode P ins sws =
    (passes_finds g mode P (removes o n)).1
    (λ f x. (passes_finds (good_swap g) mode nothing (installs n o)).0 (first_passes (good_swap g) mode) f
    (finds_maps f mode o n n o (round_choice P (removes o n)) (round_choice nothing (installs n o)) g.sources back x))
  where
    go : {x y : ℕ} → Goes o n P (removes o n) x y → Kind o n x → Goes n o nothing (installs n o) x y
    go (by_new h e q) k = by_old h refl q
    go (by_old h e q) (kept i c) = by_old h refl (sym i ∙ q)
    go {x} (by_old h e q) (install a b c) = clash (ins x (ap is_install c)) e
    go {x} (by_old h e q) (remove a b c) = by_new h (install_remove o n x ∙ ap is_remove c) q
    go {x} (by_old h e q) (switch a b c) = clash (sws x (ap is_switch c)) e

    back : (x y : ℕ) → RouteStep o n (round_choice P (removes o n)) x y → RouteStep n o (round_choice nothing (installs n o)) x y
    back x y s = goes_step n o nothing (installs n o) (go (step_goes o n P (removes o n) s) (kind g x))
