-- In the state in which nothing has changed, the walk goes along the old route to the destination: it neither drops nor loops,
-- and the rules hold no cycle. So a schedule whose rounds are all good passes, also one with no rounds. Assumes nothing.
--
--   unchanged        == the state in which nothing has changed
--   along            == k hops from the id at index i of the old route lead to the id at index i + k
--   unchanged_good   == the unchanged state shows no fault
--   rounds_pass      == a schedule passes where no round is bad
use Prim.Native.Nat.{ℕ, zero, suc, ◌+◌, ◌<◌, ◌≤◌}
use native.Mathlib.Omega.{arith}
use native.Mathlib.Decide.{dec_lt}
use mathlib.Core.Path.{◌≡◌, refl, sym, ◌∙◌, ap, subst, fun_ext}
use mathlib.Core.Bool.{false}
use mathlib.Core.List.{List}
use mathlib.Core.Option.{Option, none, some}
use lib.ListN.{length, get_or}
use Rattle.routes.specs.Routes.{GoodRoute, Good}
use Rattle.routes.specs.Walk.{State, in_state, hop, place}
use Rattle.routes.proofs.RuleLaws.{Hop, rule_hop, same_place, rule_at}
use Rattle.rounds.specs.States.{StateIn, of_round, of_none, Drops, LoopsRelaxed, LoopsStrong, Passes, Fault, a_drop, a_loop, Shows, Bad}

abbrev pub unchanged : State
unchanged v = false

some_none : {w : ℕ} → ◌≡◌ {A = Option ℕ} none (some w) → ⊥
some_none e = let z : ◌≡◌ {A = ℕ} 0 1 = cc in omega arith

module _ {o : List ℕ} (n : List ℕ) (g : GoodRoute o) where
  pub along :
      (i k : ℕ) {w : ℕ}
      → i < length o
      → place (in_state o n unchanged) (get_or o i 0) k ≡ some w
      → (i + k < length o) × (get_or o (i + k) 0 ≡ w)
  unfolding place
  along i zero {w} h e = let q : i + 0 ≡ i = omega arith in (omega arith, rw q (cc))
  along i (suc k) {w} h e = go (place (in_state o n unchanged) (get_or o i 0) k) (λ u. along i k h) e
    where
      go :
          (p : Option ℕ)
          → ((u : ℕ) → p ≡ some u → (i + k < length o) × (get_or o (i + k) 0 ≡ u))
          → hop (in_state o n unchanged) p ≡ some w
          → (i + suc k < length o) × (get_or o (i + suc k) 0 ≡ w)
      go none rec e = absurd (some_none e)
      go (some u) rec e =
          let r : Hop o u w = rule_hop o u e in
          let j : r.index ≡ i + k = same_place g r.index (i + k) (omega arith) (rec u refl).0 (r.here ∙ sym (rec u refl).1) in
          let q : r.index + 1 ≡ i + suc k = omega arith in
          (omega (arith, r.within), ap (λ (x : ℕ). get_or o x 0) (sym q) ∙ r.next)

  unchanged_drops : Drops o n unchanged → ⊥
  unchanged_drops d = go (dec_lt (0 + d.hops + 1) (length o))
    where
      a : (0 + d.hops < length o) × (get_or o (0 + d.hops) 0 ≡ d.node)
      a = along 0 d.hops (omega (arith, g.least)) d.comes

      go : Dec (0 + d.hops + 1 < length o) → ⊥
      go (yes h) = some_none (sym d.no_rule ∙ ap (in_state o n unchanged) (sym a.1) ∙ rule_at g (0 + d.hops) h)
      go (no h) = d.elsewhere (sym a.1 ∙ ap (λ (x : ℕ). get_or o x 0) (omega (arith, a.0)))

  unchanged_relaxed : LoopsRelaxed o n unchanged → ⊥
  unchanged_relaxed l =
      let t = l.twice in
      let a = along 0 t.sooner (omega (arith, g.least)) t.there in
      let b = along 0 l.hops (omega (arith, g.least)) t.again in
      omega (arith, t.before, same_place g (0 + t.sooner) (0 + l.hops) a.0 b.0 (a.1 ∙ sym b.1))

  unchanged_strong : LoopsStrong o n unchanged → ⊥
  unfolding place
  unchanged_strong l = go l.node l.hops l.some_hops l.back
    where
      go : (v k : ℕ) → 0 < k → place (in_state o n unchanged) v k ≡ some v → ⊥
      go v zero h e = omega arith
      go v (suc k) h e = last (place (in_state o n unchanged) v k) e
        where
          last : (p : Option ℕ) → hop (in_state o n unchanged) p ≡ some v → ⊥
          last none q = some_none q
          last (some u) q =
              let r : Hop o u v = rule_hop o u q in
              let a : (r.index + 1 + suc k < length o) × (get_or o (r.index + 1 + suc k) 0 ≡ v) =
              along (r.index + 1) (suc k) r.within
              (subst (λ (x : ℕ). place (in_state o n unchanged) x (suc k) ≡ some v) (sym r.next) e)
              in
              omega (
                arith,
                same_place g (r.index + 1) (r.index + 1 + suc k) r.within a.0 (r.next ∙ sym a.1),
              )

  pub unchanged_good : (f : Fault) (mode : ℕ) → Shows f mode o n unchanged → ⊥
  unchanged_good a_drop mode s = unchanged_drops s
  unchanged_good a_loop zero s = unchanged_strong s
  unchanged_good a_loop (suc m) s = unchanged_relaxed s

pub rounds_pass :
    {mode : ℕ} {o n ids zs : List ℕ}
    → Good o n
    → ((t : ℕ) → 0 < t → t ≤ length zs → (f : Fault) → Bad mode o n ids zs t f → ⊥)
    → Passes mode o n ids zs
rounds_pass {mode} {o} {n} {ids} {zs} g good = record { no_drop = none_shows a_drop; no_loop = none_shows a_loop }
  where
    none_shows : (f : Fault) (X : State) → StateIn ids zs X → Shows f mode o n X → ⊥
    none_shows f X (of_round {t} h k s) b = good t h k f (X, s, b)
    none_shows f X (of_none e z) b = unchanged_good n g.old f mode (subst (Shows f mode o n) (fun_ext z) b)
