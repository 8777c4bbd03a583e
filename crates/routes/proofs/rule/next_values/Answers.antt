use Prim.Native.Nat.{ℕ, suc, ◌-◌, ◌<◌, ◌≤◌}
use native.Mathlib.Omega.{arith}
use mathlib.Core.Path.{◌≡◌, sym}
use mathlib.Core.List.{List, [], ◌∷◌}
use lib.ListN.{length, get_or, drop}
use lib.Seq.{drop-cons, drop-length}
use Rattle.house.proofs.NumberLaws.{length_entries}
use Rattle.routes.specs.Rules.{Values}
use Rattle.routes.proofs.RuleLaws.{values_nil, values_store, values_skip}
use Rattle.routes.proofs.rule.next_values.Invariants.{Filled}
use Rattle.routes.proofs.rule.next_values.Goals as goal

filled_none : {l t : List ℕ} (i : ℕ) → i ≡ length l → Values [] t → Filled l t 513 i
filled_none {l} i e x = record { table = rw (e, drop-length l) x; first = rw (e, drop-length l) }

filled_more : {l t : List ℕ} {a u : ℕ} (i : ℕ)
    → 0 < i
    → i ≤ length l
    → u ≡ a
    → a ≡ get_or l (i - 1) 0
    → Values (u ∷ drop i l) t
    → Filled l t a (i - 1)
filled_more {l} {t} {a} {u} i p h q e x = record { table = rw d (rw q at x); first = rw d }
  where
    d : drop (i - 1) l ≡ a ∷ drop i l
    d =
        let k : suc (i - 1) ≡ i = omega arith in
        rw (drop-cons l (i - 1) 0 (omega arith), k, ← e)

pub loop-i-init : goal.loop-i-init
loop-i-init c = filled_none _ (sym (length_entries _)) values_nil

pub loop-i-preserved-then-v-lt512 : goal.loop-i-preserved-then-v-lt512
loop-i-preserved-then-v-lt512 c =
    filled_more c.loop-i.i c.loop-i-test.true (omega (arith, length_entries c.args.route.now)) c.from-v.ensures c.entry-id.ensures
    (values_store c.loop-i.invariant.table c.loop-i.invariant.first (omega arith))

pub loop-i-preserved : goal.loop-i-preserved
loop-i-preserved c =
    filled_more c.loop-i.i c.loop-i-test.true (omega (arith, length_entries c.args.route.now)) c.from-v.ensures c.entry-id.ensures
    (values_skip c.loop-i.invariant.table (omega arith))
