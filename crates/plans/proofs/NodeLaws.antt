-- Where a node stands on a good route, where it goes from there, and what a good pair has it do. Assumes nothing.
--
-- Of a list l:
--   On l x               == x is on l
--   OnWay l y            == y is on l, or is the hand-off
--   off_value            == a node that isn't on l has the next value 512
--   Next l x             == x is handed off, or goes to the next position of l
--
-- Of a good route l:
--   on_value, value_on   == a node is on l exactly if its next value isn't 512
--   on_below, end_off    == what is on l is an id
--   source_on            == the source is on l
--   way_not_nothing      == 512 is neither on l nor the hand-off
--   onward_next          == a next value that is a node stands at the next position
--   next_on              == what Next says of each node on l
--   way_next             == the next value of a node on l is on l, or is the hand-off
--
-- Of a pair o, n:
--   switched o n         == all switches
--   Kind o n v           == v is kept, an install, a remove or a switch, with its next values
--   install_remove       == the installs of the change back are the removes
--   keep_switches        == the switches of the plan are those of the new route, backward
--
-- Of a good pair o, n:
--   kind                 == each node is one of these
--   install_values, switch_values == the next values of an install and of a switch
use Prim.Native.Nat.{ℕ, suc, ◌+◌, ◌<◌, ◌≤◌}
use native.Mathlib.Omega.{arith}
use native.Mathlib.Decide.{dec_lt, ℕ_discrete}
use mathlib.Core.Path.{◌≡◌, refl, sym, ap, ◌∙◌}
use mathlib.Core.Bool.{Bool, true, false, cond}
use mathlib.Core.List.{List, reverse}
use mathlib.Core.Logic.{◌⊎◌, inl, inr}
use mathlib.Core.Option.{Option, none, some}
use lib.ListN.{length}
use lib.Dec.{eqb}
use borrow.Author.Tests.{eq-eqb, ne_eqb}
use Rattle.routes.specs.Routes.{source, GoodRoute, Good}
use Rattle.routes.specs.Rules.{rule, value, change}
use Rattle.routes.specs.Jumps.{position}
use Rattle.routes.specs.declared.rule.Change.TheVariants.{Kept, Install, Remove, Switch}
use Rattle.routes.proofs.JumpLaws.{position_at, position_before, position_index}
use Rattle.routes.proofs.RuleLaws.{
  Look,
  off,
  last,
  inner,
  look,
  value_off,
  nothing_off,
  Hop,
  rule_hop,
  onward_rule,
  rule_onward,
}
use Rattle.routes.proofs.RuleLaws.{Told, nothing, handed, onward, told, both_handed, good_swap}
use Rattle.plans.specs.Plan.{is_install, is_remove, is_switch, installs, removes, keep, switches, switched}
use Rattle.plans.proofs.IdLists.{clash}

abbrev pub On : List ℕ → ℕ → Type 0
On l x = position l x < length l

abbrev pub OnWay : List ℕ → ℕ → Type 0
OnWay l y = (y ≡ 513) ⊎ On l y

pub off_value : (l : List ℕ) (x : ℕ) → length l ≤ position l x → value l x ≡ 512
off_value l x h = value_off l x (λ i k e. position_before l x i (omega arith) e)

pub data Next (l : List ℕ) (x : ℕ) : Type 0 where
  ends : value l x ≡ 513 → Next l x
  goes_on : value l x < 512 → position l (value l x) ≡ suc (position l x) → suc (position l x) < length l → Next l x

module _ {l : List ℕ} (g : GoodRoute l) where
  pub on_value : (x : ℕ) → On l x → value l x ≡ 512 → ⊥
  on_value x h e = nothing_off g x e (position l x) h (position_at l x h)

  pub value_on : (x : ℕ) → (value l x ≡ 512 → ⊥) → On l x
  value_on x n = go (dec_lt (position l x) (length l))
    where
      go : Dec (On l x) → On l x
      go (yes h) = h
      go (no h) = absurd (n (off_value l x (omega arith)))

  pub on_below : (x : ℕ) → On l x → x < 512
  on_below x h = omega (arith, position_at l x h, g.ids (position l x) h)

  pub end_off : (x : ℕ) → 512 ≤ x → length l ≤ position l x
  end_off x h = go (dec_lt (position l x) (length l))
    where
      go : Dec (On l x) → length l ≤ position l x
      go (yes k) = absurd (omega (arith, on_below x k))
      go (no k) = omega arith

  pub source_on : On l (source l)
  source_on = omega (arith, g.least, position_index g 0 (omega (arith, g.least)))

  pub way_not_nothing : OnWay l 512 → ⊥
  way_not_nothing (inl e) = omega arith
  way_not_nothing (inr h) = omega (arith, on_below 512 h)

  pub onward_next : (x : ℕ) → value l x < 512 → (position l (value l x) ≡ suc (position l x)) × (suc (position l x) < length l)
  onward_next x h =
      let k : Hop l x (value l x) = rule_hop l x (onward_rule g x h) in
      let p : position l x ≡ k.index = ap (position l) (sym k.here) ∙ position_index g k.index (omega arith) in
      let q : position l (value l x) ≡ k.index + 1 =
      ap (position l) (sym k.next) ∙ position_index g (k.index + 1) k.within
      in
      (omega arith, omega arith)

  pub next_on : (x : ℕ) → On l x → Next l x
  next_on x h = go (look l x)
    where
      go : Look l x → Next l x
      go (off o r e) = absurd (on_value x h e)
      go (last k a r e) = ends e
      go (inner k a b r e) =
          let u : value l x < 512 = rule_onward g x r in
          goes_on u (onward_next x u).0 (onward_next x u).1

  pub way_next : (x y : ℕ) → On l x → value l x ≡ y → OnWay l y
  way_next x y h e = go (next_on x h)
    where
      go : Next l x → OnWay l y
      go (ends q) = inl (sym e ∙ q)
      go (goes_on a p q) = inr (omega (arith, ap (position l) e))

-- from the rule p to the rule q, where the next values are a and b
pub data KindOf (p q : Option ℕ) (a b : ℕ) : Type 0 where
  kept : a ≡ b → change p q ≡ Kept → KindOf p q a b
  install : a ≡ 512 → b < 512 → change p q ≡ Install → KindOf p q a b
  remove : a < 512 → b ≡ 512 → change p q ≡ Remove → KindOf p q a b
  switch : a < 512 → b < 512 → change p q ≡ Switch → KindOf p q a b

abbrev pub Kind : List ℕ → List ℕ → ℕ → Type 0
Kind o n v = KindOf (rule o v) (rule n v) (value o v) (value n v)

kinds :
    {p q : Option ℕ} {a b : ℕ}
    → Told p a
    → Told q b
    → (a ≡ 513 → b ≡ 513)
    → (b ≡ 513 → a ≡ 513)
    → KindOf p q a b
kinds nothing nothing f g = kept refl refl
kinds nothing handed f g = absurd (omega (arith, g refl))
kinds nothing (onward h) f g = install refl h refl
kinds handed nothing f g = absurd (omega (arith, f refl))
kinds handed handed f g = kept refl refl
kinds handed (onward h) f g = absurd (omega (arith, f refl))
kinds (onward h) nothing f g = remove h refl refl
kinds (onward h) handed f g = absurd (omega (arith, g refl))
kinds (onward {w} h) (onward {w = u} k) f g = go (ℕ_discrete w u)
  where
    go : Dec (w ≡ u) → KindOf (some w) (some u) w u
    go (yes e) = kept e (rw (eq-eqb w u e))
    go (no e) = switch h k (rw (ne_eqb w u e))

pub kind : {o n : List ℕ} → Good o n → (v : ℕ) → Kind o n v
kind g v = kinds (told g.old v) (told g.new v) (both_handed g v) (both_handed (good_swap g) v)

pub install_values : {o n : List ℕ} → Good o n → (v : ℕ) → installs o n v ≡ true → (value o v ≡ 512) × (value n v < 512)
unfolding installs
install_values {o} {n} g v e = go (kind g v)
  where
    go : Kind o n v → (value o v ≡ 512) × (value n v < 512)
    go (kept q c) = clash e (ap is_install c)
    go (install a b c) = (a, b)
    go (remove a b c) = clash e (ap is_install c)
    go (switch a b c) = clash e (ap is_install c)

pub switch_values : {o n : List ℕ} → Good o n → (v : ℕ) → switched o n v ≡ true → (value o v < 512) × (value n v < 512)
switch_values {o} {n} g v e = go (kind g v)
  where
    go : Kind o n v → (value o v < 512) × (value n v < 512)
    go (kept q c) = clash e (ap is_switch c)
    go (install a b c) = clash e (ap is_switch c)
    go (remove a b c) = clash e (ap is_switch c)
    go (switch a b c) = (a, b)

pub install_remove : (o n : List ℕ) (v : ℕ) → installs n o v ≡ removes o n v
unfolding installs removes
install_remove o n v = go (rule o v) (rule n v)
  where
    neither : (s t : Bool) → is_install (cond s Kept Switch) ≡ is_remove (cond t Kept Switch)
    neither true true = refl
    neither true false = refl
    neither false true = refl
    neither false false = refl

    go : (p q : Option ℕ) → is_install (change q p) ≡ is_remove (change p q)
    go none none = refl
    go none (some b) = refl
    go (some a) none = refl
    go (some a) (some b) = neither (eqb b a) (eqb a b)

pub keep_switches : (o n : List ℕ) → switches o n ≡ keep (switched o n) (reverse n)
unfolding switches
keep_switches o n = refl
