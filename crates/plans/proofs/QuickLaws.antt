-- Laws of the quick planner: positions, the signs of jumps, its four rounds, and the replies. Assumes nothing.
--
--   places_begins, places_more == the positions of a route's ids, one id more at a time
--   places_off, places_on == whether a node is on the route, by what the table holds
--   place_of p w         == the position on p of a node, if there is one
--   stands_before x w    == the position x comes before the position w, if there is one
--   before_is            == what a test of a position that may be there tells
--   positive_difference  == the sign of a difference
--   jump_sign            == a jump is positive exactly if the node stands on p before the next meeting node
--   Passing p q m next i == the marks of q's nodes from index i on, and the position on p of the first of these on both routes
--   passing_begins, passing_off, passing_on == one node more at a time, from the end of q
--   passed               == all nodes are marked
--   signed_told          == whether a node is a switch with this mark, by a test of it
--   One, Two, Three      == what stands written and placed after the first round, the second and the third
--   forward_room, forward_more == the round of the switches that go forward
--   rest_room, rest_more == the round of the other switches
--   last_room, all_four  == the round of the removes, and then all four
--   switch_jump          == a switch has jumps
--   negative_is          == a jump is negative exactly if it isn't positive
--   Marks o n a b x y    == a good pair, its tables of next values, and the marks of the jumps in both orders
--   back_both, both_back_known == the switches marked in neither order are those that go backward in both
--   four_quick           == the four rounds are those of the quick plan
--   quick_refused, quick_back, quick_given == the replies
use Rattle.std.specs.Prelude.{Option, Some, None, Ok, Err}
use Prim.Native.Nat.{ℕ, zero, suc, ◌+◌, ◌-◌, ◌<◌, ◌≤◌}
use native.Mathlib.Omega.{arith}
use native.Mathlib.Decide.{dec_lt, ℕ_discrete}
use mathlib.Core.Path.{◌≡◌, refl, sym, ap, ◌∙◌, fun_ext}
use mathlib.Core.Bool.{Bool, true, false, not, ◌&&◌, beq}
use mathlib.Core.List.{List, ◌++◌, append_assoc}
use Rattle.std.proofs.Math.Option as Math
use Rattle.std.proofs.Math.Option.{none, some}
use Rattle.std.specs.Option.{MatchOption}
use Rattle.std.proofs.lemmas.Option.{none-some, same_Some}
use lib.ListN.{length, get_or, set, drop, replicate, length-set, length-replicate}
use lib.Seq.{get_or-set_same, get_or-set_other}
use lib.Dec.{ltb}
use lib.IntN.{ℤ, pos, negsuc, ◌-ℤ◌}
use borrow.Author.Tests.{lt-ltb, le-ltb, eqb-true, eq-eqb, ne_eqb, not-true}
use Rattle.house.specs.declared.Refusal.{Refusal}
use Rattle.house.specs.declared.Refusal.TheVariants.{BothBackward}
use Rattle.house.specs.Finds.{Finds, found, nowhere}
use Rattle.house.specs.Numbers.{entries}
use Rattle.house.specs.Refusals.{number, Before, lower, sooner, nearer, First, Clear}
use Rattle.house.proofs.RefusalLaws.{before_number}
use Rattle.graph.proofs.Sums.{get_d_repeat}
use Rattle.routes.specs.Routes.{GoodRoute, Good}
use Rattle.routes.specs.declared.rule.Change.TheVariants.{Switch}
use Rattle.routes.specs.Rules.{change_of, value, Values}
use Rattle.routes.specs.Jumps.{position, first_on, meeting, jump, has_jump, Ranged}
use Rattle.routes.specs.Walk.{State}
use Rattle.routes.proofs.PairLaws.{judge_low}
use Rattle.routes.proofs.RuleLaws.{value_destination, good_swap}
use Rattle.routes.proofs.JumpLaws.{
  position_le,
  position_at,
  position_index,
  position_on,
  position_off,
  has_jump_known,
  jump_has,
  has_jump_swap,
  first_on_past,
  first_on_here,
  first_on_end,
  meeting_is,
  jump_some as jump-is,
  difference,
  jump_range,
}
use Rattle.plans.specs.declared.Given.{Given}
use Rattle.plans.specs.Plan.{together, some_round, switched}
use Rattle.plans.specs.TwoBetween.{positive, negative, forwards, backwards, both_back, quick_rounds}
use Rattle.plans.specs.Replies.{
  PlanFault,
  short_ids,
  short_sizes,
  judged,
  mode_over,
  QuickFault,
  planner,
  both_backward,
  Quicks,
  refused,
  given,
}
use Rattle.plans.specs.Working.{code_of, code_at, coded, Sought, Room, Added, Wrote}
use Rattle.plans.specs.QuickParts.{Places, Forward, signed, Back, four_rounds}
use Rattle.plans.proofs.IdLists.{clash}
use Rattle.plans.proofs.NodeLaws.{value_on, on_below, switch_values}
use Rattle.plans.proofs.SeekLaws.{code_apart as one_code}
use Rattle.plans.proofs.WriteLaws.{added_all}
use Rattle.plans.proofs.PlanLaws.{Stood, stood_room, stood_more, coded_high, install_at, remove_at, switch_at}

-- ---- positions

pub places_begins : (l : List ℕ) → Places l (replicate 512 None) 0
places_begins l =
    record {
      size = length-replicate {A = Option ℕ} 512 None;
      at = λ v h. absurd (omega arith);
      off = λ v h. get_d_repeat {A = Option ℕ} 512 v None;
    }

-- a node that stands at index i is the id there
at_index : (l : List ℕ) (i v : ℕ) → i < length l → position l v ≡ i → v ≡ get_or l i 0
at_index l i v h e = sym (rw e at (position_at l v (omega arith)))

pub places_more :
    {l : List ℕ} {t : List (Option ℕ)} {i v : ℕ}
    → GoodRoute l
    → Places l t i
    → i < length l
    → v ≡ get_or l i 0
    → Places l (set t v (Some i)) (i + 1)
places_more {l} {t} {i} {v} g s h e =
    record {
      size = length-set t v (Some i) ∙ s.size;
      at = λ u k. here u k (ℕ_discrete u v);
      off = λ u k. get_or-set_other t v u (Some i) None (λ q. omega (arith, stands, ap (position l) q)) ∙ s.off u (omega arith);
    }
  where
    stands : position l v ≡ i
    stands = rw e (position_index g i h)

    here : (u : ℕ) → position l u < i + 1 → Dec (u ≡ v) → get_or (set t v (Some i)) u None ≡ Some (position l u)
    here u k (yes q) = rw (q, stands) (get_or-set_same t v (Some i) None (omega (arith, s.size, g.ids i h)))
    here u k (no q) =
        let n : position l u ≡ i → ⊥ = λ z. q (at_index l i u h z ∙ sym e) in
        get_or-set_other t v u (Some i) None q ∙ s.at u (omega arith)

module _ {l : List ℕ} {t : List (Option ℕ)} (s : Places l t (length l)) (v : ℕ) where
  pub places_off : get_or t v None ≡ None → length l ≤ position l v
  places_off e = go (dec_lt (position l v) (length l))
    where
      go : Dec (position l v < length l) → length l ≤ position l v
      go (yes k) = absurd (none-some (position l v) (sym e ∙ s.at v k))
      go (no k) = omega arith

  pub places_on : {x : ℕ} → get_or t v None ≡ Some x → (position l v < length l) × (x ≡ position l v)
  places_on {x} e = go (dec_lt (position l v) (length l))
    where
      go : Dec (position l v < length l) → (position l v < length l) × (x ≡ position l v)
      go (yes k) = (k, same_Some _ _ (sym e ∙ s.at v k))
      go (no k) = absurd (none-some x (sym (s.off v (omega arith)) ∙ e))

-- ---- the signs of jumps

abbrev pub place_of : List ℕ → Math.Option ℕ → Option ℕ
place_of p none = None
place_of p (some w) = Some (position p w)

abbrev pub stands_before : ℕ → Option ℕ → Bool
stands_before x None = false
stands_before x (Some y) = ltb x y

pub before_is :
    {P : ℕ → Type 0} (x : ℕ) (o : Option ℕ) (r : Bool)
    → MatchOption o (r ≡ false) P
    → ((y : ℕ) → P y → r ≡ ltb x y)
    → r ≡ stands_before x o
before_is x None r h f = h
before_is x (Some y) r h f = f y h

pub positive_difference : (a b : ℕ) → positive (some (pos a -ℤ pos b)) ≡ ltb b a
positive_difference a b =
    difference (λ z. positive (some z) ≡ ltb b a) a b (λ h. sym (le-ltb b a (omega arith))) (λ h. go (a - b) refl)
  where
    go : (k : ℕ) → k ≡ a - b → positive (some (pos k)) ≡ ltb b a
    go zero e = sym (le-ltb b a (omega arith))
    go (suc k) e = sym (lt-ltb b a (omega arith))

jump_none : (p q : List ℕ) (v : ℕ) → meeting q p v ≡ none → positive (jump p q v) ≡ false
unfolding jump
jump_none p q v e = rw e

jump_some : (p q : List ℕ) (v w : ℕ) → meeting q p v ≡ some w → positive (jump p q v) ≡ ltb (position p v) (position p w)
unfolding jump
jump_some p q v w e = rw e (positive_difference (position p w) (position p v))

pub jump_sign : (p q : List ℕ) (v : ℕ) → positive (jump p q v) ≡ stands_before (position p v) (place_of p (meeting q p v))
jump_sign p q v = go (meeting q p v) refl
  where
    go : (w : Math.Option ℕ) → meeting q p v ≡ w → positive (jump p q v) ≡ stands_before (position p v) (place_of p w)
    go none e = jump_none p q v e
    go (some w) e = jump_some p q v w e

-- a node that is not on p has no jump: it has no sign
jump_off : (p q : List ℕ) (v : ℕ) → length p ≤ position p v → positive (jump p q v) ≡ false
jump_off p q v h = jump_sign p q v ∙ go (meeting q p v)
  where
    go : (w : Math.Option ℕ) → stands_before (position p v) (place_of p w) ≡ false
    go none = refl
    go (some w) = le-ltb (position p v) (position p w) (omega (arith, position_le p w))

pub record Passing (p q : List ℕ) (m : List Bool) (next : Option ℕ) (i : ℕ) : Type 0 where
  pub marks : Forward p q m i
  pub within : i ≤ length q
  pub met : next ≡ place_of p (first_on p (drop i q))

pub passing_begins : (p q : List ℕ) {i : ℕ} → i ≡ length q → Passing p q (replicate 512 false) None i
passing_begins p q {i} e =
    record {
      marks =
          record {
            size = length-replicate 512 false;
            at =
                λ v h.
                get_d_repeat 512 v false
                ∙ sym (jump_none p q v (meeting_is q p v ∙ first_on_end p q (suc (position q v)) (omega arith)));
            before = λ v h. get_d_repeat 512 v false;
          };
      within = omega arith;
      met = rw (first_on_end p q i (omega arith));
    }

module _
    {p q : List ℕ} {m : List Bool} {next : Option ℕ} {i v : ℕ} (j : ℕ)
    (g : GoodRoute q)
    (s : Passing p q m next i)
    (k : j + 1 ≡ i)
    (e : v ≡ get_or q j 0)
  where
    inside : j < length q
    inside = omega (arith, s.within)

    stands : position q v ≡ j
    stands = rw e (position_index g j inside)

    sign : positive (jump p q v) ≡ stands_before (position p v) next
    sign =
        let n : suc (position q v) ≡ i = omega (arith, stands) in
        let f : meeting q p v ≡ first_on p (drop i q) = meeting_is q p v ∙ rw n in
        jump_sign p q v ∙ rw (f, s.met)

    others : (u : ℕ) → j ≤ position q u → (u ≡ v → ⊥) → i ≤ position q u
    others u h n =
        let d : position q u ≡ j → ⊥ = λ z. n (at_index q j u inside z ∙ sym e) in
        omega arith

    pub passing_off : length p ≤ position p v → Passing p q m next j
    passing_off h =
        record {
          marks =
              record {
                size = s.marks.size;
                at = λ u l. go u l (ℕ_discrete u v);
                before = λ u l. s.marks.before u (omega arith);
              };
          within = omega arith;
          met =
              let n : suc j ≡ i = omega arith in
              let f : first_on p (drop j q) ≡ first_on p (drop i q) = first_on_past p q j inside (rw (sym e) (position_off p v h)) ∙ rw n in
              rw f s.met;
        }
      where
        go : (u : ℕ) → j ≤ position q u → Dec (u ≡ v) → get_or m u false ≡ positive (jump p q u)
        go u l (yes z) = rw z (s.marks.before v (omega (arith, stands)) ∙ sym (jump_off p q v h))
        go u l (no z) = s.marks.at u (others u l z)

    pub passing_on :
        {x : ℕ} {b : Bool}
        → v < 512
        → position p v < length p
        → x ≡ position p v
        → b ≡ stands_before x next
        → Passing p q (set m v b) (Some x) j
    passing_on {x} {b} c h f w =
        record {
          marks =
              record {
                size = length-set m v b ∙ s.marks.size;
                at = λ u l. go u l (ℕ_discrete u v);
                before =
                    λ u l.
                    get_or-set_other m v u b false (λ z. omega (arith, stands, ap (position q) z))
                    ∙ s.marks.before u (omega arith);
              };
          within = omega arith;
          met =
              ap (λ (y : ℕ). Some y) f
              ∙ sym (ap (place_of p) (first_on_here p q j inside (rw (sym e) (position_on p v h))) ∙ rw (sym e) refl);
        }
      where
        go : (u : ℕ) → j ≤ position q u → Dec (u ≡ v) → get_or (set m v b) u false ≡ positive (jump p q u)
        go u l (yes z) =
            rw z
            (get_or-set_same m v b false (omega (arith, s.marks.size))
            ∙ w
            ∙ sym (sign ∙ ap (λ (y : ℕ). stands_before y next) (sym f)))
        go u l (no z) = get_or-set_other m v u b false z ∙ s.marks.at u (others u l z)

pub passed : {p q : List ℕ} {m : List Bool} {next : Option ℕ} {i : ℕ} → Passing p q m next i → i ≤ 0 → Forward p q m 0
passed {i = i} s h = let e : i ≡ 0 = omega arith in rw e at s.marks

-- ---- the four rounds

beq_true : (t : Bool) → beq t true ≡ t
beq_true true = refl
beq_true false = refl

beq_self : (t : Bool) → beq t t ≡ true
beq_self true = refl
beq_self false = refl

beq_other : (s t : Bool) → (s ≡ t → ⊥) → beq s t ≡ false
beq_other true true n = absurd (n refl)
beq_other true false n = refl
beq_other false true n = refl
beq_other false false n = absurd (n refl)

beq_false : (t : Bool) → beq t false ≡ not t
beq_false true = refl
beq_false false = refl

pub signed_told :
    (a b : List ℕ) (v : ℕ) (m : List Bool) (x t : Bool)
    → (t ≡ true → (change_of (get_or a v 512) (get_or b v 512) ≡ Switch) × (get_or m v false ≡ x))
    → (t ≡ false → change_of (get_or a v 512) (get_or b v 512) ≡ Switch → get_or m v false ≡ x → ⊥)
    → signed a b m x v ≡ t
signed_told a b v m x true y n = rw (eq-eqb (code_at a b v) 3 (ap code_of (y refl).0), (y refl).1) (beq_self x)
signed_told a b v m x false y n = go (coded a b 3 v) refl
  where
    go : (s : Bool) → coded a b 3 v ≡ s → (s && beq (get_or m v false) x) ≡ false
    go false e = refl
    go true e = beq_other (get_or m v false) x (n refl (one_code (eqb-true (code_at a b v) 3 e)))

both : (s t : Bool) → (s && t) ≡ true → (s ≡ true) × (t ≡ true)
both true t e = (refl, e)
both false t e = clash e refl

abbrev pub One : List ℕ → List ℕ → List ℕ → List ℕ → List ℕ → List ℕ → List ℕ → Given → Type 0
One a b ids sizes c ids' sizes' g = Stood (some_round (coded a b 1)) (coded a b 1) ids sizes c ids' sizes' g.rounds g.count

abbrev pub Two : List ℕ → List ℕ → List Bool → List ℕ → List ℕ → List ℕ → List ℕ → List ℕ → Given → Type 0
Two a b m ids sizes c ids' sizes' g =
    Stood (some_round (coded a b 1) ++ some_round (signed a b m true)) (together (coded a b 1) (signed a b m true)) ids sizes c ids' sizes'
    g.rounds
    g.count

abbrev pub Three : List ℕ → List ℕ → List Bool → List ℕ → List ℕ → List ℕ → List ℕ → List ℕ → Given → Type 0
Three a b m ids sizes c ids' sizes' g =
    Stood
    ((some_round (coded a b 1) ++ some_round (signed a b m true)) ++ some_round (signed a b m false))
    (together (together (coded a b 1) (signed a b m true)) (signed a b m false))
    ids
    sizes
    c
    ids'
    sizes'
    g.rounds
    g.count

module _ (a b : List ℕ) (m : List Bool) (la : length a ≡ 512) (lb : length b ≡ 512) where
  code_apart : (w u v : ℕ) → (w ≡ u → ⊥) → coded a b w v ≡ true → coded a b u v ≡ false
  code_apart w u v n e = ne_eqb (code_at a b v) u (λ q. n (sym (eqb-true (code_at a b v) w e) ∙ q))

  signed_code : (t : Bool) (v : ℕ) → signed a b m t v ≡ true → coded a b 3 v ≡ true
  signed_code t v e = (both (coded a b 3 v) (beq (get_or m v false) t) e).0

  signed_high : (t : Bool) (v : ℕ) → 512 ≤ v → signed a b m t v ≡ false
  signed_high t v h = rw (coded_high a b la lb 3 (λ e. omega arith) v h)

  not_both : (v : ℕ) → signed a b m false v ≡ true → signed a b m true v ≡ false
  not_both v e =
      let x : not (get_or m v false) ≡ true = sym (beq_false (get_or m v false)) ∙ (both (coded a b 3 v) (beq (get_or m v false) false) e).1 in
      rw (signed_code false v e, not-true (get_or m v false) x)

  module _
      {Rs : List State} {ids sizes c ids' sizes' c₁ : List ℕ} {k n : ℕ}
      (t : Stood Rs (coded a b 1) ids sizes c ids' sizes' k n)
      (s : Sought (signed a b m true) c c₁ 512)
    where
      first_apart : (v : ℕ) → signed a b m true v ≡ true → coded a b 1 v ≡ false
      first_apart v e = code_apart 3 1 v (λ q. omega arith) (signed_code true v e)

      pub forward_room : Room c₁ ids' sizes' k n
      forward_room = stood_room t (signed_high true) first_apart s

      pub forward_more :
          {c₂ ids'' sizes'' : List ℕ} {k' n' : ℕ}
          → Wrote c₁ ids' sizes' k n c₂ ids'' sizes'' k' n'
          → Stood (Rs ++ some_round (signed a b m true)) (together (coded a b 1) (signed a b m true)) ids sizes c₂ ids'' sizes'' k' n'
      forward_more w = stood_more t (signed_high true) first_apart s w

  abbrev placed_two : State
  placed_two = together (coded a b 1) (signed a b m true)

  module _
      {Rs : List State} {ids sizes c ids' sizes' c₁ : List ℕ} {k n : ℕ}
      (t : Stood Rs placed_two ids sizes c ids' sizes' k n)
      (s : Sought (signed a b m false) c c₁ 512)
    where
      second_apart : (v : ℕ) → signed a b m false v ≡ true → placed_two v ≡ false
      second_apart v e = rw (code_apart 3 1 v (λ q. omega arith) (signed_code false v e)) (not_both v e)

      pub rest_room : Room c₁ ids' sizes' k n
      rest_room = stood_room t (signed_high false) second_apart s

      pub rest_more :
          {c₂ ids'' sizes'' : List ℕ} {k' n' : ℕ}
          → Wrote c₁ ids' sizes' k n c₂ ids'' sizes'' k' n'
          → Stood (Rs ++ some_round (signed a b m false)) (together placed_two (signed a b m false)) ids sizes c₂ ids'' sizes'' k' n'
      rest_more w = stood_more t (signed_high false) second_apart s w

  abbrev three : List State
  three = (some_round (coded a b 1) ++ some_round (signed a b m true)) ++ some_round (signed a b m false)

  module _
      {ids sizes c ids' sizes' c₁ : List ℕ} {k n : ℕ}
      (t : Stood three (together placed_two (signed a b m false)) ids sizes c ids' sizes' k n)
      (s : Sought (coded a b 2) c c₁ 512)
    where
      third_apart : (v : ℕ) → coded a b 2 v ≡ true → together placed_two (signed a b m false) v ≡ false
      third_apart v e = rw (code_apart 2 1 v (λ q. omega arith) e, code_apart 2 3 v (λ q. omega arith) e)

      pub last_room : Room c₁ ids' sizes' k n
      last_room = stood_room t (coded_high a b la lb 2 (λ e. omega arith)) third_apart s

      pub all_four :
          {c₂ ids'' sizes'' : List ℕ} {k' n' : ℕ}
          → Wrote c₁ ids' sizes' k n c₂ ids'' sizes'' k' n'
          → Added (four_rounds a b m) ids sizes 0 0 ids'' sizes'' k' n'
      unfolding four_rounds
      all_four w = simp append_assoc at (stood_more t (coded_high a b la lb 2 (λ e. omega arith)) third_apart s w).added

-- ---- switches that go backward in both orders

pub switch_jump : {o n : List ℕ} → Good o n → (v : ℕ) → switched o n v ≡ true → has_jump o n v ≡ true
switch_jump {o} {n} g v e =
    let x = switch_values g v e in
    jump_has
    (record {
      on_old = value_on g.old v (λ q. omega arith);
      on_new = value_on g.new v (λ q. omega arith);
      no_end = λ q. omega (arith, x.0, ap (value o) q, value_destination g.old);
    })

pub negative_is : {p q : List ℕ} → Good p q → (v : ℕ) → has_jump p q v ≡ true → negative (jump p q v) ≡ not (positive (jump p q v))
negative_is {p} {q} g v h = go (jump-is g v h)
  where
    sign : (z : ℤ) → Ranged z → negative (some z) ≡ not (positive (some z))
    sign (pos zero) r = absurd (omega arith)
    sign (pos (suc k)) r = refl
    sign (negsuc k) r = refl

    go : (z : ℤ) × (jump p q v ≡ some z) → negative (jump p q v) ≡ not (positive (jump p q v))
    go (z, e) = rw e (sign z (jump_range g v h e))

pub record Marks (o n a b : List ℕ) (x y : List Bool) : Type 0 where
  pub good : Good o n
  pub olds : Values o a
  pub news : Values n b
  pub in_old : Forward o n x 0
  pub in_new : Forward n o y 0

module _ {o n a b : List ℕ} {x y : List Bool} (k : Marks o n a b x y) where
  switch_is : (v : ℕ) → coded a b 3 v ≡ switched o n v
  switch_is = switch_at k.good k.olds k.news

  old_sign : (v : ℕ) → get_or x v false ≡ positive (jump o n v)
  old_sign v = k.in_old.at v (omega arith)

  new_sign : (v : ℕ) → get_or y v false ≡ positive (jump n o v)
  new_sign v = k.in_new.at v (omega arith)

  old_negative : (v : ℕ) → switched o n v ≡ true → negative (jump o n v) ≡ not (get_or x v false)
  old_negative v e = rw (old_sign v) (negative_is k.good v (switch_jump k.good v e))

  new_negative : (v : ℕ) → switched o n v ≡ true → negative (jump n o v) ≡ not (get_or y v false)
  new_negative v e =
      rw (new_sign v) (negative_is (good_swap k.good) v (sym (has_jump_swap k.good v) ∙ switch_jump k.good v e))

  pub back_both : {v : ℕ} → Back a b x y v → both_back o n v ≡ true
  unfolding both_back
  back_both {v} r =
      let e : switched o n v ≡ true = sym (switch_is v) ∙ eq-eqb (code_at a b v) 3 (ap code_of r.switch) in
      rw (e, old_negative v e, new_negative v e, r.not_first, r.not_second)

  pub both_back_known : {v : ℕ} → both_back o n v ≡ true → Back a b x y v
  unfolding both_back
  both_back_known {v} e =
      let f = both (switched o n v) (negative (jump o n v) && negative (jump n o v)) e in
      let h = both (negative (jump o n v)) (negative (jump n o v)) f.1 in
      record {
        switch = one_code (eqb-true (code_at a b v) 3 (switch_is v ∙ f.0));
        not_first = not-true (get_or x v false) (sym (old_negative v f.0) ∙ h.0);
        not_second = not-true (get_or y v false) (sym (new_negative v f.0) ∙ h.1);
      }

  both_below : (v : ℕ) → both_back o n v ≡ true → v < 512
  unfolding both_back
  both_below v e =
      let f = both (switched o n v) (negative (jump o n v) && negative (jump n o v)) e in
      on_below k.good.old v (has_jump_known o n v (switch_jump k.good v f.0)).on_old

  forward_is : (v : ℕ) → signed a b x true v ≡ forwards o n v
  unfolding forwards
  forward_is v = rw (switch_is v, beq_true (get_or x v false), old_sign v)

  backward_is : (v : ℕ) → signed a b x false v ≡ backwards o n v
  unfolding backwards
  backward_is v = rw (switch_is v, beq_false (get_or x v false), old_sign v)

  pub four_quick : four_rounds a b x ≡ quick_rounds o n
  unfolding four_rounds quick_rounds
  four_quick =
      rw (
        fun_ext (install_at k.good k.olds k.news),
        fun_ext forward_is,
        fun_ext backward_is,
        fun_ext (remove_at k.good k.olds k.news),
      )

-- ---- the replies

pub plan_low : {old new : List ℕ} {mode : ℕ} {ids sizes : List ℕ} {r : Refusal} → PlanFault old new mode ids sizes r → number r ≤ 8
plan_low (short_ids h) = omega arith
plan_low (short_sizes h) = omega arith
plan_low (judged j) = omega (arith, judge_low j)
plan_low (mode_over h) = omega arith

module _ {old new ids sizes : List ℕ} {mode : ℕ} where
  pub quick_refused : {r : Refusal} → First (PlanFault old new mode ids sizes) r → Quicks old new mode ids sizes (Err r) ids sizes
  quick_refused {r} f = refused (record { applies = planner f.applies; lowest = least }) refl refl
    where
      least : (q : Refusal) → QuickFault old new mode ids sizes q → Before q r → ⊥
      least q (planner p) b = f.lowest q p b
      least q (both_backward e) b = omega (arith, plan_low f.applies, before_number b)

  module _
      {a b : List ℕ} {x y : List Bool}
      (c : Clear (PlanFault old new mode ids sizes))
      (k : Marks (entries old) (entries new) a b x y)
    where
      pub quick_back : {r : ℕ} → Finds (Back a b x y) 512 (Some r) → Quicks old new mode ids sizes (Err (BothBackward r)) ids sizes
      quick_back {r} (found h p f) = refused (record { applies = both_backward (back_both k p); lowest = least }) refl refl
        where
          nearest : {u : ℕ} → both_back (entries old) (entries new) u ≡ true → Before (BothBackward u) (BothBackward r) → ⊥
          nearest e (lower l) = omega arith
          nearest e (sooner n l) = omega arith
          nearest {u} e (nearer n s l) = f u l (both_back_known k e)

          least : (q : Refusal) → QuickFault old new mode ids sizes q → Before q (BothBackward r) → ⊥
          least q (planner p) l = c.clear q p
          least q (both_backward e) l = nearest e l

      pub quick_given :
          {g : Given} {ids' sizes' : List ℕ}
          → Finds (Back a b x y) 512 None
          → Added (four_rounds a b x) ids sizes 0 0 ids' sizes' g.rounds g.count
          → Quicks old new mode ids sizes (Ok g) ids' sizes'
      quick_given (nowhere f) w =
          let z = added_all (rw (four_quick k) at w) in
          given (record { clear = clear }) refl z.0 z.1 z.2 z.3
        where
          clear : (q : Refusal) → QuickFault old new mode ids sizes q → ⊥
          clear q (planner p) = c.clear q p
          clear q (both_backward {v} e) = f v (both_below k v e) (both_back_known k e)
