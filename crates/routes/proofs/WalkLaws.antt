-- Laws on the walk.
--
--   some_not_none    == a place isn't none too
--   place_more       == a walk that is at v goes on as the rule of v says
--   place_over       == a walk that has ended has ended for ever
--   place_last       == past a node that has no rule there is no place
--   place_again      == two places that are the same have the same places after them
--   place_one        == the walk is at one node after a number of hops
--   never_ends       == a walk that comes to a node twice has a place after any number of hops
--   walks_one        == the walk comes to exactly one of its answers, which settles node and hops
--   state_destination == in no state of a good pair has the destination a rule
--   walk_clear_judge == where no refusal applies to the walk, none applies to the pair
--   walk_reply_one   == `walk` has one reply
use Rattle.std.specs.Prelude.{Result, Ok, Err}
use Rattle.house.specs.declared.Refusal.{Refusal}
use Prim.Native.Nat.{ℕ, zero, suc, ◌+◌, ◌-◌, ◌<◌, ◌≤◌}
use mathlib.Core.Path.{◌≡◌, sym, ap, ◌∙◌}
use mathlib.Core.Bool.{Bool, true, false, cond}
use mathlib.Core.List.{List}
use mathlib.Core.Option.{Option, none, some}
use native.Mathlib.Decide.{dec_lt}
use native.Mathlib.Omega.{arith}
use Rattle.house.specs.Numbers.{words}
use Rattle.house.specs.Sets.{has}
use Rattle.house.specs.Refusals.{Clear}
use Rattle.house.proofs.RefusalLaws.{first_one, first_not_clear}
use Rattle.routes.specs.Routes.{Good, destination}
use Rattle.routes.specs.Rules.{rule}
use Rattle.routes.specs.Walk.{State, in_state, place, hop, Twice, Walks, arrived, dropped, looped}
use Rattle.routes.specs.Replies.{JudgeFault, WalkFault, judged, WalkReply, refused, walked}
use Rattle.routes.specs.declared.walk.Walked.{Walked}
use Rattle.routes.specs.declared.walk.Walked.TheVariants.{Arrived}
use Rattle.routes.proofs.PairLaws.{clear_good}
use Rattle.routes.proofs.RuleLaws.{rule_destination}

pub some_not_none : {o : Option ℕ} {v : ℕ} → o ≡ some v → o ≡ none → ⊥
some_not_none p q = let z : ◌≡◌ {A = ℕ} 0 1 = cc in omega arith

module _ (f : ℕ → Option ℕ) (s : ℕ) where
  pub place_more : {v : ℕ} (k : ℕ) → place f s k ≡ some v → place f s (suc k) ≡ f v
  unfolding place
  place_more k e = ap (hop f) e

  pub place_over : (k j : ℕ) → k ≤ j → place f s k ≡ none → place f s j ≡ none
  unfolding place
  place_over k zero h e = let z : k ≡ 0 = omega arith in rw z at e
  place_over k (suc j) h e = go (dec_lt k (suc j)) (λ l. place_over k j l e)
    where
      go : Dec (k < suc j) → (k ≤ j → place f s j ≡ none) → place f s (suc j) ≡ none
      go (yes l) before = ap (hop f) (before (omega arith))
      go (no n) before = let z : k ≡ suc j = omega arith in rw z at e

  pub place_last : {v : ℕ} (k j : ℕ) → place f s k ≡ some v → f v ≡ none → k < j → place f s j ≡ none
  place_last k j e n h = place_over (suc k) j h (place_more k e ∙ n)

  pub place_again : (i j m : ℕ) → place f s i ≡ place f s j → place f s (i + m) ≡ place f s (j + m)
  unfolding place
  place_again i j zero e =
      let a : i + 0 ≡ i = omega arith in
      let b : j + 0 ≡ j = omega arith in
      rw (a, b) e
  place_again i j (suc m) e =
      let a : i + suc m ≡ suc (i + m) = omega arith in
      let b : j + suc m ≡ suc (j + m) = omega arith in
      rw (a, b) (ap (hop f) (place_again i j m e))

  module _ {v i j : ℕ} (p : place f s i ≡ some v) (q : place f s j ≡ some v) (h : i < j) where
    -- a place past j stands j - i before it already
    earlier : (k : ℕ) → j < k → place f s (i + (k - j)) ≡ place f s k
    earlier k l =
        let e : j + (k - j) ≡ k = omega arith in
        rw e at (place_again i j (k - j) (p ∙ sym q))

    never_within : (b k : ℕ) → k ≤ b → place f s k ≡ none → ⊥
    never_within zero k l e = some_not_none q (place_over k j (omega arith) e)
    never_within (suc b) k l e = go (dec_lt j k) (λ g. never_within b (i + (k - j)) g)
      where
        go : Dec (j < k) → (i + (k - j) ≤ b → place f s (i + (k - j)) ≡ none → ⊥) → ⊥
        go (yes g) before = before (omega arith) (earlier k g ∙ e)
        go (no n) before = some_not_none q (place_over k j (omega arith) e)

    pub never_ends : (k : ℕ) → place f s k ≡ none → ⊥
    never_ends k = never_within k k (omega arith)

  -- a node that has no rule and that the walk comes to is the only one, and is come to once
  last_one :
      {v w : ℕ} (k l : ℕ)
      → place f s k ≡ some v
      → f v ≡ none
      → place f s l ≡ some w
      → f w ≡ none
      → k ≡ l
  last_one k l p a q b = go (dec_lt k l) (dec_lt l k)
    where
      go : Dec (k < l) → Dec (l < k) → k ≡ l
      go (yes h) d = absurd (some_not_none q (place_last k l p a h))
      go (no h) (yes g) = absurd (some_not_none p (place_last l k q b g))
      go (no h) (no g) = omega arith

  pub place_one : {v w : ℕ} (k l : ℕ) → k ≡ l → place f s k ≡ some v → place f s l ≡ some w → v ≡ w
  place_one k l e p q = cc

  not_twice : {v w k : ℕ} (l : ℕ) → Twice f s v k → place f s l ≡ some w → f w ≡ none → ⊥
  not_twice l t q b = never_ends t.there t.again t.before (suc l) (place_more l q ∙ b)

  first_twice :
      {v w k l : ℕ}
      → Twice f s v k
      → ((u m : ℕ) → m < k → Twice f s u m → ⊥)
      → Twice f s w l
      → ((u m : ℕ) → m < l → Twice f s u m → ⊥)
      → k ≡ l
  first_twice {v} {w} {k} {l} t a u b = go (dec_lt k l) (dec_lt l k)
    where
      go : Dec (k < l) → Dec (l < k) → k ≡ l
      go (yes h) d = absurd (b v k h t)
      go (no h) (yes g) = absurd (a w l g u)
      go (no h) (no g) = omega arith

pub walks_one : {f : ℕ → Option ℕ} {s d : ℕ} {a b : Walked}
    → f d ≡ none
    → Walks f s d a
    → Walks f s d b
    → a ≡ b
walks_one {f} {s} n (arrived {k} p) (arrived {k = l} q) = ap Arrived (last_one f s k l p n q n)
walks_one {f} {s} n (arrived {k} p) (dropped {v = w} {k = l} q x r) =
    absurd (x (sym (place_one f s k l (last_one f s k l p n q r) p q)))
walks_one {f} {s} n (arrived {k} p) (looped t o) = absurd (not_twice f s k t p n)
walks_one {f} {s} n (dropped {v} {k} p x r) (arrived {k = l} q) =
    absurd (x (place_one f s k l (last_one f s k l p r q n) p q))
walks_one {f} {s} n (dropped {v} {k} p x r) (dropped {v = w} {k = l} q y t) =
    let e : k ≡ l = last_one f s k l p r q t in
    let g : v ≡ w = place_one f s k l e p q in
    cc
walks_one {f} {s} n (dropped {v} {k} p x r) (looped t o) = absurd (not_twice f s k t p r)
walks_one {f} {s} n (looped t o) (arrived {k = l} q) = absurd (not_twice f s l t q n)
walks_one {f} {s} n (looped t o) (dropped {v = w} {k = l} q y r) = absurd (not_twice f s l t q r)
walks_one {f} {s} n (looped {v} {k} t o) (looped {v = w} {k = l} u x) =
    let e : k ≡ l = first_twice f s t o u x in
    let g : v ≡ w = place_one f s k l e t.again u.again in
    cc

pub state_destination : {o n : List ℕ} → Good o n → (X : State) → in_state o n X (destination o) ≡ none
state_destination {o} {n} g X = go (X (destination o))
  where
    go : (b : Bool) → cond b (rule n (destination o)) (rule o (destination o)) ≡ none
    go true = rw g.destinations (rule_destination g.new)
    go false = rule_destination g.old

pub walk_clear_judge : {old new set : List ℕ} → Clear (WalkFault old new set) → Clear (JudgeFault old new)
walk_clear_judge k = record { clear = λ q j. k.clear q (judged j) }

pub walk_reply_one : {old new set : List ℕ} {a b : Result Walked Refusal} → WalkReply old new set a → WalkReply old new set b → a ≡ b
walk_reply_one (refused f) (refused g) = ap Err (first_one f g)
walk_reply_one (refused f) (walked k w) = absurd (first_not_clear f k)
walk_reply_one (walked k w) (refused f) = absurd (first_not_clear f k)
walk_reply_one {set = set} (walked k v) (walked l w) =
    ap Ok (walks_one (state_destination (clear_good (walk_clear_judge k)) (has (words set))) v w)
