-- Laws on positions and jumps. In a law p is the route in whose order a jump is, q the other one.
--
--   first_at_one     == there is one first number
--   position_le, position_at, position_before == v's position is at most the length; v stands there if it is below the
--                       length; v doesn't stand before it
--   position_first   == v's position is the first index of l where v stands; position_is == and no other number is
--   sought, unsought == a search for v answers v's position, or None where v isn't on l
--   position_index   == on a good route the position of the id at index i is i
--   on_position, position_on, position_off == v is on l where its position is below the length, and only there
--   HasJump o n v    == what `has_jump` says, by its three parts
--   has_jump_known, jump_has == from the test to its parts and back
--   has_swap, has_jump_swap == the routes of a good pair may be exchanged in both
--   first_on_past, first_on_here, first_on_end == the first shared id from index i on: passing i, at i, past the end
--   Met p q v w      == w is the next meeting node along q after v, with its index there
--   meeting_is       == where the next meeting node is looked for; met_from == and is found
--   meets            == a node that has a jump has a next meeting node
--   jump_met         == the jump is the difference of the two positions
--   met_small        == on a good route the position of a shared id is below 256
--   off_old, off_new, none_met == v has no jump: where it isn't on one of the routes, and where no next meeting node is found
--   jump_in          == and has one where all three are found
--   jump_some        == a node that has a jump has one in the order of either route (by good_swap and has_jump_swap)
--   difference       == a fact of the difference of two numbers, by which is greater
--   jump_range       == a jump is from -253 to 255 and not 0
--   or_refused, or_jump == the jump of a node, or the refusal for None
--   jumps_judged, jumps_none, jumps_by == the three ways to the reply of `jumps`
--   jumps_one        == `jumps` has one reply
--   jumps_range      == both jumps of a reply are in range
use Rattle.std.specs.Prelude.{Result, Ok, Err, ok_or, Option as Answer, Some, None}
use Rattle.routes.specs.declared.jump.NodeJumps.{NodeJumps}
use Prim.Native.Nat.{ℕ, zero, suc, ◌+◌, ◌-◌, ◌<◌, ◌≤◌}
use mathlib.Core.Path.{◌≡◌, refl, sym, ap, ◌∙◌}
use mathlib.Core.Bool.{Bool, true, false, not, ◌&&◌}
use mathlib.Core.List.{List, [], ◌∷◌}
use mathlib.Core.Logic.{◌⊎◌, inl, inr}
use mathlib.Core.Option.{Option, none, some}
use native.Mathlib.Decide.{dec_lt, ℕ_discrete}
use native.Mathlib.Numerals.{add-one}
use native.Mathlib.Omega.{arith}
use lib.ListN.{length, get_or, drop, length-drop, drop_of_length-le}
use lib.Seq.{drop-cons, get_or-drop}
use lib.Dec.{eqb, ltb}
use lib.IntN.{ℤ, pos, negsuc, ◌-ℤ◌}
use borrow.Author.Tests.{ltb-true, ltb-false, lt-ltb, le-ltb, eqb-true, eqb-false, ne_eqb, not-true}
use mir.Syntax.{w32}
use mir.Val.{SFits}
use Rattle.routes.specs.Routes.{destination, GoodRoute, Good, FirstAt}
use Rattle.routes.specs.Jumps.{position, on, first_on, meeting, jump, has_jump, Meets, met, unmet, JumpIn, has_one, has_none, Ranged}
use Rattle.routes.specs.Replies.{JudgeFault, Judges, sound, faulty, JumpFault, judged, no_jump, Jumps, refused, jumped}
use Rattle.routes.proofs.PairLaws.{clear_good, judge_first_in}
use Rattle.routes.proofs.RuleLaws.{good_swap}
use Rattle.routes.proofs.TestLaws.{first_at}
use Rattle.house.specs.Finds.{Finds, found}
use Rattle.house.specs.Refusals.{number, Before}
use Rattle.house.specs.Numbers.{entries}
use Rattle.house.specs.declared.Refusal.{Refusal}
use Rattle.house.specs.declared.Refusal.TheVariants.{NoJump}
use Rattle.house.proofs.RefusalLaws.{first_one, first_not_clear, before_irreflexive}

-- a Bool is true or false, with the equation
by_bool : {A : Type 0} (b : Bool) → (b ≡ true → A) → (b ≡ false → A) → A
by_bool true f g = f refl
by_bool false f g = g refl

pub first_at_one : {P : ℕ → Type 0} {n a b : ℕ} → FirstAt P n a → FirstAt P n b → a ≡ b
first_at_one {P} {n} {a} {b} f g = go (dec_lt a b) (dec_lt b a)
  where
    go : Dec (a < b) → Dec (b < a) → a ≡ b
    go (yes h) d = absurd (g.none_before a h (f.found (omega (arith, g.within))))
    go (no h) (yes k) = absurd (f.none_before b k (g.found (omega (arith, f.within))))
    go (no h) (no k) = omega arith

pub position_le : (l : List ℕ) (v : ℕ) → position l v ≤ length l
unfolding position
position_le [] v = omega arith
position_le (a ∷ l) v = by_bool (eqb v a) (λ e. rw e (omega arith)) (λ e. rw e (omega (arith, position_le l v)))

pub position_at : (l : List ℕ) (v : ℕ) → position l v < length l → get_or l (position l v) 0 ≡ v
unfolding position
position_at [] v h = absurd (omega arith)
position_at (a ∷ l) v h =
    by_bool (eqb v a) (λ e. rw e (sym (eqb-true v a e))) (λ e. rw e (position_at l v (omega (arith, rw e at h))))

pub position_before : (l : List ℕ) (v k : ℕ) → k < position l v → get_or l k 0 ≡ v → ⊥
unfolding position
position_before [] v k h e = omega arith
position_before (a ∷ l) v zero h e =
    by_bool (eqb v a) (λ t. omega (arith, rw t at h)) (λ t. eqb-false v a t (sym e))
position_before (a ∷ l) v (suc k) h e =
    by_bool (eqb v a) (λ t. omega (arith, rw t at h)) (λ t. position_before l v k (omega (arith, rw t at h)) e)

pub position_first : (l : List ℕ) (v : ℕ) → FirstAt (λ k. get_or l k 0 ≡ v) (length l) (position l v)
position_first l v =
    record { within = position_le l v; none_before = position_before l v; found = position_at l v }

pub position_is : (l : List ℕ) (v : ℕ) {n i : ℕ} → n ≡ length l → FirstAt (λ k. get_or l k 0 ≡ v) n i → i ≡ position l v
position_is l v e f = first_at_one (rw e at f) (position_first l v)

pub sought :
    (l : List ℕ) (v : ℕ) {i : ℕ}
    → Finds (λ k. get_or l k 0 ≡ v) (length l) (Some i)
    → (i ≡ position l v) × (i < length l)
sought l v (found h e f) = (position_is l v refl (first_at (found h e f)), h)

pub unsought : (l : List ℕ) (v : ℕ) → Finds (λ k. get_or l k 0 ≡ v) (length l) None → position l v ≡ length l
unsought l v f = sym (position_is l v refl (first_at f))

pub position_index : {l : List ℕ} → GoodRoute l → (i : ℕ) → i < length l → position l (get_or l i 0) ≡ i
position_index {l} g i h =
    first_at_one (position_first l (get_or l i 0))
    (record { within = omega arith; none_before = λ k b e. g.distinct k i b h e; found = λ _. refl })

pub on_position : (l : List ℕ) (v : ℕ) → on l v ≡ true → position l v < length l
unfolding on
on_position l v e = ltb-true (position l v) (length l) e

pub position_on : (l : List ℕ) (v : ℕ) → position l v < length l → on l v ≡ true
unfolding on
position_on l v h = lt-ltb (position l v) (length l) h

pub position_off : (l : List ℕ) (v : ℕ) → length l ≤ position l v → on l v ≡ false
unfolding on
position_off l v h = le-ltb (position l v) (length l) h

-- an id of a route is on it
index_on : {l : List ℕ} → GoodRoute l → (i : ℕ) → i < length l → on l (get_or l i 0) ≡ true
index_on {l} g i h = position_on l (get_or l i 0) (omega (arith, position_index g i h))

-- three Bools that are true together are each true
all_three : (a b c : Bool) → (a && b && c) ≡ true → (a ≡ true) × (b ≡ true) × (c ≡ true)
all_three true true true e = (refl, refl, refl)
all_three true true false e = (refl, refl, e)
all_three true false c e = (refl, e, cc)
all_three false b c e = (e, cc, cc)

-- what `has_jump` says, one by one
pub record HasJump (o n : List ℕ) (v : ℕ) : Type 0 where
  pub on_old : position o v < length o
  pub on_new : position n v < length n
  pub no_end : v ≡ destination o → ⊥

pub has_jump_known : (o n : List ℕ) (v : ℕ) → has_jump o n v ≡ true → HasJump o n v
unfolding has_jump
has_jump_known o n v e =
    let t = all_three (on o v) (on n v) (not (eqb v (destination o))) e in
    record {
      on_old = on_position o v t.0;
      on_new = on_position n v t.1;
      no_end = eqb-false v (destination o) (not-true _ t.2);
    }

pub jump_has : {o n : List ℕ} {v : ℕ} → HasJump o n v → has_jump o n v ≡ true
unfolding has_jump
jump_has {o} {n} {v} h =
    simp (position_on o v h.on_old, position_on n v h.on_new, ne_eqb v (destination o) h.no_end)

pub has_swap : {o n : List ℕ} {v : ℕ} → Good o n → HasJump o n v → HasJump n o v
has_swap g h =
    record { on_old = h.on_new; on_new = h.on_old; no_end = λ e. h.no_end (e ∙ sym g.destinations) }

pub has_jump_swap : {o n : List ℕ} → Good o n → (v : ℕ) → has_jump o n v ≡ has_jump n o v
has_jump_swap {o} {n} g v =
    by_bool (has_jump o n v) (λ e. e ∙ sym (jump_has (has_swap g (has_jump_known o n v e))))
    (λ e. by_bool (has_jump n o v) (λ f. jump_has (has_swap (good_swap g) (has_jump_known n o v f)) ∙ sym f) (λ f. e ∙ sym f))

pub first_on_past : (p l : List ℕ) (i : ℕ) → i < length l → on p (get_or l i 0) ≡ false → first_on p (drop i l) ≡ first_on p (drop (suc i) l)
unfolding first_on
first_on_past p l i h e = rw (drop-cons l i 0 h, e)

pub first_on_here : (p l : List ℕ) (i : ℕ) → i < length l → on p (get_or l i 0) ≡ true → first_on p (drop i l) ≡ some (get_or l i 0)
unfolding first_on
first_on_here p l i h e = rw (drop-cons l i 0 h, e)

pub first_on_end : (p l : List ℕ) (i : ℕ) → length l ≤ i → first_on p (drop i l) ≡ none
unfolding first_on
first_on_end p l i h = rw (drop_of_length-le l h)

-- where some id of l is on p, the first such is at an index of l
first_on_found :
    (p l : List ℕ) (j : ℕ)
    → j < length l
    → on p (get_or l j 0) ≡ true
    → (k : ℕ) × (k < length l) × (on p (get_or l k 0) ≡ true) × (first_on p l ≡ some (get_or l k 0))
unfolding first_on
first_on_found p [] j h e = absurd (omega arith)
first_on_found p (a ∷ l) zero h e = (0, omega arith, e, rw e)
first_on_found p (a ∷ l) (suc j) h e = go (first_on_found p l j (omega arith) e)
  where
    go :
        (k : ℕ) × (k < length l) × (on p (get_or l k 0) ≡ true) × (first_on p l ≡ some (get_or l k 0))
        → (k : ℕ) × (k < length (a ∷ l)) × (on p (get_or (a ∷ l) k 0) ≡ true) × (first_on p (a ∷ l) ≡ some (get_or (a ∷ l) k 0))
    go (k, b, t, f) = by_bool (on p a) (λ s. (0, omega arith, s, rw s)) (λ s. (suc k, omega arith, t, rw s f))

pub record Met (p q : List ℕ) (v w : ℕ) : Type 0 where
  pub meets : meeting q p v ≡ some w
  pub index : ℕ
  pub later : position q v < index
  pub within : index < length q
  pub there : get_or q index 0 ≡ w
  pub shared : position p w < length p

-- a node that has a jump isn't the last of the old route
not_last : {o n : List ℕ} {v : ℕ} → HasJump o n v → suc (position o v) < length o
not_last {o} {n} {v} h = go (ℕ_discrete (suc (position o v)) (length o))
  where
    go : Dec (suc (position o v) ≡ length o) → suc (position o v) < length o
    go (yes e) =
        let f : length o - 1 ≡ position o v = omega arith in
        absurd (h.no_end (sym (rw f (position_at o v h.on_old))))
    go (no e) = omega (arith, h.on_old)

pub meeting_is : (q p : List ℕ) (v : ℕ) → meeting q p v ≡ first_on p (drop (suc (position q v)) q)
unfolding meeting
meeting_is q p v = refl

pub meets : {p q : List ℕ} {v : ℕ} → Good p q → HasJump p q v → (w : ℕ) × Met p q v w
meets {p} {q} {v} g h = go (first_on_found p rest j (rw length-drop (omega (arith, inside))) last_on)
  where
    i : ℕ
    i = suc (position q v)

    rest : List ℕ
    rest = drop i q

    j : ℕ
    j = length q - 1 - i

    inside : i < length q
    inside = not_last (has_swap g h)

    last_on : on p (get_or rest j 0) ≡ true
    last_on =
        let e : i + j ≡ length q - 1 = omega (arith, inside) in
        rw (get_or-drop i q j 0, e, ← g.destinations) (index_on g.old (length p - 1) (omega (arith, g.old.least)))

    go :
        (k : ℕ) × (k < length rest) × (on p (get_or rest k 0) ≡ true) × (first_on p rest ≡ some (get_or rest k 0))
        → (w : ℕ) × Met p q v w
    go (k, b, t, f) = (
      get_or rest k 0,
      record {
        meets = meeting_is q p v ∙ f;
        index = i + k;
        later = omega arith;
        within = omega (arith, inside, rw length-drop at b);
        there = sym (get_or-drop i q k 0);
        shared = on_position p (get_or rest k 0) t;
      },
    )

pub met_from : {p q : List ℕ} {v w i : ℕ} → Met p q v w → i ≡ position q v → first_on p (drop (i + 1) q) ≡ some w
met_from {p} {q} {v} {w} {i} m e = rw (add-one i, e) (sym (meeting_is q p v) ∙ m.meets)

jump_meets : (p q : List ℕ) (v : ℕ) {w : ℕ} → meeting q p v ≡ some w → jump p q v ≡ some (pos (position p w) -ℤ pos (position p v))
unfolding jump
jump_meets p q v e = rw e

pub jump_met : {p q : List ℕ} {v w : ℕ} → Met p q v w → jump p q v ≡ some (pos (position p w) -ℤ pos (position p v))
jump_met {p} {q} {v} m = jump_meets p q v m.meets

none_not_some : {w : ℕ} → ◌≡◌ {A = Option ℕ} none (some w) → ⊥
none_not_some e = let z : ◌≡◌ {A = ℕ} 0 1 = cc in omega arith

-- the first shared id is shared
first_on_is : (p l : List ℕ) {w : ℕ} → first_on p l ≡ some w → on p w ≡ true
unfolding first_on
first_on_is p [] e = absurd (none_not_some e)
first_on_is p (a ∷ l) {w} e =
    by_bool (on p a) (λ t. let s : a ≡ w = cc (rw t at e) in rw s at t) (λ t. first_on_is p l (rw t at e))

pub met_small : {p l : List ℕ} {m : ℕ} → GoodRoute p → Meets p l (Some m) → m < 256
met_small {p} {l} g (met {w} e) = omega (arith, on_position p w (first_on_is p l e), g.most)

without : {p q : List ℕ} {v : ℕ} → (HasJump p q v → ⊥) → JumpIn p q v None
without {p} {q} {v} f =
    has_none (by_bool (has_jump p q v) (λ t. absurd (f (has_jump_known p q v t))) (λ t. t))

pub off_old : {p q : List ℕ} {v : ℕ} → position p v ≡ length p → JumpIn p q v None
off_old e = without (λ h. omega (arith, e, h.on_old))

pub off_new : {p q : List ℕ} {v : ℕ} → position q v ≡ length q → JumpIn p q v None
off_new e = without (λ h. omega (arith, e, h.on_new))

pub none_met : {p q : List ℕ} {v i : ℕ} → Good p q → i ≡ position q v → Meets p (drop (i + 1) q) None → JumpIn p q v None
none_met {p} {q} {v} {i} g e (unmet f) = without (λ h. go (meets g h))
  where
    go : (w : ℕ) × Met p q v w → ⊥
    go (w, m) = none_not_some (sym f ∙ met_from m e)

pub jump_in :
    {p q : List ℕ} {v i m k : ℕ}
    → Good p q
    → (i ≡ position q v) × (i < length q)
    → Meets p (drop (i + 1) q) (Some m)
    → (k ≡ position p v) × (k < length p)
    → JumpIn p q v (Some (pos m -ℤ pos k))
jump_in {p} {q} {v} {i} {k = k} g (e, b) (met {w} f) (s, h) =
    rw s
    (has_one
    (jump_has (record { on_old = omega (arith, s, h); on_new = omega (arith, e, b); no_end = no_end }))
    (jump_meets p q v (meeting_is q p v ∙ (rw (add-one i, e) at f))))
  where
    no_end : v ≡ destination p → ⊥
    no_end d =
        let last : position q v ≡ length q - 1 = rw (d ∙ g.destinations) (position_index g.new (length q - 1) (omega (arith, b))) in
        none_not_some (sym (first_on_end p q (i + 1) (omega (arith, e, last))) ∙ f)

pub jump_some : {p q : List ℕ} → Good p q → (v : ℕ) → has_jump p q v ≡ true → (z : ℤ) × (jump p q v ≡ some z)
jump_some {p} {q} g v e =
    let (w, m) = meets g (has_jump_known p q v e) in
    (pos (position p w) -ℤ pos (position p v), jump_met m)

pub difference :
    (P : ℤ → Type 0) (a b : ℕ)
    → (a < b → P (negsuc (b - suc a)))
    → (b ≤ a → P (pos (a - b)))
    → P (pos a -ℤ pos b)
difference P a zero f g = let e : a - 0 ≡ a + 0 = omega arith in rw e at (g (omega arith))
difference P a (suc b) f g =
    by_bool (ltb a (suc b)) (λ t. rw t (f (ltb-true a (suc b) t))) (λ t. rw t (g (ltb-false a (suc b) t)))

ranged : (a b : ℕ) → 0 < a → a < 256 → suc b < 256 → (a ≡ b → ⊥) → Ranged (pos a -ℤ pos b)
ranged a b h k l n =
    difference Ranged a b (λ t. omega arith) (λ t. go t (ℕ_discrete a b))
  where
    go : b ≤ a → Dec (a ≡ b) → Ranged (pos (a - b))
    go t (yes e) = absurd (n e)
    go t (no e) = omega arith

-- the next meeting node isn't the source
no_source : {p q : List ℕ} {v w : ℕ} → Good p q → Met p q v w → 0 < position p w
no_source {p} {q} {v} {w} g m = go (ℕ_discrete (position p w) 0)
  where
    go : Dec (position p w ≡ 0) → 0 < position p w
    go (yes e) =
        let s : get_or p 0 0 ≡ w = rw e at (position_at p w m.shared) in
        absurd (g.new.distinct 0 m.index (omega (arith, m.later)) m.within (sym g.sources ∙ s ∙ sym m.there))
    go (no e) = omega arith

-- nor the node itself
no_self : {p q : List ℕ} {v w : ℕ} → Good p q → HasJump p q v → Met p q v w → position p w ≡ position p v → ⊥
no_self {p} {q} {v} {w} g h m e =
    let s : w ≡ v = sym (position_at p w m.shared) ∙ ap (λ (i : ℕ). get_or p i 0) e ∙ position_at p v h.on_old in
    g.new.distinct (position q v) m.index m.later m.within
    (position_at q v h.on_new ∙ sym s ∙ sym m.there)

pub jump_range :
    {p q : List ℕ} {z : ℤ}
    → Good p q
    → (v : ℕ)
    → has_jump p q v ≡ true
    → jump p q v ≡ some z
    → Ranged z
jump_range {p} {q} {z} g v t e = go (meets g h)
  where
    h : HasJump p q v
    h = has_jump_known p q v t

    go : (w : ℕ) × Met p q v w → Ranged z
    go (w, m) =
        let same : pos (position p w) -ℤ pos (position p v) ≡ z = cc (jump_met m) in
        rw same at
        (ranged (position p w) (position p v)
        (no_source g m)
        (omega (arith, m.shared, g.old.most))
        (omega (arith, not_last h, g.old.most))
        (no_self g h m))

-- a jump fits 32 bits
ranged_fits : (z : ℤ) → Ranged z → SFits w32 z
ranged_fits (pos k) h = record { sfits = omega arith }
ranged_fits (negsuc k) h = record { sfits = omega arith }

pub jumps_one : {old new : List ℕ} {v : ℕ} {a b : Result NodeJumps Refusal} → Jumps old new v a → Jumps old new v b → a ≡ b
jumps_one (refused f) (refused g) = ap Err (first_one f g)
jumps_one (refused f) (jumped k x y) = absurd (first_not_clear f k)
jumps_one (jumped k x y) (refused f) = absurd (first_not_clear f k)
jumps_one (jumped {j = i} k x y) (jumped {j} l p q) = ap Ok (same (one (sym x ∙ p)) (one (sym y ∙ q)))
  where
    one : {a b : ℤ} → some a ≡ some b → a ≡ b
    one e = cc

    same : i.old_order ≡ j.old_order → i.new_order ≡ j.new_order → i ≡ j
    same e f = λ t. record { old_order = e t; new_order = f t }

pub or_refused :
    {p q : List ℕ} {v : ℕ} {e x : Refusal} {r : Answer ℤ}
    → JumpIn p q v r
    → Err x ≡ ok_or r e
    → (x ≡ e) × (has_jump p q v ≡ false)
or_refused (has_one t j) s = let z : ◌≡◌ {A = ℕ} 0 1 = cc in absurd (omega arith)
or_refused (has_none f) s = (cc, f)

pub or_jump :
    {p q : List ℕ} {v : ℕ} (e : Refusal) {z : ℤ} {r : Answer ℤ}
    → Good p q
    → JumpIn p q v r
    → Ok z ≡ ok_or r e
    → (has_jump p q v ≡ true) × (jump p q v ≡ some z) × SFits w32 z
or_jump {v} e {z} g (has_one {z = y} t j) s =
    let same : y ≡ z = cc in (t, rw same at j, rw same at (ranged_fits y (jump_range g v t j)))
or_jump e g (has_none f) s = let z : ◌≡◌ {A = ℕ} 0 1 = cc in absurd (omega arith)

-- the refusal of the pair is given
pub jumps_judged : {old new : List ℕ} {v : ℕ} {r : Refusal} → Judges old new (Err r) → Jumps old new v (Err r)
jumps_judged {old} {new} {v} (faulty f) = refused (judge_first_in out judged f)
  where
    out : (q : Refusal) → JumpFault old new v q → JudgeFault old new q ⊎ (7 < number q)
    out q (judged j) = inl j
    out q (no_jump e) = inr (omega arith)

-- 18 is given to a node that has no jump
pub jumps_none :
    {old new : List ℕ} {v : ℕ}
    → Judges old new (Ok tt)
    → has_jump (entries old) (entries new) v ≡ false
    → Jumps old new v (Err (NoJump v))
jumps_none {old} {new} {v} (sound k) e = refused (record { applies = no_jump e; lowest = low })
  where
    low : (q : Refusal) → JumpFault old new v q → Before q (NoJump v) → ⊥
    low q (judged j) b = k.clear q j
    low q (no_jump f) b = before_irreflexive b

-- any other node's jumps are replied
pub jumps_by :
    {old new : List ℕ} {v : ℕ} {j : NodeJumps}
    → Judges old new (Ok tt)
    → has_jump (entries old) (entries new) v ≡ true
    → jump (entries old) (entries new) v ≡ some j.old_order
    → jump (entries new) (entries old) v ≡ some j.new_order
    → Jumps old new v (Ok j)
jumps_by {old} {new} {v} (sound k) t x y = jumped (record { clear = none_applies }) x y
  where
    none_applies : (q : Refusal) → JumpFault old new v q → ⊥
    none_applies q (judged j) = k.clear q j
    none_applies q (no_jump f) = let z : true ≡ false = sym t ∙ f in let w : ◌≡◌ {A = ℕ} 0 1 = cc in omega arith

-- in a reply both jumps are in range: one law, with the routes exchanged for the new order
pub jumps_range : {old new : List ℕ} {v : ℕ} {j : NodeJumps} → Jumps old new v (Ok j) → Ranged j.old_order × Ranged j.new_order
jumps_range {old} {new} {v} (jumped k x y) =
    (jump_range good v has x, jump_range (good_swap good) v (sym (has_jump_swap good v) ∙ has) y)
  where
    good : Good (entries old) (entries new)
    good = clear_good (record { clear = λ q f. k.clear q (judged f) })

    has : has_jump (entries old) (entries new) v ≡ true
    has = by_bool (has_jump (entries old) (entries new) v) (λ t. t) (λ f. absurd (k.clear (NoJump v) (no_jump f)))
