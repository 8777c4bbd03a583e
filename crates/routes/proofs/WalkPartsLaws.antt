-- Laws on the parts of the walk, over tables of next values.
--
--   falses l         == how many of the marks l are false
--   falses_less      == marking one that is unmarked leaves fewer
--   not_both         == a mark isn't false and true
--   Walking t s seen at hops == the walk from s by the next values t stands at `at` after `hops` hops, and `seen` marks
--                       the nodes come to before
--   begins, onward   == so it is at the start, with no mark; and after a hop from an unmarked node
--   arrives, drops, loops == what the walk comes to where it stands
--   Follows t g d    == the rules g are those of the next values t, and 513 stands at the node d alone
--   goes_walks       == then the walk by the next values is the walk by the rules
--   values_follow    == the next values in a state of a good pair are followed by the rules there
--   judged_first, judged_clear == what the two replies of `judge` say
--   reply_unfit      == a set that isn't eight words is refused
--   reply_judged     == what is refused of the pair is refused of the walk
--   Tabled old new set ws a b m == eight words ws, tables a and b and marks m that are those of a good pair and its set
--   reply_stray, reply_walked == then these are the replies where an id of the set isn't due, and else
use Rattle.std.specs.Prelude.{Result, Ok, Err, Some, None}
use Prim.Native.Nat.{ℕ, zero, suc, ◌+◌, ◌-◌, ◌<◌, ◌≤◌}
use mathlib.Core.Path.{◌≡◌, refl, sym, ap, ◌∙◌}
use mathlib.Core.Bool.{Bool, true, false, cond}
use mathlib.Core.List.{List, [], ◌∷◌}
use mathlib.Core.Logic.{◌⊎◌, inl, inr}
use mathlib.Core.Option.{Option, none, some}
use native.Mathlib.Decide.{dec_lt, ℕ_discrete}
use native.Mathlib.Numerals.{add-one}
use native.Mathlib.Omega.{arith}
use lib.ListN.{length, get_or, set, replicate, length-set}
use lib.Seq.{get_or-set_same, get_or-set_other}
use lib.Dec.{ltb}
use Rattle.std.proofs.lemmas.List.{get_or_default}
use borrow.Author.Tests.{lt-ltb, le-ltb}
use Rattle.house.specs.declared.Refusal.{Refusal}
use Rattle.house.specs.declared.Refusal.TheVariants.{Unfit, NotDue}
use Rattle.house.specs.Numbers.{entries, words, eight}
use Rattle.house.specs.Finds.{Finds, found, nowhere}
use Rattle.house.specs.Sets.{has}
use Rattle.house.specs.Refusals.{number, Before, lower, sooner, nearer, First, Clear}
use Rattle.house.proofs.NumberLaws.{eight_words}
use Rattle.routes.specs.Routes.{Good, GoodRoute, source, destination}
use Rattle.routes.specs.Rules.{rule, due, value, Values, Differ}
use Rattle.routes.specs.Walk as walks
use Rattle.routes.specs.Walk.{State, in_state, place, hop, Twice, Walks}
use Rattle.routes.specs.WalkParts.{next_in, rule_of, Goes, arrived, dropped, looped, Stray}
use Rattle.routes.specs.Replies.{
  JudgeFault,
  Judges,
  sound,
  faulty,
  WalkFault,
  not_eight,
  judged,
  stray,
  WalkReply,
  refused,
  walked,
}
use Rattle.routes.specs.declared.walk.Walked.{Walked}
use Rattle.routes.specs.declared.walk.Walked.TheVariants.{Arrived, Dropped, Looped}
use Rattle.routes.proofs.RuleLaws as rules
use Rattle.routes.proofs.RuleLaws.{Told, told, handed_destination, value_destination, due_mark}
use Rattle.house.proofs.RefusalLaws.{unfit_first}
use Rattle.routes.proofs.PairLaws.{clear_good, judge_first_in}
use Rattle.routes.proofs.WalkLaws.{some_not_none, place_more, place_one}

unfoldable pub falses : List Bool → ℕ
falses [] = 0
falses (b ∷ l) = cond b 0 1 + falses l

falses_set : (l : List Bool) (i : ℕ) → i < length l → get_or l i false ≡ false → suc (falses (set l i true)) ≡ falses l
unfolding falses
falses_set (true ∷ l) zero h e = let z : ◌≡◌ {A = ℕ} 0 1 = cc in absurd (omega arith)
falses_set (false ∷ l) zero h e = omega arith
falses_set (b ∷ l) (suc i) h e = omega (arith, falses_set l i (omega arith) e)
falses_set [] i h e = elim h [ ]

pub falses_less : (l : List Bool) (i : ℕ) → i < length l → get_or l i false ≡ false → falses (set l i true) < falses l
falses_less l i h e = omega (arith, falses_set l i h e)

falses_all : (n : ℕ) → falses (replicate n false) ≡ n
unfolding falses
falses_all zero = refl
falses_all (suc n) = omega (arith, falses_all n)

marked_still : (l : List Bool) (i u : ℕ) → i < length l → get_or l u false ≡ true → get_or (set l i true) u false ≡ true
marked_still l i u h e = go (ℕ_discrete u i)
  where
    go : Dec (u ≡ i) → get_or (set l i true) u false ≡ true
    go (yes p) = rw p (get_or-set_same l i true false h)
    go (no n) = get_or-set_other l i u true false n ∙ e

marked_was : (l : List Bool) (i u : ℕ) → get_or (set l i true) u false ≡ true → (u ≡ i) ⊎ (get_or l u false ≡ true)
marked_was l i u e = go (ℕ_discrete u i)
  where
    go : Dec (u ≡ i) → (u ≡ i) ⊎ (get_or l u false ≡ true)
    go (yes p) = inl p
    go (no n) = inr (sym (get_or-set_other l i u true false n) ∙ e)

unmarked : (n u : ℕ) → get_or (replicate n false) u false ≡ false
unmarked zero u = refl
unmarked (suc n) zero = refl
unmarked (suc n) (suc u) = unmarked n u

pub not_both : {b : Bool} → b ≡ false → b ≡ true → ⊥
not_both p q = let z : ◌≡◌ {A = ℕ} 0 1 = cc in omega arith

pub record Walking (t : ℕ → ℕ) (s : ℕ) (seen : List Bool) (at hops : ℕ) : Type 0 where
  -- each node has a mark
  pub size : length seen ≡ 512
  -- the walk is at a node
  pub within : at < 512
  -- which it has come to by `hops` hops
  pub here : place (rule_of t) s hops ≡ some at
  -- a marked node has been come to before
  pub marked : (u : ℕ) → get_or seen u false ≡ true → (i : ℕ) × (i < hops) × (place (rule_of t) s i ≡ some u)
  -- and a node come to before is marked
  pub met : (u i : ℕ) → i < hops → place (rule_of t) s i ≡ some u → get_or seen u false ≡ true
  -- no node has been come to a second time before
  pub once : (u m : ℕ) → m < hops → Twice (rule_of t) s u m → ⊥
  -- each hop has marked one node
  pub counted : hops + falses seen ≡ 512

pub begins : (t : ℕ → ℕ) (s : ℕ) → s < 512 → Walking t s (replicate 512 false) s 0
unfolding place
begins t s h =
    record {
      size = refl;
      within = h;
      here = refl;
      marked = λ u e. absurd (not_both (unmarked 512 u) e);
      met = λ u i l e. absurd (omega arith);
      once = λ u m l w. absurd (omega arith);
      counted = omega (arith, falses_all 512);
    }

module _ {t : ℕ → ℕ} {s : ℕ} {seen : List Bool} {at hops : ℕ} (w : Walking t s seen at hops) where
  pub arrives : {to : ℕ} → to ≡ t at → to ≡ 513 → Goes t s (Arrived hops)
  arrives g e = arrived w.here (sym g ∙ e)

  pub drops : {to : ℕ} → to ≡ t at → (to ≡ 513 → ⊥) → 512 ≤ to → Goes t s (Dropped at hops)
  drops g n h = dropped w.here (λ e. n (g ∙ e)) (rw g at h)

  pub loops : get_or seen at false ≡ true → Goes t s (Looped at hops)
  loops e = go (w.marked at e)
    where
      go : (i : ℕ) × (i < hops) × (place (rule_of t) s i ≡ some at) → Goes t s (Looped at hops)
      go (i, h, p) = looped (record { sooner = i; before = h; there = p; again = w.here }) w.once

  inside : at < length seen
  inside = omega (arith, w.size, w.within)

  marked_next :
      (u : ℕ)
      → (u ≡ at) ⊎ (get_or seen u false ≡ true)
      → (i : ℕ) × (i < hops + 1) × (place (rule_of t) s i ≡ some u)
  marked_next u (inl p) = (hops, omega arith, rw p w.here)
  marked_next u (inr m) = go (w.marked u m)
    where
      go :
          (i : ℕ) × (i < hops) × (place (rule_of t) s i ≡ some u)
          → (i : ℕ) × (i < hops + 1) × (place (rule_of t) s i ≡ some u)
      go (i, l, p) = (i, omega arith, p)

  met_next : (u i : ℕ) → i < hops + 1 → place (rule_of t) s i ≡ some u → get_or (set seen at true) u false ≡ true
  met_next u i l p = go (dec_lt i hops)
    where
      go : Dec (i < hops) → get_or (set seen at true) u false ≡ true
      go (yes h) = marked_still seen at u inside (w.met u i h p)
      go (no n) =
          let e : u ≡ at = place_one (rule_of t) s i hops (omega arith) p w.here in
          rw e (get_or-set_same seen at true false inside)

  once_next : get_or seen at false ≡ false → (u m : ℕ) → m < hops + 1 → Twice (rule_of t) s u m → ⊥
  once_next e u m l x = go (dec_lt m hops)
    where
      go : Dec (m < hops) → ⊥
      go (yes h) = w.once u m h x
      go (no n) =
          let d : m ≡ hops = omega arith in
          let p : u ≡ at = place_one (rule_of t) s m hops d x.again w.here in
          not_both e (rw p at (w.met u x.sooner (omega (arith, x.before)) x.there))

  pub onward :
      {to : ℕ}
      → to ≡ t at
      → to < 512
      → get_or seen at false ≡ false
      → Walking t s (set seen at true) to (hops + 1)
  onward {to} g h e =
      record {
        size = length-set seen at true ∙ w.size;
        within = h;
        here = rw (add-one hops) (place_more (rule_of t) s hops w.here ∙ ap picked (sym g) ∙ rw (lt-ltb to 512 h));
        marked = λ u m. marked_next u (marked_was seen at u m);
        met = met_next;
        once = once_next e;
        counted = omega (arith, w.counted, falses_set seen at inside e);
      }
    where
      picked : ℕ → Option ℕ
      picked x = cond (ltb x 512) (some x) none

pub record Follows (t : ℕ → ℕ) (g : ℕ → Option ℕ) (d : ℕ) : Type 0 where
  pub same : (v : ℕ) → v < 512 → rule_of t v ≡ g v
  pub handed : (v : ℕ) → v < 512 → t v ≡ 513 → v ≡ d
  pub off : t d ≡ 513

module _ (t : ℕ → ℕ) {s : ℕ} (h : s < 512) where
  hop_below : (o : Option ℕ) {v : ℕ} → hop (rule_of t) o ≡ some v → v < 512
  hop_below none e = absurd (some_not_none e refl)
  hop_below (some u) {v} e = go (dec_lt (t u) 512)
    where
      go : Dec (t u < 512) → v < 512
      go (yes l) = let p : t u ≡ v = cc (lt-ltb (t u) 512 l) in omega arith
      go (no n) = absurd (some_not_none e (rw (le-ltb (t u) 512 (omega arith))))

  place_below : (k : ℕ) {v : ℕ} → place (rule_of t) s k ≡ some v → v < 512
  unfolding place
  place_below zero {v} e = let p : s ≡ v = cc in omega arith
  place_below (suc k) e = hop_below (place (rule_of t) s k) e

  module _ {g : ℕ → Option ℕ} {d : ℕ} (f : Follows t g d) where
    hop_same : (o : Option ℕ) → ((v : ℕ) → o ≡ some v → v < 512) → hop (rule_of t) o ≡ hop g o
    hop_same none b = refl
    hop_same (some v) b = f.same v (b v refl)

    place_same : (k : ℕ) → place (rule_of t) s k ≡ place g s k
    unfolding place
    place_same zero = refl
    place_same (suc k) = hop_same (place (rule_of t) s k) (λ v e. place_below k e) ∙ ap (hop g) (place_same k)

    twice_to : {v k : ℕ} → Twice (rule_of t) s v k → Twice g s v k
    twice_to {v} {k} w =
        record {
          sooner = w.sooner;
          before = w.before;
          there = sym (place_same w.sooner) ∙ w.there;
          again = sym (place_same k) ∙ w.again;
        }

    twice_from : {v k : ℕ} → Twice g s v k → Twice (rule_of t) s v k
    twice_from {v} {k} w =
        record {
          sooner = w.sooner;
          before = w.before;
          there = place_same w.sooner ∙ w.there;
          again = place_same k ∙ w.again;
        }

    pub goes_walks : {a : Walked} → Goes t s a → Walks g s d a
    goes_walks (arrived {v} {k} p e) =
        walks.arrived (sym (place_same k) ∙ p ∙ ap some (f.handed v (place_below k p) e))
    goes_walks (dropped {v} {k} p n l) =
        walks.dropped (sym (place_same k) ∙ p) (λ e. n (ap t e ∙ f.off))
        (sym (f.same v (place_below k p)) ∙ rw (le-ltb (t v) 512 l))
    goes_walks (looped w o) = walks.looped (twice_to w) (λ u m l x. o u m l (twice_from x))

told_rule : {p : Option ℕ} {x : ℕ} → Told p x → cond (ltb x 512) (some x) none ≡ p
told_rule rules.nothing = refl
told_rule rules.handed = refl
told_rule (rules.onward {w} h) = rw (lt-ltb w 512 h)

values_at : {l t : List ℕ} → Values l t → (v : ℕ) → v < 512 → get_or t v 0 ≡ value l v
values_at {l} {t} x v h = get_or_default t v 0 512 (omega (arith, x.size)) ∙ x.at v h

-- the rule of v on a route from its table
table_rule :
    {l t : List ℕ}
    → GoodRoute l
    → Values l t
    → (v : ℕ)
    → v < 512
    → cond (ltb (get_or t v 0) 512) (some (get_or t v 0)) none ≡ rule l v
table_rule g x v h = rw (values_at x v h) (told_rule (told g v))

pub values_follow :
    {o n a b : List ℕ}
    → Good o n
    → Values o a
    → Values n b
    → (X : State)
    → Follows (next_in a b X) (in_state o n X) (destination o)
values_follow {o} {n} {a} {b} g x y X =
    record {
      same = λ v h. same v h (X v);
      handed = λ v h. handed v h (X v);
      off = off (X (destination o));
    }
  where
    same :
        (v : ℕ)
        → v < 512
        → (c : Bool)
        → cond (ltb (cond c (get_or b v 0) (get_or a v 0)) 512) (some (cond c (get_or b v 0) (get_or a v 0))) none
        ≡ cond c (rule n v) (rule o v)
    same v h true = table_rule g.new y v h
    same v h false = table_rule g.old x v h

    handed : (v : ℕ) → v < 512 → (c : Bool) → cond c (get_or b v 0) (get_or a v 0) ≡ 513 → v ≡ destination o
    handed v h true e = handed_destination g.new v (sym (values_at y v h) ∙ e) ∙ sym g.destinations
    handed v h false e = handed_destination g.old v (sym (values_at x v h) ∙ e)

    below : destination o < 512
    below = g.old.ids (length o - 1) (omega (arith, g.old.least))

    off : (c : Bool) → cond c (get_or b (destination o) 0) (get_or a (destination o) 0) ≡ 513
    off true = values_at y (destination o) below ∙ rw g.destinations (value_destination g.new)
    off false = values_at x (destination o) below ∙ value_destination g.old

pub judged_first :
    {old new : List ℕ} {a : Result (Unit {0}) Refusal} {r : Refusal}
    → a ≡ Err r
    → Judges old new a
    → First (JudgeFault old new) r
judged_first e (sound k) = let z : ◌≡◌ {A = ℕ} 0 1 = cc in absurd (omega arith)
judged_first {r = r} e (faulty {r = q} f) = let p : q ≡ r = cc in rw p at f

pub judged_clear : {old new : List ℕ} {a : Result (Unit {0}) Refusal} → a ≡ Ok tt → Judges old new a → Clear (JudgeFault old new)
judged_clear e (sound k) = k
judged_clear e (faulty f) = let z : ◌≡◌ {A = ℕ} 0 1 = cc in absurd (omega arith)

pub reply_unfit : {old new set : List ℕ} → (length set ≡ 64 → ⊥) → WalkReply old new set (Err Unfit)
reply_unfit h = refused (unfit_first (not_eight h))

pub reply_judged :
    {old new set : List ℕ} {r : Refusal}
    → length set ≡ 64
    → First (JudgeFault old new) r
    → WalkReply old new set (Err r)
reply_judged {old} {new} {set} {r} e f = refused (judge_first_in out judged f)
  where
    out : (q : Refusal) → WalkFault old new set q → JudgeFault old new q ⊎ (7 < number q)
    out q (not_eight h) = absurd (h e)
    out q (judged j) = inl j
    out q (stray h m d) = inr (omega arith)

pub record Tabled (old new set ws a b : List ℕ) (m : List Bool) : Type 0 where
  pub eight_long : length set ≡ 64
  pub clear : Clear (JudgeFault old new)
  pub read : ws ≡ eight (words set)
  pub old_values : Values (entries old) a
  pub new_values : Values (entries new) b
  pub differ : Differ a b m

module _ {old new set ws a b : List ℕ} {m : List Bool} (t : Tabled old new set ws a b m) where
  good : Good (entries old) (entries new)
  good = clear_good t.clear

  source_below : source (entries old) < 512
  source_below = good.old.ids 0 (omega (arith, good.old.least))

  the_words : ws ≡ words set
  the_words = t.read ∙ eight_words set t.eight_long

  mark : (i : ℕ) → i < 512 → get_or m i false ≡ due (entries old) (entries new) i
  mark = due_mark good t.old_values t.new_values t.differ

  -- the refusals that are left
  only :
      (q : Refusal)
      → WalkFault old new set q
      → (i : ℕ) × (i < 512) × Stray ws m i × (q ≡ NotDue 0 i)
  only q (not_eight h) = absurd (h t.eight_long)
  only q (judged j) = absurd (t.clear.clear q j)
  only q (stray {i} h x d) =
      (i, h, record { member = rw the_words x; unmarked = mark i h ∙ d }, refl)

  pub reply_stray : {i : ℕ} → Finds (Stray ws m) 512 (Some i) → WalkReply old new set (Err (NotDue 0 i))
  reply_stray {i} (found h f before) =
      refused
      (record {
        applies = stray h (rw (sym the_words) f.member) (sym (mark i h) ∙ f.unmarked);
        lowest = λ q w. lowest q (only q w);
      })
    where
      lowest :
          (q : Refusal)
          → (j : ℕ) × (j < 512) × Stray ws m j × (q ≡ NotDue 0 j)
          → Before q (NotDue 0 i)
          → ⊥
      lowest q (j, k, x, e) l = go (rw e at l)
        where
          go : Before (NotDue 0 j) (NotDue 0 i) → ⊥
          go (lower c) = omega arith
          go (sooner c d) = omega arith
          go (nearer c d b) = before j b x

  pub reply_walked :
      {s : ℕ} {r : Walked}
      → Finds (Stray ws m) 512 None
      → s ≡ source (entries old)
      → Goes (next_in a b (has ws)) s r
      → WalkReply old new set (Ok r)
  reply_walked {s} {r} (nowhere off) e g =
      walked
      (record { clear = λ q w. none_left (only q w) })
      (goes_walks _ source_below (values_follow good t.old_values t.new_values (has (words set))) (rw (e, the_words) at g))
    where
      none_left : {q : Refusal} → (j : ℕ) × (j < 512) × Stray ws m j × (q ≡ NotDue 0 j) → ⊥
      none_left (j, k, x, e) = off j k x
