-- Laws of rules, next values and due nodes.
--
-- Of any list l:
--   Off l v             == no index of l holds v
--   Look l v            == where v first stands on l, with its rule and its next value: nowhere, on the last place, or before
--                          another id
--   look                == every node is in one of these cases
--   value_of_rule       == a node with a rule has it as its next value
--   value_of_none       == a node without a rule has the next value 512 or 513
--   rule_off, value_off == a node that isn't on l has no rule, and the next value 512
--   Hop l v w           == v stands on l just before w
--   rule_hop            == where the rule of v is w, there v stands just before w
--   value_cons          == the next value on a list with one more id in front
--   values_nil, values_store, values_skip == the table of the empty list; the table of a list with one more id in front: that
--                          id's place has the id after it, and where it has no place the table stays
--   Told p a            == a is the next value that may go with the rule p on a good route
--
-- Of a good route l:
--   same_place          == one id stands on one place
--   rule_at, value_at   == the rule and the next value at an index but the last: the id at the next index
--   rule_destination, value_destination == the destination has no rule, and the next value 513
--   hop_below, hop_not_source, hop_not_destination == a node and the node after it are ids; no node comes before the source,
--                          none after the destination
--   told                == the next value of v goes with its rule
--   handed_destination  == only the destination has the next value 513
--   nothing_off         == only nodes that aren't on l have the next value 512
--   onward_rule, rule_onward == the next values below 512 are exactly the rules
--
-- Of a good pair o, n:
--   good_swap           == the two routes exchanged are a good pair too
--   both_handed         == what is handed off on one route is handed off on the other
--   due_values          == a node is due where its next values differ
--   change_values       == the change between the next values is the change between the rules
--   due_not_destination == the destination isn't due
--   due_mark            == the marks where the two tables differ are the due nodes
--   tally_due           == as many places differ as nodes are due
--   due_below           == a due node is an id
--   due_most            == at most 509 nodes are due
--
--   due_rule            == a due node has a rule on one of the two lists, which may be any
--   tally_cong, tally_most, tally_add == equal tests have equal tallies; the tally of k numbers is at most k; one number more
--   tally_length        == a tally is the length of the list of the numbers it counts
--   get_d_default       == below the length no default is read
--   made_at             == what `from_fn` makes of a closure that computes h and stays as it is holds h k at each index k
--   apart_read          == the test whether two tables differ, by reading an element of each
--   values_one, differ_one == a list has one table of next values, two tables one array of marks
use Prim.Native.Nat.{ℕ, zero, suc, ◌+◌, ◌-◌, ◌<◌, ◌≤◌}
use native.Mathlib.Nat.{not-suc-le-zero, le_of_suc-le-suc}
use native.Mathlib.Numerals.{add-one}
use native.Mathlib.Omega.{arith}
use native.Mathlib.Decide.{ℕ_discrete, dec_lt}
use mathlib.Core.Path.{◌≡◌, refl, sym, ap, subst, ◌∙◌}
use mathlib.Core.Logic.{◌⊎◌, inl, inr, ⊎_elim}
use mathlib.Core.Bool.{Bool, true, false, not, cond}
use mathlib.Core.List.{List, [], ◌∷◌}
use mathlib.Core.Option.{Option, none, some}
use lib.ListN.{length, get_or, set, replicate, length-replicate, length-set, get_or-replicate}
use denote.Param.Members.{Mut}
use Rattle.std.specs.Array.{IsFromFnResult, IsFromFnResultFrom}
use Rattle.std.specs.Fn.{Called}
use Rattle.std.specs.List.{range_with_len, filter}
use Rattle.std.proofs.lemmas.List.FromFn.{filter_of_map_range_with_len_more}
use Rattle.std.proofs.lemmas.List.{map-id, length-append, get_or_default}
use mathlib.Core.List.{◌++◌}
use lib.Seq.{ext_get_or, get_or-set_same, get_or-set_other}
use lib.Dec.{eqb}
use borrow.Author.Tests.{eq-eqb, ne_eqb}
use Rattle.routes.specs.Routes.{source, destination, GoodRoute, Good}
use Rattle.routes.specs.Rules.{rule, differs, due, change, value, Values, change_of, tally, apart, Differ}

abbrev pub Off : List ℕ → ℕ → Type 0
Off l v = (i : ℕ) → i < length l → get_or l i 0 ≡ v → ⊥

pub data Look (l : List ℕ) (v : ℕ) : Type 0 where
  off : Off l v → rule l v ≡ none → value l v ≡ 512 → Look l v
  last : {i : ℕ} → suc i ≡ length l → get_or l i 0 ≡ v → rule l v ≡ none → value l v ≡ 513 → Look l v
  inner :
      {i w : ℕ}
      → suc i < length l
      → get_or l i 0 ≡ v
      → get_or l (suc i) 0 ≡ w
      → rule l v ≡ some w
      → value l v ≡ w
      → Look l v

off_cons : {a v : ℕ} (l : List ℕ) → (v ≡ a → ⊥) → Off l v → Off (a ∷ l) v
off_cons l ne o zero h e = ne (sym e)
off_cons l ne o (suc i) h e = o i (le_of_suc-le-suc h) e

pub look : (l : List ℕ) (v : ℕ) → Look l v
unfolding rule value
look [] v = off (λ i h e. not-suc-le-zero h) refl refl
look (a ∷ []) v = go (ℕ_discrete v a)
  where
    go : Dec (v ≡ a) → Look (a ∷ []) v
    go (yes e) = last {i = 0} refl (sym e) refl (rw (eq-eqb v a e))
    go (no n) = off (off_cons [] n (λ i h e. not-suc-le-zero h)) refl (rw (ne_eqb v a n))
look (a ∷ b ∷ l) v = go (ℕ_discrete v a) (look (b ∷ l) v)
  where
    go : Dec (v ≡ a) → Look (b ∷ l) v → Look (a ∷ b ∷ l) v
    go (yes e) s = inner {i = 0} (omega arith) (sym e) refl (rw (eq-eqb v a e)) (rw (eq-eqb v a e))
    go (no n) (off o r x) = off (off_cons (b ∷ l) n o) (rw (ne_eqb v a n) r) (rw (ne_eqb v a n) x)
    go (no n) (last {i} k g r x) = last {i = suc i} (ap suc k) g (rw (ne_eqb v a n) r) (rw (ne_eqb v a n) x)
    go (no n) (inner {i} k g h r x) = inner {i = suc i} (omega arith) g h (rw (ne_eqb v a n) r) (rw (ne_eqb v a n) x)

pub value_of_rule : (l : List ℕ) (v : ℕ) {w : ℕ} → rule l v ≡ some w → value l v ≡ w
value_of_rule l v {w} e = go (look l v)
  where
    go : Look l v → value l v ≡ w
    go (off o r x) = cc
    go (last k g r x) = cc
    go (inner k g h r x) = cc

pub value_of_none : (l : List ℕ) (v : ℕ) → rule l v ≡ none → (value l v ≡ 512) ⊎ (value l v ≡ 513)
value_of_none l v e = go (look l v)
  where
    go : Look l v → (value l v ≡ 512) ⊎ (value l v ≡ 513)
    go (off o r x) = inl x
    go (last k g r x) = inr x
    go (inner k g h r x) = let z : ◌≡◌ {A = ℕ} 0 1 = cc in absurd (omega arith)

off_look : {l : List ℕ} {v : ℕ} → Off l v → Look l v → (rule l v ≡ none) × (value l v ≡ 512)
off_look o (off _ r x) = (r, x)
off_look o (last {i} k g r x) = absurd (o i (omega arith) g)
off_look o (inner {i} k g h r x) = absurd (o i (omega arith) g)

pub rule_off : (l : List ℕ) (v : ℕ) → Off l v → rule l v ≡ none
rule_off l v o = (off_look o (look l v)).0

pub value_off : (l : List ℕ) (v : ℕ) → Off l v → value l v ≡ 512
value_off l v o = (off_look o (look l v)).1

pub record Hop (l : List ℕ) (v w : ℕ) : Type 0 where
  pub index : ℕ
  pub within : index + 1 < length l
  pub here : get_or l index 0 ≡ v
  pub next : get_or l (index + 1) 0 ≡ w

pub rule_hop : (l : List ℕ) (v : ℕ) {w : ℕ} → rule l v ≡ some w → Hop l v w
rule_hop l v {w} e = go (look l v)
  where
    go : Look l v → Hop l v w
    go (off o r x) = let z : ◌≡◌ {A = ℕ} 0 1 = cc in absurd (omega arith)
    go (last k g r x) = let z : ◌≡◌ {A = ℕ} 0 1 = cc in absurd (omega arith)
    go (inner {i} {w = u} k g h r x) =
        let q : u ≡ w = cc in
        record { index = i; within = omega arith; here = g; next = rw add-one (h ∙ q) }

pub value_cons : (a : ℕ) (l : List ℕ) (v : ℕ) → value (a ∷ l) v ≡ cond (eqb v a) (get_or l 0 513) (value l v)
unfolding value
value_cons a [] v = refl
value_cons a (b ∷ l) v = refl

pub values_nil : Values [] (replicate 512 512)
unfolding value
values_nil = record { size = length-replicate {A = ℕ} 512 512; at = λ v h. get_or-replicate 512 v 512 512 h }

pub values_store :
    {l t : List ℕ} {a w : ℕ} → Values l t → w ≡ get_or l 0 513 → a < 512 → Values (a ∷ l) (set t a w)
values_store {l} {t} {a} {w} x e h = record { size = length-set t a w ∙ x.size; at = λ v k. go v k (ℕ_discrete v a) }
  where
    go : (v : ℕ) → v < 512 → Dec (v ≡ a) → get_or (set t a w) v 512 ≡ value (a ∷ l) v
    go v k (yes q) =
        rw (q, value_cons a l a, eq-eqb a a refl) (get_or-set_same t a w 512 (omega (arith, x.size)) ∙ e)
    go v k (no n) = rw (value_cons a l v, ne_eqb v a n) (get_or-set_other t a v w 512 n ∙ x.at v k)

pub values_skip : {l t : List ℕ} {a : ℕ} → Values l t → 512 ≤ a → Values (a ∷ l) t
values_skip {l} {t} {a} x h =
    record { size = x.size; at = λ v k. rw (value_cons a l v, ne_eqb v a (λ e. omega arith)) (x.at v k) }

pub data Told : Option ℕ → ℕ → Type 0 where
  nothing : Told none 512
  handed : Told none 513
  onward : {w : ℕ} → w < 512 → Told (some w) w

module _ {l : List ℕ} (g : GoodRoute l) where
  pub same_place : (i j : ℕ) → i < length l → j < length l → get_or l i 0 ≡ get_or l j 0 → i ≡ j
  same_place i j hi hj e = go (dec_lt i j) (dec_lt j i)
    where
      go : Dec (i < j) → Dec (j < i) → i ≡ j
      go (yes a) d = absurd (g.distinct i j a hj e)
      go (no a) (yes b) = absurd (g.distinct j i b hi (sym e))
      go (no a) (no b) = omega arith

  pub rule_at : (i : ℕ) → i + 1 < length l → rule l (get_or l i 0) ≡ some (get_or l (i + 1) 0)
  rule_at i h = go (look l (get_or l i 0))
    where
      go : Look l (get_or l i 0) → rule l (get_or l i 0) ≡ some (get_or l (i + 1) 0)
      go (off o r x) = absurd (o i (omega arith) refl)
      go (last {i = j} k e r x) = absurd (omega (arith, same_place j i (omega arith) (omega arith) e))
      go (inner {i = j} {w} k e n r x) =
          let q : j ≡ i = same_place j i (omega arith) (omega arith) e in
          r ∙ ap some (sym n ∙ ap (λ (m : ℕ). get_or l m 0) (ap suc q ∙ sym (add-one i)))

  pub value_at : (i : ℕ) → i + 1 < length l → value l (get_or l i 0) ≡ get_or l (i + 1) 0
  value_at i h = value_of_rule l (get_or l i 0) (rule_at i h)

  at_last : Look l (destination l) → (rule l (destination l) ≡ none) × (value l (destination l) ≡ 513)
  at_last (off o r x) = absurd (o (length l - 1) (omega (arith, g.least)) refl)
  at_last (last k e r x) = (r, x)
  at_last (inner {i} k e n r x) = absurd (omega (arith, g.least, same_place i (length l - 1) (omega arith) (omega arith) e))

  pub rule_destination : rule l (destination l) ≡ none
  rule_destination = (at_last (look l (destination l))).0

  pub value_destination : value l (destination l) ≡ 513
  value_destination = (at_last (look l (destination l))).1

  pub hop_below : {v w : ℕ} → Hop l v w → (v < 512) × (w < 512)
  hop_below {v} {w} h = (rw h.here at (g.ids h.index (omega arith)), rw h.next at (g.ids (h.index + 1) h.within))

  pub hop_not_source : {v w : ℕ} → Hop l v w → w ≡ source l → ⊥
  hop_not_source h e = omega (arith, same_place (h.index + 1) 0 h.within (omega arith) (h.next ∙ e))

  pub hop_not_destination : {v w : ℕ} → Hop l v w → v ≡ destination l → ⊥
  hop_not_destination h e =
      omega (arith, h.within, same_place h.index (length l - 1) (omega arith) (omega arith) (h.here ∙ e))

  told_look : {v : ℕ} → Look l v → Told (rule l v) (value l v)
  told_look (off o r x) = rw (r, x) nothing
  told_look (last k e r x) = rw (r, x) handed
  told_look (inner {i} k e n r x) = rw (r, x) (onward (rw n at (g.ids (suc i) k)))

  pub told : (v : ℕ) → Told (rule l v) (value l v)
  told v = told_look (look l v)

  pub handed_destination : (v : ℕ) → value l v ≡ 513 → v ≡ destination l
  handed_destination v e = go (look l v)
    where
      go : Look l v → v ≡ destination l
      go (off o r x) = absurd (omega arith)
      go (last {i} k h r x) = let q : i ≡ length l - 1 = omega arith in sym h ∙ ap (λ (m : ℕ). get_or l m 0) q
      go (inner {i} k h n r x) = absurd (omega (arith, g.ids (suc i) k))

  pub nothing_off : (v : ℕ) → value l v ≡ 512 → Off l v
  nothing_off v e = go (look l v)
    where
      go : Look l v → Off l v
      go (off o r x) = o
      go (last k h r x) = absurd (omega arith)
      go (inner {i} k h n r x) = absurd (omega (arith, g.ids (suc i) k))

  pub onward_rule : (v : ℕ) → value l v < 512 → rule l v ≡ some (value l v)
  onward_rule v h = go (told v) h
    where
      go : {p : Option ℕ} {a : ℕ} → Told p a → a < 512 → p ≡ some a
      go nothing h = absurd (omega arith)
      go handed h = absurd (omega arith)
      go (onward k) h = refl

  pub rule_onward : (v : ℕ) {w : ℕ} → rule l v ≡ some w → value l v < 512
  rule_onward v e = rw (value_of_rule l v e) (hop_below (rule_hop l v e)).1

agree :
    {p q : Option ℕ} {a b : ℕ}
    → Told p a
    → Told q b
    → (a ≡ 513 → b ≡ 513)
    → (b ≡ 513 → a ≡ 513)
    → (differs p q ≡ not (eqb a b)) × (change_of a b ≡ change p q)
agree nothing nothing f g = (refl, refl)
agree nothing handed f g = absurd (omega (arith, g refl))
agree nothing (onward {w} h) f g = let n = ne_eqb 512 w (λ e. omega arith) in (rw n, rw n)
agree handed nothing f g = absurd (omega (arith, f refl))
agree handed handed f g = (refl, refl)
agree handed (onward h) f g = absurd (omega (arith, f refl))
agree (onward {w} h) nothing f g = let n = ne_eqb w 512 (λ e. omega arith) in (rw n, rw n)
agree (onward h) handed f g = absurd (omega (arith, g refl))
agree (onward {w} h) (onward {w = u} k) f g =
    (refl, rw (ne_eqb w 512 (λ e. omega arith), ne_eqb u 512 (λ e. omega arith)))

pub good_swap : {o n : List ℕ} → Good o n → Good n o
good_swap g = record { old = g.new; new = g.old; sources = sym g.sources; destinations = sym g.destinations }

pub both_handed : {o n : List ℕ} → Good o n → (v : ℕ) → value o v ≡ 513 → value n v ≡ 513
both_handed g v e = rw (handed_destination g.old v e ∙ g.destinations) (value_destination g.new)

module _ {o n : List ℕ} (g : Good o n) where
  agreed :
      (v : ℕ)
      → (differs (rule o v) (rule n v) ≡ not (eqb (value o v) (value n v)))
      × (change_of (value o v) (value n v) ≡ change (rule o v) (rule n v))
  agreed v = agree (told g.old v) (told g.new v) (both_handed g v) (both_handed (good_swap g) v)

  pub due_values : (v : ℕ) → due o n v ≡ not (eqb (value o v) (value n v))
  unfolding due
  due_values v = (agreed v).0

  pub change_values : (v : ℕ) → change_of (value o v) (value n v) ≡ change (rule o v) (rule n v)
  change_values v = (agreed v).1

  pub due_not_destination : due o n (destination o) ≡ false
  due_not_destination =
      due_values (destination o)
      ∙ rw (value_destination g.old, both_handed g (destination o) (value_destination g.old))

  pub due_mark : {a b : List ℕ} {m : List Bool} → Values o a → Values n b → Differ a b m → (v : ℕ) → v < 512 → get_or m v false ≡ due o n v
  due_mark x y d v h = d.at v h ∙ rw (x.at v h, y.at v h) (sym (due_values v))

pub tally_cong : (k : ℕ) (f g : ℕ → Bool) → ((v : ℕ) → v < k → f v ≡ g v) → tally k f ≡ tally k g
unfolding tally
tally_cong zero f g h = refl
tally_cong (suc k) f g h = rw (h k (omega arith), tally_cong k f g (λ v l. h v (omega arith)))

pub tally_most : (k : ℕ) (f : ℕ → Bool) → tally k f ≤ k
unfolding tally
tally_most zero f = omega arith
tally_most (suc k) f = go (f k) (tally_most k f)
  where
    go : (b : Bool) → tally k f ≤ k → tally k f + cond b 1 0 ≤ suc k
    go true h = omega arith
    go false h = omega arith

pub tally_due :
    {o n a b : List ℕ} → Good o n → Values o a → Values n b → tally 512 (apart a b) ≡ tally 512 (due o n)
tally_due {o} {n} {a} {b} g x y =
    tally_cong 512 (apart a b) (due o n) (λ v h. rw (x.at v h, y.at v h) (sym (due_values g v)))

pub tally_add : (k : ℕ) (f : ℕ → Bool) → tally (k + 1) f ≡ tally k f + cond (f k) 1 0
unfolding tally
tally_add k f = rw (add-one k)

pub tally_length : (k : ℕ) (f : ℕ → Bool) → length (filter f (range_with_len 0 k)) ≡ tally k f
unfolding tally
tally_length zero f = refl
tally_length (suc k) f =
    ap (λ (n : ℕ). length (filter f (range_with_len 0 n))) (sym (add-one k))
    ∙ ap length more
    ∙ length-append (filter f (range_with_len 0 k)) (cond (f k) (k ∷ []) [])
    ∙ rw (tally_length k f, one_more (f k)) refl
  where
    more : filter f (range_with_len 0 (k + 1)) ≡ filter f (range_with_len 0 k) ++ cond (f k) (k ∷ []) []
    more =
        rw (map-id (range_with_len 0 (k + 1)), map-id (range_with_len 0 k))
        at (filter_of_map_range_with_len_more f (λ v. v) 0 k k (omega arith))

    one_more : (b : Bool) → length (cond b (k ∷ []) []) ≡ cond b 1 0
    one_more true = refl
    one_more false = refl

pub get_d_default : (l : List ℕ) (i d e : ℕ) → i < length l → get_or l i d ≡ get_or l i e
get_d_default l i d e h = get_or_default l i d e h

module _ {F B : Type 0} {g : Mut F (ℕ × Unit {0}) B} {f : F} (h : ℕ → B) where
  made_from :
      (ys : List B) (i n : ℕ)
      → ((x : ℕ) (r : B) (q : F) → Called g f (x, tt) r q → (q ≡ f) × (r ≡ h x))
      → IsFromFnResultFrom g f ys i n
      → (k : ℕ) (d : B)
      → i ≤ k
      → k < i + n
      → get_or ys k d ≡ h k
  made_from ys i zero pure m k d a b = absurd (omega arith)
  made_from ys i (suc n) pure (q, y, e, t, m) k d a b =
      go (ℕ_discrete i k) (λ l. made_from ys (i + 1) n pure (subst (λ (p : F). IsFromFnResultFrom g p ys (i + 1) n) same.0 m) k d l (omega arith))
    where
      same : (q ≡ f) × (y ≡ h i)
      same = pure i y q t

      go : Dec (i ≡ k) → (i + 1 ≤ k → get_or ys k d ≡ h k) → get_or ys k d ≡ h k
      go (yes p) later = rw (← p) (e.1 d ∙ same.1)
      go (no o) later = later (omega arith)

  pub made_at :
      {ys : List B} {n : ℕ}
      → IsFromFnResult g f ys n
      → ((x : ℕ) (r : B) (q : F) → Called g f (x, tt) r q → (q ≡ f) × (r ≡ h x))
      → (k : ℕ) (d : B)
      → k < n
      → get_or ys k d ≡ h k
  made_at {ys} {n} m pure k d l = made_from ys 0 n pure m.each k d (omega arith) (omega arith)

pub apart_read :
    (a b : List ℕ) (v : ℕ) → v < length a → v < length b → apart a b v ≡ not (eqb (get_or a v 0) (get_or b v 0))
apart_read a b v h k = rw (get_or_default a v 512 0 h, get_or_default b v 512 0 k)

pub values_one : {l t t' : List ℕ} → Values l t → Values l t' → t ≡ t'
values_one {l} {t} {t'} x y =
    ext_get_or 512 t t' (x.size ∙ sym y.size) (λ i h. let k : i < 512 = omega (arith, x.size) in x.at i k ∙ sym (y.at i k))

pub differ_one : {a b : List ℕ} {m m' : List Bool} → Differ a b m → Differ a b m' → m ≡ m'
differ_one {a} {b} {m} {m'} x y =
    ext_get_or false m m' (x.size ∙ sym y.size) (λ i h. let k : i < 512 = omega (arith, x.size) in x.at i k ∙ sym (y.at i k))

pub due_rule :
    (o n : List ℕ) (v : ℕ)
    → due o n v ≡ true
    → ((w : ℕ) × (rule o v ≡ some w)) ⊎ ((w : ℕ) × (rule n v ≡ some w))
unfolding due
due_rule o n v e = go (rule o v) (rule n v) refl refl e
  where
    go :
        (p q : Option ℕ)
        → rule o v ≡ p
        → rule n v ≡ q
        → differs p q ≡ true
        → ((w : ℕ) × (rule o v ≡ some w)) ⊎ ((w : ℕ) × (rule n v ≡ some w))
    go none none x y e = let z : ◌≡◌ {A = ℕ} 0 1 = cc in absurd (omega arith)
    go none (some w) x y e = inr (w, y)
    go (some w) q x y e = inl (w, x)

pub due_below : {o n : List ℕ} → Good o n → (v : ℕ) → due o n v ≡ true → v < 512
due_below {o} {n} g v e =
    ⊎_elim (λ x. (hop_below g.old (rule_hop o v x.1)).0) (λ x. (hop_below g.new (rule_hop n v x.1)).0)
    (due_rule o n v e)

-- ---- at most 509 nodes are due

abbrev is_some : Option ℕ → Bool
is_some none = false
is_some (some w) = true

abbrev ruled : List ℕ → ℕ → Bool
unfolding rule
ruled l v = is_some (rule l v)

abbrev same : ℕ → ℕ → Bool
same s v = eqb v s

-- one for a test that holds, and nothing for another
abbrev one : Bool → ℕ
one b = cond b 1 0

tally_sum :
    (k : ℕ) (f g p q : ℕ → Bool)
    → ((v : ℕ) → v < k → one (f v) + one (g v) ≤ one (p v) + one (q v))
    → tally k f + tally k g ≤ tally k p + tally k q
unfolding tally
tally_sum zero f g p q h = omega arith
tally_sum (suc k) f g p q h = omega (arith, h k (omega arith), tally_sum k f g p q (λ v l. h v (omega arith)))

tally_same : (k s : ℕ) → ((s < k) × (tally k (same s) ≡ 1)) ⊎ ((k ≤ s) × (tally k (same s) ≡ 0))
unfolding tally
tally_same zero s = inr (omega arith, refl)
tally_same (suc k) s = go (tally_same k s) (ℕ_discrete k s)
  where
    go :
        ((s < k) × (tally k (same s) ≡ 1)) ⊎ ((k ≤ s) × (tally k (same s) ≡ 0))
        → Dec (k ≡ s)
        → ((s < suc k) × (tally k (same s) + cond (eqb k s) 1 0 ≡ 1)) ⊎ ((suc k ≤ s) × (tally k (same s) + cond (eqb k s) 1 0 ≡ 0))
    go (inl x) (yes e) = absurd (omega arith)
    go (inl x) (no e) = inl (omega arith, rw (ne_eqb k s e, x.1))
    go (inr x) (yes e) = inl (omega arith, rw (eq-eqb k s e, x.1))
    go (inr x) (no e) = inr (omega arith, rw (ne_eqb k s e, x.1))

never : ℕ → Bool
never v = false

tally_never : (k : ℕ) → tally k never ≡ 0
unfolding tally never
tally_never zero = refl
tally_never (suc k) = rw (tally_never k)

ruled_cons : (t : Bool) (b : ℕ) (p : Option ℕ) → one (is_some (cond t (some b) p)) + 0 ≤ one t + one (is_some p)
ruled_cons true b p = omega arith
ruled_cons false b p = omega arith

ruled_most : (k : ℕ) (l : List ℕ) → tally k (ruled l) ≤ length l - 1
unfolding rule never
ruled_most k [] = omega (arith, tally_never k)
ruled_most k (a ∷ []) = omega (arith, tally_never k)
ruled_most k (a ∷ b ∷ l) =
    ⊎_elim (λ x. omega (arith, sum, ruled_most k (b ∷ l))) (λ x. omega (arith, sum, ruled_most k (b ∷ l))) (tally_same k a)
  where
    sum : tally k (ruled (a ∷ b ∷ l)) + tally k never ≤ tally k (same a) + tally k (ruled (b ∷ l))
    sum = tally_sum k (ruled (a ∷ b ∷ l)) never (same a) (ruled (b ∷ l)) (λ v h. ruled_cons (eqb v a) b (rule (b ∷ l) v))

differs_most : (p q : Option ℕ) → one (differs p q) ≤ one (is_some p) + one (is_some q)
differs_most none none = omega arith
differs_most none (some b) = omega arith
differs_most (some a) none = omega arith
differs_most (some a) (some b) = go (eqb a b)
  where
    go : (t : Bool) → one (not t) ≤ 2
    go true = omega arith
    go false = omega arith

-- a due node has a rule on one route, and the source, due or not, has one on both
due_sum :
    {o n : List ℕ} → Good o n → (v : ℕ) → one (due o n v) + one (same (source o) v) ≤ one (ruled o v) + one (ruled n v)
unfolding due rule
due_sum {o} {n} g v = go (ℕ_discrete v (source o))
  where
    less : (t : Bool) → one t ≤ 1
    less true = omega arith
    less false = omega arith

    go : Dec (v ≡ source o) → one (due o n v) + one (same (source o) v) ≤ one (ruled o v) + one (ruled n v)
    go (yes e) =
        let x : one (ruled o v) ≡ 1 = rw (e, rule_at g.old 0 g.old.least) in
        let y : one (ruled n v) ≡ 1 = rw (e ∙ g.sources, rule_at g.new 0 g.new.least) in
        omega (arith, less (due o n v), less (same (source o) v))
    go (no e) = rw (ne_eqb v (source o) e) (omega (arith, differs_most (rule o v) (rule n v)))

pub due_most : {o n : List ℕ} → Good o n → tally 512 (due o n) ≤ 509
due_most {o} {n} g =
    ⊎_elim
    (λ x. omega (arith, sum, old, new, g.old.most, g.new.most))
    (λ x. absurd (omega (arith, g.old.ids 0 (omega (arith, g.old.least)))))
    (tally_same 512 (source o))
  where
    sum : tally 512 (due o n) + tally 512 (same (source o)) ≤ tally 512 (ruled o) + tally 512 (ruled n)
    sum = tally_sum 512 (due o n) (same (source o)) (ruled o) (ruled n) (λ v h. due_sum g v)

    old : tally 512 (ruled o) ≤ length o - 1
    old = ruled_most 512 o

    new : tally 512 (ruled n) ≤ length n - 1
    new = ruled_most 512 n
