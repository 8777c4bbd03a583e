-- Laws of writing: entries behind those written, the nodes of the present round, and a whole round. Assumes nothing.
--
--   encode_append        == the bytes of two lists joined
--   overlaid_more        == one more entry put behind those at the front
--   appended_none, appended_one, appended_joins == no entry, one, and more behind those written
--   ids_append, sizes_append == the ids and the sizes of two lists of rounds joined
--   added_none, added_joins == no rounds, and more rounds behind those written
--   added_same           == a round is written by its nodes
--   added_all            == what is written where nothing was before
--   ids_some             == the ids of a round, if it has an id
--   none_some, one_some  == a round that has no id is none, one that has some is one
--   tally_more           == a tally grows by one with a number that is added
--   entering_begins      == at first no node is entered
--   entering_room        == while a node of the present round is left there is room for it
--   entering_passes, entering_takes == one node more, that is not of the present round or is
--   round_fits           == a round has at most 512 nodes
--   wrote_none, wrote_some == when all nodes are entered the round is written: with none nothing is to be written, with some
--                           their number
use Prim.Native.Nat.{ℕ, zero, suc, ◌+◌, ◌*◌, ◌-◌, ◌<◌, ◌≤◌}
use native.Mathlib.Omega.{arith}
use native.Mathlib.Numerals.{add-one}
use native.Mathlib.Decide.{ℕ_discrete, dec_lt}
use mathlib.Core.Path.{◌≡◌, refl, sym, ap, ◌∙◌, subst, fun_ext}
use mathlib.Core.Bool.{Bool, true, false, cond, ◌||◌, or-false}
use mathlib.Core.List.{List, [], ◌∷◌, ◌++◌, append_assoc, append-nil}
use lib.ListN.{length, get_or, set, drop, length-append, length-drop, length-set, get_or-eq_default}
use lib.Seq.{sets-eq, take_at, drop_at, drop-drop, get_or-set_same, get_or-set_other}
use lib.Dec.{eqb, ltb}
use borrow.Author.Tests.{lt-ltb, le-ltb, ltb-true, eq-eqb, ne_eqb}
use Rattle.house.specs.Numbers.{bytes, encode, put_number}
use Rattle.house.proofs.NumberLaws.{length_bytes, length_encode, length_put_number, put_number_in}
use Rattle.routes.specs.Rules.{tally}
use Rattle.routes.specs.Walk.{State}
use Rattle.routes.proofs.RuleLaws.{tally_cong, tally_most}
use Rattle.plans.specs.Plan.{rising_below, rising, some_of, some_round, ids_of, sizes_of}
use Rattle.plans.specs.Replies.{overlaid}
use Rattle.plans.specs.Working.{placed, present, Appended, Added, Room, Entering, Wrote}
use Rattle.plans.proofs.IdLists.{by_bool}
use Rattle.plans.proofs.PlanSchedule.{length_sizes}

-- ---- entries

pub encode_append : (w : ℕ) (xs ys : List ℕ) → encode w (xs ++ ys) ≡ encode w xs ++ encode w ys
unfolding encode
encode_append w [] ys = refl
encode_append w (x ∷ xs) ys = rw (encode_append w xs ys) (sym (append_assoc (bytes w x) (encode w xs) (encode w ys)))

-- with no entries at their front bytes are as they are
overlaid_nothing : (z : List ℕ) → z ≡ overlaid [] z
unfolding overlaid encode
overlaid_nothing z = refl

length_overlaid : (xs z : List ℕ) → length (overlaid xs z) ≡ 2 * length xs + (length z - 2 * length xs)
unfolding overlaid
length_overlaid xs z =
    length-append (encode 2 xs) (drop (2 * length xs) z) ∙ rw (length_encode 2 xs, length-drop (2 * length xs) z)

pub overlaid_more :
    (xs z : List ℕ) (x : ℕ)
    → 2 * length xs + 2 ≤ length (overlaid xs z)
    → put_number 2 (overlaid xs z) (length xs) x ≡ overlaid (xs ++ (x ∷ [])) z
unfolding overlaid encode
overlaid_more xs z x h =
    put_number_in 2 (overlaid xs z) (length xs) x h
    ∙ sets-eq (bytes 2 x) (overlaid xs z) (2 * length xs) (omega (arith, length_bytes 2 x))
    ∙ rw (
      take_at (encode 2 xs) (drop (2 * length xs) z) (2 * length xs) (length_encode 2 xs),
      length_bytes 2 x,
      sym (drop-drop 2 (2 * length xs) (overlaid xs z)),
      drop_at (encode 2 xs) (drop (2 * length xs) z) (2 * length xs) (length_encode 2 xs),
      drop-drop 2 (2 * length xs) z,
    )
    (sym both)
  where
    both : encode 2 (xs ++ (x ∷ [])) ++ drop (2 * length (xs ++ (x ∷ []))) z ≡ (encode 2 xs ++ bytes 2 x) ++ drop (2 * length xs + 2) z
    both =
        let e : 2 * length (xs ++ (x ∷ [])) ≡ 2 * length xs + 2 = omega (arith, length-append xs (x ∷ [])) in
        rw (e, encode_append 2 xs (x ∷ [])) (ap (λ (t : List ℕ). (encode 2 xs ++ t) ++ drop (2 * length xs + 2) z) (append-nil (bytes 2 x)))

pub appended_none : (k : ℕ) (b : List ℕ) → Appended k [] b b
appended_none k b = record { same = refl; appended = λ xs z l e. rw (append-nil xs) e }

pub appended_one : (k x : ℕ) (b : List ℕ) → 2 * k + 2 ≤ length b → Appended k (x ∷ []) b (put_number 2 b k x)
appended_one k x b h =
    record {
      same = length_put_number 2 b k x;
      appended = λ xs z l e. rw (e, sym l) (overlaid_more xs z x (omega (arith, ap length e)));
    }

pub appended_joins :
    {k : ℕ} (k' : ℕ) {ys zs b b' b'' : List ℕ}
    → Appended k ys b b'
    → k' ≡ k + length ys
    → Appended k' zs b' b''
    → Appended k (ys ++ zs) b b''
appended_joins {k} k' {ys} {zs} f q g =
    record {
      same = g.same ∙ f.same;
      appended =
          λ xs z l e.
          g.appended (xs ++ ys) z (omega (arith, length-append xs ys)) (f.appended xs z l e)
          ∙ ap (λ (t : List ℕ). overlaid t z) (append_assoc xs ys zs);
    }

-- ---- rounds

pub added_none : (ids sizes : List ℕ) (k m : ℕ) → Added [] ids sizes k m ids sizes k m
unfolding ids_of sizes_of
added_none ids sizes k m =
    record { entered = appended_none m ids; sized = appended_none k sizes; rounds = omega arith; count = omega arith }

ids_append : (Rs Ss : List State) → ids_of (Rs ++ Ss) ≡ ids_of Rs ++ ids_of Ss
unfolding ids_of
ids_append [] Ss = refl
ids_append (R ∷ Rs) Ss = rw (ids_append Rs Ss) (sym (append_assoc (rising R) (ids_of Rs) (ids_of Ss)))

sizes_append : (Rs Ss : List State) → sizes_of (Rs ++ Ss) ≡ sizes_of Rs ++ sizes_of Ss
unfolding sizes_of
sizes_append [] Ss = refl
sizes_append (R ∷ Rs) Ss = rw (sizes_append Rs Ss)

pub added_joins :
    {Rs Ss : List State} {ids sizes ids' sizes' ids'' sizes'' : List ℕ} {k m k' m' k'' m'' : ℕ}
    → Added Rs ids sizes k m ids' sizes' k' m'
    → Added Ss ids' sizes' k' m' ids'' sizes'' k'' m''
    → Added (Rs ++ Ss) ids sizes k m ids'' sizes'' k'' m''
added_joins {Rs} {Ss} {k' = k'} {m'} f g =
    record {
      entered = rw (ids_append Rs Ss) (appended_joins m' f.entered f.count g.entered);
      sized = rw (sizes_append Rs Ss) (appended_joins k' f.sized (omega (arith, f.rounds, length_sizes Rs)) g.sized);
      rounds = omega (arith, f.rounds, g.rounds, length-append Rs Ss);
      count =
          omega (arith, f.count, g.count, ap length (ids_append Rs Ss), length-append (ids_of Rs) (ids_of Ss));
    }

pub added_same :
    {R S : State} {ids sizes ids' sizes' : List ℕ} {k m k' m' : ℕ}
    → ((v : ℕ) → R v ≡ S v)
    → Added (some_round R) ids sizes k m ids' sizes' k' m'
    → Added (some_round S) ids sizes k m ids' sizes' k' m'
added_same {ids = ids} {sizes} {ids'} {sizes'} {k} {m} {k'} {m'} f =
    subst (λ (R : State). Added (some_round R) ids sizes k m ids' sizes' k' m') (fun_ext f)

pub added_all :
    {Rs : List State} {ids sizes ids' sizes' : List ℕ} {k m : ℕ}
    → Added Rs ids sizes 0 0 ids' sizes' k m
    → (k ≡ length Rs) × (m ≡ length (ids_of Rs)) × (ids' ≡ overlaid (ids_of Rs) ids) × (sizes' ≡ overlaid (sizes_of Rs) sizes)
added_all {ids = ids} {sizes} w = (
  omega (arith, w.rounds),
  omega (arith, w.count),
  w.entered.appended [] ids refl (overlaid_nothing ids),
  w.sized.appended [] sizes refl (overlaid_nothing sizes),
)

pub ids_some : (R : State) → ids_of (some_round R) ≡ rising R
unfolding some_round ids_of
ids_some R = go (rising R) refl
  where
    go : (l : List ℕ) → l ≡ rising R → ids_of (some_of l R) ≡ rising R
    go [] e = e
    go (v ∷ vs) e = append-nil (rising R)

pub none_some : (R : State) → length (rising R) ≡ 0 → some_round R ≡ []
unfolding some_round
none_some R e = go (rising R) e
  where
    go : (l : List ℕ) → length l ≡ 0 → some_of l R ≡ []
    go [] e = refl
    go (v ∷ vs) e = absurd (omega arith)

pub one_some : (R : State) → 0 < length (rising R) → some_round R ≡ R ∷ []
unfolding some_round
one_some R e = go (rising R) e
  where
    go : (l : List ℕ) → 0 < length l → some_of l R ≡ R ∷ []
    go [] e = absurd (omega arith)
    go (v ∷ vs) e = refl

-- ---- entering the nodes of the present round

pub tally_more :
    (k : ℕ) (f g : ℕ → Bool) (v : ℕ)
    → v < k
    → f v ≡ false
    → g v ≡ true
    → ((u : ℕ) → (u ≡ v → ⊥) → g u ≡ f u)
    → tally k g ≡ tally k f + 1
unfolding tally
tally_more zero f g v h e q s = absurd (omega arith)
tally_more (suc k) f g v h e q s = go (ℕ_discrete v k) (λ l. tally_more k f g v l e q s)
  where
    go : Dec (v ≡ k) → (v < k → tally k g ≡ tally k f + 1) → tally k g + cond (g k) 1 0 ≡ tally k f + cond (f k) 1 0 + 1
    go (yes d) rec =
        rw (sym d, e, q, tally_cong v g f (λ u l. s u (λ z. omega arith))) (omega arith)
    go (no d) rec = rw (s k (λ z. d (sym z))) (omega (arith, rec (omega arith)))

pub entering_begins :
    {c ids sizes : List ℕ} {k m : ℕ} → Room c ids sizes k m → Entering c ids m c ids m 0
unfolding rising_below
entering_begins {c} {ids} {m = m} r =
    record {
      choices = r.choices;
      ids_fit = r.ids_fit;
      counted = r.counted;
      below = λ u h. absurd (omega arith);
      past = λ u h. refl;
      appended = appended_none m ids;
      count = omega arith;
    }

placed_more : (c : List ℕ) (v : ℕ) → length c ≡ 512 → v < 512 → 1 < get_or c v 0 → tally 512 (placed (set c v 1)) ≡ tally 512 (placed c) + 1
placed_more c v l h k =
    tally_more 512 (placed c) (placed (set c v 1)) v h
    (ne_eqb (get_or c v 0) 1 (λ e. omega arith))
    (eq-eqb (get_or (set c v 1) v 0) 1 (get_or-set_same c v 1 0 (omega arith)))
    (λ u n. rw (get_or-set_other c v u 1 0 n))

pub entering_room :
    {c₀ ids₀ c ids : List ℕ} {m₀ m v : ℕ} → Entering c₀ ids₀ m₀ c ids m v → v < 512 → 1 < get_or c v 0 → m < 512
entering_room {c = c} {v = v} s h k =
    omega (arith, s.counted, placed_more c v s.choices h k, tally_most 512 (placed (set c v 1)))

rising_less : (k : ℕ) (R : State) → R k ≡ false → rising_below (k + 1) R ≡ rising_below k R
unfolding rising_below
rising_less k R e = rw (add-one k, e) (append-nil (rising_below k R))

rising_more : (k : ℕ) (R : State) → R k ≡ true → rising_below (k + 1) R ≡ rising_below k R ++ (k ∷ [])
unfolding rising_below
rising_more k R e = rw (add-one k, e)

module _ {c₀ ids₀ c ids : List ℕ} {m₀ m v : ℕ} (s : Entering c₀ ids₀ m₀ c ids m v) (h : v < 512) where
  pub entering_passes : get_or c v 0 ≤ 1 → Entering c₀ ids₀ m₀ c ids m (v + 1)
  entering_passes k =
      record {
        choices = s.choices;
        ids_fit = s.ids_fit;
        counted = s.counted;
        below = λ u l. at u l (ℕ_discrete u v);
        past = λ u l. s.past u (omega arith);
        appended = rw (rising_less v (present c₀) none) s.appended;
        count = rw (rising_less v (present c₀) none) s.count;
      }
    where
      none : present c₀ v ≡ false
      none = le-ltb 1 (get_or c₀ v 0) (omega (arith, s.past v (omega arith)))

      at : (u : ℕ) → u < v + 1 → Dec (u ≡ v) → get_or c u 0 ≡ cond (present c₀ u) 1 (get_or c₀ u 0)
      at u l (yes e) = rw (e, none) (s.past v (omega arith))
      at u l (no e) = s.below u (omega arith)

  pub entering_takes :
      {ids' : List ℕ} → 1 < get_or c v 0 → ids' ≡ put_number 2 ids m v → Entering c₀ ids₀ m₀ (set c v 1) ids' (m + 1) (v + 1)
  entering_takes k e =
      record {
        choices = length-set c v 1 ∙ s.choices;
        ids_fit = omega (arith, s.ids_fit, ap length e, length_put_number 2 ids m v);
        counted = omega (arith, s.counted, placed_more c v s.choices h k);
        below = λ u l. at u l (ℕ_discrete u v);
        past = λ u l. get_or-set_other c v u 1 0 (λ z. omega arith) ∙ s.past u (omega arith);
        appended = rw (rising_more v (present c₀) one, e) (appended_joins m s.appended s.count (appended_one m v ids room));
        count =
            omega (arith, s.count, ap length (rising_more v (present c₀) one), length-append (rising_below v (present c₀)) (v ∷ []));
      }
    where
      one : present c₀ v ≡ true
      one = lt-ltb 1 (get_or c₀ v 0) (omega (arith, s.past v (omega arith)))

      room : 2 * m + 2 ≤ length ids
      room = omega (arith, s.ids_fit, entering_room s h k)

      at : (u : ℕ) → u < v + 1 → Dec (u ≡ v) → get_or (set c v 1) u 0 ≡ cond (present c₀ u) 1 (get_or c₀ u 0)
      at u l (yes q) = rw (q, one) (get_or-set_same c v 1 0 (omega (arith, s.choices)))
      at u l (no q) = get_or-set_other c v u 1 0 q ∙ s.below u (omega arith)

-- ---- a whole round

after : (x : ℕ) → eqb (cond (ltb 1 x) 1 x) 1 ≡ (eqb x 1 || ltb 1 x)
after x =
    by_bool (ltb 1 x) (λ e. rw e (sym (rw (ne_eqb x 1 (λ q. omega (arith, ltb-true 1 x e)))))) (λ e. rw e (sym (or-false (eqb x 1))))

after_none : (x : ℕ) → ltb 1 (cond (ltb 1 x) 1 x) ≡ false
after_none x = by_bool (ltb 1 x) (λ e. rw e) (λ e. rw e e)

module _
    {c ids sizes c' ids' : List ℕ} {k m m' : ℕ}
    (r : Room c ids sizes k m)
    (s : Entering c ids m c' ids' m' 512)
  where
    at_all : (v : ℕ) → get_or c' v 0 ≡ cond (present c v) 1 (get_or c v 0)
    at_all v = go (dec_lt v 512)
      where
        go : Dec (v < 512) → get_or c' v 0 ≡ cond (present c v) 1 (get_or c v 0)
        go (yes h) = s.below v h
        go (no h) =
            rw (
              get_or-eq_default c' 0 {n = v} (omega (arith, s.choices)),
              get_or-eq_default c 0 {n = v} (omega (arith, r.choices)),
            )

    count_round : m' ≡ m + length (rising (present c))
    unfolding rising
    count_round = s.count

    ids_round : Appended m (ids_of (some_round (present c))) ids ids'
    unfolding rising
    ids_round = rw (ids_some (present c)) s.appended

    wrote :
        {sizes' : List ℕ} {k' : ℕ}
        → length sizes' ≡ length sizes
        → k' ≤ m'
        → Appended k (sizes_of (some_round (present c))) sizes sizes'
        → k' ≡ k + length (some_round (present c))
        → Wrote c ids sizes k m c' ids' sizes' k' m'
    wrote e h a q =
        record {
          room =
              record {
                choices = s.choices;
                ids_fit = s.ids_fit;
                sizes_fit = omega (arith, r.sizes_fit);
                counted = s.counted;
                fewer = h;
              };
          now_placed = λ v. rw (at_all v) (after (get_or c v 0));
          none_present = λ v. rw (at_all v) (after_none (get_or c v 0));
          added =
              record {
                entered = ids_round;
                sized = a;
                rounds = q;
                count = omega (arith, count_round, ap length (ids_some (present c)));
              };
        }

    pub wrote_some :
        {sizes' : List ℕ} → (m' ≡ m → ⊥) → sizes' ≡ put_number 2 sizes k (m' - m) → Wrote c ids sizes k m c' ids' sizes' (k + 1) m'
    unfolding sizes_of
    wrote_some n e =
        let z : some_round (present c) ≡ present c ∷ [] = one_some (present c) (omega (arith, count_round)) in
        let d : m' - m ≡ length (rising (present c)) = omega (arith, count_round) in
        wrote (ap length e ∙ length_put_number 2 sizes k (m' - m)) (omega (arith, r.fewer, count_round))
        (rw (z, e, d) (appended_one k (length (rising (present c))) sizes (omega (arith, r.fewer, r.sizes_fit, count_round, s.counted, tally_most 512 (placed c')))))
        (rw z refl)

    pub round_fits : m' - m ≤ 512
    round_fits = omega (arith, s.counted, tally_most 512 (placed c'))

pub wrote_none :
    {c ids sizes c' ids' : List ℕ} {k m : ℕ}
    → Room c ids sizes k m
    → Entering c ids m c' ids' m 512
    → Wrote c ids sizes k m c' ids' sizes k m
unfolding sizes_of
wrote_none {c} {sizes = sizes} {k = k} r s =
    let z : some_round (present c) ≡ [] = none_some (present c) (omega (arith, count_round r s)) in
    wrote r s refl r.fewer (rw z (appended_none k sizes)) (rw z (omega arith))
