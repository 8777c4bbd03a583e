-- Laws on the plan file and its content.
--
--   round_cons       == the records of rounds, one round more in front
--   rounds_snoc      == the records of rounds, one round more at the end
--   length_rounds    == how long they are
--   length_file      == how long a plan file is
--   body_whole, body_under, body_entries == the body of a right record is whole entries of bytes, half as many as it is long
--   rounds_none, rounds_more == the rounds of a file, from none and one record more
--   right_at         == a record that is expected and isn't past the end is right, where no record is wrong
--   not_ended        == where a kind 1 to 3 is expected the file doesn't end
--   SomeRounds f p   == rounds that the file f holds from the offset p on
--   rounds_some      == where no record is wrong, the file holds rounds from the first kind 4 on
--   file_is          == a plan file is its records, one after the other
--   pair_held        == a file of right records holds the two routes, the mode and the rounds that stand in it
--   Content f        == a content that the file f holds
--   holds_some       == a file with no wrong record holds a content
--   rounds_one       == records of rounds are those of one list of ids and one of sizes
--   SameContent ..   == two contents are the same
--   holds_one        == a file holds at most one content
--   holds_right      == in a file that holds a content no record is wrong
--   holds_old, holds_new == where a route is expected, how long its body is
use Prim.Native.Nat.{ℕ, zero, suc, ◌+◌, ◌*◌, ◌-◌, ◌%◌, ◌/◌, ◌<◌, ◌≤◌}
use mathlib.Core.Path.{◌≡◌, refl, sym, ap, ◌∙◌}
use mathlib.Core.List.{List, [], ◌∷◌, ◌++◌, append_assoc, append-nil}
use native.Mathlib.Decide.{ℕ_discrete}
use native.Mathlib.Omega.{arith}
use lib.ListN.{length, take, drop, length-append, length-drop, take-append-drop}
use lib.Seq.{drop-length, length-take-le, take-length, take-append-le, drop-append-le}
use Rattle.house.specs.Numbers.{le, entries, encode, Whole}
use Rattle.house.proofs.NumberLaws.{
  Under,
  under_append,
  under_take,
  under_drop,
  under_nil,
  under_cons,
  length_encode,
  length_entries,
  entries_encode,
  entries_under,
  encode_entries,
}
use Rattle.rounds.specs.Schedule.{sum}
use Rattle.planfile.specs.File.{record_of, round_records, file_of, Holds, size_at, after, WrongAt, cut, Expects, at_front, behind, Ended}
use Rattle.planfile.specs.Parts.{AllRight, RoundsIn}
use Rattle.planfile.proofs.StoreLaws.{encode_one}
use Rattle.planfile.proofs.RecordLaws.{
  Right,
  right,
  right_not,
  body,
  length_body,
  size_under,
  two_bytes,
  record_head,
  record_splits,
  record_one,
  Begins,
  begins_size,
  begins_next,
  begins_right,
  next_expected,
  expects_place,
}

no_element : (l : List ℕ) → length l ≡ 0 → l ≡ []
no_element [] e = refl
no_element (x ∷ l) e = absurd (omega arith)

-- ---- the records of rounds

sum_nil : sum [] ≡ 0
unfolding sum
sum_nil = refl

sum_cons : (z : ℕ) (zs : List ℕ) → sum (z ∷ zs) ≡ z + sum zs
unfolding sum
sum_cons z zs = refl

pub round_cons : (is : List ℕ) (z : ℕ) (zs : List ℕ)
    → round_records is (z ∷ zs) ≡ record_of 4 (encode 2 (take z is)) ++ round_records (drop z is) zs
unfolding round_records
round_cons is z zs = refl

round_only : (b is : List ℕ) → length is ≡ 0 → round_records (is ++ b) (length b ∷ []) ≡ round_records is [] ++ record_of 4 (encode 2 b)
unfolding round_records
round_only b [] e = rw (take-length b) (append-nil (record_of 4 (encode 2 b)))
round_only b (x ∷ is) e = absurd (omega arith)

pub rounds_snoc :
    (is zs b : List ℕ)
    → sum zs ≡ length is
    → round_records (is ++ b) (zs ++ (length b ∷ [])) ≡ round_records is zs ++ record_of 4 (encode 2 b)
rounds_snoc is [] b e = round_only b is (omega (arith, sum_nil))
rounds_snoc is (z ∷ zs) b e =
    round_cons (is ++ b) z (zs ++ (length b ∷ []))
    ∙ rw (
      take-append-le z is b (omega (arith, sum_cons z zs)),
      drop-append-le z is b (omega (arith, sum_cons z zs)),
      rounds_snoc (drop z is) zs b (omega (arith, sum_cons z zs, length-drop z is)),
      round_cons is z zs,
    )
    (sym (append_assoc (record_of 4 (encode 2 (take z is))) (round_records (drop z is) zs) (record_of 4 (encode 2 b))))

pub length_rounds : (is zs : List ℕ) → sum zs ≡ length is → length (round_records is zs) ≡ 2 * length is + 4 * length zs
unfolding round_records sum
length_rounds is [] e = omega arith
length_rounds is (z ∷ zs) e =
    omega (
      arith,
      length-append (record_of 4 (encode 2 (take z is))) (round_records (drop z is) zs),
      record_head 4 (encode 2 (take z is)),
      length_encode 2 (take z is),
      length-take-le z is (omega arith),
      length-drop z is,
      length_rounds (drop z is) zs (omega (arith, length-drop z is)),
    )

pub length_file :
    (o n : List ℕ) (mode : ℕ) (is zs : List ℕ)
    → sum zs ≡ length is
    → length (file_of o n mode is zs) ≡ 14 + 2 * length o + 2 * length n + 2 * length is + 4 * length zs
unfolding file_of
length_file o n mode is zs e =
    let a = record_of 1 (encode 2 o) in
    let b = record_of 2 (encode 2 n) in
    let c = record_of 3 (encode 2 (mode ∷ [])) in
    let r = round_records is zs in
    omega (
      arith,
      length-append a (b ++ (c ++ r)),
      length-append b (c ++ r),
      length-append c r,
      record_head 1 (encode 2 o),
      record_head 2 (encode 2 n),
      record_head 3 (encode 2 (mode ∷ [])),
      length_encode 2 o,
      length_encode 2 n,
      length_encode 2 (mode ∷ []),
      length_rounds is zs e,
    )

-- ---- what a file holds

-- the bytes of a right record's body are whole entries
pub body_whole : {f : List ℕ} {k p : ℕ} → Right f k p → Whole (body f p)
body_whole r = record { even = omega (arith, length_body r, r.even) }

pub body_under : {f : List ℕ} (p : ℕ) → Under 256 f → Under 256 (body f p)
body_under {f} p u = under_take (size_at f p) (drop (p + 4) f) (omega arith) (under_drop (p + 4) f u)

body_again : {f : List ℕ} {k p : ℕ} → Right f k p → Under 256 f → encode 2 (entries (body f p)) ≡ body f p
body_again {f} {k} {p} r u = encode_entries (body f p) (body_whole r) (body_under p u)

pub body_entries : {f : List ℕ} {k p : ℕ} → Right f k p → length (entries (body f p)) ≡ size_at f p / 2
body_entries {f} {k} {p} r = length_entries (body f p) ∙ ap (λ (x : ℕ). x / 2) (length_body r)

pub rounds_none : (f : List ℕ) (p : ℕ) → RoundsIn f p p [] []
unfolding round_records sum
rounds_none f p = record { same = refl; sums = refl; low = λ i. omega arith }

sum_snoc : (zs : List ℕ) (z : ℕ) → sum (zs ++ (z ∷ [])) ≡ sum zs + z
unfolding sum
sum_snoc [] z = omega arith
sum_snoc (y ∷ zs) z = omega (arith, sum_snoc zs z)

pub rounds_more :
    {f : List ℕ} {p q : ℕ} {is zs : List ℕ}
    → RoundsIn f p q is zs
    → Right f 4 q
    → Under 256 f
    → RoundsIn f p (q + 4 + size_at f q) (is ++ entries (body f q)) (zs ++ (size_at f q / 2 ∷ []))
rounds_more {f} {p} {q} {is} {zs} h r u =
    let b = entries (body f q) in
    record {
      same =
          h.same
          ∙ ap (λ (l : List ℕ). round_records is zs ++ l) (record_splits r u)
          ∙ sym (append_assoc (round_records is zs) (record_of 4 (body f q)) (drop (q + 4 + size_at f q) f))
          ∙ ap (λ (l : List ℕ). l ++ drop (q + 4 + size_at f q) f) (sym more);
      sums = sum_snoc zs (size_at f q / 2) ∙ omega (arith, h.sums, length-append is b, body_entries r);
      low = (under_append is b (record { below = h.low }) (entries_under (body f q) (body_under q u))).below;
    }
  where
    more : round_records (is ++ entries (body f q)) (zs ++ (size_at f q / 2 ∷ [])) ≡ round_records is zs ++ record_of 4 (body f q)
    more =
        rw (sym (body_entries r)) (rounds_snoc is zs (entries (body f q)) h.sums)
        ∙ ap (λ (l : List ℕ). round_records is zs ++ record_of 4 l) (body_again r u)

pub right_at : {f : List ℕ} {p k : ℕ} → AllRight f → Expects f p k → (Ended f p k → ⊥) → Right f k p
right_at a x n = right (a.none_wrong x n)

pub record SomeRounds (f : List ℕ) (p : ℕ) : Type 0 where
  pub ids : List ℕ
  pub sizes : List ℕ
  pub rounds : RoundsIn f p (length f) ids sizes

pub rounds_some : {f : List ℕ} {p : ℕ} → AllRight f → Under 256 f → Expects f p 4 → p ≤ length f → SomeRounds f p
rounds_some {f} {p} a u x h = grow (length f) p x h (omega arith) [] [] (rounds_none f p)
  where
    grow :
        (m q : ℕ)
        → Expects f q 4
        → q ≤ length f
        → length f - q ≤ m
        → (is zs : List ℕ)
        → RoundsIn f p q is zs
        → SomeRounds f p
    grow zero q y l t is zs g =
        let e : q ≡ length f = omega arith in record { ids = is; sizes = zs; rounds = rw e at g }
    grow (suc m) q y l t is zs g = step (ℕ_discrete q (length f)) (grow m)
      where
        step :
            Dec (q ≡ length f)
            → ((r : ℕ)
            → Expects f r 4
            → r ≤ length f
            → length f - r ≤ m
            → (js ys : List ℕ)
            → RoundsIn f p r js ys
            → SomeRounds f p)
            → SomeRounds f p
        step (yes e) w = record { ids = is; sizes = zs; rounds = rw e at g }
        step (no e) w =
            let r = right_at a y (λ d. e d.all_read) in
            w (q + 4 + size_at f q) (next_expected y r) r.within (omega (arith, r.within))
            (is ++ entries (body f q))
            (zs ++ (size_at f q / 2 ∷ []))
            (rounds_more g r u)

pub file_is :
    (o n : List ℕ) (mode : ℕ) (is zs : List ℕ)
    → file_of o n mode is zs
    ≡ record_of 1 (encode 2 o) ++ (record_of 2 (encode 2 n) ++ (record_of 3 (encode 2 (mode ∷ [])) ++ round_records is zs))
unfolding file_of
file_is o n mode is zs = refl

pub pair_held :
    {f : List ℕ} {p q r : ℕ} {is zs : List ℕ}
    → Under 256 f
    → Right f 1 0
    → p ≡ 4 + size_at f 0
    → Right f 2 p
    → q ≡ p + 4 + size_at f p
    → Right f 3 q
    → r ≡ q + 6
    → RoundsIn f r (length f) is zs
    → Holds f (entries (body f 0)) (entries (body f p)) (le (take 2 (drop (q + 4) f))) is zs
pair_held {f} {p} {q} {r} {is} {zs} u x ep y eq z er h =
    record {
      same =
          first
          ∙ ap (λ (l : List ℕ). record_of 1 (encode 2 (entries (body f 0))) ++ l)
          (second ∙ ap (λ (l : List ℕ). record_of 2 (encode 2 (entries (body f p))) ++ l) third)
          ∙ sym (file_is (entries (body f 0)) (entries (body f p)) (le (take 2 (drop (q + 4) f))) is zs);
      sums = h.sums;
      old_ids = (entries_under (body f 0) (body_under 0 u)).below;
      new_ids = (entries_under (body f p) (body_under p u)).below;
      mode_fits = size_under f (q + 4) u;
      round_ids = h.low;
    }
  where
    first : f ≡ record_of 1 (encode 2 (entries (body f 0))) ++ drop p f
    first =
        let e : 0 + 4 + size_at f 0 ≡ p = omega arith in
        record_splits x u ∙ rw (e, body_again x u)

    second : drop p f ≡ record_of 2 (encode 2 (entries (body f p))) ++ drop q f
    second = record_splits y u ∙ rw (sym eq, body_again y u)

    two : size_at f q ≡ 2
    two = z.mode_body refl

    rounds_left : drop r f ≡ round_records is zs
    rounds_left = h.same ∙ ap (λ (l : List ℕ). round_records is zs ++ l) (drop-length f) ∙ append-nil (round_records is zs)

    mode_again : encode 2 (le (take 2 (drop (q + 4) f)) ∷ []) ≡ body f q
    mode_again =
        encode_one (le (take 2 (drop (q + 4) f)))
        ∙ two_bytes f (q + 4) u (omega (arith, two, z.within))
        ∙ ap (λ (m : ℕ). take m (drop (q + 4) f)) (sym two)

    third : drop q f ≡ record_of 3 (encode 2 (le (take 2 (drop (q + 4) f)) ∷ [])) ++ round_records is zs
    third =
        let e : q + 4 + size_at f q ≡ r = omega (arith, two) in
        record_splits z u
        ∙ ap (λ (m : ℕ). record_of 3 (body f q) ++ drop m f) e
        ∙ ap (λ (l : List ℕ). record_of 3 (body f q) ++ l) rounds_left
        ∙ ap (λ (b : List ℕ). record_of 3 b ++ round_records is zs) (sym mode_again)

-- ---- exactly one content

pub record Content (f : List ℕ) : Type 0 where
  pub old : List ℕ
  pub new : List ℕ
  pub mode : ℕ
  pub ids : List ℕ
  pub sizes : List ℕ
  pub holds : Holds f old new mode ids sizes

pub not_ended : {f : List ℕ} {p k : ℕ} → k < 4 → Ended f p k → ⊥
not_ended h e = omega (arith, e.mode_came)

pub holds_some : {f : List ℕ} → AllRight f → Under 256 f → Content f
holds_some {f} a u =
    let x = at_front refl refl in
    let r = right_at a x (not_ended (omega arith)) in
    let y = next_expected x r in
    let s = right_at a y (not_ended (omega arith)) in
    let z = next_expected y s in
    let t = right_at a z (not_ended (omega arith)) in
    let w = next_expected z t in
    let v = rounds_some a u w t.within in
    record {
      old = entries (body f 0);
      new = entries (body f (0 + 4 + size_at f 0));
      mode = le (take 2 (drop (0 + 4 + size_at f 0 + 4 + size_at f (0 + 4 + size_at f 0) + 4) f));
      ids = v.ids;
      sizes = v.sizes;
      holds = pair_held u r (omega arith) s refl t (omega (arith, t.mode_body refl)) v.rounds;
    }

-- what is encoded alike is alike
encode_same : (a b : List ℕ) → Under 65536 a → Under 65536 b → encode 2 a ≡ encode 2 b → a ≡ b
encode_same a b u v e = sym (entries_encode a u) ∙ ap entries e ∙ entries_encode b v

pub rounds_one :
    (is zs js ys : List ℕ)
    → sum zs ≡ length is
    → sum ys ≡ length js
    → Under 65536 is
    → Under 65536 js
    → length (round_records is zs) < 65536
    → round_records is zs ≡ round_records js ys
    → (is ≡ js) × (zs ≡ ys)
rounds_one is [] js [] e d u v h g =
    (no_element is (omega (arith, sum_nil)) ∙ sym (no_element js (omega (arith, sum_nil))), refl)
rounds_one is [] js (y ∷ ys) e d u v h g =
    absurd (omega (arith, length_rounds is [] e, length_rounds js (y ∷ ys) d, ap length g, sum_nil))
rounds_one is (z ∷ zs) js [] e d u v h g =
    absurd (omega (arith, length_rounds is (z ∷ zs) e, length_rounds js [] d, ap length g, sum_nil))
rounds_one is (z ∷ zs) js (y ∷ ys) e d u v h g = go (rounds_one (drop z is) zs (drop y js) ys)
  where
    r : List ℕ
    r = round_records (drop z is) zs

    s : List ℕ
    s = round_records (drop y js) ys

    a : List ℕ
    a = encode 2 (take z is)

    b : List ℕ
    b = encode 2 (take y js)

    zl : length (take z is) ≡ z
    zl = length-take-le z is (omega (arith, sum_cons z zs))

    yl : length (take y js) ≡ y
    yl = length-take-le y js (omega (arith, sum_cons y ys))

    both : record_of 4 a ++ r ≡ record_of 4 b ++ s
    both = sym (round_cons is z zs) ∙ g ∙ round_cons js y ys

    long : length (record_of 4 a ++ r) < 65536
    long = rw (round_cons is z zs) at h

    parts : (a ≡ b) × (r ≡ s)
    parts =
        record_one 4 a b r s both
        (omega (arith, long, length-append (record_of 4 a) r, record_head 4 a))
        (omega (arith, long, ap length both, length-append (record_of 4 b) s, record_head 4 b))

    front : take z is ≡ take y js
    front = encode_same (take z is) (take y js) (under_take z is (omega arith) u) (under_take y js (omega arith) v) parts.0

    sizes : z ≡ y
    sizes = sym zl ∙ ap length front ∙ yl

    go :
        (sum zs ≡ length (drop z is)
        → sum ys ≡ length (drop y js)
        → Under 65536 (drop z is)
        → Under 65536 (drop y js)
        → length r < 65536
        → r ≡ s
        → (drop z is ≡ drop y js) × (zs ≡ ys))
        → (is ≡ js) × ((z ∷ zs) ≡ (y ∷ ys))
    go w =
        let p =
        w (omega (arith, sum_cons z zs, length-drop z is))
        (omega (arith, sum_cons y ys, length-drop y js))
        (under_drop z is u)
        (under_drop y js v)
        (omega (arith, long, length-append (record_of 4 a) r))
        parts.1 in
        let q = p.0 in
        let t = p.1 in
        (sym (take-append-drop z is) ∙ cc front ∙ take-append-drop y js, cc sizes)

pub record SameContent (o n : List ℕ) (mode : ℕ) (is zs o' n' : List ℕ) (mode' : ℕ) (is' zs' : List ℕ) : Type 0 where
  pub same_old : o ≡ o'
  pub same_new : n ≡ n'
  pub same_mode : mode ≡ mode'
  pub same_ids : is ≡ is'
  pub same_sizes : zs ≡ zs'

-- of two records at the front of two equal lists, no longer than 65,535 bytes in all, the rest is shorter
record_parts :
    (k : ℕ) (b b' r r' : List ℕ)
    → record_of k b ++ r ≡ record_of k b' ++ r'
    → length (record_of k b ++ r) < 65536
    → (b ≡ b') × (r ≡ r') × (length r < 65536)
record_parts k b b' r r' e h =
    let p =
    record_one k b b' r r' e
    (omega (arith, length-append (record_of k b) r, record_head k b))
    (omega (arith, ap length e, length-append (record_of k b') r', record_head k b')) in
    (p.0, p.1, omega (arith, length-append (record_of k b) r))

pub holds_one :
    {f o n o' n' : List ℕ} {mode mode' : ℕ} {is zs is' zs' : List ℕ}
    → Holds f o n mode is zs
    → Holds f o' n' mode' is' zs'
    → length f < 65536
    → SameContent o n mode is zs o' n' mode' is' zs'
holds_one {f} {o} {n} {o'} {n'} {mode} {mode'} {is} {zs} {is'} {zs'} g h l =
    let x = sym (file_is o n mode is zs) ∙ sym g.same ∙ h.same ∙ file_is o' n' mode' is' zs' in
    let lx = rw (g.same, file_is o n mode is zs) at l in
    let a = record_parts 1 (encode 2 o) (encode 2 o') _ _ x lx in
    let b = record_parts 2 (encode 2 n) (encode 2 n') _ _ a.1 a.2 in
    let c = record_parts 3 (encode 2 (mode ∷ [])) (encode 2 (mode' ∷ [])) _ _ b.1 b.2 in
    let d = rounds_one is zs is' zs' g.sums h.sums (record { below = g.round_ids }) (record { below = h.round_ids }) c.2 c.1 in
    let m : (mode ∷ []) ≡ (mode' ∷ []) =
    encode_same (mode ∷ []) (mode' ∷ []) (under_cons g.mode_fits (under_nil (omega arith))) (under_cons h.mode_fits (under_nil (omega arith))) c.0 in
    record {
      same_old = encode_same o o' (record { below = g.old_ids }) (record { below = h.old_ids }) a.0;
      same_new = encode_same n n' (record { below = g.new_ids }) (record { below = h.new_ids }) b.0;
      same_mode = cc m;
      same_ids = d.0;
      same_sizes = d.1;
    }

-- ---- a file that holds a content has no wrong record

-- the bytes l are right records, the first of the kind k
data Chain : ℕ → List ℕ → Type 0 where
  none : {k : ℕ} {l : List ℕ} → k ≡ 4 → l ≡ [] → Chain k l
  more :
      {k : ℕ} {l : List ℕ} (b r : List ℕ)
      → l ≡ record_of k b ++ r
      → length b % 2 ≡ 0
      → (k ≡ 3 → length b ≡ 2)
      → k < 65536
      → length l < 65536
      → Chain (after k) r
      → Chain k l

record ChainAt (f : List ℕ) (p k : ℕ) : Type 0 where
  chain : Chain k (drop p f)
  within : p ≤ length f

chain_begins :
    {f : List ℕ} {k p : ℕ} (b r : List ℕ)
    → drop p f ≡ record_of k b ++ r
    → k < 65536
    → length (drop p f) < 65536
    → Begins f k p b r
chain_begins {f} {k} {p} b r e h l =
    record { from = e; small = omega (arith, ap length e, length-append (record_of k b) r, record_head k b); kind_small = h }

chain_step : {f : List ℕ} {p k : ℕ} → ChainAt f p k → (WrongAt f k p → ⊥) → ChainAt f (p + 4 + size_at f p) (after k)
chain_step {f} {p} {k} c n = go c.chain refl
  where
    go : {l : List ℕ} → Chain k l → drop p f ≡ l → ChainAt f (p + 4 + size_at f p) (after k)
    go (none e d) g = absurd (n (cut (omega (arith, ap length g, ap length d, length-drop p f, c.within))))
    go (more b r e even m h l t) g =
        let x : Begins f k p b r = chain_begins b r (g ∙ e) h (rw (sym g) at l) in
        record { chain = rw (begins_next x) t; within = (begins_right x even m).within }

chain_at : {f : List ℕ} {p k : ℕ} → Chain 1 f → Expects f p k → ChainAt f p k
chain_at {f} c (at_front e d) = rw (e, d) (record { chain = c; within = omega arith })
chain_at {f} c (behind x n e d) = rw (e, d) (chain_step (chain_at c x) n)

chain_right : {f : List ℕ} {p k : ℕ} → ChainAt f p k → (Ended f p k → ⊥) → WrongAt f k p → ⊥
chain_right {f} {p} {k} c n = go c.chain refl
  where
    go : {l : List ℕ} → Chain k l → drop p f ≡ l → WrongAt f k p → ⊥
    go (none e d) g v =
        n (record { all_read = omega (arith, ap length g, ap length d, length-drop p f, c.within); mode_came = e })
    go (more b r e even m h l t) g v =
        let x : Begins f k p b r = chain_begins b r (g ∙ e) h (rw (sym g) at l) in
        right_not (begins_right x even m) v

encode_even : (b : List ℕ) → length (encode 2 b) % 2 ≡ 0
encode_even b = omega (arith, length_encode 2 b)

rounds_chain : (is zs : List ℕ) → sum zs ≡ length is → length (round_records is zs) < 65536 → Chain 4 (round_records is zs)
rounds_chain is [] e h = none refl (no_element (round_records is []) (omega (arith, length_rounds is [] e, sum_nil)))
rounds_chain is (z ∷ zs) e h =
    let d = length-drop z is in
    let s = sum_cons z zs in
    more (encode 2 (take z is)) (round_records (drop z is) zs) (round_cons is z zs) (encode_even (take z is)) (λ k. absurd (omega arith)) (omega arith) h
    (rounds_chain (drop z is) zs (omega arith)
    (omega (arith, length_rounds is (z ∷ zs) e, length_rounds (drop z is) zs (omega arith))))

holds_chain : {f o n : List ℕ} {mode : ℕ} {is zs : List ℕ} → Holds f o n mode is zs → length f < 65536 → Chain 1 f
holds_chain {f} {o} {n} {mode} {is} {zs} g l =
    let a = encode 2 o in
    let b = encode 2 n in
    let c = encode 2 (mode ∷ []) in
    let w = round_records is zs in
    let e = g.same ∙ file_is o n mode is zs in
    let x = length-append (record_of 1 a) (record_of 2 b ++ (record_of 3 c ++ w)) in
    let y = length-append (record_of 2 b) (record_of 3 c ++ w) in
    let z = length-append (record_of 3 c) w in
    let m : length f ≡ length (record_of 1 a ++ (record_of 2 b ++ (record_of 3 c ++ w))) = ap length e in
    more a (record_of 2 b ++ (record_of 3 c ++ w)) e (encode_even o) (λ (k : ◌≡◌ {A = ℕ} 1 3). absurd (omega arith)) (omega arith) l
    (more b (record_of 3 c ++ w) refl (encode_even n) (λ (k : ◌≡◌ {A = ℕ} 2 3). absurd (omega arith)) (omega arith) (omega arith)
    (more {k = 3} c w refl (encode_even (mode ∷ [])) (λ k. length_encode 2 (mode ∷ [])) (omega arith) (omega arith)
    (rounds_chain is zs g.sums (omega arith))))

pub holds_right : {f o n : List ℕ} {mode : ℕ} {is zs : List ℕ} → Holds f o n mode is zs → length f < 65536 → AllRight f
holds_right g l = record { none_wrong = λ x n. chain_right (chain_at (holds_chain g l) x) n }

-- ---- the routes in a file that holds a content

module _ {f o n : List ℕ} {mode : ℕ} {is zs : List ℕ} (g : Holds f o n mode is zs) (l : length f < 65536) where
  behind_old : List ℕ
  behind_old = record_of 2 (encode 2 n) ++ (record_of 3 (encode 2 (mode ∷ [])) ++ round_records is zs)

  begins_old : Begins f 1 0 (encode 2 o) behind_old
  unfolding behind_old
  begins_old = chain_begins (encode 2 o) behind_old (g.same ∙ file_is o n mode is zs) (omega arith) l

  pub holds_old : {q : ℕ} → Expects f q 1 → size_at f q ≡ 2 * length o
  holds_old x =
      ap (size_at f) (expects_place x (at_front refl refl) (omega arith)) ∙ begins_size begins_old ∙ length_encode 2 o

  begins_new : Begins f 2 (0 + 4 + size_at f 0) (encode 2 n) (record_of 3 (encode 2 (mode ∷ [])) ++ round_records is zs)
  unfolding behind_old
  begins_new =
      chain_begins (encode 2 n) (record_of 3 (encode 2 (mode ∷ [])) ++ round_records is zs) (begins_next begins_old) (omega arith)
      (omega (arith, length-drop (0 + 4 + size_at f 0) f))

  pub holds_new : {q : ℕ} → Expects f q 2 → size_at f q ≡ 2 * length n
  holds_new x =
      let a = at_front refl refl in
      let y = next_expected a (right_at (holds_right g l) a (not_ended (omega arith))) in
      ap (size_at f) (expects_place x y (omega arith)) ∙ begins_size begins_new ∙ length_encode 2 n
