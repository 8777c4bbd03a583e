-- Laws on reading: the parts of the reader, and the order of its refusals.
--
--   body_right       == where the answer is a body, the record is right
--   body_next, body_size == and these are the next offset and the length
--   scan_wrong       == a wrong record ends going through the records
--   answers          == what is answered, a record or the end
--   not_body         == what is no body is one of the two other answers
--   same_content     == two contents with the same numbers are the same
--   all_right_end    == where a round is expected at the end of the file, no record is wrong
--   goes_on          == behind a body the next kind is expected
--   Gone f a b q     == the records before the offset q are right, a and b are the lengths of the bodies of the two routes, and a
--                       round is expected at q
--   part_body        == the part of the file that is copied is the body of a record
--   Copying f p ids₀ sizes₀ q count rounds ids sizes == the rounds from the offset p to the offset q are copied
--   copying_right    == there the record is right
--   copying_none, copying_more, copying_end == before the first; one round more; at the end of the file
--   refuses          == a refusal as the reply: lent memory is kept
--   first_long, first_wrong, first_length == 2, 3 and 4 are given where no lower number applies
--   read_clear       == no refusal applies where there is room, the file is short, its records are right, and so are the routes' lengths
--   scanned_wrong    == a wrong record is refused, from what going through the records finds
--   rounds_within, rounds_ready == behind the mode of a fine file rounds are expected, within the file
--   old_wrong, new_wrong == a fine file with a route of the wrong length
--   all_copied       == all of a fine file is copied: the reply, and lent memory after it
--   gone_three, gone_more, gone_end == after the first three records; after one round more; at the end of the file
use Rattle.std.specs.Prelude.{Option, Some, None, Result, Ok, Err, is_err, true}
use Prim.Native.Nat.{ℕ, ◌+◌, ◌*◌, ◌-◌, ◌/◌, ◌<◌, ◌≤◌}
use mathlib.Core.Path.{◌≡◌, refl, sym, ap, ◌∙◌}
use mathlib.Core.Logic.{◌⊎◌, inl, inr}
use mathlib.Core.List.{List, [], ◌∷◌, ◌++◌}
use native.Mathlib.Decide.{ℕ_discrete, dec_lt}
use native.Mathlib.Omega.{arith}
use lib.ListN.{length, take, drop, length-append}
use lib.Seq.{sets}
use Rattle.house.specs.Numbers.{le, entries, put_number}
use Rattle.house.specs.Refusals.{Before, First, Clear}
use Rattle.house.specs.declared.Refusal.{Refusal}
use Rattle.house.specs.declared.Refusal.TheVariants.{FileLong, RecordWrong, RouteLength}
use Rattle.house.proofs.RefusalLaws.{before_irreflexive, before_number}
use Rattle.house.proofs.NumberLaws.{Under}
use Rattle.plans.specs.Replies.{overlaid}
use Rattle.planfile.specs.File.{size_at, WrongAt, cut, after, Expects, at_front, behind, Ended}
use Rattle.planfile.specs.Parts.{AllRight, Scans, all_right, one_wrong, LengthIs, length_right, length_few, length_many, Room, Fine, Ready, RoundsIn, Copied}
use Rattle.planfile.specs.Replies.{RecordIs, ended, wrong_at, stands, ReadFault, short_old, short_new, short_ids}
use Rattle.planfile.specs.Replies.{short_sizes, long, wrong, few, many, Reads, refused, content}
use Rattle.planfile.specs.declared.read.Counts.{Counts}
use Rattle.planfile.specs.declared.record.Record.{Record}
use Rattle.planfile.specs.declared.read.Content.{Content}
use Rattle.planfile.proofs.OrderLaws.{before_wrong, before_length}
use Rattle.planfile.proofs.RecordLaws.{Right, right, right_not, body, length_body}
use Rattle.planfile.proofs.RecordLaws.{next_expected, expects_before, expects_same, expects_place, expects_kind}
use Rattle.planfile.proofs.FileLaws.{right_at, not_ended, pair_held, body_whole, body_under, body_entries, rounds_none, rounds_more}
use Rattle.planfile.proofs.StoreLaws.{overlaid_none, overlaid_bytes, overlaid_more, overlaid_put}

pub body_right : {f : List ℕ} {p k : ℕ} {r : Record} → RecordIs f p k (Ok (Some r)) → Right f k p
body_right (stands w d e g) = right w

pub body_next : {f : List ℕ} {p k : ℕ} {r : Record} → RecordIs f p k (Ok (Some r)) → r.next ≡ p + 4 + size_at f p
body_next (stands w d e g) = g

pub body_size : {f : List ℕ} {p k : ℕ} {r : Record} → RecordIs f p k (Ok (Some r)) → r.size ≡ size_at f p
body_size (stands w d e g) = e

pub scan_wrong :
    {f : List ℕ} {p k : ℕ} {e : Refusal} → Expects f p k → RecordIs f p k (Err e) → Scans f (Err e)
scan_wrong x (wrong_at m w e) = one_wrong x m w e

pub answers :
    {f : List ℕ} {p k : ℕ} {o q : Option Record} → RecordIs f p k (Ok o) → o ≡ q → RecordIs f p k (Ok q)
answers x e = rw e at x

pub not_body :
    (a : Result (Option Record) Refusal) → ((r : Record) → a ≡ Ok (Some r) → ⊥) → (is_err a ≡ true) ⊎ (a ≡ Ok None)
not_body (Ok (Some r)) h = absurd (h r refl)
not_body (Ok None) h = inr refl
not_body (Err e) h = inl refl

-- two contents with the same numbers are the same
pub same_content :
    {p q : Content} → p.olds ≡ q.olds → p.news ≡ q.news → p.mode ≡ q.mode → p.ids ≡ q.ids → p.rounds ≡ q.rounds → p ≡ q
same_content v w x y z = λ i. record { olds = v i; news = w i; mode = x i; ids = y i; rounds = z i }

pub all_right_end : {f : List ℕ} {q : ℕ} → Expects f q 4 → q ≡ length f → AllRight f
all_right_end {f} {q} y e = record { none_wrong = λ {p} {k} x n v. go p k x n v (dec_lt p q) (ℕ_discrete p q) }
  where
    go : (p k : ℕ) → Expects f p k → (Ended f p k → ⊥) → WrongAt f k p → Dec (p < q) → Dec (p ≡ q) → ⊥
    go p k x n v (yes h) d = expects_before x y h v
    go p k x n v (no h) (yes d) = n (record { all_read = d ∙ e; mode_came = expects_same x y d })
    go p k x n v (no h) (no d) = expects_before y x (omega arith) (cut (omega arith))

pub record Gone (f : List ℕ) (a b q : ℕ) : Type 0 where
  pub expected : Expects f q 4
  pub within : q ≤ length f
  pub old_size : a ≡ size_at f 0
  pub new_size : b ≡ size_at f (4 + a)

pub goes_on :
    {f : List ℕ} {p k m : ℕ} {r : Record} → Expects f p k → RecordIs f p k (Ok (Some r)) → m ≡ after k → Expects f r.next m
goes_on x (stands w d e g) h = behind x w g h

pub gone_three :
    {f : List ℕ} {old new mode : Record}
    → RecordIs f 0 1 (Ok (Some old))
    → RecordIs f old.next 2 (Ok (Some new))
    → RecordIs f new.next 3 (Ok (Some mode))
    → Gone f old.size new.size mode.next
gone_three {f} {old} {new} {mode} x y z =
    let e : old.next ≡ 4 + old.size = omega (arith, body_next x, body_size x) in
    record {
      expected = goes_on (goes_on (goes_on (at_front refl refl) x refl) y refl) z refl;
      within = omega (arith, body_next z, (body_right z).within);
      old_size = body_size x;
      new_size = body_size y ∙ ap (size_at f) e;
    }

pub gone_more : {f : List ℕ} {a b q : ℕ} {r : Record} → Gone f a b q → RecordIs f q 4 (Ok (Some r)) → Gone f a b r.next
gone_more g x =
    record {
      expected = goes_on g.expected x refl;
      within = omega (arith, body_next x, (body_right x).within);
      old_size = g.old_size;
      new_size = g.new_size;
    }

pub gone_end : {f : List ℕ} {a b q : ℕ} → Gone f a b q → RecordIs f q 4 (Ok None) → Scans f (Ok (record { old = a; new = b }))
gone_end g (ended e) = all_right (all_right_end g.expected e.all_read) g.old_size g.new_size

-- ---- copying

pub part_body : (f : List ℕ) (q : ℕ) {z : ℕ} → z ≡ size_at f q → take (q + 4 + z - (q + 4)) (drop (q + 4) f) ≡ body f q
part_body f q {z} e =
    let d : q + 4 + z - (q + 4) ≡ size_at f q = omega arith in ap (λ (m : ℕ). take m (drop (q + 4) f)) d

pub record Copying (f : List ℕ) (p : ℕ) (ids₀ sizes₀ : List ℕ) (q count rounds : ℕ) (ids sizes : List ℕ) : Type 0 where
  pub is : List ℕ
  pub zs : List ℕ
  pub rounds_in : RoundsIn f p q is zs
  pub expected : Expects f q 4
  pub within : q ≤ length f
  pub count_is : count ≡ length is
  pub rounds_is : rounds ≡ length zs
  pub used : p + 2 * count + 4 * rounds ≡ q
  pub ids_now : ids ≡ overlaid is ids₀
  pub sizes_now : sizes ≡ overlaid zs sizes₀

pub copying_none : {f : List ℕ} {p : ℕ} {ids sizes : List ℕ} → Ready f p ids sizes → Copying f p ids sizes p 0 0 ids sizes
copying_none {f} {p} {ids} {sizes} r =
    record {
      is = [];
      zs = [];
      rounds_in = rounds_none f p;
      expected = r.expected;
      within = r.within;
      count_is = refl;
      rounds_is = refl;
      used = omega arith;
      ids_now = overlaid_none ids;
      sizes_now = overlaid_none sizes;
    }

module _ {f : List ℕ} {p : ℕ} {ids₀ sizes₀ : List ℕ} (r : Ready f p ids₀ sizes₀) where
  module _ {q count rounds : ℕ} {ids sizes : List ℕ} (g : Copying f p ids₀ sizes₀ q count rounds ids sizes) where
    pub copying_right : q < length f → Right f 4 q
    copying_right h = right_at r.right g.expected (λ e. absurd (omega (arith, e.all_read)))

    copied_round :
        Under 256 f
        → q < length f
        → Copying f p ids₀ sizes₀ (q + 4 + size_at f q) (count + size_at f q / 2) (rounds + 1)
        (sets ids (2 * count) (body f q))
        (put_number 2 sizes rounds (size_at f q / 2))
    copied_round u h =
        let w = copying_right h in
        record {
          is = g.is ++ entries (body f q);
          zs = g.zs ++ (size_at f q / 2 ∷ []);
          rounds_in = rounds_more g.rounds_in w u;
          expected = next_expected g.expected w;
          within = w.within;
          count_is = omega (arith, g.count_is, length-append g.is (entries (body f q)), body_entries w);
          rounds_is = omega (arith, g.rounds_is, length-append g.zs (size_at f q / 2 ∷ []));
          used = omega (arith, g.used, w.even);
          ids_now =
              ap (λ (l : List ℕ). sets l (2 * count) (body f q)) g.ids_now
              ∙ overlaid_more g.is (body f q) ids₀ (2 * count) (omega (arith, g.count_is)) (body_whole w) (body_under q u)
              (omega (arith, length_body w, w.within, g.used, r.fits, r.room_ids));
          sizes_now =
              ap (λ (l : List ℕ). put_number 2 l rounds (size_at f q / 2)) g.sizes_now
              ∙ overlaid_put g.zs sizes₀ rounds (size_at f q / 2) g.rounds_is
              (omega (arith, w.within, g.used, r.fits, r.room_sizes));
        }

    pub copying_more :
        {z x y : ℕ} {ids' sizes' : List ℕ}
        → Under 256 f
        → q < length f
        → z ≡ size_at f q
        → x ≡ size_at f q
        → y ≡ size_at f q / 2
        → ids' ≡ sets ids (2 * count) (take (q + 4 + z - (q + 4)) (drop (q + 4) f))
        → sizes' ≡ put_number 2 sizes rounds (x / 2)
        → Copying f p ids₀ sizes₀ (q + 4 + z) (count + y) (rounds + 1) ids' sizes'
    copying_more u h ez ex ey ei es = rw (ei, es, part_body f q ez, ez, ex, ey) (copied_round u h)

    pub copying_end : length f ≤ q → Copied f p ids₀ sizes₀ (record { ids = count; rounds = rounds }) ids sizes
    copying_end h =
        let e : q ≡ length f = omega (arith, g.within) in
        record {
          is = g.is;
          zs = g.zs;
          rounds_in = rw e at g.rounds_in;
          count = g.count_is;
          rounds = g.rounds_is;
          ids_after = g.ids_now;
          sizes_after = g.sizes_now;
        }

-- ---- the order of the refusals

module _ {f old new ids sizes : List ℕ} where
  pub refuses : {r : Refusal} → First (ReadFault f old new ids sizes) r → Reads f old new ids sizes (Err r) old new ids sizes
  refuses h = refused h refl refl refl refl

  module _ (room : Room old new ids sizes) where
    pub first_long : 4092 < length f → First (ReadFault f old new ids sizes) FileLong
    first_long h = record { applies = long h; lowest = go }
      where
        go : (q : Refusal) → ReadFault f old new ids sizes q → Before q FileLong → ⊥
        go q (short_old l) b = omega (arith, room.for_old)
        go q (short_new l) b = omega (arith, room.for_new)
        go q (short_ids l) b = omega (arith, room.for_ids)
        go q (short_sizes l) b = omega (arith, room.for_sizes)
        go q (long l) b = before_irreflexive b
        go q (wrong x n v) b = let n = before_number b in omega arith
        go q (few x w l) b = let n = before_number b in omega arith
        go q (many x w l) b = let n = before_number b in omega arith

    module _ (fits : length f ≤ 4092) where
      -- the first record that is wrong is the only one
      pub first_wrong :
          {p k : ℕ} → Expects f p k → (Ended f p k → ⊥) → WrongAt f k p → First (ReadFault f old new ids sizes) (RecordWrong p)
      first_wrong {p} {k} x n v = record { applies = wrong x n v; lowest = go }
        where
          go : (q : Refusal) → ReadFault f old new ids sizes q → Before q (RecordWrong p) → ⊥
          go q (short_old l) b = omega (arith, room.for_old)
          go q (short_new l) b = omega (arith, room.for_new)
          go q (short_ids l) b = omega (arith, room.for_ids)
          go q (short_sizes l) b = omega (arith, room.for_sizes)
          go q (long l) b = omega arith
          go q (wrong y m w) b = expects_before y x (before_wrong b) w
          go q (few y w l) b = let n = before_number b in omega arith
          go q (many y w l) b = let n = before_number b in omega arith

      module _ (right : AllRight f) where
        -- past the test of records only lengths are left, and of these the old route's comes first
        pub first_length :
            {w : ℕ}
            → ReadFault f old new ids sizes (RouteLength w)
            → ((v q : ℕ) → v < w → Expects f q v → (2 ≤ size_at f q / 2) × (size_at f q / 2 ≤ 256))
            → First (ReadFault f old new ids sizes) (RouteLength w)
        first_length {w} h e = record { applies = h; lowest = go }
          where
            go : (q : Refusal) → ReadFault f old new ids sizes q → Before q (RouteLength w) → ⊥
            go q (short_old l) b = omega (arith, room.for_old)
            go q (short_new l) b = omega (arith, room.for_new)
            go q (short_ids l) b = omega (arith, room.for_ids)
            go q (short_sizes l) b = omega (arith, room.for_sizes)
            go q (long l) b = omega arith
            go q (wrong y m t) b = right.none_wrong y m t
            go q (few {p = p} {w = v} y m l) b = omega (arith, e v p (before_length b) y)
            go q (many {p = p} {w = v} y m l) b = omega (arith, e v p (before_length b) y)

        pub read_clear :
            ((v q : ℕ) → v < 3 → Expects f q v → (2 ≤ size_at f q / 2) × (size_at f q / 2 ≤ 256))
            → Clear (ReadFault f old new ids sizes)
        read_clear e = record { clear = go }
          where
            go : (q : Refusal) → ReadFault f old new ids sizes q → ⊥
            go q (short_old l) = omega (arith, room.for_old)
            go q (short_new l) = omega (arith, room.for_new)
            go q (short_ids l) = omega (arith, room.for_ids)
            go q (short_sizes l) = omega (arith, room.for_sizes)
            go q (long l) = omega arith
            go q (wrong y m t) = right.none_wrong y m t
            go q (few {p = p} {w = v} y m l) = omega (arith, e v p m y)
            go q (many {p = p} {w = v} y m l) = omega (arith, e v p m y)

-- ---- from what going through the records finds

pub scanned_wrong :
    {f old new ids sizes : List ℕ} {r : Refusal}
    → Room old new ids sizes
    → length f ≤ 4092
    → Scans f (Err r)
    → First (ReadFault f old new ids sizes) r
scanned_wrong room fits (one_wrong x n v e) =
    rw (sym e) at (first_wrong room fits x n v)

-- ---- what a fine file holds

module _ {f : List ℕ} {a b : ℕ} {old new ids sizes : List ℕ} (g : Fine f a b old new ids sizes) where
  old_right : Right f 1 0
  old_right = right_at g.right (at_front refl refl) (not_ended (omega arith))

  at_new : Expects f (4 + a) 2
  at_new =
      let e : 4 + a ≡ 0 + 4 + size_at f 0 = omega (arith, g.old_size) in
      behind (at_front refl refl) (right_not old_right) e refl

  new_right : Right f 2 (4 + a)
  new_right = right_at g.right at_new (not_ended (omega arith))

  at_mode : Expects f (4 + a + 4 + b) 3
  at_mode =
      let e : 4 + a + 4 + b ≡ 4 + a + 4 + size_at f (4 + a) = omega (arith, g.new_size) in
      behind at_new (right_not new_right) e refl

  mode_right : Right f 3 (4 + a + 4 + b)
  mode_right = right_at g.right at_mode (not_ended (omega arith))

  at_rounds : Expects f (4 + a + 4 + b + 4 + 2) 4
  at_rounds =
      let p = 4 + a + 4 + b in
      let e : p + 4 + 2 ≡ p + 4 + size_at f p = omega (arith, mode_right.mode_body refl) in
      behind at_mode (right_not mode_right) e refl

  pub rounds_within : 4 + a + 4 + b + 4 + 2 ≤ length f
  rounds_within = omega (arith, mode_right.within, mode_right.mode_body refl)

  pub rounds_ready : Ready f (4 + a + 4 + b + 4 + 2) ids sizes
  rounds_ready =
      record {
        right = g.right;
        expected = at_rounds;
        within = rounds_within;
        fits = g.fits;
        room_ids = g.room.for_ids;
        room_sizes = g.room.for_sizes;
      }

  -- where a route is expected its body is that long
  old_length : {q : ℕ} → Expects f q 1 → size_at f q ≡ a
  old_length x = ap (size_at f) (expects_place x (at_front refl refl) (omega arith)) ∙ sym g.old_size

  new_length : {q : ℕ} → Expects f q 2 → size_at f q ≡ b
  new_length x = ap (size_at f) (expects_place x at_new (omega arith)) ∙ sym g.new_size

  -- lengths that are right, by route
  old_sized : 2 ≤ a / 2 → a / 2 ≤ 256 → (v q : ℕ) → v < 2 → Expects f q v → (2 ≤ size_at f q / 2) × (size_at f q / 2 ≤ 256)
  old_sized l m v q h x =
      let e : v ≡ 1 = omega (arith, expects_kind x) in
      omega (arith, old_length (rw e at x))

  both_sized :
      2 ≤ a / 2
      → a / 2 ≤ 256
      → 2 ≤ b / 2
      → b / 2 ≤ 256
      → (v q : ℕ)
      → v < 3
      → Expects f q v
      → (2 ≤ size_at f q / 2) × (size_at f q / 2 ≤ 256)
  both_sized l m l' m' v q h x = go (ℕ_discrete v 2)
    where
      go : Dec (v ≡ 2) → (2 ≤ size_at f q / 2) × (size_at f q / 2 ≤ 256)
      go (yes e) = omega (arith, new_length (rw e at x))
      go (no e) = old_sized l m v q (omega arith) x

  pub old_wrong : {r : Refusal} → LengthIs 1 (a / 2) (Err r) → First (ReadFault f old new ids sizes) r
  old_wrong (length_few l) =
      first_length g.room g.fits g.right
      (few (at_front refl refl) (omega arith) (omega (arith, g.old_size)))
      (λ v q h x. absurd (omega (arith, expects_kind x)))
  old_wrong (length_many l) =
      first_length g.room g.fits g.right
      (many (at_front refl refl) (omega arith) (omega (arith, g.old_size)))
      (λ v q h x. absurd (omega (arith, expects_kind x)))

  pub new_wrong : {r : Refusal} → LengthIs 1 (a / 2) (Ok tt) → LengthIs 2 (b / 2) (Err r) → First (ReadFault f old new ids sizes) r
  new_wrong (length_right l m) (length_few h) =
      first_length g.room g.fits g.right (few at_new (omega arith) (omega (arith, g.new_size))) (old_sized l m)
  new_wrong (length_right l m) (length_many h) =
      first_length g.room g.fits g.right (many at_new (omega arith) (omega (arith, g.new_size))) (old_sized l m)

  pub all_copied :
      {mode : ℕ} {c : Counts} {o' n' i' z' : List ℕ}
      → LengthIs 1 (a / 2) (Ok tt)
      → LengthIs 2 (b / 2) (Ok tt)
      → Under 256 f
      → o' ≡ sets old 0 (take (4 + a - 4) (drop 4 f))
      → n' ≡ sets new 0 (take (4 + a + 4 + b - (4 + a + 4)) (drop (4 + a + 4) f))
      → mode ≡ le (take 2 (drop (4 + a + 4 + b + 4) f))
      → Copied f (4 + a + 4 + b + 4 + 2) ids sizes c i' z'
      → Reads f old new ids sizes (Ok (record { olds = a / 2; news = b / 2; mode = mode; ids = c.ids; rounds = c.rounds })) o' n' i' z'
  all_copied (length_right l m) (length_right l' m') u eo en em c =
      let r = old_right in
      let s = new_right in
      let p : 4 + a ≡ 4 + size_at f 0 = omega (arith, g.old_size) in
      let q : 4 + a + 4 + b ≡ 4 + a + 4 + size_at f (4 + a) = omega (arith, g.new_size) in
      let t : 4 + a + 4 + b + 4 + 2 ≡ 4 + a + 4 + b + 6 = omega arith in
      let held = pair_held u r p s q mode_right t c.rounds_in in
      let eol : a / 2 ≡ length (entries (body f 0)) = omega (arith, body_entries r, g.old_size) in
      let enl : b / 2 ≡ length (entries (body f (4 + a))) = omega (arith, body_entries s, g.new_size) in
      content (entries (body f 0)) (entries (body f (4 + a))) c.is c.zs
      (read_clear g.room g.fits g.right (both_sized l m l' m'))
      (rw (sym em) at held)
      eol
      enl
      c.count
      c.rounds
      (eo
      ∙ ap (sets old 0) (part_body f 0 g.old_size)
      ∙ overlaid_bytes (body f 0) old (body_whole r) (body_under 0 u) (omega (arith, length_body r, g.old_size, g.room.for_old)))
      (en
      ∙ ap (sets new 0) (part_body f (4 + a) g.new_size)
      ∙ overlaid_bytes (body f (4 + a)) new (body_whole s) (body_under (4 + a) u) (omega (arith, length_body s, g.new_size, g.room.for_new)))
      c.ids_after
      c.sizes_after
