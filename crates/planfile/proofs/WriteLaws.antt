-- Laws on writing: the parts of the writer, and the order of its refusals.
--
--   record_stored    == the length, the kind and the body, one after the other, are a record
--   up_to_fits       == the ids of the rounds up to one more are within the ids
--   Putting file₀ at ids sizes next from t file == the first t rounds are stored, and the next one's ids begin at the byte `from`
--   putting_within, putting_room == the next one's ids are within the ids, and it has room
--   putting_none, putting_more, putting_end == before the first; one more; after the last
--   old_room, new_room, mode_room, rounds_room == the records of a sound change have room, one after the other
--   file_stored      == and stored one after the other they are the plan file
--   write_unfit, write_judged, judged_writable, write_stored == the writer's reply from the reply to its parts
--   putting_length   == lent memory keeps its length
use Rattle.std.specs.Prelude.{Ok, Err}
use Rattle.std.specs.Int.{w16, to_le_bytes}
use Prim.Native.Nat.{ℕ, zero, suc, ◌+◌, ◌*◌, ◌-◌, ◌<◌, ◌≤◌}
use mathlib.Core.Path.{◌≡◌, refl, sym, ap, ◌∙◌}
use mathlib.Core.List.{List, [], ◌∷◌, ◌++◌}
use native.Mathlib.Numerals.{add-one}
use native.Mathlib.Omega.{arith}
use lib.ListN.{length, get_or, take, drop, length-append, length-drop}
use lib.Seq.{sets, length-sets, length-take-le, take-suc, take-add, take_all, drop-nil}
use Rattle.house.specs.Numbers.{bytes, entries, encode}
use Rattle.house.proofs.NumberLaws.{Under, length_entries, length_encode, encode_entries}
use Rattle.house.specs.Refusals.{Before}
use Rattle.house.specs.declared.Refusal.{Refusal}
use Rattle.house.specs.declared.Refusal.TheVariants.{Unfit}
use Rattle.rounds.specs.Schedule.{sum}
use Rattle.rounds.specs.Replies.{JudgesChange, sound as judged_sound, faulty}
use Rattle.rounds.proofs.ScheduleLaws.{up_to, up_to_none, up_to_suc, up_to_most, up_to_all, SoundChange, clear_change}
use Rattle.planfile.specs.File.{record_of, round_records, file_of}
use Rattle.planfile.specs.Parts.{RecordRoom, PutRecord, RoundsRoom, PutRounds, Writable, PutFile}
use Rattle.planfile.specs.Replies.{WriteFault, short_file, change, Writes, refused, written}
use Rattle.house.proofs.RefusalLaws.{unfit_first}
use Rattle.house.proofs.StoreLaws.{sets_append, sets_front}
use Rattle.planfile.proofs.RecordLaws.{record_head}
use Rattle.planfile.proofs.StoreLaws.{encode_one}
use Rattle.planfile.proofs.FileLaws.{rounds_snoc, length_rounds, length_file, file_is}
use Rattle.planfile.proofs.LengthLaws.{file_most}

-- ---- a record

-- a number's two bytes
number_bytes : (n : ℕ) → to_le_bytes w16 n ≡ bytes 2 n
unfolding bytes
number_bytes n = refl

-- the first two bytes of each of two lists
four : List ℕ → List ℕ → List ℕ
four h q = get_or h 0 0 ∷ get_or h 1 0 ∷ get_or q 0 0 ∷ get_or q 1 0 ∷ []

record_is : (k : ℕ) (b : List ℕ) → four (bytes 2 (length b)) (bytes 2 k) ++ b ≡ record_of k b
unfolding four bytes record_of
record_is k b = refl

pub record_stored :
    {file f f' : List ℕ} {at k n : ℕ} {b head kind : List ℕ}
    → n ≡ length b
    → head ≡ to_le_bytes w16 n
    → kind ≡ to_le_bytes w16 k
    → f ≡ sets file at (get_or head 0 0 ∷ get_or head 1 0 ∷ get_or kind 0 0 ∷ get_or kind 1 0 ∷ [])
    → f' ≡ sets f (at + 4) b
    → PutRecord file at k b (at + 4 + length b) f'
unfolding four
record_stored {file} {f} {f'} {at} {k} {n} {b} {head} {kind} en eh ek e h =
    let l : head ≡ bytes 2 (length b) = eh ∙ ap (to_le_bytes w16) en ∙ number_bytes (length b) in
    let m : kind ≡ bytes 2 k = ek ∙ number_bytes k in
    record {
      stored =
          h
          ∙ ap (λ (z : List ℕ). sets z (at + 4) b) e
          ∙ sym (sets_append (four head kind) b file at)
          ∙ ap (λ (z : List ℕ). sets file at (four z kind ++ b)) l
          ∙ ap (λ (z : List ℕ). sets file at (four (bytes 2 (length b)) z ++ b)) m
          ∙ ap (sets file at) (record_is k b);
      next = refl;
    }

-- ---- rounds

-- the first k entries are the first 2 k bytes, and so are those past them
encode_take : (k : ℕ) (xs : List ℕ) → encode 2 (take k xs) ≡ take (2 * k) (encode 2 xs)
unfolding encode
encode_take zero xs = refl
encode_take (suc k) [] = sym (take_all (2 * suc k) [] (omega arith))
encode_take (suc k) (x ∷ xs) =
    let e : 2 * suc k ≡ suc (suc (2 * k)) = omega arith in rw (e, encode_take k xs)

encode_drop : (k : ℕ) (xs : List ℕ) → encode 2 (drop k xs) ≡ drop (2 * k) (encode 2 xs)
unfolding encode
encode_drop zero xs = refl
encode_drop (suc k) [] = sym (drop-nil (2 * suc k))
encode_drop (suc k) (x ∷ xs) =
    let e : 2 * suc k ≡ suc (suc (2 * k)) = omega arith in rw (e, encode_drop k xs)

pub up_to_fits : (zs : List ℕ) (t : ℕ) → up_to zs t + get_or zs t 0 ≤ sum zs
up_to_fits zs t = omega (arith, up_to_suc zs t, up_to_most zs (suc t))

-- one round more of ids and sizes that add up
rounds_next :
    (is zs : List ℕ) (t : ℕ)
    → sum zs ≡ length is
    → t < length zs
    → round_records (take (up_to zs (suc t)) is) (take (suc t) zs)
    ≡ round_records (take (up_to zs t) is) (take t zs) ++ record_of 4 (encode 2 (take (get_or zs t 0) (drop (up_to zs t) is)))
rounds_next is zs t e h =
    let u = up_to zs t in
    let z = get_or zs t 0 in
    let m = up_to_fits zs t in
    let b = take z (drop u is) in
    let l : length b ≡ z = length-take-le z (drop u is) (omega (arith, length-drop u is)) in
    let s : sum (take t zs) ≡ length (take u is) = sym (length-take-le u is (omega arith)) in
    ap (λ (k : ℕ). round_records (take k is) (take (suc t) zs)) (up_to_suc zs t)
    ∙ ap (λ (x : List ℕ). round_records x (take (suc t) zs)) (take-add u z is)
    ∙ ap (λ (x : List ℕ). round_records (take u is ++ b) x) (take-suc zs t 0 h)
    ∙ ap (λ (k : ℕ). round_records (take u is ++ b) (take t zs ++ (k ∷ []))) (sym l)
    ∙ rounds_snoc (take u is) (take t zs) b s

pub record Putting (file₀ : List ℕ) (at : ℕ) (ids sizes : List ℕ) (next from t : ℕ) (file : List ℕ) : Type 0 where
  pub within : t ≤ length (entries sizes)
  pub from_is : from ≡ 2 * up_to (entries sizes) t
  pub next_is : next ≡ at + length (round_records (take (up_to (entries sizes) t) (entries ids)) (take t (entries sizes)))
  pub stored : file ≡ sets file₀ at (round_records (take (up_to (entries sizes) t) (entries ids)) (take t (entries sizes)))

pub putting_none : (file : List ℕ) (at : ℕ) (ids sizes : List ℕ) → Putting file at ids sizes at 0 0 file
unfolding round_records
putting_none file at ids sizes =
    record {
      within = omega arith;
      from_is = omega (arith, up_to_none (entries sizes));
      next_is = omega arith;
      stored = refl;
    }

module _
    {file₀ : List ℕ} {at : ℕ} {ids sizes : List ℕ} {next from t : ℕ} {file : List ℕ}
    (r : RoundsRoom file₀ at ids sizes)
    (g : Putting file₀ at ids sizes next from t file)
  where
    pub putting_length : length file ≡ length file₀
    putting_length = ap length g.stored ∙ length-sets file₀ at (round_records (take (up_to (entries sizes) t) (entries ids)) (take t (entries sizes)))

    -- the offset, counted
    next_long : next ≡ at + 2 * up_to (entries sizes) t + 4 * t
    next_long =
        let u = up_to (entries sizes) t in
        let m = up_to_fits (entries sizes) t in
        let a : length (take u (entries ids)) ≡ u = length-take-le u (entries ids) (omega (arith, r.sums)) in
        let b : length (take t (entries sizes)) ≡ t = length-take-le t (entries sizes) g.within in
        omega (arith, g.next_is, length_rounds (take u (entries ids)) (take t (entries sizes)) (sym a))

    module _ {z : ℕ} (h : t < length (entries sizes)) (ez : z ≡ get_or (entries sizes) t 0) where
      -- the round's ids are within the ids
      pub putting_within : from + 2 * z ≤ length ids
      putting_within =
          omega (arith, g.from_is, up_to_fits (entries sizes) t, r.sums, length_entries ids)

      part_length : length (take (from + 2 * z - from) (drop from ids)) ≡ 2 * z
      part_length =
          let e : from + 2 * z - from ≡ 2 * z = omega arith in
          ap (λ (k : ℕ). length (take k (drop from ids))) e
          ∙ length-take-le (2 * z) (drop from ids) (omega (arith, length-drop from ids, putting_within))

      pub putting_room : RecordRoom file next (take (from + 2 * z - from) (drop from ids))
      putting_room =
          record {
            room =
                omega (
                  arith,
                  part_length,
                  next_long,
                  putting_length,
                  r.room,
                  length_rounds (entries ids) (entries sizes) r.sums,
                  up_to_fits (entries sizes) t,
                  r.sums,
                );
            short = omega (arith, part_length, putting_within, r.short);
          }

      part_is :
          Under 256 ids
          → take (from + 2 * z - from) (drop from ids)
          ≡ encode 2 (take (get_or (entries sizes) t 0) (drop (up_to (entries sizes) t) (entries ids)))
      part_is u =
          let e : from + 2 * z - from ≡ 2 * get_or (entries sizes) t 0 = omega arith in
          let w = up_to (entries sizes) t in
          let y = get_or (entries sizes) t 0 in
          ap (λ (k : ℕ). take k (drop from ids)) e
          ∙ ap (λ (k : ℕ). take (2 * y) (drop k ids)) g.from_is
          ∙ ap (λ (x : List ℕ). take (2 * y) (drop (2 * w) x)) (sym (encode_entries ids r.whole u))
          ∙ ap (take (2 * y)) (sym (encode_drop w (entries ids)))
          ∙ sym (encode_take y (drop w (entries ids)))

      pub putting_more :
          {n : ℕ} {f' : List ℕ}
          → Under 256 ids
          → PutRecord file next 4 (take (from + 2 * z - from) (drop from ids)) n f'
          → Putting file₀ at ids sizes n (from + 2 * z) (t + 1) f'
      putting_more {n} {f'} u p =
          let es = entries ids in
          let ys = entries sizes in
          let done = round_records (take (up_to ys t) es) (take t ys) in
          let b = encode 2 (take (get_or ys t 0) (drop (up_to ys t) es)) in
          let more : round_records (take (up_to ys (t + 1)) es) (take (t + 1) ys) ≡ done ++ record_of 4 b =
          rw (add-one t) (rounds_next es ys t r.sums h) in
          record {
            within = omega arith;
            from_is = rw (add-one t) (omega (arith, g.from_is, up_to_suc ys t));
            next_is =
                omega (
                  arith,
                  p.next,
                  g.next_is,
                  ap length more,
                  length-append done (record_of 4 b),
                  record_head 4 b,
                  ap length (part_is u),
                );
            stored =
                p.stored
                ∙ ap (λ (x : List ℕ). sets file next (record_of 4 x)) (part_is u)
                ∙ ap (λ (x : List ℕ). sets x next (record_of 4 b)) g.stored
                ∙ ap (λ (k : ℕ). sets (sets file₀ at done) k (record_of 4 b)) g.next_is
                ∙ sym (sets_append done (record_of 4 b) file₀ at)
                ∙ ap (sets file₀ at) (sym more);
          }

    pub putting_end : length (entries sizes) ≤ t → PutRounds file₀ at ids sizes next file
    putting_end h =
        let u : up_to (entries sizes) t ≡ length (entries ids) = up_to_all (entries sizes) t h ∙ r.sums in
        let e : round_records (take (up_to (entries sizes) t) (entries ids)) (take t (entries sizes)) ≡ round_records (entries ids) (entries sizes) =
        ap (λ (x : List ℕ). round_records x (take t (entries sizes))) (take_all (up_to (entries sizes) t) (entries ids) (omega arith))
        ∙ ap (round_records (entries ids)) (take_all t (entries sizes) h) in
        record {
          stored = g.stored ∙ ap (sets file₀ at) e;
          next = g.next_is ∙ ap (λ (x : List ℕ). at + length x) e;
        }

-- ---- the whole file

module _ {old new : List ℕ} {mode : ℕ} {ids sizes file : List ℕ} (w : Writable old new mode ids sizes file) where
  sound : SoundChange old new mode ids sizes
  sound = clear_change w.sound

  -- all of it has room
  total : 14 + length old + length new + 2 * length (entries ids) + 4 * length (entries sizes) ≤ 4092
  total =
      omega (
        arith,
        file_most sound.good sound.schedule mode,
        length_file (entries old) (entries new) mode (entries ids) (entries sizes) sound.schedule.sums,
        length_entries old,
        length_entries new,
        sound.whole_old.even,
        sound.whole_new.even,
      )

  pub old_room : RecordRoom file 0 old
  old_room = record { room = omega (arith, total, w.room); short = omega (arith, total) }

  module _ {p : ℕ} {f : List ℕ} (x : PutRecord file 0 1 old p f) where
    old_kept : length f ≡ length file
    old_kept = ap length x.stored ∙ length-sets file 0 (record_of 1 old)

    pub new_room : RecordRoom f p new
    new_room = record { room = omega (arith, total, w.room, x.next, old_kept); short = omega (arith, total) }

    module _ {q : ℕ} {g : List ℕ} (y : PutRecord f p 2 new q g) where
      new_kept : length g ≡ length file
      new_kept = ap length y.stored ∙ length-sets f p (record_of 2 new) ∙ old_kept

      module _ {b : List ℕ} (eb : b ≡ to_le_bytes w16 mode) where
        mode_is : b ≡ encode 2 (mode ∷ [])
        mode_is = eb ∙ number_bytes mode ∙ sym (encode_one mode)

        mode_size : length b ≡ 2
        mode_size = ap length mode_is ∙ length_encode 2 (mode ∷ [])

        pub mode_room : RecordRoom g q b
        mode_room = record { room = omega (arith, total, w.room, x.next, y.next, new_kept, mode_size); short = omega (arith, mode_size) }

        module _ {r : ℕ} {h : List ℕ} (z : PutRecord g q 3 b r h) where
          rounds_at : r ≡ 14 + length old + length new
          rounds_at = omega (arith, x.next, y.next, z.next, mode_size)

          pub rounds_room : RoundsRoom h r ids sizes
          rounds_room =
              record {
                whole = sound.whole_ids;
                sums = sound.schedule.sums;
                room =
                    omega (
                      arith,
                      total,
                      w.room,
                      rounds_at,
                      length_rounds (entries ids) (entries sizes) sound.schedule.sums,
                      ap length z.stored ∙ length-sets g q (record_of 3 b) ∙ new_kept,
                    );
                short = omega (arith, total, length_entries ids, sound.whole_ids.even);
              }

          pub file_stored :
              {n : ℕ} {f' : List ℕ}
              → Under 256 old
              → Under 256 new
              → PutRounds h r ids sizes n f'
              → PutFile old new mode ids sizes file n f'
          file_stored {n} {f'} uo un k =
              let o = record_of 1 old in
              let m = record_of 2 new in
              let d = record_of 3 b in
              let t = round_records (entries ids) (entries sizes) in
              let whole : file_of (entries old) (entries new) mode (entries ids) (entries sizes) ≡ o ++ (m ++ (d ++ t)) =
              file_is (entries old) (entries new) mode (entries ids) (entries sizes)
              ∙ rw (sym mode_is, encode_entries old sound.whole_old uo, encode_entries new sound.whole_new un) in
              let lo = record_head 1 old in
              let lm = record_head 2 new in
              let ld = record_head 3 b in
              let a1 = length-append o (m ++ (d ++ t)) in
              let a2 = length-append m (d ++ t) in
              let a3 = length-append d t in
              let size : n ≡ length (o ++ (m ++ (d ++ t))) = omega (arith, x.next, y.next, z.next, k.next) in
              let ep : p ≡ 0 + length o = omega (arith, x.next) in
              let eq : q ≡ p + length m = omega (arith, y.next) in
              let er : r ≡ q + length d = omega (arith, z.next) in
              let all : f' ≡ sets file 0 (o ++ (m ++ (d ++ t))) =
              k.stored
              ∙ ap (λ (l : List ℕ). sets l r t) z.stored
              ∙ ap (λ (i : ℕ). sets (sets g q d) i t) er
              ∙ sym (sets_append d t g q)
              ∙ ap (λ (l : List ℕ). sets l q (d ++ t)) y.stored
              ∙ ap (λ (i : ℕ). sets (sets f p m) i (d ++ t)) eq
              ∙ sym (sets_append m (d ++ t) f p)
              ∙ ap (λ (l : List ℕ). sets l p (m ++ (d ++ t))) x.stored
              ∙ ap (λ (i : ℕ). sets (sets file 0 o) i (m ++ (d ++ t))) ep
              ∙ sym (sets_append o (m ++ (d ++ t)) file 0) in
              record {
                stored =
                    all
                    ∙ sets_front file (o ++ (m ++ (d ++ t)))
                    (omega (arith, total, w.room, size, rounds_at, k.next, length_rounds (entries ids) (entries sizes) sound.schedule.sums))
                    ∙ ap (λ (i : ℕ). (o ++ (m ++ (d ++ t))) ++ drop i file) (sym size)
                    ∙ ap (λ (l : List ℕ). l ++ drop n file) (sym whole);
                size = size ∙ ap length (sym whole);
              }

-- ---- the order of the refusals

module _ {old new : List ℕ} {mode : ℕ} {ids sizes file : List ℕ} where
  pub write_unfit : length file < 4092 → Writes old new mode ids sizes file (Err Unfit) file
  write_unfit h = refused (unfit_first (short_file h)) refl

  pub write_judged :
      {r : Refusal}
      → 4092 ≤ length file
      → JudgesChange old new mode ids sizes (Err r)
      → Writes old new mode ids sizes file (Err r) file
  write_judged {r} h (faulty a) = refused (record { applies = change a.applies; lowest = go }) refl
    where
      go : (q : Refusal) → WriteFault old new mode ids sizes file q → Before q r → ⊥
      go q (short_file l) b = omega arith
      go q (change c) b = a.lowest q c b

  pub judged_writable :
      4092 ≤ length file → JudgesChange old new mode ids sizes (Ok tt) → Writable old new mode ids sizes file
  judged_writable h (judged_sound k) = record { sound = k; room = h }

  pub write_stored :
      {n : ℕ} {f' : List ℕ}
      → Writable old new mode ids sizes file
      → PutFile old new mode ids sizes file n f'
      → Writes old new mode ids sizes file (Ok n) f'
  write_stored w p = written (record { clear = go }) refl p.size p.stored
    where
      go : (q : Refusal) → WriteFault old new mode ids sizes file q → ⊥
      go q (short_file l) = omega (arith, w.room)
      go q (change c) = w.sound.clear q c
