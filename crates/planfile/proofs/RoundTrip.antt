-- The reader and the writer undo each other.
--
--   front k b        == the k entries at the front of the lent bytes b
--   read_written     == a file read and written again has the same bytes if its content passes refusals 4 to 14
--   ReadBack ..      == the lent memory after reading holds the given bytes at its front, and past them what it held before
--   written_read     == what the writer writes is read back as it was given
use Rattle.std.specs.Prelude.{Result, Ok}
use Rattle.planfile.specs.declared.read.Content.{Content}
use Prim.Native.Nat.{ℕ, ◌*◌, ◌/◌, ◌<◌, ◌≤◌}
use mathlib.Core.Path.{◌≡◌, sym, ap, ◌∙◌}
use mathlib.Core.List.{List, ◌++◌}
use native.Mathlib.Decide.{ℕ_discrete}
use native.Mathlib.Omega.{arith}
use lib.ListN.{length, take, drop}
use lib.Seq.{take_at}
use Rattle.house.specs.Numbers.{entries, Whole}
use Rattle.house.specs.Refusals.{Clear}
use Rattle.house.specs.declared.Refusal.{Refusal}
use Rattle.house.proofs.NumberLaws.{Under, entries_under, entries_encode, length_entries, length_encode}
use Rattle.plans.specs.Replies.{overlaid}
use Rattle.routes.specs.Routes.{RouteFault}
use Rattle.routes.specs.Replies.{half_old, half_new, pair}
use Rattle.rounds.specs.Schedule.{sum, ScheduleFault}
use Rattle.rounds.specs.Replies.{ChangeFault, half_ids, half_sizes, judged, schedule}
use Rattle.rounds.proofs.ScheduleLaws.{SoundChange, clear_change}
use Rattle.planfile.specs.File.{file_of, Holds, size_at, Expects}
use Rattle.planfile.specs.Parts.{Room}
use Rattle.planfile.specs.Replies.{Reads, refused as not-read, content, WriteFault, short_file, change, Writes, refused as not_written, written}
use Rattle.house.proofs.RefusalLaws.{first_not_clear}
use Rattle.planfile.proofs.RecordLaws.{expects_kind}
use Rattle.planfile.proofs.FileLaws.{length_file, holds_one, holds_right, holds_old, holds_new}
use Rattle.plans.proofs.CheckAccepts.{front_overlaid}
use Rattle.planfile.proofs.StoreLaws.{overlaid_back}
use Rattle.planfile.proofs.ReadLaws.{read_clear, same_content}
use Rattle.planfile.proofs.WriteLaws.{up_to_fits}
use Rattle.planfile.proofs.LengthLaws.{file_most}
use Rattle.planfile.proofs.OneContent.{clear_short}

abbrev pub front : ℕ → List ℕ → List ℕ
front k b = take (2 * k) b

pub record ReadBack (old new ids sizes lo ln li lz o' n' i' z' : List ℕ) : Type 0 where
  pub old_back : o' ≡ old ++ drop (length old) lo
  pub new_back : n' ≡ new ++ drop (length new) ln
  pub ids_back : i' ≡ ids ++ drop (length ids) li
  pub sizes_back : z' ≡ sizes ++ drop (length sizes) lz

-- the entries that were read
read_entries :
    (xs b : List ℕ) {k : ℕ} {b' : List ℕ} → k ≡ length xs → b' ≡ overlaid xs b → Under 65536 xs → entries (front k b') ≡ xs
read_entries xs b e d u = rw (e, d, front_overlaid xs b) (entries_encode xs u)

read_whole : (xs b : List ℕ) {k : ℕ} {b' : List ℕ} → k ≡ length xs → b' ≡ overlaid xs b → Whole (front k b')
read_whole xs b e d = record { even = rw (e, d, front_overlaid xs b) (omega (arith, length_encode 2 xs)) }

-- sizes that add up to few ids are two-byte numbers
sizes_low : (zs : List ℕ) (m : ℕ) → sum zs < m → Under m zs
sizes_low zs m h = record { below = λ i. omega (arith, up_to_fits zs i) }

pub read_written :
    {f lo ln li lz : List ℕ} {c : Content} {o' n' i' z' file : List ℕ} {a : Result ℕ Refusal} {f' : List ℕ}
    → Reads f lo ln li lz (Ok c) o' n' i' z'
    → Clear (RouteFault (entries (front c.olds o')) (entries (front c.news n')))
    → Clear (ScheduleFault (entries (front c.olds o')) (entries (front c.news n')) c.mode (entries (front c.ids i')) (entries (front c.rounds z')))
    → 4092 ≤ length file
    → Writes (front c.olds o') (front c.news n') c.mode (front c.ids i') (front c.rounds z') file a f'
    → (a ≡ Ok (length f)) × (f' ≡ f ++ drop (length f) file)
read_written {f} {lo} {ln} {li} {lz} {c} {o'} {n'} {i'} {z'} {file} {a} {f'} (content o n is zs k h e1 e2 e3 e4 d1 d2 d3 d4) p s room w =
    go w
  where
    small : length is < 65536
    small = omega (arith, ap length h.same, length_file o n c.mode is zs h.sums, clear_short k)

    same : f ≡ file_of (entries (front c.olds o')) (entries (front c.news n')) c.mode (entries (front c.ids i')) (entries (front c.rounds z'))
    same =
        rw (
          read_entries o lo e1 d1 (record { below = h.old_ids }),
          read_entries n ln e2 d2 (record { below = h.new_ids }),
          read_entries is li e3 d3 (record { below = h.round_ids }),
          read_entries zs lz e4 d4 (sizes_low zs 65536 (omega (arith, h.sums, small))),
        )
        h.same

    passes : (q : Refusal) → ChangeFault (front c.olds o') (front c.news n') c.mode (front c.ids i') (front c.rounds z') q → ⊥
    passes q (half_ids x) = x (read_whole is li e3 d3)
    passes q (half_sizes x) = x (read_whole zs lz e4 d4)
    passes q (judged (half_old x)) = x (read_whole o lo e1 d1)
    passes q (judged (half_new x)) = x (read_whole n ln e2 d2)
    passes q (judged (pair x)) = p.clear q x
    passes q (schedule x) = s.clear q x

    none : (q : Refusal) → WriteFault (front c.olds o') (front c.news n') c.mode (front c.ids i') (front c.rounds z') file q → ⊥
    none q (short_file x) = omega arith
    none q (change x) = passes q x

    go :
        {b : Result ℕ Refusal} {g : List ℕ}
        → Writes (front c.olds o') (front c.news n') c.mode (front c.ids i') (front c.rounds z') file b g
        → (b ≡ Ok (length f)) × (g ≡ f ++ drop (length f) file)
    go (not_written {r} x y) = absurd (none r x.applies)
    go (written {f = x} _ ex em es) =
        let xf : x ≡ f = ex ∙ sym same in
        (cc, cc)

pub written_read :
    {old new : List ℕ} {mode : ℕ} {ids sizes file : List ℕ} {size : ℕ} {f' lo ln li lz : List ℕ} {a : Result Content Refusal} {o' n' i' z' : List ℕ}
    → Writes old new mode ids sizes file (Ok size) f'
    → Under 256 old
    → Under 256 new
    → Under 256 ids
    → Under 256 sizes
    → Room lo ln li lz
    → Reads (take size f') lo ln li lz a o' n' i' z'
    → (a ≡ Ok (record { olds = length old / 2; news = length new / 2; mode = mode; ids = length ids / 2; rounds = length sizes / 2 })) × ReadBack old new ids sizes lo ln li lz o' n' i' z'
written_read {old} {new} {mode} {ids} {sizes} {file} {size} {f'} {lo} {ln} {li} {lz} {a} {o'} {n'} {i'} {z'} (written {f} k ef em es) uo un ui uz room r =
    go r
  where
    sound : SoundChange old new mode ids sizes
    sound = clear_change (record { clear = λ q c. k.clear q (change c) })

    all : take size f' ≡ f
    all = ap (take size) es ∙ take_at f (drop size file) size (sym em)

    holds : Holds (take size f') (entries old) (entries new) mode (entries ids) (entries sizes)
    holds =
        record {
          same = all ∙ ef;
          sums = sound.schedule.sums;
          old_ids = (entries_under old uo).below;
          new_ids = (entries_under new un).below;
          mode_fits = omega (arith, sound.mode_low);
          round_ids = (entries_under ids ui).below;
        }

    short : length (take size f') ≤ 4092
    short = omega (arith, ap length all, ap length ef, file_most sound.good sound.schedule mode)

    long : length (take size f') < 65536
    long = omega (arith, short)

    sized : (v q : ℕ) → v < 3 → Expects (take size f') q v → (2 ≤ size_at (take size f') q / 2) × (size_at (take size f') q / 2 ≤ 256)
    sized v q h x = pick (ℕ_discrete v 2)
      where
        pick : Dec (v ≡ 2) → (2 ≤ size_at (take size f') q / 2) × (size_at (take size f') q / 2 ≤ 256)
        pick (yes e) = omega (arith, holds_new holds long (rw e at x), sound.good.new.least, sound.good.new.most)
        pick (no e) =
            let d : v ≡ 1 = omega (arith, expects_kind x) in
            omega (arith, holds_old holds long (rw d at x), sound.good.old.least, sound.good.old.most)

    go :
        {b : Result Content Refusal} {o1 n1 i1 z1 : List ℕ}
        → Reads (take size f') lo ln li lz b o1 n1 i1 z1
        → (b ≡ Ok (record { olds = length old / 2; news = length new / 2; mode = mode; ids = length ids / 2; rounds = length sizes / 2 })) × ReadBack old new ids sizes lo ln li lz o1 n1 i1 z1
    go (not-read x y1 y2 y3 y4) = absurd (first_not_clear x (read_clear room short (holds_right holds long) sized))
    go (content o n is zs {c = q} c h e1 e2 e3 e4 d1 d2 d3 d4) =
        let s = holds_one h holds long in
        let s1 = s.same_old in
        let s2 = s.same_new in
        let s3 = s.same_mode in
        let s4 = s.same_ids in
        let s5 = s.same_sizes in
        let l1 = length_entries old in
        let l2 = length_entries new in
        let l3 = length_entries ids in
        let l4 = length_entries sizes in (
          ap Ok (same_content (e1 ∙ ap length s1 ∙ l1) (e2 ∙ ap length s2 ∙ l2) s3 (e3 ∙ ap length s4 ∙ l3) (e4 ∙ ap length s5 ∙ l4)),
          record {
            old_back = d1 ∙ ap (λ (l : List ℕ). overlaid l lo) s1 ∙ overlaid_back old lo sound.whole_old uo;
            new_back = d2 ∙ ap (λ (l : List ℕ). overlaid l ln) s2 ∙ overlaid_back new ln sound.whole_new un;
            ids_back = d3 ∙ ap (λ (l : List ℕ). overlaid l li) s4 ∙ overlaid_back ids li sound.whole_ids ui;
            sizes_back = d4 ∙ ap (λ (l : List ℕ). overlaid l lz) s5 ∙ overlaid_back sizes lz sound.whole_sizes uz;
          },
        )
