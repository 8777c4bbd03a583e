-- Laws on what the two programs answer, from what their parts answer.
--
--   puts_within      == what is put lies within the lent bytes
--   line_told        == the three numbers of a refusal are what the NO line tells
--   none_named       == a set of no ids names none
--   read_within      == what is read lies within the four arrays
--   read_content     == and is the content of the file
--   wrong_says       == what the checker says of a file that is not read
--   content_says     == and of each other
--   plan_within      == the plan lies within its two arrays
--   refusal_printed  == the NO line of what the planner refuses
--   wrong_refused    == it refuses a file that is not read
--   plan_refused     == and one whose pair or mode is refused
--   plan_written     == of each other it writes the plan; the writer does not refuse it
use Rattle.std.specs.Prelude.{Result, Ok, Err}
use Rattle.rounds.specs.declared.check.Accepted.{Accepted}
use Rattle.plans.specs.declared.Given.{Given}
use Rattle.planfile.specs.declared.read.Content.{Content}
use Prim.Native.Nat.{ℕ, ◌*◌, ◌≤◌}
use mathlib.Core.Path.{◌≡◌, refl, sym, ap, ◌∙◌}
use mathlib.Core.Bool.{Bool, true, false, cond, ◌||◌}
use mathlib.Core.List.{List, [], ◌∷◌, ◌++◌, append-nil}
use native.Mathlib.Omega.{arith}
use lib.Dec.{eqb}
use lib.ListN.{length, take, drop, length-append}
use Rattle.house.specs.declared.Refusal.{Refusal}
use Rattle.house.specs.declared.Told.{Told}
use Rattle.house.specs.Numbers.{le, numbers, entries, words, eight, encode}
use Rattle.house.specs.Sets.{has, size}
use Rattle.house.specs.Refusals.{number, First, IsTold}
use Rattle.house.proofs.NumberLaws.{length_encode, entries_encode, eight_words}
use Rattle.house.proofs.SetLaws.{has_zeros}
use Rattle.rounds.specs.States.{Fault, a_drop, a_loop}
use Rattle.rounds.specs.Replies.{fault_of, Checks, refused as check-refused, passes, begins_faulty, shows}
use Rattle.rounds.proofs.ScheduleLaws.{change_clear}
use Rattle.plans.specs.Plan.{rising, ids_of, sizes_of}
use Rattle.plans.specs.Replies.{overlaid, Plans, refused as not-planned, given}
use Rattle.plans.proofs.PlanSchedule.{length_sizes}
use Rattle.plans.proofs.CheckAccepts.{ids_entries, sizes_entries, front_overlaid, plan_sound}
use Rattle.planfile.specs.Replies.{Reads, content, WriteFault, short_file, change, Writes, refused as not_written, written}
use Rattle.desk.specs.Text.{NO}
use Rattle.desk.specs.Replies.{zeros, FileFault, told, subset, CheckerSays, wrong_file, accepted as says-ok}
use Rattle.desk.specs.Replies.{refused as says-no, PlannerPuts, Puts}
use Rattle.desk.specs.Replies.PlannerGives.{wrong_file as wrong-file, refused as not-given, planned as a-file}
use Rattle.desk.specs.Parts.{PutLine, IsRead, Checked, Refuses, Planned}
use Rattle.desk.proofs.IdLaws.{no_ids}

pub puts_within : {t out out' : List ℕ} {r : ℕ} → Puts t out r out' → r ≤ length out'
puts_within {t} {out} {r = r} p = omega (arith, p.size, ap length p.after, length-append t (drop r out))

-- ---- the NO line

pub line_told :
    (q : Refusal) {t : Told} {r : ℕ} {ns out o' : List ℕ}
    → IsTold q t
    → PutLine NO (t.number ∷ t.site ∷ t.place ∷ ns) out r o'
    → PutLine NO (told q ++ ns) out r o'
line_told q x p = rw (x.number_is, x.site_is, x.place_is) at p

none_named : (ns : List ℕ) (k : ℕ) → ns ++ rising (has (zeros k)) ≡ ns
none_named ns k = rw (no_ids (has (zeros k)) (has_zeros k)) (append-nil ns)

either_way : (b : Bool) (l : List ℕ) → l ≡ [] → cond b l [] ≡ l
either_way true l e = refl
either_way false l e = sym e

-- the words of bytes that are 0 have no ids
zero_words : words (zeros 64) ≡ zeros 8
unfolding words numbers le
zero_words = refl

no_words : {set : List ℕ} → set ≡ zeros 64 → rising (has (words set)) ≡ []
no_words e = rw (e, zero_words) (no_ids (has (zeros 8)) (has_zeros 8))

shown : (f : Fault) (t m : ℕ) (ws : List ℕ) → subset (fault_of f t m) ws ≡ rising (has ws)
unfolding subset
shown a_drop t m ws = refl
shown a_loop t m ws = refl

subset_all :
    {old new ids sizes set : List ℕ} {mode : ℕ} {a : Result Accepted Refusal} {q : Refusal}
    → Checks old new mode ids sizes (zeros 64) a set
    → a ≡ Err q
    → subset q (words set) ≡ rising (has (words set))
unfolding subset
subset_all {q = q} (check-refused f e) d = either_way (eqb (number q) 16 || eqb (number q) 17) _ (no_words e)
subset_all {q = q} (passes c p r n e) d = let z : ◌≡◌ {A = ℕ} 0 1 = cc in absurd (omega arith)
subset_all {q = q} (begins_faulty k b m z e) d = either_way (eqb (number q) 16 || eqb (number q) 17) _ (no_words e)
subset_all {set = set} {q = q} (shows {t} {f} {ws} {r = r} k b m z e g) d =
    let x : q ≡ fault_of f t (size ws) = cc in
    rw x (shown f t (size ws) (words set))

-- ---- what is read stands at the fronts of the four arrays

front_is : {k : ℕ} {b' : List ℕ} (xs b : List ℕ) → k ≡ length xs → b' ≡ overlaid xs b → take (2 * k) b' ≡ encode 2 xs
front_is xs b e d = rw (e, d) (front_overlaid xs b)

front_within : {k : ℕ} {b' : List ℕ} (xs b : List ℕ) → k ≡ length xs → b' ≡ overlaid xs b → 2 * k ≤ length b'
unfolding overlaid
front_within xs b e d = omega (arith, ap length d, length-append (encode 2 xs) (drop (2 * length xs) b), length_encode 2 xs)

pub read_within :
    {f lo ln li lz o' n' i' z' : List ℕ} {c : Content}
    → Reads f lo ln li lz (Ok c) o' n' i' z'
    → (2 * c.olds ≤ length o') × (2 * c.news ≤ length n') × (2 * c.ids ≤ length i') × (2 * c.rounds ≤ length z')
read_within {lo = lo} {ln} {li} {lz} (content o n is zs k h e1 e2 e3 e4 d1 d2 d3 d4) =
    (front_within o lo e1 d1, front_within n ln e2 d2, front_within is li e3 d3, front_within zs lz e4 d4)

pub read_content :
    {f o' n' i' z' : List ℕ} {c : Content}
    → Reads f (zeros 512) (zeros 512) (zeros 4096) (zeros 2048) (Ok c) o' n' i' z'
    → IsRead f (take (2 * c.olds) o') (take (2 * c.news) n') c.mode (take (2 * c.ids) i') (take (2 * c.rounds) z')
read_content (content o n is zs k h e1 e2 e3 e4 d1 d2 d3 d4) =
    record {
      old_ids = o;
      new_ids = n;
      round_ids = is;
      round_sizes = zs;
      clear = k;
      holds = h;
      old_is = front_is o (zeros 512) e1 d1;
      new_is = front_is n (zeros 512) e2 d2;
      ids_is = front_is is (zeros 4096) e3 d3;
      sizes_is = front_is zs (zeros 2048) e4 d4;
    }

-- ---- the checker

pub wrong_says :
    {f set : List ℕ} {q : Refusal}
    → First (FileFault f) q
    → set ≡ zeros 64
    → CheckerSays f NO (told q ++ rising (has (eight (words set))))
wrong_says {q = q} g e = wrong_file g refl (rw (e, zero_words) (none_named (told q) 8))

pub content_says :
    {f old new ids sizes set : List ℕ} {mode : ℕ}
    → IsRead f old new mode ids sizes
    → (a : Result Accepted Refusal)
    → Checks old new mode ids sizes (zeros 64) a set
    → length set ≡ 64
    → Checked f a set
content_says r (Ok a) x l =
    says-ok r.clear r.holds (rw (r.old_is, r.new_is, r.ids_is, r.sizes_is) at x) refl refl
content_says {set = set} r (Err q) x l =
    says-no r.clear r.holds (rw (r.old_is, r.new_is, r.ids_is, r.sizes_is) at x) refl
    (rw (eight_words set l) (ap (λ (ids : List ℕ). told q ++ ids) (sym (subset_all x refl))))

-- ---- the planner

pub refusal_printed :
    {f out out' : List ℕ} {q : Refusal} {r : ℕ}
    → Refuses f q
    → PutLine NO (told q ++ rising (has (zeros 8))) out r out'
    → PlannerPuts f out r out'
refusal_printed {q = q} g x =
    let l = rw (none_named (told q) 8) at x in
    record { text = l.text; gives = g.gives l.text l.line; puts = l.puts }

pub wrong_refused : {f : List ℕ} {q : Refusal} → First (FileFault f) q → Refuses f q
wrong_refused g = record { gives = λ t l. wrong-file g l }

pub plan_refused :
    {f old new ids sizes ids' sizes' : List ℕ} {mode : ℕ} {q : Refusal}
    → IsRead f old new mode ids sizes
    → Plans old new mode (zeros 1024) (zeros 1024) (Err q) ids' sizes'
    → Refuses f q
plan_refused r (not-planned g i z) =
    record { gives = λ t l. not-given r.clear r.holds (rw (r.old_is, r.new_is) at g) l }

pub plan_within :
    {old new ids sizes ids' sizes' : List ℕ} {mode : ℕ} {g : Given}
    → Plans old new mode ids sizes (Ok g) ids' sizes'
    → (2 * g.count ≤ length ids') × (2 * g.rounds ≤ length sizes')
plan_within {ids = ids} {sizes} (given {Rs = Rs} c p r k i z) =
    (front_within (ids_of Rs) ids k i, front_within (sizes_of Rs) sizes (r ∙ sym (length_sizes Rs)) z)

pub plan_written :
    {f old new ids sizes ids' sizes' out out' : List ℕ} {mode : ℕ} {g : Given} {a : Result ℕ Refusal}
    → IsRead f old new mode ids sizes
    → Plans old new mode (zeros 1024) (zeros 1024) (Ok g) ids' sizes'
    → Writes old new mode (take (2 * g.count) ids') (take (2 * g.rounds) sizes') out a out'
    → 4092 ≤ length out
    → Planned f out a out'
plan_written {old = old} {new} {out = out} {mode = mode} rd (given {Rs = Rs} c p r k i z) (not_written f h) l =
    absurd (none (rw (front_is (ids_of Rs) (zeros 1024) k i, front_is (sizes_of Rs) (zeros 1024) (r ∙ sym (length_sizes Rs)) z) at f.applies))
  where
    none : {d : Refusal} → WriteFault old new mode (encode 2 (ids_of Rs)) (encode 2 (sizes_of Rs)) out d → ⊥
    none (short_file s) = omega arith
    none {d} (change s) = (change_clear (plan_sound c p)).clear d s
plan_written rd (given {Rs = Rs} c p r k i z) (written {f = t} v e m h) l =
    let eo = ap entries rd.old_is ∙ entries_encode rd.old_ids (record { below = rd.holds.old_ids }) in
    let en = ap entries rd.new_is ∙ entries_encode rd.new_ids (record { below = rd.holds.new_ids }) in
    let ei = entries_encode (ids_of Rs) (ids_entries Rs) in
    let ez = entries_encode (sizes_of Rs) (sizes_entries Rs) in
    let fi = front_is (ids_of Rs) (zeros 1024) k i in
    let fz = front_is (sizes_of Rs) (zeros 1024) (r ∙ sym (length_sizes Rs)) z in
    record {
      text = t;
      gives = a-file rd.clear rd.holds (rw (rd.old_is, rd.new_is) at c) (rw (eo, en) at p) (rw (eo, en, fi, fz, ei, ez) at e);
      puts = record { size = m; after = h };
    }
