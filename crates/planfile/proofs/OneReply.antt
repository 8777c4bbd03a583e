-- One input has one reply, and one content of the lent memory after it.
--
--   record_one_reply == of the record at an offset
--   reads_one        == of the reader
--   writes_one       == of the writer
use Rattle.std.specs.Prelude.{Option, Some, Result, Ok, Err}
use Rattle.house.specs.declared.Refusal.{Refusal}
use Rattle.house.specs.declared.Refusal.TheVariants.{RecordWrong}
use Rattle.planfile.specs.declared.record.Record.{Record}
use Rattle.planfile.specs.declared.read.Content.{Content}
use Prim.Native.Nat.{ℕ}
use mathlib.Core.Path.{◌≡◌, refl, sym, ap, ◌∙◌}
use mathlib.Core.List.{List}
use native.Mathlib.Omega.{arith}
use lib.ListN.{length}
use Rattle.house.proofs.RefusalLaws.{first_one, first_not_clear}
use Rattle.planfile.specs.File.{WrongAt, cut, Ended}
use Rattle.planfile.specs.Replies.{RecordIs, ended, wrong_at, stands, Reads, refused as not-read, content, Writes, refused as not_written, written}
use Rattle.planfile.proofs.FileLaws.{holds_one}
use Rattle.planfile.proofs.OneContent.{clear_short}
use Rattle.planfile.proofs.ReadLaws.{same_content}

-- past the end a record is cut off
end_cut : {f : List ℕ} {p k : ℕ} → Ended f p k → WrongAt f k p
end_cut e = cut (omega (arith, e.all_read))

pub record_one_reply : {f : List ℕ} {p k : ℕ} {a b : Result (Option Record) Refusal} → RecordIs f p k a → RecordIs f p k b → a ≡ b
record_one_reply (ended e) (ended d) = refl
record_one_reply (ended e) (wrong_at n w d) = absurd (n e)
record_one_reply (ended e) (stands w d s t) = absurd (w (end_cut e))
record_one_reply (wrong_at n w d) (ended e) = absurd (n e)
record_one_reply (wrong_at n w d) (wrong_at m v e) = ap (λ (q : ℕ). Err (RecordWrong q)) (d ∙ sym e)
record_one_reply (wrong_at n w d) (stands v e s t) = absurd (v w)
record_one_reply (stands w d s t) (ended e) = absurd (w (end_cut e))
record_one_reply (stands w d s t) (wrong_at n v e) = absurd (w v)
record_one_reply (stands {r = r} w d s t) (stands {r = q} v d' s' t') = ap (λ (x : Record). Ok (Some x)) (same (d ∙ sym d') (s ∙ sym s') (t ∙ sym t'))
  where
    same : r.start ≡ q.start → r.size ≡ q.size → r.next ≡ q.next → r ≡ q
    same x y z = λ i. record { start = x i; size = y i; next = z i }

pub reads_one :
    {f old new ids sizes : List ℕ} {a b : Result Content Refusal} {o1 n1 i1 z1 o2 n2 i2 z2 : List ℕ}
    → Reads f old new ids sizes a o1 n1 i1 z1
    → Reads f old new ids sizes b o2 n2 i2 z2
    → (a ≡ b) × (o1 ≡ o2) × (n1 ≡ n2) × (i1 ≡ i2) × (z1 ≡ z2)
reads_one (not-read g eo en ei ez) (not-read h xo xn xi xz) =
    (ap Err (first_one g h), eo ∙ sym xo, en ∙ sym xn, ei ∙ sym xi, ez ∙ sym xz)
reads_one (not-read g eo en ei ez) (content o n is zs k h a b c d xo xn xi xz) = absurd (first_not_clear g k)
reads_one (content o n is zs k h a b c d eo en ei ez) (not-read g xo xn xi xz) = absurd (first_not_clear g k)
reads_one (content o n is zs {c = p} k h a b c d eo en ei ez) (content o' n' is' zs' {c = q} k' h' a' b' c' d' xo xn xi xz) =
    let s = holds_one h h' (omega (arith, clear_short k)) in
    let so = s.same_old in
    let sn = s.same_new in
    let sm = s.same_mode in
    let si = s.same_ids in
    let sz = s.same_sizes in
    (ap Ok (same_content (a ∙ ap length so ∙ sym a') (b ∙ ap length sn ∙ sym b') sm (c ∙ ap length si ∙ sym c') (d ∙ ap length sz ∙ sym d')), cc, cc, cc, cc)

pub writes_one :
    {old new : List ℕ} {mode : ℕ} {ids sizes file : List ℕ} {a b : Result ℕ Refusal} {f1 f2 : List ℕ}
    → Writes old new mode ids sizes file a f1
    → Writes old new mode ids sizes file b f2
    → (a ≡ b) × (f1 ≡ f2)
writes_one (not_written g e) (not_written h d) = (ap Err (first_one g h), e ∙ sym d)
writes_one (not_written g e) (written k f s m) = absurd (first_not_clear g k)
writes_one (written k f s m) (not_written g e) = absurd (first_not_clear g k)
writes_one {file = file} (written k f s m) (written k' f' s' m') =
    let x = f ∙ sym f' in
    let y = s ∙ ap length x ∙ sym s' in
    (ap Ok y, cc)
