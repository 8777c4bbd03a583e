use Rattle.std.proofs.Common.{◌≡◌, ℕ, ◌+◌, ◌-◌, ◌≤◌, List, ◌++◌, length, take, drop, Some, None, sym, ◌∙◌, ap, append_assoc, rules}
use Rattle.std.proofs.Math.Seq.{take-append-add}
use Rattle.std.proofs.lemmas.List.{take-append-le, length-take-le}
use Rattle.std.specs.Prelude.{Option}
use Rattle.std.specs.Io.KnownBytes.{Consumes}
use borrow.Rule.Slice.PartMut.{put_mid}
use Rattle.streams.proofs.read_full.Goals as goal

-- the front of memory in which `ys` was put behind the first `a`
front : (a k n : ℕ) (xs ys : List ℕ) → a ≤ length xs → n ≤ length ys → take (a + n) (put_mid a k xs ys) ≡ take a xs ++ take n ys
front a k n xs ys p q =
    let len : length (take a xs) ≡ a = length-take-le a xs p in
    ap (λ m. take (m + n) (put_mid a k xs ys)) (sym len)
    ∙ take-append-add (take a xs) (ys ++ drop k (drop a xs)) n
    ∙ ap (λ l. take a xs ++ l) (take-append-le n ys (drop k (drop a xs)) q)

-- what is taken in two parts
joined : (a b c : Option (List ℕ)) (p q : List ℕ) → Consumes a b p → Consumes b c q → Consumes a c (p ++ q)
joined None b c p q g h = tt
joined (Some x) None c p q g h = absurd g
joined (Some x) (Some y) None p q g h = absurd h
joined (Some x) (Some y) (Some z) p q g h = g ∙ ap (λ l. p ++ l) h ∙ sym (append_assoc p q z)

pub loop-done-preserved : goal.loop-done-preserved
loop-done-preserved g c =
    let n = c.in-Ok.n in
    let d = c.loop-done.done in
    let gave = c.in-Ok.ensures in
    let begun : d ≤ length c.loop-done.buf = c.loop-done.invariant.within in
    let most : n ≤ length c.read.new.buf = gave.bound.0 in
    record {
      within = search rules;
      taken =
          rw (front d (length c.loop-done.buf - d) n c.loop-done.buf c.read.new.buf begun most)
          (joined _ _ _ (take d c.loop-done.buf) (take n c.read.new.buf) c.loop-done.invariant.taken gave.bytes.0);
    }
