-- For one input no second number fits the contract of `bench_read` or `bench_write`, and no second content of the lent bytes.
-- Assumes nothing.
--
--   read_call_one   == two numbers of `bench_read` for one input are one, and leave the same bytes
--   write_call_one  == two numbers of `bench_write` for one input are one, and leave the same bytes
use Prim.Native.Nat.{ℕ}
use mathlib.Core.Path.{◌≡◌, sym, ◌∙◌, ap}
use mathlib.Core.List.{List}
use Rattle.planfile.proofs.OneReply.{reads_one, writes_one}
use Rattle.bench_calls.specs.Packed.{read_packed, write_packed, ReadCall, WriteCall}

pub read_call_one :
    {f old new ids sizes : List ℕ} {r s : ℕ} {o1 n1 i1 z1 o2 n2 i2 z2 : List ℕ}
    → ReadCall f old new ids sizes r o1 n1 i1 z1
    → ReadCall f old new ids sizes s o2 n2 i2 z2
    → (r ≡ s) × (o1 ≡ o2) × (n1 ≡ n2) × (i1 ≡ i2) × (z1 ≡ z2)
read_call_one a b =
    let (e, o, n, i, z) = reads_one a.replied b.replied in
    (a.in_one ∙ ap read_packed e ∙ sym b.in_one, o, n, i, z)

pub write_call_one :
    {old new : List ℕ} {mode : ℕ} {ids sizes file : List ℕ} {r s : ℕ} {f1 f2 : List ℕ}
    → WriteCall old new mode ids sizes file r f1
    → WriteCall old new mode ids sizes file s f2
    → (r ≡ s) × (f1 ≡ f2)
write_call_one a b =
    let (e, d) = writes_one a.replied b.replied in
    (a.in_one ∙ ap write_packed e ∙ sym b.in_one, d)
