-- What a program does that reads bytes, answers them and writes its answer.
--
--   Replies g f file n out == called at the bytes `file` and 4,096 zeros, f may give n and leave `out`
--   Pipes S r r' w w'      == it takes some bytes, at most 4,093, from the input r, which leaves r'; S says what n and `out` may
--                             be for them; and it adds the first n bytes of `out` to the output w, which makes w'
use Rattle.std.specs.Prelude.{ℕ, ◌≤◌, ◌≡◌, List, length, take, replicate, Option}
use Rattle.std.specs.Borrow.{MutBor}
use Rattle.std.specs.Fn.{Once}
use Rattle.std.specs.Io.KnownBytes.{Consumes, Appends}
use denote.Ref.{Bor}

pub record Replies
    {F : Type 0}
    (g : Once F (Bor (List ℕ) × (MutBor (List ℕ) × Unit {0})) (ℕ × (MutBor (List ℕ) × Unit {0})))
    (f : F)
    (file : List ℕ)
    (n : ℕ)
    (out : List ℕ) : Type 0 where
  pub shown : Bor (List ℕ)
  pub shows : shown.now ≡ file
  pub lent : MutBor (List ℕ)
  pub blank : lent.now ≡ replicate 4096 0
  pub left : MutBor (List ℕ)
  pub leaves : left.now ≡ out
  pub gives : g.post f (shown, (lent, tt)) (n, (left, tt))

pub record Pipes (S : List ℕ → ℕ → List ℕ → Type 0) (r r' w w' : Option (List ℕ)) : Type 0 where
  pub file : List ℕ
  pub number : ℕ
  pub out : List ℕ
  pub short : length file ≤ 4093
  pub taken : Consumes r r' file
  pub answered : S file number out
  pub written : Appends w w' (take number out)
