-- Text, in ASCII.
--
--   Decimal n t    == t is the number n in decimal, with no zero in front
--   Fields ns t    == t is the numbers ns in decimal, a space in front of each
--   Line w ns t    == t is the line of the word w and the numbers ns: fields one space apart, ended by a line feed
--   OK, NO         == the two words
use Rattle.std.specs.Prelude.{ℕ, ◌≡◌, List, [], ◌∷◌, ◌++◌}
use Rattle.io.specs.Digits.{last_digits, IsDigitCount}

pub record Decimal (n : ℕ) (t : List ℕ) : Type 0 where
  pub many : ℕ
  pub fewest : IsDigitCount 10 1 n many
  pub spelled : t ≡ last_digits 10 many n

pub data Fields : List ℕ → List ℕ → Type 0 where
  no_more : {t : List ℕ} → t ≡ [] → Fields [] t
  field : {n : ℕ} {ns d ts t : List ℕ} → Decimal n d → Fields ns ts → t ≡ 32 ∷ (d ++ ts) → Fields (n ∷ ns) t

pub record Line (w ns t : List ℕ) : Type 0 where
  pub numbers : List ℕ
  pub fields : Fields ns numbers
  pub text : t ≡ w ++ (numbers ++ (10 ∷ []))

abbrev pub OK : List ℕ
OK = 79 ∷ 75 ∷ []

abbrev pub NO : List ℕ
NO = 78 ∷ 79 ∷ []
