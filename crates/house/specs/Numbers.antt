-- House lists: numbers in byte slices, little-endian. An entry (an id, a size, a mode) is two bytes, a set word eight.
--
--   le l            == the number whose bytes, lowest first, are l
--   bytes w x       == the w lowest bytes of x, lowest first
--   numbers w n b   == the first n numbers of w bytes each in b
--   entries b       == the entries of b: as many two-byte numbers as are whole
--   words b         == the words of b: as many eight-byte numbers as are whole
--   eight ws        == the first eight of ws, 0 for each that is not there
--   put_number w b i x == b with its number i, of w bytes, made x; b itself where it has no whole number i
--   encode w xs     == the numbers xs as bytes, w each
--   Whole b         == b is whole entries, nothing left over
use Rattle.std.specs.Prelude.{ℕ, zero, suc, ◌+◌, ◌*◌, ◌/◌, ◌%◌, ◌≡◌, cond, List, [], ◌∷◌, ◌++◌, length, get_or, take, drop, leb}
use Rattle.std.proofs.lemmas.List.Edits.{sets}

unfoldable pub le : List ℕ → ℕ
le [] = 0
le (a ∷ l) = a + 256 * le l

unfoldable pub bytes : ℕ → ℕ → List ℕ
bytes zero x = []
bytes (suc w) x = x % 256 ∷ bytes w (x / 256)

unfoldable pub numbers : ℕ → ℕ → List ℕ → List ℕ
unfolding le
numbers w zero b = []
numbers w (suc n) b = le (take w b) ∷ numbers w n (drop w b)

unfoldable pub entries : List ℕ → List ℕ
unfolding numbers
entries b = numbers 2 (length b / 2) b

unfoldable pub words : List ℕ → List ℕ
unfolding numbers
words b = numbers 8 (length b / 8) b

abbrev pub eight : List ℕ → List ℕ
eight ws =
    get_or ws 0 0
    ∷ get_or ws 1 0
    ∷ get_or ws 2 0
    ∷ get_or ws 3 0
    ∷ get_or ws 4 0
    ∷ get_or ws 5 0
    ∷ get_or ws 6 0
    ∷ get_or ws 7 0
    ∷ []

unfoldable pub put_number : ℕ → List ℕ → ℕ → ℕ → List ℕ
unfolding bytes
put_number w b i x = cond (leb (w * i + w) (length b)) (sets b (w * i) (bytes w x)) b

unfoldable pub encode : ℕ → List ℕ → List ℕ
unfolding bytes
encode w [] = []
encode w (x ∷ xs) = bytes w x ++ encode w xs

pub record Whole (b : List ℕ) : Type 0 where
  pub even : length b % 2 ≡ 0
