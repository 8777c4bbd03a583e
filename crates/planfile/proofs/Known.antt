-- Document 01's example: old 1 2 3, new 1 4 3, mode strong, with the rounds {4}, {1}, {2}, is a file of these 44 bytes.
--
--   example_file     == the bytes
use mathlib.Core.Path.{◌≡◌, refl}
use mathlib.Core.List.{[], ◌∷◌}
use Rattle.house.specs.Numbers.{encode}
use Rattle.planfile.specs.File.{file_of}

pub example_file :
    file_of (1 ∷ 2 ∷ 3 ∷ []) (1 ∷ 4 ∷ 3 ∷ []) 0 (4 ∷ 1 ∷ 2 ∷ []) (1 ∷ 1 ∷ 1 ∷ [])
    ≡ (6 ∷ 0 ∷ 1 ∷ 0 ∷ 1 ∷ 0 ∷ 2 ∷ 0 ∷ 3 ∷ 0 ∷ 6 ∷ 0 ∷ 2 ∷ 0 ∷ 1 ∷ 0 ∷ 4 ∷ 0 ∷ 3 ∷ 0 ∷ 2 ∷ 0 ∷ 3 ∷ 0 ∷ 0 ∷ 0 ∷ 2 ∷ 0 ∷ 4 ∷ 0 ∷ 4 ∷ 0 ∷ 2 ∷ 0 ∷ 4 ∷ 0 ∷ 1 ∷ 0 ∷ 2 ∷ 0 ∷ 4 ∷ 0 ∷ 2 ∷ 0 ∷ [])
unfolding file_of encode
example_file = refl
