-- The two modes as numbers.
--
--   mode_no m   == the number of the mode m: 0 strong, 1 relaxed
--   ModeOf n r  == r is the mode of the number n, or the refusal 8 where n is over 1
use Rattle.std.specs.Prelude.{ℕ, ◌<◌, ◌≡◌, Result, Ok, Err}
use Rattle.house.specs.declared.Refusal.{Refusal}
use Rattle.house.specs.declared.Refusal.TheVariants.{ModeOver}
use Rattle.rounds.specs.declared.mode.Mode.{Mode}
use Rattle.rounds.specs.declared.mode.Mode.TheVariants.{Strong, Relaxed}

abbrev pub mode_no : Mode → ℕ
mode_no Strong = 0
mode_no Relaxed = 1

pub data ModeOf (n : ℕ) : Result Mode Refusal → Type 0 where
  is_mode : {m : Mode} → n ≡ mode_no m → ModeOf n (Ok m)
  over : 1 < n → ModeOf n (Err ModeOver)
