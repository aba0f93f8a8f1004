-- The number that a word writes in decimal digits.
use Rattle.std.specs.Prelude.{ℕ, ◌+◌, ◌-◌, ◌*◌, min, cond, List, [], ◌∷◌, Some, None, Option}
use Rattle.std.specs.Char.{is_ascii_digit}

-- digits behind a number so far; the most stands for a number above it
unfoldable pub digits_after : ℕ → ℕ → List ℕ → Option ℕ
digits_after most n [] = Some (min n most)
digits_after most n (b ∷ bs) = cond (is_ascii_digit b) (digits_after most (n * 10 + (b - 48)) bs) None

-- a number has a digit at least
abbrev pub number_of : ℕ → List ℕ → Option ℕ
number_of most [] = None
number_of most (b ∷ bs) = digits_after most 0 (b ∷ bs)
