-- How amounts are written.
use Rattle.std.specs.Prelude.{ℕ, ◌-◌, ◌/◌, ◌%◌, ◌^◌, List, ◌∷◌, ◌++◌, length, replicate, decimal}

-- at least so many digits, with zeros in front
abbrev pub padded : ℕ → ℕ → List ℕ
padded places n = replicate (places - length (decimal n)) 48 ++ decimal n

-- Whole ones, a point, and the rest in so many digits.
abbrev pub decimals : ℕ → ℕ → List ℕ
decimals places n = decimal (n / 10 ^ places) ++ (46 ∷ padded places (n % 10 ^ places))

-- Dollars, a point, and two digits of cents.
abbrev pub dollars : ℕ → List ℕ
dollars = decimals 2

-- Percent, a point, and three digits.
abbrev pub percent : ℕ → List ℕ
percent = decimals 3
