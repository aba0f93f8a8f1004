-- The limits of the crediting methods, each once. The code has the same numbers in `crediting::limits`.
use Rattle.std.specs.Prelude.{ℕ}
use Rattle.base.specs.Limits.{classes}

-- how many rates there are: one for each service class
abbrev pub rate_count : ℕ
rate_count = classes

-- one cent, in the ten-thousandths of a cent that rates are given in
abbrev pub one_cent : ℕ
one_cent = 10_000

-- the largest rate, in ten-thousandths of a cent for a kilowatt-hour
abbrev pub most_rate : ℕ
most_rate = 1_000_000

-- the most that units of one class are worth, in cents
abbrev pub most_worth : ℕ
most_worth = 100_000_000_000_000
