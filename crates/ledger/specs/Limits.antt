-- The limits and rates that the ledger alone keeps. The code has the same numbers in its own `limits`.
use Rattle.std.specs.Prelude.{ℕ}

-- the percentages of large satellites together, without the farm mark, in thousandths of a percent
abbrev pub most_large : ℕ
most_large = 40_000

-- the readings of all periods together, in units
abbrev pub most_read : ℕ
most_read = 1_000_000_000_000

-- a period's members' applied credits, in cents
abbrev pub most_applied : ℕ
most_applied = 10_000_000_000_000

-- the whole of an amount, in hundredths of a percent
abbrev pub basis : ℕ
basis = 10_000

-- what the utility keeps of its members' applied credits, in hundredths of a percent
abbrev pub utility_rate : ℕ
utility_rate = 150
