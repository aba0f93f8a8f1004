-- The limits that several crates name, each once. The code has the same numbers in `base::limits`.
use Rattle.std.specs.Prelude.{ℕ}

-- the largest account number: eleven digits
abbrev pub most_account : ℕ
most_account = 99_999_999_999

-- service classes are numbered from 1 to this
abbrev pub classes : ℕ
classes = 16

-- savings rates, in hundredths of a percent
abbrev pub least_savings : ℕ
least_savings = 500

abbrev pub most_savings : ℕ
most_savings = 9_800

-- all of the generation, in thousandths of a percent
abbrev pub whole : ℕ
whole = 100_000

-- the most units that an account holds
abbrev pub most_units : ℕ
most_units = 1_000_000_000_000

-- the largest bill, in cents
abbrev pub most_bill : ℕ
most_bill = 1_000_000_000

-- the largest reading of a month, in units
abbrev pub most_reading : ℕ
most_reading = 10_000_000_000

-- the most periods that a ledger closes
abbrev pub most_periods : ℕ
most_periods = 1_200

-- the most records of a book
abbrev pub most_records : ℕ
most_records = 4_096

-- the most lines of an allocation request
abbrev pub most_lines : ℕ
most_lines = 1_024
