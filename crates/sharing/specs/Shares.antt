-- How a reading is shared out by percentages.
use Rattle.std.specs.Prelude.{ℕ, ◌+◌, ◌*◌, ◌/◌, Bool, cond, ◌||◌, List, Some, None, Option, nat_lt, sum_by}
use Rattle.std.specs.List.{list_any}
use Rattle.base.specs.Limits.{most_units, whole}
use Rattle.accounts.specs.declared.record.Record.{Record}
use Rattle.accounts.specs.Records.{holding}

-- a satellite's share of a reading: its percentage of the units, rounded down
abbrev pub share : ℕ → ℕ → ℕ
share units percentage = units * percentage / whole

-- a record after its share of a reading
abbrev pub gaining : ℕ → Record → Record
gaining units r = holding (r.held + share units r.percentage) r

-- all shares of a reading together
abbrev pub shares : ℕ → List Record → ℕ
shares units rs = sum_by (λ r. share units r.percentage) rs

-- the book is another ledger's: its percentages pass the whole, or an account would pass the units that one may hold
abbrev pub foreign_to_reading : ℕ → List Record → Bool
foreign_to_reading units rs =
    nat_lt whole (sum_by (λ r. r.percentage) rs)
    || list_any (λ r. nat_lt most_units (r.held + share units r.percentage)) rs

-- all shares together, or nothing for another ledger's book
abbrev pub all_shares : ℕ → List Record → Option ℕ
all_shares units rs = cond (foreign_to_reading units rs) None (Some (shares units rs))
