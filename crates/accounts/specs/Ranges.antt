-- The ranges of a record's and a line's numbers.
use Rattle.std.specs.Prelude.{ℕ, Bool, ◌&&◌, nat_le}
use Rattle.base.specs.Limits.{most_account, classes, least_savings, most_savings, whole, most_units, most_periods}
use Rattle.accounts.specs.declared.record.Record.{Record}
use Rattle.accounts.specs.declared.record.Line.{Line}

-- both ends belong to a range
abbrev pub within : ℕ → ℕ → ℕ → Bool
within low high n = nat_le low n && nat_le n high

abbrev pub account_in_range : ℕ → Bool
account_in_range a = within 1 most_account a

abbrev pub savings_in_range : ℕ → Bool
savings_in_range s = within least_savings most_savings s

abbrev pub class_in_range : ℕ → Bool
class_in_range k = within 1 classes k

-- a record's percentage may be 0: an account that no line names keeps its place
abbrev pub in_range : Record → Bool
in_range r =
    account_in_range r.account
    && (nat_le r.percentage whole
    && (savings_in_range r.savings
    && (class_in_range r.class && (nat_le r.held most_units && nat_le r.last most_periods))))

-- a line's percentage may not
abbrev pub line_in_range : Line → Bool
line_in_range l =
    account_in_range l.account
    && (within 1 whole l.percentage && (savings_in_range l.savings && class_in_range l.class))
