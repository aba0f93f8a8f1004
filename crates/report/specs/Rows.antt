-- A satellite's row in the summary of a period.
use Rattle.std.specs.Prelude.{ℕ, ◌+◌, ◌-◌}
use Rattle.accounts.specs.declared.record.Record.{Record}
use Rattle.ledger.specs.declared.answer.Posting.{Posting}
use Rattle.report.specs.declared.row.Column.{Column}
use Rattle.report.specs.declared.row.Column.TheVariants as column
use Rattle.report.specs.declared.row.Row.{Row}

-- The share is what the reading added; all is left as long as no bill has come.
abbrev pub opened : Record → Record → Row
opened before after =
    record {
      account = after.account;
      percentage = after.percentage;
      carried = before.held;
      share = after.held - before.held;
      applied = 0;
      left = after.held;
      forfeited = 0;
    }

-- A bill applies its credit and takes the units used.
abbrev pub billed : Row → Posting → Row
billed r p =
    record {
      account = r.account;
      percentage = r.percentage;
      carried = r.carried;
      share = r.share;
      applied = p.applied;
      left = r.left - p.used;
      forfeited = r.forfeited;
    }

-- A final bill leaves nothing: what it does not use is forfeited.
abbrev pub finally_billed : Row → Posting → ℕ → Row
finally_billed r p forfeited =
    record {
      account = r.account;
      percentage = r.percentage;
      carried = r.carried;
      share = r.share;
      applied = p.applied;
      left = 0;
      forfeited = forfeited;
    }

-- what is read past the end of the rows
abbrev pub blank : Row
blank = record { account = 0; percentage = 0; carried = 0; share = 0; applied = 0; left = 0; forfeited = 0 }

-- carried over and share together
abbrev pub available : Row → ℕ
available r = r.carried + r.share

-- the number of a column in a row
abbrev pub cell : Column → Row → ℕ
cell column.Percentage r = r.percentage
cell column.Carried r = r.carried
cell column.Share r = r.share
cell column.Available r = available r
cell column.Applied r = r.applied
cell column.Left r = r.left
cell column.Forfeited r = r.forfeited
