-- The rows of a period.
use Rattle.std.specs.Prelude.{ℕ, cond, List, length, map, zip, get_or, ◌==◌, nat_lt, slice_index_or, slice_set}
use Rattle.accounts.specs.declared.record.Record.{Record}
use Rattle.ledger.specs.declared.answer.Done.{Done}
use Rattle.ledger.specs.declared.answer.Done.TheVariants as done
use Rattle.report.specs.Rows.{opened, billed, finally_billed, blank}
use Rattle.report.specs.declared.row.Row.{Row}

-- a row for each record, by what it was before the reading and is after it
abbrev pub opened_rows : List Record → List Record → List Row
opened_rows before after = map (λ (b, a). opened b a) (zip before after)

-- only bills change a row
abbrev pub after_call : Row → Done → Row
after_call r (done.Enrolled _) = r
after_call r (done.Opened _) = r
after_call r (done.Billed p) = billed r p
after_call r (done.FinallyBilled p forfeited) = finally_billed r p forfeited
after_call r (done.Disbursed _) = r
after_call r (done.Lapsed _) = r
after_call r (done.Closed _) = r

-- the row at a place, where it is that account's
abbrev pub noted : List Row → ℕ → ℕ → Done → List Row
noted rows place account d =
    cond (nat_lt place (length rows))
    (cond ((get_or rows place blank).account == account) (slice_set rows place (after_call (slice_index_or rows place blank) d)) rows)
    rows
