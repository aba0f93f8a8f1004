-- The lines of a summary.
use Rattle.std.specs.Prelude.{◌≡◌, ℕ, ◌-◌, List, [], ◌++◌, length, replicate, codes, decimal, sum_by, IfSome, Option}
use Rattle.base.specs.Amounts.{dollars, percent}
use Rattle.report.specs.Rows.{available, cell}
use Rattle.report.specs.declared.row.Column.TheVariants as column
use Rattle.report.specs.declared.row.Row.{Row}
use Rattle.report.specs.declared.table.Bank.{Bank}
use Rattle.report.specs.declared.table.Figures.{Figures}
use Rattle.report.specs.declared.table.Summary.{Summary}
use Rattle.report.specs.declared.table.Summary.TheVariants as summary

-- spaces in front of a text, up to a width
abbrev pub right : ℕ → List ℕ → List ℕ
right width text = replicate (width - length text) 32 ++ text

-- a satellite's numbers
abbrev pub row_figures : Row → Figures
row_figures r =
    record {
      carried = r.carried;
      share = r.share;
      available = available r;
      applied = r.applied;
      left = r.left;
    }

-- those of all satellites together
abbrev pub sum_figures : List Row → Figures
sum_figures rs =
    record {
      carried = sum_by (cell column.Carried) rs;
      share = sum_by (cell column.Share) rs;
      available = sum_by (cell column.Available) rs;
      applied = sum_by (cell column.Applied) rs;
      left = sum_by (cell column.Left) rs;
    }

-- the reading's rest is the bank's share; no bill is paid from the bank
abbrev pub bank_figures : Bank → Figures
bank_figures b =
    record {
      carried = b.before;
      share = b.after - b.before;
      available = b.after;
      applied = 0;
      left = b.after;
    }

-- a line of the summary: what it is of, percent, units carried over, share and available, dollars applied, units left
unfoldable pub table_text : List ℕ → List ℕ → Figures → List ℕ
table_text label percentage f =
    (((((right 11 label ++ right 10 percentage) ++ right 15 (decimal f.carried)) ++ right 15 (decimal f.share))
    ++ right 15 (decimal f.available))
    ++ right 15 (dollars f.applied))
    ++ right 15 (decimal f.left)

-- a text is such a line, where what it is of and its percentage are printed as some text
abbrev pub IsTableLine : Option (List ℕ) → Option (List ℕ) → Figures → List ℕ → Type 0
IsTableLine label percentage f text = IfSome label (λ l. IfSome percentage (λ p. text ≡ table_text l p f))

-- a satellite's line
abbrev pub row_text : Row → List ℕ
row_text r = table_text (decimal r.account) (percent r.percentage) (row_figures r)

-- what a line is of that is no single satellite's
abbrev pub summary_label : Summary → List ℕ
summary_label summary.Satellites = codes "Satellites"
summary_label summary.HostBank = codes "Host bank"

-- the line of all satellites together
abbrev pub satellites_text : List Row → List ℕ
satellites_text rs = table_text (summary_label summary.Satellites) (percent (sum_by (cell column.Percentage) rs)) (sum_figures rs)

-- the line of the host bank
abbrev pub bank_text : Bank → List ℕ
bank_text b = table_text (summary_label summary.HostBank) [] (bank_figures b)
