-- When the lines of an allocation request are enrolled, and what they make of the records.
use Rattle.std.specs.Prelude.{ℕ, ◌+◌, ◌-◌, ◌≤◌, Bool, false, cond, not, ◌&&◌, ◌||◌, List, [], ◌∷◌, ◌++◌, map, length, Some, None, Ok, Err, Option, Result, nat_lt, sum_by, count_by}
use Rattle.std.specs.List.{position_from}
use Rattle.accounts.specs.declared.record.Line.{Line}
use Rattle.accounts.specs.declared.record.Record.{Record}
use Rattle.accounts.specs.declared.record.Size.{Size}
use Rattle.accounts.specs.declared.record.Size.TheVariants.{Small, Large}
use Rattle.accounts.specs.Ranges.{line_in_range}
use Rattle.accounts.specs.Books.{Contents, accounts, present}
use Rattle.ledger.specs.declared.refusal.Refusal.{Refusal}
use Rattle.ledger.specs.declared.refusal.Refusal.TheVariants.{
  WrongLineCount,
  LineOutOfRange,
  AccountRepeated,
  LineOfClosedAccount,
  PercentagesPass,
  LargePercentagesPass,
  BookTooSmall,
}
use Rattle.accounts.specs.Records.{record_of, put, is_closed}
use Rattle.base.specs.Limits.{most_lines, whole}
use Rattle.ledger.specs.Limits.{most_large}
use Rattle.ledger.specs.Records.{unallocated, allocated, joining}

abbrev pub line_accounts : List Line → List ℕ
line_accounts ls = map (λ l. l.account) ls

-- the first account that stands on an earlier line; `earlier` are those ahead, of which there are i
abbrev pub repeated_from : ℕ → List ℕ → List ℕ → Option ℕ
repeated_from i earlier [] = None
repeated_from i earlier (a ∷ later) = cond (present a earlier) (Some i) (repeated_from (i + 1) (earlier ++ a ∷ []) later)

abbrev pub has_closed : Option Record → Bool
has_closed None = false
has_closed (Some r) = is_closed r.state

abbrev pub names_closed : List Record → Line → Bool
names_closed rs l = has_closed (record_of l.account rs)

-- the place of the first line of a closed account
abbrev pub first_closed : List Record → List Line → Option ℕ
first_closed rs ls = position_from (names_closed rs) 0 ls

-- a line's percentage, if its size is large
abbrev pub large_part : Size → ℕ → ℕ
large_part Small percentage = 0
large_part Large percentage = percentage

abbrev pub large_percentage : Line → ℕ
large_percentage l = large_part l.size l.percentage

abbrev pub is_new : List Record → Line → Bool
is_new rs l = not (present l.account (accounts rs))

-- how many accounts a line adds
abbrev pub joins : List Record → Line → ℕ
joins rs l = cond (is_new rs l) 1 0

-- how many lines are of new accounts
abbrev pub new_accounts : List Record → List Line → ℕ
new_accounts rs ls = count_by (is_new rs) ls

-- a refusal where a place is told, else what comes after
abbrev pub unless_at : (ℕ → Refusal) → Option ℕ → Result ℕ Refusal → Result ℕ Refusal
unless_at refusal None rest = rest
unless_at refusal (Some place) rest = Err (refusal place)

-- the number of new accounts, or the first refusal that applies
abbrev pub judge_lines : ℕ → Bool → ℕ → List Record → List Line → Result ℕ Refusal
judge_lines smallest farm room rs ls =
    cond (nat_lt (length ls) smallest || nat_lt most_lines (length ls)) (Err WrongLineCount)
    (unless_at LineOutOfRange (position_from (λ l. not (line_in_range l)) 0 ls)
    (unless_at AccountRepeated (repeated_from 0 [] (line_accounts ls))
    (unless_at LineOfClosedAccount (first_closed rs ls)
    (cond (nat_lt whole (sum_by (λ l. l.percentage) ls)) (Err PercentagesPass)
    (cond (not farm && nat_lt most_large (sum_by large_percentage ls)) (Err LargePercentagesPass)
    (cond (nat_lt (room - length rs) (new_accounts rs ls)) (Err BookTooSmall)
    (Ok (new_accounts rs ls))))))))

-- a line's account gets its values where it has a record, and joins last where it has none
abbrev pub enter : Option Record → List Record → Line → List Record
enter None rs l = rs ++ joining l ∷ []
enter (Some r) rs l = put (allocated l r) rs

abbrev pub enter_line : List Record → Line → List Record
enter_line rs l = enter (record_of l.account rs) rs l

abbrev pub enter_all : List Record → List Line → List Record
enter_all rs [] = rs
enter_all rs (l ∷ ls) = enter_all (enter_line rs l) ls

-- a book has room for the accounts that a line adds, and that all lines add
abbrev pub FitsLine : Contents → Line → Type 0
FitsLine b l = length b.records + joins b.records l ≤ b.room

abbrev pub FitsLines : Contents → List Line → Type 0
FitsLines b ls = length b.records + new_accounts b.records ls ≤ b.room

-- the records after an accepted request: those of other accounts keep no percentage
abbrev pub enrolled : List Record → List Line → List Record
enrolled rs ls = enter_all (map unallocated rs) ls
