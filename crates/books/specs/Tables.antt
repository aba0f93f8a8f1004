-- A book in a table of records that is lent to it.
use Rattle.std.specs.Prelude.{◌≡◌, ℕ, ◌+◌, ◌≤◌, min, Bool, cond, List, [], ◌∷◌, ◌++◌, length, take, drop, slice_set}
use Rattle.base.specs.Limits.{most_records}
use Rattle.accounts.specs.declared.record.Record.{Record}
use Rattle.accounts.specs.Books.{Contents, Proper, Left}
use Rattle.books.specs.declared.table.TableBook.{TableBook}

-- the whole table, places past the count included
abbrev pub table_of : TableBook → List Record
table_of b = b.table.now

abbrev pub count_of : TableBook → ℕ
count_of b = b.count

-- the loan of the table, so that what is known of it here is known to the lender when the book is gone
abbrev pub loan_of : TableBook → ℕ
loan_of b = b.table.ghost_name

-- the records are the first places of the table
abbrev pub records_of : TableBook → List Record
records_of b = take (count_of b) (table_of b)

-- of a longer table only so many places are used
abbrev pub room_of : TableBook → ℕ
room_of b = min most_records (length (table_of b))

abbrev pub contents_of : TableBook → Contents
contents_of b = record { records = records_of b; room = room_of b; side = []; loans = loan_of b ∷ [] }

pub record Sound (b : TableBook) : Type 0 where
  pub proper : Proper (records_of b) (room_of b)
  pub within : count_of b ≤ length (table_of b)

-- the places that hold no record are as they were: no place is taken out of use, the table is as long as before, and what
-- stands behind the last record stays
pub record SameRest (old new : TableBook) : Type 0 where
  pub grows : count_of old ≤ count_of new
  pub same_length : length (table_of new) ≡ length (table_of old)
  pub past : drop (count_of new) (table_of new) ≡ drop (count_of new) (table_of old)

-- a call leaves a book of these records, and keeps the rest
abbrev pub LeftWith : TableBook → TableBook → List Record → Type 0
LeftWith old new then = Left Sound contents_of SameRest old new then

-- what any call leaves of the table follows from the records that it leaves: they stand in front, and behind them is
-- what was there
abbrev pub Pinned : TableBook → TableBook → Type 0
Pinned old new =
    (rs : List Record) → LeftWith old new rs
    → table_of new ≡ rs ++ drop (length rs) (table_of old)

-- so a call that leaves the records as they were leaves the whole table as it was
abbrev pub StaysWhole : TableBook → Type 0
StaysWhole old =
    (new : TableBook) → LeftWith old new (records_of old) → table_of new ≡ table_of old

-- what adding leaves: where it is accepted, the place behind the last record holds the new one; every other place stays
pub record Added (accepted : Bool) (old new : TableBook) (r : Record) : Type 0 where
  pub table : table_of new ≡ cond accepted (slice_set (table_of old) (count_of old) r) (table_of old)
  pub count : count_of new ≡ cond accepted (count_of old + 1) (count_of old)
  pub loan : loan_of new ≡ loan_of old

-- what replacing leaves: where it is accepted, the place holds the new record; every other place stays
pub record Replaced (accepted : Bool) (old new : TableBook) (place : ℕ) (r : Record) : Type 0 where
  pub table : table_of new ≡ cond accepted (slice_set (table_of old) place r) (table_of old)
  pub count : count_of new ≡ count_of old
  pub loan : loan_of new ≡ loan_of old
