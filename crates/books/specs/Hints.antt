-- A book with hints of the places of its records.
use Rattle.std.specs.Prelude.{◌≡◌, ℕ, ◌+◌, ◌%◌, ◌^◌, ◌<◌, Bool, false, List, ◌∷◌, Some, None, Option, ◌==◌}
use Rattle.accounts.specs.Books.{Contents, accounts, find}
use Rattle.books.specs.declared.indexed.IndexedBook.{IndexedBook}

-- the slot that is looked at for an account after so many others: the next one each time, and the first after the last
pub record Slot (slots account looks s : ℕ) : Type 0 where
  pub within : s < slots
  pub is : s ≡ (account + looks) % 2 ^ 64 % slots

-- the book that the hints are of
abbrev pub book_of : {B : Type 0} → IndexedBook B → B
book_of b = b.book.now

abbrev pub hints_of : {B : Type 0} → IndexedBook B → List (Option ℕ)
hints_of b = b.hints.now

-- the loan of the book, so that what is known of it here is known to the lender when the hints are gone
abbrev pub loan_of : {B : Type 0} → IndexedBook B → ℕ
loan_of b = b.book.ghost_name

-- what a book shows through its hints: the loan of the book is one more
abbrev pub contents_with : ℕ → Contents → Contents
contents_with loan contents = record contents { loans = loan ∷ contents.loans }

-- the place of an account in a book that shows this; nothing where the book lacks it
abbrev pub place_in : Contents → ℕ → Option ℕ
place_in shown account = find account (accounts shown.records)

-- whether what is found is a place
abbrev pub is_at : Option ℕ → ℕ → Bool
is_at None place = false
is_at (Some found) place = found == place
