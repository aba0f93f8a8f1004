-- A book in an image that is lent to it.
use Rattle.std.specs.Prelude.{◌≡◌, ℕ, ◌+◌, ◌<◌, ◌≤◌, Bool, cond, List, [], ◌∷◌, drop, ◌==◌}
use Rattle.std.specs.List.{All}
use Rattle.accounts.specs.declared.record.Record.{Record}
use Rattle.accounts.specs.Books.{Contents, Left}
use Rattle.books.specs.Images.{start_of, held, with_record, with_added, image_with}
use Rattle.books.specs.Reading.{Reads}
use Rattle.books.specs.declared.image.ImageBook.{ImageBook}

-- every byte of the image, those past the last record included
abbrev pub image_of : ImageBook → List ℕ
image_of b = b.image.now

-- the loan of the image, so that what is known of it here is known to the lender when the book is gone
abbrev pub loan_of : ImageBook → ℕ
loan_of b = b.image.ghost_name

abbrev pub count_of : ImageBook → ℕ
count_of b = b.count

abbrev pub records_of : ImageBook → List Record
records_of b = held (count_of b) (image_of b)

abbrev pub room_of : ImageBook → ℕ
room_of b = b.room

abbrev pub contents_of : ImageBook → Contents
contents_of b = record { records = records_of b; room = room_of b; side = []; loans = loan_of b ∷ [] }

-- a proper book that its image, opened again, gives back
abbrev pub Sound : ImageBook → Type 0
Sound b = Reads (image_of b) (count_of b) (room_of b)

-- the bytes that hold neither the count nor a record are as they were: no place is taken out of use, the bytes behind
-- the last record stay, and an image that makes a book of no room stays whole
pub record SameRest (old new : ImageBook) : Type 0 where
  pub grows : count_of old ≤ count_of new
  pub same_room : room_of new ≡ room_of old
  pub past : drop (start_of (count_of new)) (image_of new) ≡ drop (start_of (count_of new)) (image_of old)
  pub roomless : room_of old ≡ 0 → image_of new ≡ image_of old

-- a call leaves a book of these records, and keeps the rest
abbrev pub LeftWith : ImageBook → ImageBook → List Record → Type 0
LeftWith old new then = Left Sound contents_of SameRest old new then

-- what any call leaves of the image follows from the records that it leaves: the count and their bytes stand in front,
-- and behind them is what was there; an image that made a book of no room is as it was
abbrev pub Pinned : ImageBook → ImageBook → Type 0
Pinned old new =
    (rs : List Record) → LeftWith old new rs → All (λ b. b < 256) (image_of new)
    → image_of new ≡ cond (room_of old == 0) (image_of old) (image_with rs (image_of old))

-- so a call that leaves the records as they were leaves every byte as it was
abbrev pub StaysWhole : ImageBook → Type 0
StaysWhole old =
    (new : ImageBook) → LeftWith old new (records_of old)
    → All (λ b. b < 256) (image_of old) → All (λ b. b < 256) (image_of new) → image_of new ≡ image_of old

-- every book that these bytes keep has this list and this room
abbrev pub ComesBack : List ℕ → ℕ → ℕ → Type 0
ComesBack bs n room = (b : ImageBook) → Sound b → image_of b ≡ bs → (records_of b ≡ held n bs) × (room_of b ≡ room)

-- what adding leaves: where it is accepted, the bytes behind the last record are those of the new one, and the bytes of
-- the count those of the new count; every other byte stays
pub record Added (accepted : Bool) (old new : ImageBook) (r : Record) : Type 0 where
  pub image : image_of new ≡ cond accepted (with_added (count_of old) r (image_of old)) (image_of old)
  pub count : count_of new ≡ cond accepted (count_of old + 1) (count_of old)
  pub room : room_of new ≡ room_of old
  pub loan : loan_of new ≡ loan_of old

-- what replacing leaves: where it is accepted, the bytes of the place are those of the new record; every other byte
-- stays
pub record Replaced (accepted : Bool) (old new : ImageBook) (place : ℕ) (r : Record) : Type 0 where
  pub image : image_of new ≡ cond accepted (with_record place r (image_of old)) (image_of old)
  pub count : count_of new ≡ count_of old
  pub room : room_of new ≡ room_of old
  pub loan : loan_of new ≡ loan_of old
