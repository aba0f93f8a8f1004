-- What an image holds when it is opened.
use Rattle.std.specs.Prelude.{◌≡◌, ℕ, ◌<◌, true, cond, List, length, replicate, is_some}
use Rattle.accounts.specs.Books.{Proper}
use Rattle.books.specs.Bytes.{written}
use Rattle.books.specs.Codec.{decoded}
use Rattle.books.specs.Images.{count_bytes, count_in, capacity_of, slot, held}
use Rattle.books.specs.ImageRefusals.{lacks_room, open_refusal}

-- each of the first places holds the bytes of a record in range
abbrev pub Legible : ℕ → List ℕ → Type 0
Legible n bs = (i : ℕ) → i < n → is_some (decoded (slot i bs)) ≡ true

-- a refused image makes a book of no records and no room
abbrev pub opened_count : List ℕ → ℕ
opened_count bs = cond (is_some (open_refusal bs)) 0 (count_in bs)

abbrev pub opened_room : List ℕ → ℕ
opened_room bs = cond (is_some (open_refusal bs)) 0 (capacity_of bs)

-- starting empty writes a count of 0 and no other byte; an image that lacks the room stays
abbrev pub started : List ℕ → List ℕ
started bs = cond (lacks_room bs) bs (written 0 (replicate count_bytes 0) bs)

abbrev pub started_room : List ℕ → ℕ
started_room bs = cond (lacks_room bs) 0 (capacity_of bs)

-- a count and a room are those of the image: the list is proper, each counted place holds a record, and opening the
-- image gives them again
pub record Reads (bs : List ℕ) (n room : ℕ) : Type 0 where
  pub proper : Proper (held n bs) room
  pub whole : length (held n bs) ≡ n
  pub same_count : n ≡ opened_count bs
  pub same_room : room ≡ opened_room bs
