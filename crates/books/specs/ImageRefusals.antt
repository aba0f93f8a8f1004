-- Why an image is refused, by number and place.
use Rattle.std.specs.Prelude.{ℕ, zero, suc, ◌+◌, Bool, true, false, cond, ◌||◌, List, length, Some, None, Option, nat_lt, codes}
use Rattle.std.specs.Option.{option_map}
use Rattle.accounts.specs.declared.record.Record.{Record}
use Rattle.accounts.specs.Books.{accounts, present}
use Rattle.books.specs.Codec.{decoded}
use Rattle.books.specs.Images.{count_bytes, count_in, capacity_of, slot, held}
use Rattle.books.specs.declared.checks.ImageRefusal.{ImageRefusal}
use Rattle.books.specs.declared.checks.ImageRefusal.TheVariants.{NoRoom, UnfitRecord}

abbrev pub number_of : ImageRefusal → ℕ
number_of NoRoom = 6
number_of (UnfitRecord place) = 7

-- counted from 0, and 0 where none is told
abbrev pub place_of : ImageRefusal → ℕ
place_of NoRoom = 0
place_of (UnfitRecord place) = place

-- whether a refusal is about a record
abbrev pub names_place : ImageRefusal → Bool
names_place NoRoom = false
names_place (UnfitRecord place) = true

-- why, in words
abbrev pub reason_text : ImageRefusal → List ℕ
reason_text NoRoom = codes "the image has under 4 bytes, or its count is above its capacity"
reason_text (UnfitRecord place) = codes "the record is out of range, its account stands in an earlier place, or a filler byte is not 0"

-- fewer bytes than a count has, or a count past the capacity
abbrev pub lacks_room : List ℕ → Bool
lacks_room bs = nat_lt (length bs) count_bytes || nat_lt (capacity_of bs) (count_in bs)

-- why no book is started in an image; nothing where one is
abbrev pub start_refusal : List ℕ → Option ImageRefusal
start_refusal bs = cond (lacks_room bs) (Some NoRoom) None

-- the bytes are those of no record in range with zero filler, or the account stands in an earlier place
abbrev pub unfit_after : List ℕ → Option Record → Bool
unfit_after earlier None = true
unfit_after earlier (Some r) = present r.account earlier

abbrev pub unfit : ℕ → List ℕ → Bool
unfit place bs = unfit_after (accounts (held place bs)) (decoded (slot place bs))

-- the first unfit record of so many from a place on
abbrev pub first_unfit : ℕ → ℕ → List ℕ → Option ℕ
first_unfit zero place bs = None
first_unfit (suc n) place bs = cond (unfit place bs) (Some place) (first_unfit n (place + 1) bs)

-- why an image is not opened: the room comes first, and then the first unfit record
abbrev pub open_refusal : List ℕ → Option ImageRefusal
open_refusal bs = cond (lacks_room bs) (Some NoRoom) (option_map UnfitRecord (first_unfit (count_in bs) 0 bs))
