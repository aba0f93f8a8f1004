-- An image of a book: the count, then the bytes of each record.
use Rattle.std.specs.Prelude.{ℕ, zero, suc, ◌+◌, ◌-◌, ◌*◌, ◌/◌, min, cond, List, [], ◌∷◌, ◌++◌, map, length, take, drop, Some, None, Option, nat_lt}
use Rattle.std.specs.Int.{w32, w64, to_le_bytes, from_le_bytes}
use Rattle.std.specs.List.{range_with_len}
use Rattle.std.specs.Option.{option_to_list}
use Rattle.base.specs.Limits.{most_records}
use Rattle.accounts.specs.declared.record.Record.{Record}
use Rattle.books.specs.Bytes.{part, written}
use Rattle.books.specs.Codec.{record_bytes, encoded, decoded}

-- how many bytes the count has
abbrev pub count_bytes : ℕ
count_bytes = 4

-- how many bytes the account number has, which leads a record
abbrev pub account_bytes : ℕ
account_bytes = 8

abbrev pub count_in : List ℕ → ℕ
count_in bs = from_le_bytes w32 (part 0 count_bytes bs)

-- nothing where the image is shorter than a count
abbrev pub count_at : List ℕ → Option ℕ
count_at bs = cond (nat_lt (length bs) count_bytes) None (Some (count_in bs))

-- the whole records after the count, at most as many as a book may have
abbrev pub capacity_of : List ℕ → ℕ
capacity_of bs = min most_records ((length bs - count_bytes) / record_bytes)

abbrev pub start_of : ℕ → ℕ
start_of place = count_bytes + record_bytes * place

-- the bytes of a place
abbrev pub slot : ℕ → List ℕ → List ℕ
slot place bs = part (start_of place) record_bytes bs

abbrev pub slots_in : List ℕ → List (List ℕ)
slots_in bs = map (λ i. slot i bs) (range_with_len 0 (capacity_of bs))

-- the record of a place; nothing past the capacity
abbrev pub record_at : List ℕ → ℕ → Option Record
record_at bs place = cond (nat_lt place (capacity_of bs)) (decoded (slot place bs)) None

-- the records of the first places
unfoldable pub held : ℕ → List ℕ → List Record
held zero bs = []
held (suc n) bs = held n bs ++ option_to_list (decoded (slot n bs))

-- the account number that leads a record's bytes
unfoldable pub account_in : List ℕ → ℕ
account_in bytes = from_le_bytes w64 (take account_bytes bytes)

-- an image with a record's bytes at a place
abbrev pub with_record : ℕ → Record → List ℕ → List ℕ
with_record place r bs = written (start_of place) (encoded r) bs

-- an image of so many records with one more, and with the new count
abbrev pub with_added : ℕ → Record → List ℕ → List ℕ
with_added n r bs = written 0 (to_le_bytes w32 (n + 1)) (with_record n r bs)

-- the bytes of records, one behind the other
abbrev pub bytes_of : List Record → List ℕ
bytes_of [] = []
bytes_of (r ∷ rs) = encoded r ++ bytes_of rs

-- the image that has these records, and behind them what stands in another
abbrev pub image_with : List Record → List ℕ → List ℕ
image_with rs bs = to_le_bytes w32 (length rs) ++ (bytes_of rs ++ drop (start_of (length rs)) bs)
