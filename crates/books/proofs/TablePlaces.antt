-- The front of a table as the records of a book.
use Rattle.std.proofs.Common.{◌≡◌, ℕ, ◌+◌, ◌<◌, min, true, List, [], ◌∷◌, ◌++◌, length, take, drop, set, arith, ap, ◌∙◌}
use Rattle.std.proofs.lemmas.List.{drop-set-lt, length-set, length-take, take_more_set}
use Rattle.std.proofs.Math.Seq.{take-set-lt}
use Rattle.accounts.specs.declared.record.Record.{Record}
use Rattle.accounts.specs.Books.{Proper, takes, suits}
use Rattle.accounts.proofs.Answering.{takes_parts, suits_parts}
use Rattle.accounts.proofs.Keeping.{proper_add, proper_replace}
use Rattle.books.specs.declared.table.TableBook.{TableBook}
use Rattle.books.specs.Tables.{Added, Replaced, count_of, records_of, room_of, table_of}

-- a record put after the last, and one put in the place of another
pub proper_added : (table : List Record) (n : ℕ) (r : Record) → Proper (take n table) (min 4096 (length table)) → takes (take n table) (min 4096 (length table)) r ≡ true → Proper (take (n + 1) (set table n r)) (min 4096 (length (set table n r)))
proper_added table n r p t =
    let h = (takes_parts (take n table) (min 4096 (length table)) r t).0 in
    let l = length-take n table in
    let k : n < length table = omega arith in
    simp (length-set, take_more_set table n r k) (proper_add (take n table) (min 4096 (length table)) r p t)

pub set_within : (table : List Record) (n i : ℕ) (r : Record) → suits (take n table) i r ≡ true → take n (set table i r) ≡ set (take n table) i r
set_within table n i r t =
    let h = (suits_parts (take n table) i r t).0 in
    let l = length-take n table in
    take-set-lt n table i r (omega arith)

pub past_within : (table : List Record) (n i : ℕ) (r : Record) → suits (take n table) i r ≡ true → drop n (set table i r) ≡ drop n table
past_within table n i r t =
    let h = (suits_parts (take n table) i r t).0 in
    let l = length-take n table in
    drop-set-lt n table i r (omega arith)

pub proper_replaced : (table : List Record) (n i : ℕ) (r : Record) → Proper (take n table) (min 4096 (length table)) → suits (take n table) i r ≡ true → Proper (take n (set table i r)) (min 4096 (length (set table i r)))
proper_replaced table n i r p t =
    simp (length-set, set_within table n i r t) (proper_replace (take n table) (min 4096 (length table)) i r p t)

-- the records of a table with a record added, and with one replaced
pub added_records : (old new : TableBook) (r : Record) → takes (records_of old) (room_of old) r ≡ true → Added true old new r → records_of new ≡ records_of old ++ r ∷ []
added_records old new r t left =
    let h = (takes_parts (records_of old) (room_of old) r t).0 in
    let l = length-take (count_of old) (table_of old) in
    let k : count_of old < length (table_of old) = omega arith in
    ap (λ n. take n (table_of new)) left.count ∙ (ap (λ t. take (count_of old + 1) t) left.table ∙ take_more_set (table_of old) (count_of old) r k)

pub replaced_records : (old new : TableBook) (place : ℕ) (r : Record) → suits (records_of old) place r ≡ true → Replaced true old new place r → records_of new ≡ set (records_of old) place r
replaced_records old new place r t left =
    ap (λ n. take n (table_of new)) left.count ∙ (ap (λ t. take (count_of old) t) left.table ∙ set_within (table_of old) (count_of old) place r t)
