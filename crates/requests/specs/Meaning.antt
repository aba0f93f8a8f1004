-- What a request file means: its lines, or the first fault.
use Rattle.std.specs.Prelude.{ℕ, zero, suc, ◌+◌, ◌-◌, ◌*◌, Bool, cond, ◌&&◌, ◌||◌, List, [], ◌∷◌, ◌++◌, length, take, drop, Some, None, Ok, Err, Option, Result, ◌==◌, nat_le, nat_lt}
use Rattle.std.specs.Int.{from_le_bytes, w16, w32}
use Rattle.std.specs.Result.{result_unwrap_or}
use Rattle.accounts.specs.declared.record.Line.{Line}
use Rattle.base.specs.Limits.{most_lines}
use Rattle.requests.specs.Limits.{most_file, count_bytes, pair_bytes, field_bytes, most_line}
use Rattle.requests.specs.declared.fault.FieldFault.{FieldFault}
use Rattle.requests.specs.declared.fault.LineFault.{LineFault}
use Rattle.requests.specs.declared.fault.PairFault.{PairFault}
use Rattle.requests.specs.declared.fault.RequestRefusal.{RequestRefusal}
use Rattle.requests.specs.declared.fault.RequestRefusal.TheVariants as refusal
use Rattle.requests.specs.declared.pairs.Pair.{Pair}
use Rattle.requests.specs.Form.{then, line_of}

-- the bytes of the line count and of so many pairs
abbrev pub head_bytes : ℕ → ℕ
head_bytes pairs = count_bytes + pair_bytes * pairs

-- Behind the line count stand the pairs: an offset of four bytes and a length of two. The lowest byte of each number
-- comes first.
unfoldable pub pair_at : List ℕ → ℕ → Pair
pair_at file place =
    let at = head_bytes place in
    record { offset = from_le_bytes w32 (drop at file); length = from_le_bytes w16 (drop (at + 4) file) }

-- the first byte past a line
abbrev pub end_of : Pair → ℕ
end_of p = p.offset + p.length

-- a pair's line has all its fields and no more bytes than a line may have, starts no earlier than `start`, and ends
-- within a file of `size` bytes
abbrev pub fits : ℕ → ℕ → Pair → Bool
fits size start p =
    nat_le start p.offset
    && (nat_le field_bytes p.length && (nat_le p.length most_line && nat_le (end_of p) size))

-- Of n pairs from `place` on, the first that does not fit. No pair starts before the end of the one ahead,
-- and the first not before `start`.
unfoldable pub pairs_from : List ℕ → ℕ → ℕ → ℕ → Result (Unit {0}) PairFault
pairs_from file start place zero = Ok tt
pairs_from file start place (suc n) =
    cond (fits (length file) start (pair_at file place))
    (pairs_from file (end_of (pair_at file place)) (place + 1) n)
    (Err (record { place = place }))

-- the bytes of a line
abbrev pub part : List ℕ → Pair → List ℕ
part file p = take p.length (drop p.offset file)

-- a field's fault as its line's
abbrev pub of_line : ℕ → Result Line FieldFault → Result Line LineFault
of_line place (Ok line) = Ok line
of_line place (Err field) = Err (record { place = place; field = field })

-- the line at a place, or what breaks its form
unfoldable pub line_at : List ℕ → ℕ → Result Line LineFault
line_at file place = of_line place (line_of (part file (pair_at file place)))

-- the n lines from `place` on, or the first that breaks the form
unfoldable pub lines_from : List ℕ → ℕ → ℕ → Result (List Line) LineFault
lines_from file place zero = Ok []
lines_from file place (suc n) =
    then (line_at file place) (λ line. then (lines_from file (place + 1) n) (λ lines. Ok (line ∷ lines)))

-- The line count of a file, or why it has none: the file is shorter than a line count or longer than a file may be, the
-- count is 0 or above the most lines, or as many pairs pass the file's end.
unfoldable pub count : List ℕ → Result ℕ RequestRefusal
count file =
    let n = from_le_bytes w16 file in
    cond (nat_lt (length file) count_bytes || nat_lt most_file (length file)) (Err refusal.FileLength)
    (cond (n == 0 || (nat_lt most_lines n || nat_lt (length file) (head_bytes n))) (Err refusal.LineCount) (Ok n))

-- a pair's or a line's fault as the file's
abbrev pub as_refusal : {A E : Type 0} → (E → RequestRefusal) → Result A E → Result A RequestRefusal
as_refusal f (Ok a) = Ok a
as_refusal f (Err e) = Err (f e)

-- All pairs are judged before any line; the first starts no earlier than the end of the pairs.
abbrev pub lines_of : List ℕ → ℕ → Result (List Line) RequestRefusal
lines_of file n =
    then (as_refusal refusal.Pair (pairs_from file (head_bytes n) 0 n)) (λ _.
    as_refusal refusal.Line (lines_from file 0 n))

-- the lines of a file, or its first fault
abbrev pub meaning : List ℕ → Result (List Line) RequestRefusal
meaning file = then (count file) (lines_of file)

-- the lines of a file, none where it has a fault
abbrev pub lines_in : List ℕ → List Line
lines_in file = result_unwrap_or (meaning file) []

-- what a reader into a table finds: a table with fewer places than lines is a fault right after the count's
abbrev pub reading : List ℕ → ℕ → Result (List Line) RequestRefusal
reading file places = then (count file) (λ n. cond (nat_lt places n) (Err refusal.Table) (lines_of file n))

-- whether lines are in form, without them
abbrev pub checked : {A E : Type 0} → Result A E → Result (Unit {0}) E
checked (Ok lines) = Ok tt
checked (Err fault) = Err fault

-- how many lines were read
abbrev pub counted : {E : Type 0} → Result (List Line) E → Result ℕ E
counted (Ok lines) = Ok (length lines)
counted (Err fault) = Err fault

-- The table after reading: the lines in its first places, the other places as they were. Of a file that is refused
-- nothing is written.
abbrev pub written : {E : Type 0} → Result (List Line) E → List Line → List Line
written (Ok lines) table = lines ++ drop (length lines) table
written (Err fault) table = table

-- The remark is what follows the space behind a line's fields, and starts there; a line without that space has an
-- empty one at its end.
abbrev pub remark_start : Pair → ℕ
remark_start p = cond (nat_lt field_bytes p.length) (p.offset + (field_bytes + 1)) (end_of p)

-- that part of the file's bytes, with its offset in the file
abbrev pub remark_of : List ℕ → Pair → List ℕ × ℕ
remark_of file p = (take (end_of p - remark_start p) (drop (remark_start p) file), remark_start p)

-- the remark of the line at a place; nothing where the file has a fault or no such line
abbrev pub remark_if : List ℕ → ℕ → Result (List Line) RequestRefusal → Option (List ℕ × ℕ)
remark_if file place (Ok lines) = cond (nat_lt place (length lines)) (Some (remark_of file (pair_at file place))) None
remark_if file place (Err fault) = None

-- the remark of a file's line at a place, and its offset in the file
abbrev pub remark_at : List ℕ → ℕ → Option (List ℕ × ℕ)
remark_at file place = remark_if file place (meaning file)
