-- The numbers, places and reasons by which the refusals of a request file are known.
use Rattle.std.specs.Prelude.{ℕ, Bool, true, false, List, codes}
use Rattle.requests.specs.declared.fault.RequestRefusal.{RequestRefusal}
use Rattle.requests.specs.declared.fault.RequestRefusal.TheVariants.{FileLength, LineCount, Table, Pair, Line}
use Rattle.requests.specs.declared.fault.ReadError.{ReadError}
use Rattle.requests.specs.declared.fault.ReadError.TheVariants.{Refused, NoMemory}
use Rattle.requests.specs.declared.packing.WriteRefusal.{WriteRefusal}
use Rattle.requests.specs.declared.packing.WriteRefusal.TheVariants as write

-- 1 the file's length, 2 its line count, 3 the table, 4 a pair, 5 a line's form
abbrev pub number_of : RequestRefusal → ℕ
number_of FileLength = 1
number_of LineCount = 2
number_of Table = 3
number_of (Pair fault) = 4
number_of (Line fault) = 5

-- the first pair or line at fault, counted from 0; 0 where none is named
abbrev pub place_of : RequestRefusal → ℕ
place_of FileLength = 0
place_of LineCount = 0
place_of Table = 0
place_of (Pair fault) = fault.place
place_of (Line fault) = fault.place

-- whether a refusal is about a pair or a line
abbrev pub names_place : RequestRefusal → Bool
names_place (Pair fault) = true
names_place (Line fault) = true
names_place _ = false

-- why a file is refused, as it is printed
abbrev pub reason_of : RequestRefusal → List ℕ
reason_of FileLength = codes "the file has under 2 or over 65,535 bytes"
reason_of LineCount = codes "the line count is 0 or above 1,024, or the pairs pass the file's end"
reason_of Table = codes "the table has fewer places than the file has lines"
reason_of (Pair fault) = codes "the pair starts too early, has a length outside 30 to 110, or passes the file's end"
reason_of (Line fault) = codes "the line breaks the form"

-- why a file's lines are not read into a list, as it is printed
abbrev pub read_reason_of : ReadError → List ℕ
read_reason_of (Refused refusal) = reason_of refusal
read_reason_of NoMemory = codes "there is no memory for the lines"

-- why lines cannot be packed into a file, as it is printed
abbrev pub write_reason_of : WriteRefusal → List ℕ
write_reason_of write.LineCount = codes "a request file has 1 to 1024 lines"
write_reason_of (write.Number place) = codes "a number has more digits than its field"
write_reason_of (write.Remark place) = codes "a remark has over 79 bytes"
write_reason_of write.FileLength = codes "the file would have over 65535 bytes"
write_reason_of write.Memory = codes "there is no memory for the file"
