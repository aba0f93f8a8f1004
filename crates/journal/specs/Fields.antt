-- The words behind a statement's first, each with what is expected in its place.
use Rattle.std.specs.Prelude.{◌≡◌, ℕ, Bool, true, false, cond, ◌&&◌, List, [], ◌∷◌, ◌++◌, Some, None, Ok, Err, codes, Option, Result}
use Rattle.std.proofs.Math.Utf8.{encodes, scalars}
use Rattle.std.specs.Option.{ok_or}
use Rattle.std.specs.Result.{result_ok}
use Rattle.std.specs.Str.{bytes_eq, chars}
use Rattle.accounts.specs.declared.project.Project.{Project}
use Rattle.accounts.specs.declared.record.Line.{Line}
use Rattle.accounts.specs.Marks.{size_of, kind_of}
use Rattle.journal.specs.declared.statement.BookKind.{BookKind}
use Rattle.journal.specs.declared.statement.BookKind.TheVariants.{Table, Image}
use Rattle.journal.specs.declared.statement.Expected.{Expected}
use Rattle.journal.specs.declared.statement.Expected.TheVariants as what
use Rattle.journal.specs.declared.statement.MethodName.{MethodName}
use Rattle.journal.specs.declared.statement.MethodName.TheVariants.{ValueStack, Volumetric}
use Rattle.journal.specs.declared.statement.ParseError.{ParseError}
use Rattle.journal.specs.declared.statement.ParseError.TheVariants.{Expected as expected}
use Rattle.journal.specs.Numbers.{number_of}
use Rattle.journal.specs.Results.{and_then}
use Rattle.journal.specs.Words.{first, rest, rest_from}

abbrev pub number_at : Expected → ℕ → Option (List ℕ) → Result ℕ ParseError
number_at what most None = Err (expected what)
number_at what most (Some w) = ok_or (number_of most w) (expected what)

-- the first of two names, or the second
abbrev pub either_at : {X : Type 0} → Expected → List ℕ → X → List ℕ → X → Option (List ℕ) → Result X ParseError
either_at what name x other y None = Err (expected what)
either_at what name x other y (Some w) = cond (bytes_eq w name) (Ok x) (cond (bytes_eq w other) (Ok y) (Err (expected what)))

-- a mark is a word of one byte
abbrev pub mark_at : {X : Type 0} → Expected → (ℕ → Option X) → Option (List ℕ) → Result X ParseError
mark_at what marked None = Err (expected what)
mark_at what marked (Some []) = Err (expected what)
mark_at what marked (Some (b ∷ [])) = ok_or (marked b) (expected what)
mark_at what marked (Some (b ∷ c ∷ w)) = Err (expected what)

-- what was read is a mark of the word, as a conversion gives it
abbrev pub IsMark : {X E : Type 0} → Expected → (ℕ → Result X E → Type 0) → Option (List ℕ) → Result X ParseError → Type 0
IsMark what gives None r = r ≡ Err (expected what)
IsMark what gives (Some []) r = r ≡ Err (expected what)
IsMark {X} {E} what gives (Some (b ∷ [])) r = (q : Result X E) × gives b q × (r ≡ ok_or (result_ok q) (expected what))
IsMark what gives (Some (b ∷ c ∷ w)) r = r ≡ Err (expected what)

abbrev pub end_at : Option (List ℕ) → Result (Unit {0}) ParseError
end_at None = Ok tt
end_at (Some w) = Err (expected what.End)

-- a number of at most 8, 16, 32 or 64 bits
abbrev pub most8 : ℕ
most8 = 255

abbrev pub most16 : ℕ
most16 = 65535

abbrev pub most32 : ℕ
most32 = 4294967295

abbrev pub most64 : ℕ
most64 = 18446744073709551615

abbrev pub method_of : List (List ℕ) → Result MethodName ParseError
method_of ws =
    and_then (either_at what.Method (codes "value-stack") ValueStack (codes "volumetric") Volumetric (first ws)) λ name.
    and_then (end_at (first (rest ws))) λ _.
    Ok name

-- a table of so many places, or an image in so many bytes
abbrev pub book_sized : Bool → List (List ℕ) → Result BookKind ParseError
book_sized true ws = and_then (number_at what.Places most64 (first ws)) λ n. Ok (Table n)
book_sized false ws = and_then (number_at what.Bytes most64 (first ws)) λ n. Ok (Image n)

abbrev pub book_of : List (List ℕ) → Result BookKind ParseError
book_of ws =
    and_then (either_at what.Book (codes "table") true (codes "image") false (first ws)) λ table.
    and_then (book_sized table (rest ws)) λ book.
    and_then (end_at (first (rest (rest ws)))) λ _.
    Ok book

-- the fewest lines of a request, and whether the project is a farm's
abbrev pub open_of : List (List ℕ) → Result Project ParseError
open_of ws =
    and_then (number_at what.Smallest most32 (first ws)) λ smallest.
    and_then (either_at what.Project (codes "farm") true (codes "plain") false (first (rest ws))) λ farm.
    and_then (end_at (first (rest (rest ws)))) λ _.
    Ok (record { smallest = smallest; farm = farm })

-- the rates so far, then one more for each word
unfoldable pub rates_from : List ℕ → List (List ℕ) → Result (List ℕ) ParseError
rates_from rs [] = Ok rs
rates_from rs (w ∷ ws) = and_then (number_at what.Rate most32 (Some w)) λ r. rates_from (rs ++ r ∷ []) ws

abbrev pub marks_of : ℕ → ℕ → ℕ → ℕ → List (List ℕ) → Result Line ParseError
marks_of account percentage savings class ws =
    and_then (mark_at what.Size size_of (first ws)) λ size.
    and_then (mark_at what.Kind kind_of (first (rest ws))) λ kind.
    Ok (record { account = account; percentage = percentage; savings = savings; class = class; size = size; kind = kind })

-- the six fields of a line
abbrev pub six_of : List (List ℕ) → Result Line ParseError
six_of ws =
    and_then (number_at what.Account most64 (first ws)) λ account.
    and_then (number_at what.Percentage most32 (first (rest ws))) λ percentage.
    and_then (number_at what.Savings most16 (first (rest (rest ws)))) λ savings.
    and_then (number_at what.Class most8 (first (rest_from 3 ws))) λ class.
    marks_of account percentage savings class (rest_from 4 ws)

-- and no word behind them
abbrev pub line_of : List (List ℕ) → Result Line ParseError
line_of ws =
    and_then (six_of ws) λ line.
    and_then (end_at (first (rest_from 6 ws))) λ _.
    Ok line

-- a file's name is text: the UTF-8 bytes of characters
abbrev pub is_text : List ℕ → Bool
is_text bs = scalars (chars bs) && bytes_eq (encodes (chars bs)) bs

abbrev pub file_at : Option (List ℕ) → Result (List ℕ) ParseError
file_at None = Err (expected what.File)
file_at (Some w) = cond (is_text w) (Ok w) (Err (expected what.File))

abbrev pub request_of : List (List ℕ) → Result (List ℕ) ParseError
request_of ws =
    and_then (file_at (first ws)) λ name.
    and_then (end_at (first (rest ws))) λ _.
    Ok name

-- a number alone
abbrev pub number_alone : Expected → List (List ℕ) → Result ℕ ParseError
number_alone wanted ws =
    and_then (number_at wanted most64 (first ws)) λ n.
    and_then (end_at (first (rest ws))) λ _.
    Ok n

-- an account and a number of its own
abbrev pub account_and : Expected → List (List ℕ) → Result (ℕ × ℕ) ParseError
account_and wanted ws =
    and_then (number_at what.Account most64 (first ws)) λ account.
    and_then (number_at wanted most64 (first (rest ws))) λ n.
    and_then (end_at (first (rest (rest ws)))) λ _.
    Ok (account, n)
