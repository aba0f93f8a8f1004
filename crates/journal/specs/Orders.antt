-- The head of a journal: the method, the book and the opening are its first three statements, and stand nowhere else.
use Rattle.std.specs.Prelude.{ℕ, List, [], ◌∷◌, Ok, Err, codes, Result}
use Rattle.journal.specs.Meanings.{Meaning, meaning}
use Rattle.journal.specs.Meanings as statement
use Rattle.journal.specs.Results.{and_then}
use Rattle.journal.specs.declared.line.JournalLine.{JournalLine}
use Rattle.journal.specs.declared.mistake.Mistake.{Mistake}
use Rattle.journal.specs.declared.order.Head.{Head}
use Rattle.journal.specs.declared.order.Part.{Part}
use Rattle.journal.specs.declared.order.Part.TheVariants as part_is
use Rattle.journal.specs.declared.order.Stage.{Stage}
use Rattle.journal.specs.declared.order.Stage.TheVariants.{Start, HasMethod, HasBook, Opened}
use Rattle.journal.specs.declared.order.Wanted.{Wanted}
use Rattle.journal.specs.declared.order.Wanted.TheVariants as want

-- what a statement is to the head of a journal
abbrev pub part : Meaning → Part
part (statement.a_method name) = part_is.Method name
part (statement.a_book book) = part_is.Book book
part (statement.an_opening project) = part_is.Open project
part (statement.some_rates _) = part_is.Later
part (statement.a_line _) = part_is.Later
part (statement.a_request _) = part_is.Later
part statement.an_enrolment = part_is.Later
part (statement.a_reading _) = part_is.Later
part (statement.a_bill _ _) = part_is.Later
part (statement.a_final_bill _ _) = part_is.Later
part (statement.a_disbursement _ _) = part_is.Later
part statement.a_lapse = part_is.Later
part statement.a_close = part_is.Later

-- what a line out of order should have had
abbrev pub wanted_text : Wanted → List ℕ
wanted_text want.Method = codes "the method as the first statement"
wanted_text want.Book = codes "the book as the second statement"
wanted_text want.Open = codes "the opening as the third statement"
wanted_text want.Later = codes "no second method, book or opening"

-- what has to follow
abbrev pub wanted_in : Stage → Wanted
wanted_in Start = want.Method
wanted_in (HasMethod _) = want.Book
wanted_in (HasBook _ _) = want.Open
wanted_in (Opened _) = want.Later

-- a mistake on a line
abbrev pub wanted_at : ℕ → Wanted → Mistake Wanted
wanted_at line w = record { line = line; wanted = w }

-- how far the head is read behind one more statement
abbrev pub next : Stage → ℕ → Part → Result Stage (Mistake Wanted)
next Start line (part_is.Method m) = Ok (HasMethod m)
next Start line (part_is.Book _) = Err (wanted_at line want.Method)
next Start line (part_is.Open _) = Err (wanted_at line want.Method)
next Start line part_is.Later = Err (wanted_at line want.Method)
next (HasMethod m) line (part_is.Book b) = Ok (HasBook m b)
next (HasMethod m) line (part_is.Method _) = Err (wanted_at line want.Book)
next (HasMethod m) line (part_is.Open _) = Err (wanted_at line want.Book)
next (HasMethod m) line part_is.Later = Err (wanted_at line want.Book)
next (HasBook m b) line (part_is.Open p) = Ok (Opened (record { method = m; book = b; project = p }))
next (HasBook m b) line (part_is.Method _) = Err (wanted_at line want.Open)
next (HasBook m b) line (part_is.Book _) = Err (wanted_at line want.Open)
next (HasBook m b) line part_is.Later = Err (wanted_at line want.Open)
next (Opened h) line part_is.Later = Ok (Opened h)
next (Opened h) line (part_is.Method _) = Err (wanted_at line want.Later)
next (Opened h) line (part_is.Book _) = Err (wanted_at line want.Later)
next (Opened h) line (part_is.Open _) = Err (wanted_at line want.Later)

-- a journal that ends too early lacks a statement at its end
abbrev pub headed : ℕ → Stage → Result Head (Mistake Wanted)
headed end Start = Err (wanted_at end want.Method)
headed end (HasMethod _) = Err (wanted_at end want.Book)
headed end (HasBook _ _) = Err (wanted_at end want.Open)
headed end (Opened h) = Ok h

-- the number of a line, and what its statement is to the head
abbrev pub placed : JournalLine → ℕ × Part
placed l = (l.line, part (meaning l.statement))

-- the first statement out of order, or the head
abbrev pub ordered : ℕ → List (ℕ × Part) → Stage → Result Head (Mistake Wanted)
ordered end [] stage = headed end stage
ordered end (p ∷ ps) stage = and_then (next stage p.0 p.1) (ordered end ps)

-- the same of a whole journal
abbrev pub head_of : ℕ → List (ℕ × Part) → Result Head (Mistake Wanted)
head_of end ps = ordered end ps Start
