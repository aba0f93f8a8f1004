-- What a line of a journal says.
use Rattle.std.specs.Prelude.{◌≡◌, ℕ, Bool, true, false, cond, List, [], ◌∷◌, Some, None, Ok, Err, vec_items, string_bytes, Option, Result, ◌==◌, slice_index}
use Rattle.accounts.specs.declared.project.Project.{Project}
use Rattle.accounts.specs.declared.record.Line.{Line}
use Rattle.journal.specs.declared.keyword.Keyword.{Keyword}
use Rattle.journal.specs.declared.keyword.Keyword.TheVariants as word
use Rattle.journal.specs.declared.statement.BookKind.{BookKind}
use Rattle.journal.specs.declared.statement.Expected.TheVariants as what
use Rattle.journal.specs.declared.statement.MethodName.{MethodName}
use Rattle.journal.specs.declared.statement.ParseError.{ParseError}
use Rattle.journal.specs.declared.statement.ParseError.TheVariants.{Expected as expected, NoMemory}
use Rattle.journal.specs.declared.statement.Statement.{Statement}
use Rattle.journal.specs.declared.statement.Statement.TheVariants as is
use Rattle.journal.specs.Words.{words}
use Rattle.journal.specs.Keywords.{keyword_of}
use Rattle.journal.specs.Results.{and_then}
use Rattle.journal.specs.Fields.{
  method_of,
  book_of,
  open_of,
  rates_from,
  line_of,
  request_of,
  number_alone,
  account_and,
  end_at,
}
use Rattle.journal.specs.Words.{first}

-- what a statement means: the statement, with lists in the place of memory
pub data Meaning : Type 0 where
  a_method : MethodName → Meaning
  a_book : BookKind → Meaning
  an_opening : Project → Meaning
  some_rates : List ℕ → Meaning
  a_line : Line → Meaning
  a_request : List ℕ → Meaning
  an_enrolment : Meaning
  a_reading : ℕ → Meaning
  a_bill : ℕ → ℕ → Meaning
  a_final_bill : ℕ → ℕ → Meaning
  a_disbursement : ℕ → ℕ → Meaning
  a_lapse : Meaning
  a_close : Meaning

-- the meaning of a statement
abbrev pub meaning : Statement → Meaning
meaning (is.Method name) = a_method name
meaning (is.Book book) = a_book book
meaning (is.Open project) = an_opening project
meaning (is.Rates rates) = some_rates (vec_items rates)
meaning (is.Line line) = a_line line
meaning (is.Request name) = a_request (string_bytes name)
meaning is.Enrol = an_enrolment
meaning (is.Reading units) = a_reading units
meaning (is.Bill account cents) = a_bill account cents
meaning (is.Final account cents) = a_final_bill account cents
meaning (is.Disburse account units) = a_disbursement account units
meaning is.Lapse = a_lapse
meaning is.Close = a_close

-- the statement of a first word and the words behind it
abbrev pub says : Keyword → List (List ℕ) → Result Meaning ParseError
says word.Method ws = and_then (method_of ws) λ name. Ok (a_method name)
says word.Book ws = and_then (book_of ws) λ book. Ok (a_book book)
says word.Open ws = and_then (open_of ws) λ project. Ok (an_opening project)
says word.Rates ws = and_then (rates_from [] ws) λ rates. Ok (some_rates rates)
says word.Line ws = and_then (line_of ws) λ line. Ok (a_line line)
says word.Request ws = and_then (request_of ws) λ name. Ok (a_request name)
says word.Enrol ws = and_then (end_at (first ws)) λ _. Ok an_enrolment
says word.Reading ws = and_then (number_alone what.Units ws) λ units. Ok (a_reading units)
says word.Bill ws = and_then (account_and what.Cents ws) λ p. Ok (a_bill p.0 p.1)
says word.Final ws = and_then (account_and what.Cents ws) λ p. Ok (a_final_bill p.0 p.1)
says word.Disburse ws = and_then (account_and what.Units ws) λ p. Ok (a_disbursement p.0 p.1)
says word.Lapse ws = and_then (end_at (first ws)) λ _. Ok a_lapse
says word.Close ws = and_then (end_at (first ws)) λ _. Ok a_close

-- the same of a first word that may be none of them
abbrev pub says_named : Option Keyword → List (List ℕ) → Result (Option Meaning) ParseError
says_named None ws = Err (expected what.Statement)
says_named (Some k) ws = and_then (says k ws) λ m. Ok (Some m)

-- a remark begins with `#`
abbrev pub is_remark : List ℕ → Bool
is_remark w = slice_index w 0 == 35

-- a blank line and a remark say nothing
abbrev pub words_say : List (List ℕ) → Result (Option Meaning) ParseError
words_say [] = Ok None
words_say (w ∷ ws) = cond (is_remark w) (Ok None) (says_named (keyword_of w) ws)

-- what a line says
abbrev pub statement_of : List ℕ → Result (Option Meaning) ParseError
statement_of bs = words_say (words bs)

-- what was read is as a definition has it, unless memory fails
abbrev pub Reads : {X Y : Type 0} → (Y → X) → Result X ParseError → Result Y ParseError → Type 0
Reads means m (Ok y) = m ≡ Ok (means y)
Reads means m (Err (expected e)) = m ≡ Err (expected e)
Reads means m (Err NoMemory) = Unit {0}

-- rates and a file's name are kept in memory
abbrev pub keeps : Keyword → Bool
keeps word.Method = false
keeps word.Book = false
keeps word.Open = false
keeps word.Rates = true
keeps word.Line = false
keeps word.Request = true
keeps word.Enrol = false
keeps word.Reading = false
keeps word.Bill = false
keeps word.Final = false
keeps word.Disburse = false
keeps word.Lapse = false
keeps word.Close = false

-- the same of a first word that may be none of them
abbrev pub keeps_named : Option Keyword → Bool
keeps_named None = false
keeps_named (Some k) = keeps k

-- whether reading a line of these words may ask for memory
abbrev pub asks_memory : List (List ℕ) → Bool
asks_memory [] = false
asks_memory (w ∷ ws) = keeps_named (keyword_of w)
