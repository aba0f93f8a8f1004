-- What is printed of a line that is not as it should be.
use Rattle.std.specs.Prelude.{ℕ, List, ◌++◌, codes, decimal, Option}
use Rattle.std.specs.Option.{option_map}
use Rattle.journal.specs.declared.statement.Expected.{Expected}
use Rattle.journal.specs.declared.statement.Expected.TheVariants as what
use Rattle.journal.specs.declared.statement.ParseError.{ParseError}
use Rattle.journal.specs.declared.statement.ParseError.TheVariants.{Expected as expected, NoMemory}

-- the word that a line should have had
abbrev pub expected_text : Expected → List ℕ
expected_text what.Statement = codes "a statement: method, book, open, rates, line, request, enrol, reading, bill, final, disburse, lapse or close"
expected_text what.Method = codes "value-stack or volumetric"
expected_text what.Book = codes "table or image"
expected_text what.Places = codes "the places of the table, in digits"
expected_text what.Bytes = codes "the bytes of the image, in digits"
expected_text what.Smallest = codes "the smallest number of lines, in digits"
expected_text what.Project = codes "plain or farm"
expected_text what.Rate = codes "a rate, in digits"
expected_text what.Account = codes "an account, in digits"
expected_text what.Percentage = codes "a percentage in thousandths, in digits"
expected_text what.Savings = codes "the savings in hundredths of a percent, in digits"
expected_text what.Class = codes "a service class, in digits"
expected_text what.Size = codes "S or L"
expected_text what.Kind = codes "M or X"
expected_text what.File = codes "the name of a file"
expected_text what.Units = codes "units, in digits"
expected_text what.Cents = codes "cents, in digits"
expected_text what.End = codes "the end of the line"

-- why a line is not understood
abbrev pub parse_error_text : ParseError → List ℕ
parse_error_text (expected what) = codes "expected " ++ expected_text what
parse_error_text NoMemory = codes "there is no memory for the statement"

-- `journal line 7: expected ..`, where the text of what is expected is known
abbrev pub mistake_text : ℕ → Option (List ℕ) → Option (List ℕ)
mistake_text line wanted =
    option_map (λ words. codes "journal line " ++ (decimal line ++ (codes ": expected " ++ words))) wanted
