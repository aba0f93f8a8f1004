-- The text of a statement: its words, with a space between two of them.
use Rattle.std.specs.Prelude.{◌≡◌, ℕ, Bool, true, false, not, ◌&&◌, List, [], ◌∷◌, ◌++◌, length, Some, Ok, codes, decimal, nat_lt}
use Rattle.std.specs.List.{flat_map}
use Rattle.accounts.specs.declared.record.Line.{Line}
use Rattle.accounts.specs.Marks.{size_text, kind_text}
use Rattle.journal.specs.declared.statement.BookKind.{BookKind}
use Rattle.journal.specs.declared.statement.BookKind.TheVariants.{Table, Image}
use Rattle.journal.specs.declared.statement.MethodName.{MethodName}
use Rattle.journal.specs.declared.statement.MethodName.TheVariants.{ValueStack, Volumetric}
use Rattle.journal.specs.Meanings.{
  Meaning,
  a_method,
  a_book,
  an_opening,
  some_rates,
  a_line,
  a_request,
  an_enrolment,
  a_reading,
  a_bill,
  a_final_bill,
  a_disbursement,
  a_lapse,
  a_close,
  statement_of,
}
use Rattle.journal.specs.Words.{is_space}

abbrev pub method_text : MethodName → List ℕ
method_text ValueStack = codes "value-stack"
method_text Volumetric = codes "volumetric"

abbrev pub book_text : BookKind → List ℕ
book_text (Table places) = codes "table " ++ decimal places
book_text (Image bytes) = codes "image " ++ decimal bytes

abbrev pub project_text : Bool → List ℕ
project_text true = codes "farm"
project_text false = codes "plain"

abbrev pub line_text : Line → List ℕ
line_text l =
    decimal l.account ++ (codes " "
    ++ (decimal l.percentage ++ (codes " "
    ++ (decimal l.savings ++ (codes " "
    ++ (decimal l.class ++ (codes " "
    ++ (size_text l.size ++ (codes " "
    ++ kind_text l.kind)))))))))

abbrev pub rate_text : ℕ → List ℕ
rate_text r = codes " " ++ decimal r

abbrev pub text_of : Meaning → List ℕ
text_of (a_method name) = codes "method " ++ method_text name
text_of (a_book book) = codes "book " ++ book_text book
text_of (an_opening project) = codes "open " ++ (decimal project.smallest ++ (codes " " ++ project_text project.farm))
text_of (some_rates rates) = codes "rates" ++ flat_map rate_text rates
text_of (a_line line) = codes "line " ++ line_text line
text_of (a_request name) = codes "request " ++ name
text_of an_enrolment = codes "enrol"
text_of (a_reading units) = codes "reading " ++ decimal units
text_of (a_bill account cents) = codes "bill " ++ (decimal account ++ (codes " " ++ decimal cents))
text_of (a_final_bill account cents) = codes "final " ++ (decimal account ++ (codes " " ++ decimal cents))
text_of (a_disbursement account units) = codes "disburse " ++ (decimal account ++ (codes " " ++ decimal units))
text_of a_lapse = codes "lapse"
text_of a_close = codes "close"

abbrev pub no_space : List ℕ → Bool
no_space [] = true
no_space (b ∷ bs) = not (is_space b) && no_space bs

-- a file's name that is one word: it has a byte, and no space
abbrev pub is_word : List ℕ → Bool
is_word w = nat_lt 0 (length w) && no_space w

-- a request's file name has to be one word, for its text to be read again
abbrev pub readable : Meaning → Bool
readable (a_method name) = true
readable (a_book book) = true
readable (an_opening project) = true
readable (some_rates rates) = true
readable (a_line line) = true
readable (a_request name) = is_word name
readable an_enrolment = true
readable (a_reading units) = true
readable (a_bill account cents) = true
readable (a_final_bill account cents) = true
readable (a_disbursement account units) = true
readable a_lapse = true
readable a_close = true

-- what is written is a statement's text, and reading it gives the statement again
pub record Written (m : Meaning) (bs : List ℕ) : Type 0 where
  pub bytes : bs ≡ text_of m
  pub again : readable m ≡ true → statement_of bs ≡ Ok (Some m)
