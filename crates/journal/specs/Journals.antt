-- The statements of a journal's text.
use Rattle.std.specs.Prelude.{◌≡◌, ℕ, ◌+◌, ◌-◌, cond, if◌then◌else◌, length, take, slice_index, List, [], ◌∷◌, ◌++◌, map, Some, None, Ok, Err, vec_items, Option, Result, codes, ◌==◌}
use Rattle.journal.specs.Mistakes.{expected_text, mistake_text}
use Rattle.journal.specs.Meanings.{Meaning, statement_of}
use Rattle.journal.specs.declared.statement.ParseError.{ParseError}
use Rattle.journal.specs.declared.statement.ParseError.TheVariants.{Expected as expected, NoMemory as parse_memory}
use Rattle.journal.specs.Results.{and_then}
use Rattle.journal.specs.JournalLines.{numbered}
use Rattle.journal.specs.declared.text.Journal.{Journal}
use Rattle.journal.specs.declared.text.JournalFault.{JournalFault}
use Rattle.journal.specs.declared.text.JournalFault.TheVariants.{Line as at_line, NoMemory}

-- a line that has some bytes
abbrev pub some_line : List ℕ → List (List ℕ)
some_line [] = []
some_line (b ∷ bs) = (b ∷ bs) ∷ []

-- A line ends at a line feed; what follows the last line feed is a line where it has some bytes.
unfoldable pub lines_after : List ℕ → List ℕ → List (List ℕ)
lines_after line [] = some_line line
lines_after line (b ∷ bs) = cond (b == 10) (line ∷ lines_after [] bs) (lines_after (line ++ b ∷ []) bs)

-- the lines of a text
abbrev pub lines_of : List ℕ → List (List ℕ)
lines_of text = lines_after [] text

-- a line without the line feed that ends it
abbrev pub without_feed : List ℕ → List ℕ
without_feed line = if slice_index line (length line - 1) == 10 then take (length line - 1) line else line

-- the statements so far, each with its line and the bytes of its file, and how many lines they stand on
pub record Text : Type 0 where
  pub statements : List (ℕ × (Meaning × List ℕ))
  pub lines : ℕ

-- before the first line
abbrev pub empty : Text
empty = record { statements = []; lines = 0 }

-- what a journal shows
abbrev pub seen : Journal → Text
seen j = record { statements = map numbered (vec_items j.statements); lines = j.lines }

-- one line more
abbrev pub line_read : Text → Text
line_read t = record { statements = t.statements; lines = t.lines + 1 }

-- a statement on the last line
abbrev pub with_statement : Text → Meaning → Text
with_statement t m = record { statements = t.statements ++ (t.lines, (m, [])) ∷ []; lines = t.lines }

-- what is wrong with a journal where a line of it is not understood
abbrev pub fault_on : ℕ → ParseError → JournalFault
fault_on line (expected what) = at_line (record { line = line; wanted = what })
fault_on line parse_memory = NoMemory

-- one line more: a blank line or a remark only counts
abbrev pub one_more : Text → Result (Option Meaning) ParseError → Result Text JournalFault
one_more t (Ok None) = Ok (line_read t)
one_more t (Ok (Some m)) = Ok (with_statement (line_read t) m)
one_more t (Err why) = Err (fault_on (t.lines + 1) why)

-- the first line that cannot be understood ends it
abbrev pub read_on : List (List ℕ) → Text → Result Text JournalFault
read_on [] t = Ok t
read_on (l ∷ ls) t = and_then (one_more t (statement_of l)) (read_on ls)

-- a line was read as a definition has it, unless memory fails
abbrev pub ReadsLine : Result Text JournalFault → Result (Unit {0}) JournalFault → Text → Type 0
ReadsLine m (Ok _) t = m ≡ Ok t
ReadsLine m (Err (at_line mistake)) t = m ≡ Err (at_line mistake)
ReadsLine m (Err NoMemory) t = Unit {0}

-- a text was read as a definition has it, unless memory fails
abbrev pub ReadsText : Result Text JournalFault → Result Journal JournalFault → Type 0
ReadsText m (Ok j) = m ≡ Ok (seen j)
ReadsText m (Err (at_line mistake)) = m ≡ Err (at_line mistake)
ReadsText m (Err NoMemory) = Unit {0}

-- why a text is no journal
abbrev pub fault_text : JournalFault → Option (List ℕ)
fault_text (at_line mistake) = mistake_text mistake.line (Some (expected_text mistake.wanted))
fault_text NoMemory = Some (codes "there is no memory for the journal")
