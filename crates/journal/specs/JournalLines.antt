-- A statement of a journal where it stands.
use Rattle.std.specs.Prelude.{ℕ, List, vec_items}
use Rattle.journal.specs.Meanings.{Meaning, meaning}
use Rattle.journal.specs.declared.line.JournalLine.{JournalLine}

-- what the statement means, and the bytes of the file that it names
abbrev pub content_of : JournalLine → Meaning × List ℕ
content_of l = (meaning l.statement, vec_items l.file)

-- the same behind the number of its line
abbrev pub numbered : JournalLine → ℕ × (Meaning × List ℕ)
numbered l = (l.line, content_of l)
