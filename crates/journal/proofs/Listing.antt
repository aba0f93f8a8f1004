-- Rates word by word, and which bytes are text.
use Rattle.std.proofs.Common.{◌≡◌, ℕ, true, List, Some, Ok, Err, IsUtf8, arith}
use lib.Utf8.{encodes, scalars}
use Rattle.std.proofs.lemmas.Slice.Eq.{bytes_eq-Decides}
use Rattle.std.proofs.lemmas.Bool.{and_from, and_parts}
use Rattle.std.proofs.lemmas.Str.{encodes-chars, scalars-chars}
use Rattle.std.specs.Str.{bytes_eq, chars}
use Rattle.journal.specs.declared.statement.Expected.TheVariants.{File}
use Rattle.journal.specs.declared.statement.ParseError.TheVariants.{Expected as expected}
use Rattle.journal.specs.Fields.{is_text, file_at}

pub text_is : (bs : List ℕ) → IsUtf8 bs → is_text bs ≡ true
text_is bs u = and_from (scalars (chars bs)) (bytes_eq (encodes (chars bs)) bs) (scalars-chars bs u) ((bytes_eq-Decides (encodes (chars bs)) bs).1 (encodes-chars bs u))

is_utf8 : (bs : List ℕ) → is_text bs ≡ true → IsUtf8 bs
is_utf8 bs h =
    let p = and_parts (scalars (chars bs)) (bytes_eq (encodes (chars bs)) bs) h in
    (chars bs, (p.0, (bytes_eq-Decides (encodes (chars bs)) bs).0 p.1))

-- a word is a file's name exactly where it is text
pub file_text : (w : List ℕ) → IsUtf8 w → file_at (Some w) ≡ Ok w
file_text w u = grind (arith, text_is w u)

pub no_file : (w : List ℕ) → (IsUtf8 w → ⊥) → file_at (Some w) ≡ Err (expected File)
no_file w f = grind (arith, is_utf8 w, f)

pub ruleset names = (file_text, no_file)
