-- What is known of a file that was read.
use Rattle.std.proofs.Common.{◌≡◌, ℕ, ◌+◌, ◌*◌, ◌≤◌, true, List, length, is_ok, Ok, sym, arith}
use Rattle.std.proofs.lemmas.Bool.Decides.{nat_tests}
use Rattle.accounts.specs.declared.record.Line.{Line}
use Rattle.base.specs.Limits.{most_lines}
use Rattle.requests.specs.Meaning.{pairs_from, lines_from, lines_of, count, reading, meaning, lines_in, checked}
use Rattle.requests.proofs.Judged.{then_ok, length_lines, ok_values, values}

-- a length and a line count that are in order
pub record Head (file : List ℕ) (n : ℕ) : Type 0 where
  pub limit : length file ≤ 65535
  pub least : n ≡ 0 → ⊥
  pub most : n ≤ 1024
  pub within : 2 + 6 * n ≤ length file

-- what a line count in order says of the file
pub count_ok : (file : List ℕ) (n : ℕ) → count file ≡ Ok n → Head file n
unfolding count
count_ok file n h = record {
  limit = grind (arith, nat_tests);
  least = λ none. grind (arith, nat_tests);
  most = grind (arith, nat_tests);
  within = grind (arith, nat_tests);
}

-- what is known of a file that means some lines
pub record Meant (file : List ℕ) (n : ℕ) (ls : List Line) : Type 0 where
  pub counts : count file ≡ Ok n
  pub placed : pairs_from file (2 + 6 * n) 0 n ≡ Ok tt
  pub formed : lines_from file 0 n ≡ Ok ls

-- a file that means lines has passed every check
pub meant : (file : List ℕ) (ls : List Line) → meaning file ≡ Ok ls → Meant file (length ls) ls
meant file ls h =
    let counts = then_ok (count file) (lines_of file) ls h in
    let n = counts.0 in
    let formed : lines_from file 0 n ≡ Ok ls = grind arith in
    rw (length_lines file 0 n ls formed) (record { counts = counts.1; placed = grind arith; formed = formed })

-- a file whose pairs and lines were judged
pub record Passed (file : List ℕ) (n : ℕ) : Type 0 where
  pub ok : is_ok (meaning file) ≡ true
  pub counts : n ≡ length (lines_in file)
  pub lines : lines_of file n ≡ Ok (lines_in file)

-- a file that passed every check means its lines
pub passed : (file : List ℕ) (n : ℕ) → count file ≡ Ok n → Ok tt ≡ pairs_from file (2 + 6 * n) 0 n → Ok tt ≡ checked (lines_from file 0 n) → Passed file n
passed file n counts placed formed =
    let ls = values (lines_from file 0 n) in
    let lines : lines_from file 0 n ≡ Ok ls = ok_values (lines_from file 0 n) (sym formed) in
    let long : length ls ≡ n = length_lines file 0 n ls lines in
    let in_order : lines_of file n ≡ Ok ls = rw (← placed, lines) in
    let means : meaning file ≡ Ok ls = rw counts in_order in
    record { ok = rw means; counts = rw means (sym long); lines = rw means in_order }

-- as many lines are read as the file counts
pub length_lines_of : (file : List ℕ) (n : ℕ) (ls : List Line) → lines_of file n ≡ Ok ls → length ls ≡ n
length_lines_of file n ls h =
    let formed : lines_from file 0 n ≡ Ok ls = grind arith in
    length_lines file 0 n ls formed

-- as many places as a file can have lines are always enough
pub reading_all : (file : List ℕ) → reading file most_lines ≡ meaning file
unfolding count
reading_all file = grind (arith, nat_tests)
