-- What is known of a file that was opened.
use Rattle.std.proofs.Common.{◌≡◌, ℕ, ◌+◌, ◌*◌, ◌<◌, ◌≤◌, true, List, [], ◌∷◌, ◌++◌, length, get_or, take, drop, set, is_ok, Some, IsOk, Ok, Err, Result, sym, refl, subst, zero-add, arith}
use Rattle.std.specs.List.{slice_get}
use Rattle.std.specs.Result.{result_unwrap_or}
use Rattle.std.proofs.lemmas.List.{set_at, length-take-le, append_assoc, take_more, drop_more}
use Rattle.std.proofs.lemmas.Option.{slice_get-get_or, slice_get_within, get_or_from_slice_get}
use Rattle.accounts.specs.declared.record.Line.{Line}
use Rattle.accounts.specs.declared.record.Size.TheVariants.{Small}
use Rattle.accounts.specs.declared.record.Kind.TheVariants.{Member}
use Rattle.requests.specs.Meaning.{pair_at, line_at, meaning, lines_in}
use Rattle.requests.specs.Placed.{Placed}
use Rattle.requests.proofs.Judged.{pairs_placed, lines_at}
use Rattle.requests.proofs.Readings.{Meant, meant, count_ok}

-- an answer that is in order is what it holds
ok_is : {A E : Type 0} (r : Result (List A) E) → is_ok r ≡ true → r ≡ Ok (result_unwrap_or r [])
ok_is (Ok xs) h = refl
ok_is (Err e) h = cc

-- some line
blank : Line
blank = record { account = 0; percentage = 0; savings = 0; class = 0; size = Small; kind = Member }

module _ (file : List ℕ) (n : ℕ) (ok : is_ok (meaning file) ≡ true) (counts : n ≡ length (lines_in file)) where
  means : meaning file ≡ Ok (lines_in file)
  means = ok_is (meaning file) ok

  known : Meant file n (lines_in file)
  known = subst (λ k. Meant file k (lines_in file)) (sym counts) (meant file (lines_in file) means)

  pub within : 2 + 6 * n ≤ length file
  within = (count_ok file n known.counts).within

  pub placed : (place : ℕ) → place < n → Placed (length file) (pair_at file place)
  placed place l = pairs_placed file (2 + 6 * n) 0 n place known.placed (omega arith) (omega arith)

  -- the line at a place that the file has
  line_is : (place : ℕ) (line : Line) → place < n → line_at file place ≡ Ok (get_or (lines_in file) place line)
  line_is place line l = rw zero-add at (lines_at file 0 n place line (lines_in file) known.formed (omega arith))

  pub line_ok : (place : ℕ) → place < n → IsOk (line_at file place)
  line_ok place l = rw (line_is place blank l)

  pub line_in : (place : ℕ) (line : Line) → place < n → line_at file place ≡ Ok line → slice_get (lines_in file) place ≡ Some line
  line_in place line l is =
      let here : get_or (lines_in file) place line ≡ line = let h = line_is place line l in cc in
      rw (slice_get-get_or (lines_in file) place line (omega arith), here)

-- one more line in its place of a table
pub table_more : (ls table t : List Line) (place : ℕ) (line : Line) → slice_get ls place ≡ Some line → place < length table → t ≡ take place ls ++ drop place table → set t place line ≡ take (place + 1) ls ++ drop (place + 1) table
table_more ls table t place line is room was =
    let in_all = slice_get_within ls place line is in
    let here = get_or_from_slice_get ls place line line is in
    rw (was, drop_more table place line room, take_more ls place line in_all, append_assoc, here) (set_at (take place ls) _ _ line place (length-take-le place ls (omega arith)))

-- one more line of a list
pub list_more : (ls : List Line) (place : ℕ) (line : Line) → slice_get ls place ≡ Some line → take place ls ++ line ∷ [] ≡ take (place + 1) ls
list_more ls place line is =
    let in_all = slice_get_within ls place line is in
    let here = get_or_from_slice_get ls place line line is in
    rw (take_more ls place line in_all, here)
