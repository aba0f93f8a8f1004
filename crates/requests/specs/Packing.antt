-- The file that lines with their remarks are packed into, and what no file can hold.
use Rattle.std.specs.Prelude.{◌≡◌, ℕ, zero, suc, ◌+◌, ◌/◌, ◌%◌, ◌^◌, ◌<◌, Bool, true, cond, ◌&&◌, ◌||◌, ◌⊎◌, List, [], ◌∷◌, ◌++◌, map, length, is_ok, Some, Ok, Err, Result, ◌==◌, ◌≢◌, nat_le, nat_lt, slice_index_or}
use Rattle.std.specs.Int.{to_le_bytes, w16, w32}
use Rattle.std.specs.List.{flat_map}
use Rattle.std.specs.Option.{option_map}
use Rattle.accounts.specs.declared.record.Line.{Line}
use Rattle.accounts.specs.Marks.{size_letter, kind_letter}
use Rattle.base.specs.Limits.{most_lines}
use Rattle.requests.specs.Limits.{most_file, most_remark, account_digits, percentage_digits, savings_digits, class_digits}
use Rattle.requests.specs.Form.{then}
use Rattle.requests.specs.Meaning.{head_bytes, meaning, remark_at}
use Rattle.requests.specs.declared.filed.FiledLine.{FiledLine}
use Rattle.requests.specs.declared.packing.WriteRefusal.{WriteRefusal}
use Rattle.requests.specs.declared.packing.WriteRefusal.TheVariants as refusal

-- a number in w digits with leading zeros: its tenth in all but the last, and then what is left
unfoldable pub digits : ℕ → ℕ → List ℕ
digits zero n = []
digits (suc w) n = digits w (n / 10) ++ (48 + n % 10) ∷ []

-- a number field and the space behind it
abbrev pub field : ℕ → ℕ → List ℕ
field w n = digits w n ++ 32 ∷ []

-- the fields of a line: account, percentage, savings rate and class in digits, and the letters of size and kind
unfoldable pub form : Line → List ℕ
form l =
    field account_digits l.account
    ++ (field percentage_digits l.percentage
    ++ (field savings_digits l.savings
    ++ (field class_digits l.class ++ size_letter l.size ∷ 32 ∷ kind_letter l.kind ∷ [])))

-- a remark stands behind a space; an empty one needs none
abbrev pub behind : List ℕ → List ℕ
behind [] = []
behind (b ∷ bs) = 32 ∷ b ∷ bs

-- what is packed: a line and its remark
abbrev pub Item : Type 0
Item = Line × List ℕ

-- what is packed of a filed line
abbrev pub item : FiledLine → Item
item f = (f.line, f.remark.now)

-- the bytes of a line with its remark
unfoldable pub text : Item → List ℕ
text e = form e.0 ++ behind e.1

-- a number of at most w digits
abbrev pub has_digits : ℕ → ℕ → Bool
has_digits w n = nat_lt n (10 ^ w)

-- each number has at most the digits of its field
abbrev pub holds : Line → Bool
holds l =
    has_digits account_digits l.account
    && (has_digits percentage_digits l.percentage
    && (has_digits savings_digits l.savings && has_digits class_digits l.class))

-- the pairs of lines that stand one right after the other, from an offset on: its four bytes and a length's two
unfoldable pub pairs : ℕ → List Item → List ℕ
pairs at [] = []
pairs at (e ∷ es) = to_le_bytes w32 at ++ (to_le_bytes w16 (length (text e)) ++ pairs (at + length (text e)) es)

-- The file: the line count, the pairs, and right behind them the lines.
unfoldable pub file_of : List Item → List ℕ
file_of es = to_le_bytes w16 (length es) ++ (pairs (head_bytes (length es)) es ++ flat_map text es)

-- the place of the first of some lines that has a number too wide for its field, or a remark that is too long
unfoldable pub items_from : ℕ → List Item → Result (Unit {0}) WriteRefusal
items_from place [] = Ok tt
items_from place (e ∷ es) =
    cond (holds e.0)
    (cond (nat_le (length e.1) most_remark) (items_from (place + 1) es) (Err (refusal.Remark place)))
    (Err (refusal.Number place))

-- the file that lines are packed into, or why none can hold them
unfoldable pub packing : List Item → Result (List ℕ) WriteRefusal
packing es =
    cond (length es == 0 || nat_lt most_lines (length es)) (Err refusal.LineCount)
    (then (items_from 0 es) (λ _.
    cond (nat_lt most_file (length (file_of es))) (Err refusal.FileLength) (Ok (file_of es))))

-- the length of a packed file
abbrev pub sized : Result (List ℕ) WriteRefusal → Result ℕ WriteRefusal
sized (Ok file) = Ok (length file)
sized (Err fault) = Err fault

-- a refusal is that of the packing, or memory is wanting for lines that a file can hold
abbrev pub Refuses : List Item → WriteRefusal → Type 0
Refuses es e = (packing es ≡ Err e) ⊎ ((e ≡ refusal.Memory) × (is_ok (packing es) ≡ true))

-- Reading a file back gives the lines, and at each place its remark.
pub record ReadsBack (file : List ℕ) (es : List Item) : Type 0 where
  pub lines : meaning file ≡ Ok (map (λ e. e.0) es)
  pub remarks : (place : ℕ) (d : Item) → place < length es
      → option_map (λ found. found.0) (remark_at file place) ≡ Some (slice_index_or es place d).1

-- a refusal that is not for want of memory: no file reads as these lines with these remarks
abbrev pub Unheld : List Item → WriteRefusal → Type 0
Unheld es e = (e ≢ refusal.Memory) → (file : List ℕ) → ReadsBack file es → ⊥
