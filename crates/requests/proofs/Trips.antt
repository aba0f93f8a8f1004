-- Reading what was packed gives it back.
use Rattle.std.proofs.Common.{◌≡◌, ℕ, zero, suc, ◌+◌, ◌-◌, ◌*◌, ◌<◌, ◌≤◌, true, List, [], ◌∷◌, ◌++◌, map, length, get_or, drop, Some, IsOk, Ok, sym, refl, ap, ◌∙◌, add-zero, zero-add, arith}
use Rattle.std.specs.List.{flat_map}
use Rattle.std.specs.Option.{option_map}
use Rattle.std.proofs.lemmas.List.{append-nil, length-append, length-map, drop-drop, drop_at, take_at}
use Rattle.std.proofs.lemmas.Nat.{from_le_bytes-to_le_bytes_2}
use Rattle.std.proofs.lemmas.Bool.{lt-ltb}
use Rattle.std.proofs.lemmas.Bool.Decides.{nat_tests}
use Rattle.accounts.specs.declared.record.Line.{Line}
use Rattle.requests.specs.Meaning.{pair_at, fits, pairs_from, line_at, lines_from, count, meaning, remark_of, remark_at}
use Rattle.requests.specs.declared.filed.FiledLine.{FiledLine}
use Rattle.requests.specs.Packing.{Item, item, form, digits, text, holds, pairs, file_of, items_from, packing, ReadsBack}
use Rattle.requests.proofs.Texts.{length_text}
use Rattle.requests.proofs.Checks.{size, length_file, length_pairs, text_most}
use Rattle.requests.proofs.Fields.{text_back}
use Rattle.requests.proofs.Places.{Stands, stands}

-- a line that a file can hold
record Fit (e : Item) : Type 0 where
  numbers : holds e.0 ≡ true
  remark : length e.1 ≤ 79

-- the first of some lines that a file can hold, and the others
items_split : (p : ℕ) (e : Item) (es : List Item) → items_from p (e ∷ es) ≡ Ok tt → Fit e × (items_from (p + 1) es ≡ Ok tt)
unfolding items_from
items_split p e es h =
    (record { numbers = grind (arith, nat_tests); remark = grind (arith, nat_tests) }, grind (arith, nat_tests))

-- the pair of a line that stands in the file fits it
fits_here : (e : Item) (limit start at : ℕ) → Fit e → start ≤ at → at + length (text e) ≤ limit → fits limit start (record { offset = at; length = length (text e) }) ≡ true
fits_here e limit start at f low high =
    let long : 30 ≤ length (text e) = omega (arith, length_text e) in
    let short = text_most e f.remark in
    grind (arith, nat_tests)

-- the pairs of lines that stand in the file fit it
pairs_back : (file : List ℕ) (start k at p : ℕ) (es : List Item) → Stands file k at es → items_from p es ≡ Ok tt → start ≤ at → at + length (flat_map text es) ≤ length file → pairs_from file start k (length es) ≡ Ok tt
unfolding pairs_from
pairs_back file start k at p [] s h low high = refl
pairs_back file start k at p (e ∷ es) s h low high =
    let total : length (flat_map text (e ∷ es)) ≡ length (text e) + length (flat_map text es) = length-append (text e) (flat_map text es) in
    let split = items_split p e es h in
    rw (s.0, fits_here e (length file) start at split.0 low (omega arith)) (pairs_back file (at + length (text e)) (k + 1) (at + length (text e)) (p + 1) es s.2 split.1 (omega arith) (omega arith))

-- the bytes of a line that stands in the file
line_here : (file more : List ℕ) (k at : ℕ) (e : Item) → pair_at file k ≡ record { offset = at; length = length (text e) } → drop at file ≡ text e ++ more → Fit e → line_at file k ≡ Ok e.0
unfolding line_at
line_here file more k at e is there f = rw (is, there, take_at (text e) more (length (text e)) refl, text_back e f.numbers)

-- the lines that stand in the file read as they were
lines_back : (file : List ℕ) (k at p : ℕ) (es : List Item) → Stands file k at es → items_from p es ≡ Ok tt → lines_from file k (length es) ≡ Ok (map (λ e. e.0) es)
unfolding lines_from
lines_back file k at p [] s h = refl
lines_back file k at p (e ∷ es) s h =
    let split = items_split p e es h in
    rw (line_here file s.1.0 k at e s.0 s.1.1 split.0, lines_back file (k + 1) (at + length (text e)) (p + 1) es s.2 split.1)

-- the remark of a line that stands in the file
remark_here : (file more : List ℕ) (at : ℕ) (l : Line) (r : List ℕ) → drop at file ≡ text (l, r) ++ more → (remark_of file (record { offset = at; length = length (text (l, r)) })).0 ≡ r
unfolding text form digits
remark_here file more at l [] there = let none : at + 30 - (at + 30) ≡ 0 = omega arith in rw none
remark_here file more at l (b ∷ r) there =
    let n = length (text (l, b ∷ r)) in
    let past : at + n - (at + 31) ≡ length (b ∷ r) = omega arith in
    let behind-form : drop (at + 31) file ≡ (b ∷ r) ++ more = sym (drop-drop 31 at file) ∙ ap (drop 31) there in
    rw (lt-ltb 30 n (omega arith), past, behind-form) (take_at (b ∷ r) more (length (b ∷ r)) refl)

-- the remarks of lines that stand in the file
remarks_back : (file : List ℕ) (k at i : ℕ) (d : Item) (es : List Item) → Stands file k at es → i < length es → (remark_of file (pair_at file (k + i))).0 ≡ (get_or es i d).1
remarks_back file k at i d [] s h = absurd (omega arith)
remarks_back file k at zero d (e ∷ es) s h = rw (add-zero, s.0) (remark_here file s.1.0 at e.0 e.1 s.1.1)
remarks_back file k at (suc i) d (e ∷ es) s h =
    let e' : k + suc i ≡ k + 1 + i = omega arith in
    rw e' (remarks_back file (k + 1) (at + length (text e)) i d es s.2 (omega arith))

-- what is known of lines that were packed
pub record Packed (es : List Item) (file : List ℕ) : Type 0 where
  pub some : length es ≡ 0 → ⊥
  pub few : length es ≤ 1024
  pub items : items_from 0 es ≡ Ok tt
  pub short : size es ≤ 65535
  pub is : file ≡ file_of es

pub packed : (es : List Item) (file : List ℕ) → packing es ≡ Ok file → Packed es file
unfolding packing
packed es file h =
    let long = length_file es in
    record {
      some = λ none. grind (arith, nat_tests);
      few = grind (arith, nat_tests);
      items = grind (arith, nat_tests);
      short = grind (arith, nat_tests);
      is = grind (arith, nat_tests);
    }

-- the line count of a packed file
count_back : (es : List Item) → (length es ≡ 0 → ⊥) → length es ≤ 1024 → size es ≤ 65535 → count (file_of es) ≡ Ok (length es)
unfolding count file_of
count_back es some few short =
    let counts = from_le_bytes-to_le_bytes_2 (length es) (omega arith) in
    let long = length_file es in
    grind (arith, nat_tests)

-- all lines that were packed stand in the file
all_stand : (es : List Item) → size es ≤ 65535 → Stands (file_of es) 0 (2 + 6 * length es) es
unfolding file_of
all_stand es short =
    let at = 2 + 6 * length es in
    let past : drop at (file_of es) ≡ flat_map text es ++ [] = sym (drop-drop (6 * length es) 2 (file_of es)) ∙ drop_at (pairs at es) (flat_map text es) (6 * length es) (length_pairs at es) ∙ sym (append-nil (flat_map text es)) in
    stands (file_of es) (flat_map text es) [] 0 at es refl past (omega arith)

-- the remark that a file in order shows at a place
remark_shown : (file r : List ℕ) (place : ℕ) (lines : List Line) → meaning file ≡ Ok lines → place < length lines → (remark_of file (pair_at file place)).0 ≡ r → option_map (λ found. found.0) (remark_at file place) ≡ Some r
remark_shown file r place lines means l h = rw (means, lt-ltb place (length lines) l, h)

-- reading what was packed gives it back
pub reads_back : (es : List Item) (file : List ℕ) → packing es ≡ Ok file → ReadsBack file es
reads_back es file h =
    let p = packed es file h in
    let n = length es in
    let counts = count_back es p.some p.few p.short in
    let there = all_stand es p.short in
    let places = pairs_back (file_of es) (2 + 6 * n) 0 (2 + 6 * n) 0 es there p.items (omega arith) (omega (arith, length_file es)) in
    let lines = lines_back (file_of es) 0 (2 + 6 * n) 0 es there p.items in
    let means : meaning (file_of es) ≡ Ok (map (λ e. e.0) es) = rw (counts, places, lines) in
    rw p.is (record {
      lines = means;
      remarks = λ place d l.
          remark_shown (file_of es) (get_or es place d).1 place (map (λ e. e.0) es) means (rw length-map l) (rw zero-add at (remarks_back (file_of es) 0 (2 + 6 * n) place d es there l));
    })

-- lines that can be packed make the file
pub packs : (es : List Item) → IsOk (packing es) → packing es ≡ Ok (file_of es)
unfolding packing
packs es h = grind (arith, nat_tests)

-- the numbers of each line fit
pub numbers_at : (p : ℕ) (es : List FiledLine) → items_from p (map item es) ≡ Ok tt → (k : ℕ) (d : FiledLine) → k < length es → holds (get_or es k d).line ≡ true
numbers_at p [] h k d l = absurd (omega arith)
numbers_at p (e ∷ es) h zero d l = (items_split p (item e) (map item es) h).0.numbers
numbers_at p (e ∷ es) h (suc k) d l = numbers_at (p + 1) es (items_split p (item e) (map item es) h).1 k d (omega arith)
