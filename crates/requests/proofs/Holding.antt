-- What any file holds can be packed.
use Rattle.std.proofs.Common.{◌≡◌, ℕ, suc, ◌+◌, ◌*◌, ◌<◌, ◌≤◌, true, List, [], ◌∷◌, map, length, get_or, Some, Ok, refl, ap, subst, inl, inr, add-zero, zero-add, arith}
use Rattle.std.specs.List.{flat_map}
use Rattle.std.specs.Option.{option_map}
use Rattle.std.proofs.lemmas.List.{length-append, length-map, length-take}
use Rattle.std.proofs.lemmas.Bool.{lt-ltb}
use Rattle.std.proofs.lemmas.Bool.Decides.{nat_tests}
use Rattle.accounts.specs.declared.record.Line.{Line}
use Rattle.requests.specs.declared.pairs.Pair.{Pair}
use Rattle.requests.specs.Form.{line_of}
use Rattle.requests.specs.Meaning.{pair_at, end_of, pairs_from, part, line_at, lines_from, meaning, remark_of, remark_at}
use Rattle.requests.proofs.Numerals.{number_lt}
use Rattle.requests.proofs.Judged.{lines_split}
use Rattle.requests.proofs.Readings.{Meant, meant, count_ok}
use Rattle.requests.specs.declared.packing.WriteRefusal.{WriteRefusal}
use Rattle.requests.specs.Packing.{Item, behind, text, holds, items_from, file_of, packing, Refuses, Unheld, ReadsBack}
use Rattle.requests.proofs.Texts.{length_text}
use Rattle.requests.proofs.Checks.{length_file}

-- a number field that was read has no more digits than its width
line_small : (bs : List ℕ) (l : Line) → line_of bs ≡ Ok l → holds l ≡ true
line_small bs l h = grind (arith, nat_tests, number_lt)

-- a remark is what a line has behind byte 30
remark_room : (file : List ℕ) (p : Pair) (r : List ℕ) → (remark_of file p).0 ≡ r → 30 ≤ p.length → 30 + length (behind r) ≤ p.length
remark_room file p [] h long = omega arith
remark_room file p (b ∷ r) h long =
    let most = simp length-take at (ap length h) in
    grind (arith, nat_tests)

-- a remark that fits a line has at most 79 bytes
remark_short : (r : List ℕ) → length (behind r) ≤ 80 → length r ≤ 79
remark_short [] h = omega arith
remark_short (b ∷ r) h = omega arith

-- a line in order before lines in order
items_join : (p : ℕ) (e : Item) (es : List Item) → holds e.0 ≡ true → length e.1 ≤ 79 → items_from (p + 1) es ≡ Ok tt → items_from p (e ∷ es) ≡ Ok tt
unfolding items_from
items_join p e es h r rest = grind (arith, nat_tests)

-- the first pair of several that fit, and the others
record Pairs (file : List ℕ) (start k n : ℕ) : Type 0 where
  after : start ≤ (pair_at file k).offset
  long : 30 ≤ (pair_at file k).length
  short : (pair_at file k).length ≤ 110
  inside : end_of (pair_at file k) ≤ length file
  others : pairs_from file (end_of (pair_at file k)) (k + 1) n ≡ Ok tt

-- pairs that fit, the first and the others
pairs_split : (file : List ℕ) (start k n : ℕ) → pairs_from file start k (suc n) ≡ Ok tt → Pairs file start k n
unfolding pairs_from
pairs_split file start k n h = record {
  after = grind (arith, nat_tests);
  long = grind (arith, nat_tests);
  short = grind (arith, nat_tests);
  inside = grind (arith, nat_tests);
  others = grind (arith, nat_tests);
}

-- a line that was read can be packed
line_holds : (file : List ℕ) (k : ℕ) (l : Line) → line_at file k ≡ Ok l → holds l ≡ true
unfolding line_at
line_holds file k l h = line_small (part file (pair_at file k)) l (grind (arith, nat_tests))

-- each line has its remark
Remarks : List ℕ → ℕ → List Item → Type 0
Remarks file k es = (i : ℕ) (d : Item) → i < length es → (remark_of file (pair_at file (k + i))).0 ≡ (get_or es i d).1

-- the lines from place k on that a file holds
holding : (file : List ℕ) (start k p : ℕ) (es : List Item) → pairs_from file start k (length es) ≡ Ok tt → lines_from file k (length es) ≡ Ok (map (λ e. e.0) es) → Remarks file k es → start ≤ length file → (items_from p es ≡ Ok tt) × (start + length (flat_map text es) ≤ length file)
unfolding Remarks items_from
holding file start k p [] pairs lines remarks low = (refl, omega arith)
holding file start k p (e ∷ es) pairs lines remarks low =
    let pair = pair_at file k in
    let f = pairs_split file start k (length es) pairs in
    let line = lines_split file k (length es) e.0 (map (λ x. x.0) es) lines in
    let room = remark_room file pair e.1 (rw add-zero at (remarks 0 e (omega arith))) f.long in
    let rest = holding file (end_of pair) (k + 1) (p + 1) es f.others line.1 (λ i d l. let shift : k + suc i ≡ k + 1 + i = omega arith in rw shift at (remarks (suc i) d (omega arith))) f.inside in
    let total : length (flat_map text (e ∷ es)) ≡ length (text e) + length (flat_map text es) = length-append (text e) (flat_map text es) in (
      items_join p e es (line_holds file k e.0 line.0) (remark_short e.1 (omega (arith, f.short))) rest.0,
      omega (arith, total, rest.1, length_text e, f.after),
    )

-- the remark that a file shows at a place is that of the pair there
remark_is : (file r : List ℕ) (place : ℕ) (ls : List Line) → meaning file ≡ Ok ls → place < length ls → option_map (λ found. found.0) (remark_at file place) ≡ Some r → (remark_of file (pair_at file place)).0 ≡ r
remark_is file r place ls means l h = let k = rw (means, lt-ltb place (length ls) l) at h in cc

-- whatever a file holds can be packed
pub packs_all : (file : List ℕ) (es : List Item) → ReadsBack file es → packing es ≡ Ok (file_of es)
unfolding packing Remarks
packs_all file es back =
    let ls = map (λ e. e.0) es in
    let n = length es in
    let long : length ls ≡ n = length-map es (λ e. e.0) in
    let m = subst (λ k. Meant file k ls) long (meant file ls back.lines) in
    let remarks : (i : ℕ) (d : Item) → i < n → (remark_of file (pair_at file (0 + i))).0 ≡ (get_or es i d).1 = λ i d l. rw zero-add (remark_is file (get_or es i d).1 i ls back.lines (omega arith) (back.remarks i d l)) in
    let head = count_ok file n m.counts in
    let held = holding file (2 + 6 * n) 0 0 es m.placed m.formed remarks head.within in
    let short : length (file_of es) ≤ 65535 = omega (arith, length_file es, held.1, head.limit) in
    let items = held.0 in
    grind (arith, nat_tests)

-- so what is refused stands in no file
pub refused_unheld : (es : List Item) (e : WriteRefusal) → Refuses es e → Unheld es e
refused_unheld es e (inl h) other file back = cc (packs_all file es back)
refused_unheld es e (inr h) other file back = other h.0
