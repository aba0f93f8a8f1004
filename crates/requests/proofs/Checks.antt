-- Judging what is to be packed, and how long the file is.
use Rattle.std.proofs.Common.{◌≡◌, ℕ, ◌+◌, ◌*◌, ◌<◌, ◌≤◌, cond, leb, ltb, List, [], ◌∷◌, map, length, get_or, drop, Ok, Err, refl, arith}
use Rattle.std.specs.List.{flat_map}
use Rattle.std.proofs.lemmas.List.{length-append, length-map, drop_more, drop_all}
use Rattle.std.proofs.lemmas.Bool.Decides.{nat_tests}
use Rattle.requests.specs.Form.{then}
use Rattle.requests.specs.declared.filed.FiledLine.{FiledLine}
use Rattle.requests.specs.declared.packing.WriteRefusal.TheVariants as refusal
use Rattle.requests.specs.Packing.{Item, item, holds, text, pairs, file_of, items_from, packing, sized}
use Rattle.requests.proofs.Packs.{length_behind_most}
use Rattle.requests.proofs.Texts.{length_text}

-- a pair has six bytes
pub length_pairs : (at : ℕ) (es : List Item) → length (pairs at es) ≡ 6 * length es
unfolding pairs
length_pairs at [] = refl
length_pairs at (e ∷ es) =
    omega (arith, length_pairs (at + length (text e)) es)

-- the bytes of a file of some lines
abbrev pub size : List Item → ℕ
size es = 2 + 6 * length es + length (flat_map text es)

-- how many bytes a file of some lines has
pub length_file : (es : List Item) → length (file_of es) ≡ size es
unfolding file_of
length_file es =
    simp (length-append, length_pairs) (omega arith)

-- the bytes of a file of some filed lines
abbrev pub bytes : List FiledLine → ℕ
bytes es = 2 + 6 * length es + length (flat_map text (map item es))

-- what is judged once the number of lines is possible
pub packing_judged : (es : List FiledLine) → 1 ≤ length es → length es ≤ 1024 → sized (packing (map item es)) ≡ then (items_from 0 (map item es)) (λ _. cond (ltb 65535 (bytes es)) (Err refusal.FileLength) (Ok (bytes es)))
unfolding packing
packing_judged es some few =
    let long = length_file (map item es) in
    let count = length-map es item in
    grind (arith, nat_tests)

-- the filed line at i and those behind it
pub items_step : (es : List FiledLine) (i : ℕ) (d : FiledLine) → i < length es → items_from i (map item (drop i es)) ≡ cond (holds (get_or es i d).line) (cond (leb (length (get_or es i d).remark.now) 79) (items_from (i + 1) (map item (drop (i + 1) es))) (Err (refusal.Remark i))) (Err (refusal.Number i))
unfolding items_from
items_step es i d l = rw (drop_more es i d l)

-- no line is left to judge
pub items_all : (es : List FiledLine) (i : ℕ) → length es ≤ i → items_from i (map item (drop i es)) ≡ Ok tt
unfolding items_from
items_all es i h = rw (drop_all i es h)

-- a line that a file can hold has at most 110 bytes
pub text_most : (e : Item) → length e.1 ≤ 79 → length (text e) ≤ 110
text_most e h = omega (arith, length_text e, length_behind_most e.1)
