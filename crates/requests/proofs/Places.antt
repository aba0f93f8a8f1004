-- Where the lines of a packed file stand.
use Rattle.std.proofs.Common.{◌≡◌, ℕ, ◌+◌, ◌*◌, ◌<◌, List, [], ◌∷◌, ◌++◌, length, drop, sym, refl, ap, ◌∙◌, arith}
use Rattle.std.specs.Int.{to_le_bytes, w16, w32}
use Rattle.std.specs.List.{flat_map}
use Rattle.std.proofs.lemmas.List.{append_assoc, length-append, drop-drop, drop_at}
use Rattle.std.proofs.lemmas.Nat.{from_le_bytes-to_le_bytes_2, from_le_bytes-to_le_bytes_4}
use Rattle.requests.specs.Meaning.{pair_at}
use Rattle.requests.specs.Packing.{Item, text, pairs}

-- The lines of a file from place k on, the first of them at an offset: each pair names where its text stands.
abbrev pub Stands : List ℕ → ℕ → ℕ → List Item → Type 0
Stands file k at [] = Unit {0}
Stands file k at (e ∷ es) =
    (pair_at file k ≡ record { offset = at; length = length (text e) })
    × ((more : List ℕ) × (drop at file ≡ text e ++ more))
    × Stands file (k + 1) (at + length (text e)) es

-- a pair reads back from its bytes
pair_back : (file rest : List ℕ) (k at n : ℕ) → drop (2 + 6 * k) file ≡ to_le_bytes w32 at ++ (to_le_bytes w16 n ++ rest) → at < 65536 → n < 65536 → pair_at file k ≡ record { offset = at; length = n }
unfolding pair_at
pair_back file rest k at n there small short =
    rw (← drop-drop 4 (2 + 6 * k) file, there, from_le_bytes-to_le_bytes_4 at (omega arith), from_le_bytes-to_le_bytes_2 n (omega arith))

-- lines that are packed stand where their pairs say
pub stands : (file rest more : List ℕ) (k at : ℕ) (es : List Item) → drop (2 + 6 * k) file ≡ pairs at es ++ rest → drop at file ≡ flat_map text es ++ more → at + length (flat_map text es) < 65536 → Stands file k at es
unfolding pairs
stands file rest more k at [] heads lines small = tt
stands file rest more k at (e ∷ es) heads lines small =
    let n = length (text e) in
    let total : length (flat_map text (e ∷ es)) ≡ n + length (flat_map text es) = length-append (text e) (flat_map text es) in
    let here : drop at file ≡ text e ++ (flat_map text es ++ more) = lines ∙ append_assoc (text e) (flat_map text es) more in
    let next : drop (at + n) file ≡ flat_map text es ++ more = sym (drop-drop n at file) ∙ ap (drop n) here ∙ drop_at (text e) (flat_map text es ++ more) n refl in
    let further : 2 + 6 * (k + 1) ≡ 2 + 6 * k + 6 = omega arith in (
      pair_back file (pairs (at + n) es ++ rest) k at n heads (omega arith) (omega arith),
      (flat_map text es ++ more, here),
      stands file rest more (k + 1) (at + n) es (rw (further, ← drop-drop 6 (2 + 6 * k) file, heads)) next (omega arith),
    )
