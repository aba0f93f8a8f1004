-- The pairs of a file as chunks of six bytes.
use Rattle.std.proofs.Common.{◌≡◌, ℕ, zero, suc, ◌+◌, ◌-◌, ◌*◌, ◌/◌, ◌<◌, ◌≤◌, List, [], length, get_or, take, drop, refl, ap, ◌∙◌, arith}
use Rattle.std.specs.Simd.{first_chunks}
use Rattle.std.proofs.lemmas.List.{drop-drop, get_or-take, get_or-drop, length-drop, take_all}

-- a chunk of six bytes is those bytes of the list
chunk_at : (bs : List ℕ) (k i : ℕ) (d : List ℕ) → i < k → get_or (first_chunks 6 k bs) i d ≡ take 6 (drop (6 * i) bs)
chunk_at bs zero i d l = absurd (omega arith)
chunk_at bs (suc k) zero d l = refl
chunk_at bs (suc k) (suc i) d l =
    let n : 6 + 6 * i ≡ 6 * suc i = omega arith in
    chunk_at (drop 6 bs) k i d (omega arith) ∙ ap (take 6) (drop-drop (6 * i) 6 bs ∙ ap (λ m. drop m bs) n)

-- a byte of the pair at a place
pub pair_byte : (file : List ℕ) (pairs : List (List ℕ)) (i j : ℕ) → pairs ≡ first_chunks 6 (length (take (length file - 2) (drop 2 file)) / 6) (take (length file - 2) (drop 2 file)) → 2 + 6 * (i + 1) ≤ length file → j < 6 → get_or (get_or pairs i []) j 0 ≡ get_or file (2 + 6 * i + j) 0
pair_byte file pairs i j is l s =
    let n = length-drop 2 file in
    rw (is, take_all (length file - 2) (drop 2 file) (omega arith), chunk_at (drop 2 file) (length (drop 2 file) / 6) i [] (omega arith), drop-drop (6 * i) 2 file) (get_or-take 6 _ j 0 s ∙ get_or-drop _ file j 0)
