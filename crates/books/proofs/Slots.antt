-- The places of an image as a list of slots.
use Rattle.std.proofs.Common.{◌≡◌, ℕ, zero, suc, ◌+◌, ◌-◌, ◌*◌, ◌/◌, ◌<◌, ◌≤◌, min, ltb, List, ◌∷◌, map, length, get_or, take, drop, None, sym, refl, ap, ◌∙◌, ⊎_elim, arith}
use Rattle.std.proofs.lemmas.Bool.{cases_lt, cond-true, cond-false, lt-ltb, le-ltb}
use Rattle.std.proofs.lemmas.List.{drop-drop, take_all, drop_all, length-drop}
use Rattle.std.proofs.lemmas.List.FromFn.{length-map-range_with_len, get_or-map-range_with_len}
use Rattle.std.specs.List.{range_with_len}
use Rattle.std.specs.Simd.{first_chunks}
use Rattle.books.specs.Codec.{decoded}
use Rattle.books.specs.Images.{capacity_of, slot, slots_in, record_at}

-- what follows the count, in whole slots from a place on
chunked : (bs : List ℕ) (m k j : ℕ) → m ≤ k → take m (first_chunks 36 k (drop (4 + 36 * j) bs)) ≡ map (λ i. slot i bs) (range_with_len j m)
chunked bs zero k j h = refl
chunked bs (suc m) zero j h = absurd (omega arith)
chunked bs (suc m) (suc k) j h =
    let d = drop-drop 36 (4 + 36 * j) bs in
    let n : 4 + 36 * j + 36 ≡ 4 + 36 * (j + 1) = omega arith in
    ap (λ xs. slot j bs ∷ xs) (ap (λ xs. take m (first_chunks 36 k xs)) (d ∙ ap (λ i. drop i bs) n) ∙ chunked bs m k (j + 1) (omega arith))

-- the bytes after the count, none where there are not so many
after_count : (bs : List ℕ) (m : ℕ) → m ≡ min 4 (length bs) → take (length bs - m) (drop m bs) ≡ drop 4 bs
after_count bs m e =
    let l = length-drop m bs in
    take_all (length bs - m) (drop m bs) (omega arith)
    ∙ ⊎_elim (λ h. drop_all m bs (omega arith) ∙ sym (drop_all 4 bs (omega arith))) (λ h. let k : m ≡ 4 = omega arith in ap (λ n. drop n bs) k) (cases_lt (length bs) 4)

pub slots_read : (bs after : List ℕ) (chunks : List (List ℕ)) (m n : ℕ) → m ≡ min 4 (length bs) → after ≡ take (length bs - m) (drop m bs) → chunks ≡ first_chunks 36 (length after / 36) after → length chunks ≡ length after / 36 → n ≡ min (length chunks) 4096 → take n chunks ≡ slots_in bs
slots_read bs after chunks m n em ea ec lc en =
    let a : after ≡ drop 4 bs = ea ∙ after_count bs m em in
    let l = length-drop 4 bs in
    let la = ap length a in
    let k : n ≡ capacity_of bs = omega arith in
    ap (take n) (ec ∙ ap (first_chunks 36 (length after / 36)) a) ∙ (chunked bs n (length after / 36) 0 (omega arith) ∙ ap (λ m. map (λ i. slot i bs) (range_with_len 0 m)) k)

pub length_slots : (bs : List ℕ) → length (slots_in bs) ≡ capacity_of bs
length_slots bs = length-map-range_with_len (λ i. slot i bs) 0 (capacity_of bs)

-- a place that the image has, and one that it has not
pub slot_at : (bs xs : List ℕ) (slots : List (List ℕ)) (i : ℕ) → slots ≡ slots_in bs → i < length slots → xs ≡ get_or slots i xs → decoded xs ≡ record_at bs i
slot_at bs xs slots i e h x =
    let n = length_slots bs in
    let k = ap length e in
    let g : xs ≡ slot i bs = x ∙ (ap (λ ss. get_or ss i xs) e ∙ get_or-map-range_with_len (λ j. slot j bs) 0 (capacity_of bs) i i xs (omega arith) (omega arith)) in
    ap decoded g ∙ sym (cond-true (ltb i (capacity_of bs)) (decoded (slot i bs)) None (lt-ltb i (capacity_of bs) (omega arith)))

pub slot_past : (bs : List ℕ) (slots : List (List ℕ)) (i : ℕ) → slots ≡ slots_in bs → length slots ≤ i → record_at bs i ≡ None
slot_past bs slots i e h =
    let n = length_slots bs in
    let k = ap length e in
    cond-false (ltb i (capacity_of bs)) (decoded (slot i bs)) None (le-ltb i (capacity_of bs) (omega arith))

first_range : {X : Type 0} (f : ℕ → X) (j n m : ℕ) → n ≤ m → take n (map f (range_with_len j m)) ≡ map f (range_with_len j n)
first_range f j zero m h = refl
first_range f j (suc n) zero h = absurd (omega arith)
first_range f j (suc n) (suc m) h = ap (λ xs. f j ∷ xs) (first_range f (j + 1) n m (omega arith))

pub first_slots : (bs : List ℕ) (n : ℕ) → n ≤ capacity_of bs → take n (slots_in bs) ≡ map (λ i. slot i bs) (range_with_len 0 n)
first_slots bs n h = first_range (λ i. slot i bs) 0 n (capacity_of bs) h

pub record_here : (bs : List ℕ) (i : ℕ) → i < capacity_of bs → record_at bs i ≡ decoded (slot i bs)
record_here bs i h = cond-true (ltb i (capacity_of bs)) (decoded (slot i bs)) None (lt-ltb i (capacity_of bs) h)

pub ruleset slot_told = (slot_at, slot_past)
