-- An image after a record or the count is written.
use Rattle.std.proofs.Common.{◌≡◌, ℕ, zero, suc, ◌+◌, ◌-◌, ◌/◌, ◌^◌, ◌<◌, ◌≤◌, min, false, List, [], ◌∷◌, ◌++◌, length, set, drop, is_some, Some, sym, refl, ap, ◌∙◌, subst, ⊎_elim, arith}
use Rattle.std.proofs.lemmas.List.{set-append_left, set_at}
use Rattle.std.proofs.lemmas.Bool.{cases_eq, cases_order}
use Rattle.std.proofs.lemmas.Nat.{from_le_bytes-to_le_bytes_4}
use Rattle.std.specs.Int.{w32, to_le_bytes, from_le_bytes}
use Rattle.std.specs.Option.{option_to_list}
use Rattle.accounts.specs.declared.record.Record.{Record}
use Rattle.books.specs.Bytes.{part, written}
use Rattle.books.specs.Codec.{encoded, decoded}
use Rattle.books.proofs.Inverse.{length_encoded}
use Rattle.books.specs.Images.{count_in, capacity_of, start_of, slot, held}
use Rattle.books.specs.ImageRefusals.{lacks_room}
use Rattle.books.specs.Reading.{Legible}
use Rattle.books.proofs.Parts.{length_written, part_same, part_before, past_written, part_after}
use Rattle.books.proofs.ImagePlaces.{some_of, held_more, legible_less, length_held}
use Rattle.books.proofs.Judging.{room_parts}
use Rattle.books.proofs.Opening.{Open}

pub held_same : (n : ℕ) (bs bs' : List ℕ) → ((i : ℕ) → i < n → slot i bs' ≡ slot i bs) → held n bs' ≡ held n bs
unfolding held
held_same zero bs bs' f = refl
held_same (suc n) bs bs' f =
    let ih = held_same n bs bs' (λ i h. f i (omega arith)) in
    let e = f n (omega arith) in
    ap (λ rs. rs ++ option_to_list (decoded (slot n bs'))) ih ∙ ap (λ s. held n bs ++ option_to_list (decoded s)) e

pub legible_same : (n : ℕ) (bs bs' : List ℕ) → ((i : ℕ) → i < n → slot i bs' ≡ slot i bs) → Legible n bs → Legible n bs'
legible_same n bs bs' f l i h = ap (λ s. is_some (decoded s)) (f i h) ∙ l i h

-- one place holds another record
pub held_set : (n i : ℕ) (bs bs' : List ℕ) (r : Record) → i < n → Legible n bs → decoded (slot i bs') ≡ Some r → ((j : ℕ) → (j ≡ i → ⊥) → slot j bs' ≡ slot j bs) → held n bs' ≡ set (held n bs) i r
held_set zero i bs bs' r h l e f = absurd (omega arith)
held_set (suc n) i bs bs' r h l e f =
    let s = some_of (decoded (slot n bs)) (l n (omega arith)) in
    let l' = legible_less bs (suc n) n (omega arith) l in
    let len = length_held bs n l' in
    let m = held_more bs n s.0 s.1 in
    ⊎_elim
    (λ q.
    let m' = held_more bs' n r (subst (λ k. decoded (slot k bs') ≡ Some r) q e) in
    let same = held_same n bs bs' (λ j k. f j (λ p. omega arith)) in
    m' ∙ (ap (λ rs. rs ++ r ∷ []) same ∙ sym (ap (λ rs. set rs i r) m ∙ set_at (held n bs) s.0 [] r i (omega arith))))
    (λ q.
    let m' = held_more bs' n s.0 (ap decoded (f n (λ p. q (sym p))) ∙ s.1) in
    let ih = held_set n i bs bs' r (omega arith) l' e f in
    m' ∙ (ap (λ rs. rs ++ s.0 ∷ []) ih ∙ sym (ap (λ rs. set rs i r) m ∙ set-append_left (held n bs) (s.0 ∷ []) i r (omega arith))))
    (cases_eq i n)

-- a record written at a place
module _ (bs : List ℕ) (i : ℕ) (h : i < capacity_of bs) (r : Record) where
  fits : start_of i + length (encoded r) ≤ length bs
  fits = let e = length_encoded r in omega arith

  pub length_put : length (written (start_of i) (encoded r) bs) ≡ length bs
  length_put = length_written (start_of i) (encoded r) bs fits

  pub slot_put : slot i (written (start_of i) (encoded r) bs) ≡ encoded r
  slot_put = subst (λ w. part (start_of i) w (written (start_of i) (encoded r) bs) ≡ encoded r) (length_encoded r) (part_same (start_of i) (encoded r) bs fits)

  pub slot_other : (j : ℕ) → (j ≡ i → ⊥) → slot j (written (start_of i) (encoded r) bs) ≡ slot j bs
  slot_other j n =
      let e = length_encoded r in
      ⊎_elim (λ q. absurd (n q))
      (⊎_elim
      (λ q. part_before (start_of i) (encoded r) bs fits (start_of j) 36 (omega arith))
      (λ q. part_after (start_of i) (encoded r) bs fits (start_of j) 36 (omega arith)))
      (cases_order j i)

  pub past_put : (at : ℕ) → start_of (i + 1) ≤ at → drop at (written (start_of i) (encoded r) bs) ≡ drop at bs
  past_put at k = let e = length_encoded r in past_written (start_of i) (encoded r) bs fits at (omega arith)

  pub count_put : part 0 4 (written (start_of i) (encoded r) bs) ≡ part 0 4 bs
  count_put = part_before (start_of i) (encoded r) bs fits 0 4 (omega arith)

-- the count written
module _ (bs : List ℕ) (long : 4 ≤ length bs) (n : ℕ) (small : n < 2 ^ 32) where
  count_fits : 0 + length (to_le_bytes w32 n) ≤ length bs
  count_fits = omega arith

  pub length_count : length (written 0 (to_le_bytes w32 n) bs) ≡ length bs
  length_count = length_written 0 (to_le_bytes w32 n) bs count_fits

  pub slot_count : (j : ℕ) → slot j (written 0 (to_le_bytes w32 n) bs) ≡ slot j bs
  slot_count j = part_after 0 (to_le_bytes w32 n) bs count_fits (start_of j) 36 (omega arith)

  pub past_count : (at : ℕ) → 4 ≤ at → drop at (written 0 (to_le_bytes w32 n) bs) ≡ drop at bs
  past_count at k = past_written 0 (to_le_bytes w32 n) bs count_fits at (omega arith)

  pub count_count : count_in (written 0 (to_le_bytes w32 n) bs) ≡ n
  count_count = ap (from_le_bytes w32) (part_same 0 (to_le_bytes w32 n) bs count_fits) ∙ from_le_bytes-to_le_bytes_4 n small

-- an image that is started opens as an empty book
pub open_started : (bs : List ℕ) → lacks_room bs ≡ false → Open (written 0 (to_le_bytes w32 0) bs) 0 (capacity_of bs)
unfolding held
open_started bs h =
    let long = (room_parts bs h).0 in
    let len = length_count bs long 0 (omega arith) in
    record {
      long = omega arith;
      count = count_count bs long 0 (omega arith);
      whole = ap (λ k. min 4096 ((k - 4) / 36)) len;
      fits = omega arith;
      legible = λ i k. absurd (omega arith);
      apart = refl;
    }
