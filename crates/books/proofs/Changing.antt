-- Adding and replacing in an image that opens.
use Rattle.std.proofs.Common.{◌≡◌, ℕ, ◌+◌, ◌-◌, ◌/◌, ◌^◌, ◌<◌, ◌≤◌, min, true, List, [], ◌∷◌, ◌++◌, length, set, drop, is_some, Some, ap, ◌∙◌, ⊎_elim, add-one, arith, below_more}
use Rattle.std.proofs.lemmas.Bool.{cases_eq}
use Rattle.std.specs.Int.{w32, from_le_bytes}
use Rattle.accounts.specs.declared.record.Record.{Record}
use Rattle.accounts.specs.Ranges.{in_range}
use Rattle.accounts.specs.Books.{accounts, distinct, Proper, takes, suits}
use Rattle.accounts.proofs.Answering.{takes_parts, suits_parts}
use Rattle.accounts.proofs.Keeping.{proper_add, proper_replace}
use Rattle.books.specs.Codec.{decoded}
use Rattle.books.proofs.Inverse.{decoded_encoded}
use Rattle.books.specs.Images.{capacity_of, start_of, slot, held, with_record, with_added}
use Rattle.books.specs.Reading.{Reads}
use Rattle.books.proofs.ImagePlaces.{held_more}
use Rattle.books.proofs.Opening.{Open, proper_open, open_of, reads_open}
use Rattle.books.proofs.Writing.{held_same, legible_same, held_set, length_put, slot_put, slot_other, past_put, count_put, length_count, slot_count, past_count, count_count}

module _ (bs : List ℕ) (n room : ℕ) (o : Open bs n room) (r : Record) (ok : in_range r ≡ true) where
  module _ (h : n < room) (t : takes (held n bs) room r ≡ true) where
    within : n < capacity_of bs
    within = let w = o.whole in omega arith

    long : 4 ≤ length (with_record n r bs)
    long = let e = length_put bs n within r in let l = o.long in omega arith

    small : n + 1 < 2 ^ 32
    small = let w = within in omega arith

    slots : (j : ℕ) → slot j (with_added n r bs) ≡ slot j (with_record n r bs)
    slots j = slot_count (with_record n r bs) long (n + 1) small j

    before : (j : ℕ) → j < n → slot j (with_added n r bs) ≡ slot j bs
    before j k = slots j ∙ slot_other bs n within r j (λ q. omega arith)

    last : decoded (slot n (with_added n r bs)) ≡ Some r
    last = ap decoded (slots n ∙ slot_put bs n within r) ∙ decoded_encoded r ok

    pub list_added : held (n + 1) (with_added n r bs) ≡ held n bs ++ r ∷ []
    list_added =
        ap (λ k. held k (with_added n r bs)) (add-one n)
        ∙ (held_more (with_added n r bs) n r last ∙ ap (λ rs. rs ++ r ∷ []) (held_same n bs (with_added n r bs) before))

    past_added : drop (start_of (n + 1)) (with_added n r bs) ≡ drop (start_of (n + 1)) bs
    past_added =
        past_count (with_record n r bs) long (n + 1) small (start_of (n + 1)) (omega arith)
        ∙ past_put bs n within r (start_of (n + 1)) (omega arith)

    pub open_added : Open (with_added n r bs) (n + 1) room
    open_added =
        let e₁ = length_put bs n within r in
        let e₂ = length_count (with_record n r bs) long (n + 1) small in
        let l = long in
        let p = proper_add (held n bs) room r (proper_open bs n room o) t in
        record {
          long = omega arith;
          count = count_count (with_record n r bs) long (n + 1) small;
          whole = ap (λ k. min 4096 ((k - 4) / 36)) (e₂ ∙ e₁) ∙ o.whole;
          fits = omega arith;
          legible = below_more (λ i. is_some (decoded (slot i (with_added n r bs))) ≡ true) n (legible_same n bs (with_added n r bs) before o.legible) (ap is_some last);
          apart = ap (λ rs. distinct (accounts rs)) list_added ∙ p.apart;
        }

  module _ (i : ℕ) (h : i < n) (t : suits (held n bs) i r ≡ true) where
    inside : i < capacity_of bs
    inside = let w = o.whole in let f = o.fits in omega arith

    put_there : decoded (slot i (with_record i r bs)) ≡ Some r
    put_there = ap decoded (slot_put bs i inside r) ∙ decoded_encoded r ok

    pub list_replaced : held n (with_record i r bs) ≡ set (held n bs) i r
    list_replaced = held_set n i bs (with_record i r bs) r h o.legible put_there (slot_other bs i inside r)

    past_replaced : drop (start_of n) (with_record i r bs) ≡ drop (start_of n) bs
    past_replaced = past_put bs i inside r (start_of n) (omega arith)

    pub open_replaced : Open (with_record i r bs) n room
    open_replaced =
        let e = length_put bs i inside r in
        let l = o.long in
        let p = proper_replace (held n bs) room i r (proper_open bs n room o) t in
        record {
          long = omega arith;
          count = ap (from_le_bytes w32) (count_put bs i inside r) ∙ o.count;
          whole = ap (λ k. min 4096 ((k - 4) / 36)) e ∙ o.whole;
          fits = o.fits;
          legible = λ j k.
              ⊎_elim
              (λ q. ap (λ m. is_some (decoded (slot m (with_record i r bs)))) q ∙ ap is_some put_there)
              (λ q. ap (λ s. is_some (decoded s)) (slot_other bs i inside r j q) ∙ o.legible j k)
              (cases_eq j i);
          apart = ap (λ rs. distinct (accounts rs)) list_replaced ∙ p.apart;
        }

-- an image of a book, changed: it is a book's still, has this list, and is as it was behind the last record
pub record Changed (bs bs' : List ℕ) (n room : ℕ) (then : List Record) : Type 0 where
  pub reads : Reads bs' n room
  pub list : held n bs' ≡ then
  pub past : drop (start_of n) bs' ≡ drop (start_of n) bs

-- a book's image with a record added, and with one replaced
module _ (bs : List ℕ) (n room : ℕ) (s : Reads bs n room) (r : Record) (bs' : List ℕ) where
  pub record_added : takes (held n bs) room r ≡ true → bs' ≡ with_added n r bs → Changed bs bs' (n + 1) room (held n bs ++ r ∷ [])
  record_added t e =
      let w = s.whole in
      let p = takes_parts (held n bs) room r t in
      let o = open_of bs n room s.same_count s.same_room (omega arith) in
      record {
        reads = rw e (reads_open (with_added n r bs) (n + 1) room (open_added bs n room o r p.1 (omega arith) t));
        list = ap (held (n + 1)) e ∙ list_added bs n room o r p.1 (omega arith) t;
        past = ap (drop (start_of (n + 1))) e ∙ past_added bs n room o r p.1 (omega arith) t;
      }

  pub record_replaced : (i : ℕ) → suits (held n bs) i r ≡ true → bs' ≡ with_record i r bs → Changed bs bs' n room (set (held n bs) i r)
  record_replaced i t e =
      let w = s.whole in
      let f = s.proper.fits in
      let p = suits_parts (held n bs) i r t in
      let o = open_of bs n room s.same_count s.same_room (omega arith) in
      record {
        reads = rw e (reads_open (with_record i r bs) n room (open_replaced bs n room o r p.1 i (omega arith) t));
        list = ap (held n) e ∙ list_replaced bs n room o r p.1 i (omega arith) t;
        past = ap (drop (start_of n)) e ∙ past_replaced bs n room o r p.1 i (omega arith) t;
      }

-- a book that takes a record, or has one at a place, has room
pub room_takes : (rs : List Record) (room : ℕ) (r : Record) → takes rs room r ≡ true → room ≡ 0 → ⊥
room_takes rs room r t e = let p = takes_parts rs room r t in omega arith

pub room_suits : (rs : List Record) (room i : ℕ) (r : Record) → Proper rs room → suits rs i r ≡ true → room ≡ 0 → ⊥
room_suits rs room i r p t e = let s = suits_parts rs i r t in let f = p.fits in omega arith
