-- Encoding and decoding are each other's inverse on records in range.
use Rattle.std.proofs.Common.{◌≡◌, ℕ, ◌+◌, ◌^◌, ◌<◌, ◌≤◌, Bool, true, false, cond, eqb, List, [], ◌∷◌, ◌++◌, length, get_or, drop, replicate, Some, None, Option, sym, refl, ap, ◌∙◌, ⊎_elim, arith}
use Rattle.std.proofs.lemmas.Bool.{and_from, and_parts, eq-eqb, eqb-true, cond-true, cond_both, cases_lt}
use Rattle.std.proofs.lemmas.Bool.Decides.{nat_tests}
use Rattle.std.proofs.lemmas.List.{take-append-drop, drop-drop, length-take-le, length-drop, drop_more, drop_all, get_or_past}
use Rattle.std.proofs.lemmas.List.Elements.{All-take, All-drop}
use Rattle.std.proofs.lemmas.Nat.{from_le_bytes-to_le_bytes_2, from_le_bytes-to_le_bytes_4, from_le_bytes-to_le_bytes_8, le_bytes_2, le_bytes_4, le_bytes_8}
use Rattle.std.proofs.lemmas.Slice.Eq.{bytes_eq-Decides}
use Rattle.std.proofs.lemmas.Option.{cond_some, none-some}
use Rattle.std.specs.Bool.{then_some}
use Rattle.std.specs.Int.{w16, w32, w64, to_le_bytes, from_le_bytes}
use Rattle.std.specs.List.{All}
use Rattle.std.specs.Str.{bytes_eq}
use Rattle.accounts.specs.declared.record.Size.{Size}
use Rattle.accounts.specs.declared.record.Size.TheVariants.{Small, Large}
use Rattle.accounts.specs.declared.record.Kind.{Kind}
use Rattle.accounts.specs.declared.record.Kind.TheVariants.{Member, Anchor}
use Rattle.accounts.specs.declared.record.State.{State}
use Rattle.accounts.specs.declared.record.State.TheVariants.{Open, Closed}
use Rattle.accounts.specs.declared.record.Record.{Record}
use Rattle.accounts.specs.Ranges.{in_range}
use Rattle.accounts.specs.Marks.{size_letter, size_of, kind_letter, kind_of, state_number, state_of}
use Rattle.books.specs.Bytes.{part}
use Rattle.books.specs.Codec.{encoded, ranged, marked, fields_in, framed, decoded}

-- that bytes hold a record, field by field; its numbers may be out of range
pub record Holds (bs : List ℕ) (r : Record) : Type 0 where
  pub bytes : length bs ≡ 36
  pub filler : part 30 6 bs ≡ replicate 6 0
  pub account : from_le_bytes w64 (part 0 8 bs) ≡ r.account
  pub percentage : from_le_bytes w32 (part 8 4 bs) ≡ r.percentage
  pub savings : from_le_bytes w16 (part 12 2 bs) ≡ r.savings
  pub class : get_or bs 14 0 ≡ r.class
  pub size : size_of (get_or bs 15 0) ≡ Some r.size
  pub kind : kind_of (get_or bs 16 0) ≡ Some r.kind
  pub state : state_of (get_or bs 17 0) ≡ Some r.state
  pub held : from_le_bytes w64 (part 18 8 bs) ≡ r.held
  pub last : from_le_bytes w32 (part 26 4 bs) ≡ r.last

abbrev fields : Size → Kind → State → List ℕ → Record
fields z k s bs = record {
  account = from_le_bytes w64 (part 0 8 bs);
  percentage = from_le_bytes w32 (part 8 4 bs);
  savings = from_le_bytes w16 (part 12 2 bs);
  class = get_or bs 14 0;
  size = z;
  kind = k;
  state = s;
  held = from_le_bytes w64 (part 18 8 bs);
  last = from_le_bytes w32 (part 26 4 bs);
}

pub decoded_holds : (bs : List ℕ) (r : Record) → Holds bs r → decoded bs ≡ ranged r
unfolding fields_in
decoded_holds bs r h =
    let t = and_from (eqb (length bs) 36) (bytes_eq (part 30 6 bs) (replicate 6 0)) (eq-eqb (length bs) 36 h.bytes) ((bytes_eq-Decides (part 30 6 bs) (replicate 6 0)).1 h.filler) in
    cond-true (framed bs) _ None t ∙ rw (h.size, h.kind, h.state, h.account, h.percentage, h.savings, h.class, h.held, h.last) refl

size_letter_of : (b : ℕ) (z : Size) → size_of b ≡ Some z → size_letter z ≡ b
size_letter_of b Small h = grind (arith, nat_tests)
size_letter_of b Large h = grind (arith, nat_tests)

kind_letter_of : (b : ℕ) (k : Kind) → kind_of b ≡ Some k → kind_letter k ≡ b
kind_letter_of b Member h = grind (arith, nat_tests)
kind_letter_of b Anchor h = grind (arith, nat_tests)

state_number_of : (b : ℕ) (s : State) → state_of b ≡ Some s → state_number s ≡ b
state_number_of b Open h = grind (arith, nat_tests)
state_number_of b Closed h = grind (arith, nat_tests)

size_of_letter : (z : Size) → size_of (size_letter z) ≡ Some z
size_of_letter Small = refl
size_of_letter Large = refl

kind_of_letter : (k : Kind) → kind_of (kind_letter k) ≡ Some k
kind_of_letter Member = refl
kind_of_letter Anchor = refl

state_of_byte : (s : State) → state_of (state_number s) ≡ Some s
state_of_byte Open = refl
state_of_byte Closed = refl

-- each number of a record in range fits its bytes
record Fit (r : Record) : Type 0 where
  account : r.account < 2 ^ 64
  percentage : r.percentage < 2 ^ 32
  savings : r.savings < 2 ^ 16
  held : r.held < 2 ^ 64
  last : r.last < 2 ^ 32

fit : (r : Record) → in_range r ≡ true → Fit r
fit r h = record { account = grind (arith, nat_tests); percentage = grind (arith, nat_tests); savings = grind (arith, nat_tests); held = grind (arith, nat_tests); last = grind (arith, nat_tests) }

pub holds_encoded : (r : Record) → in_range r ≡ true → Holds (encoded r) r
unfolding encoded
holds_encoded r h =
    let f = fit r h in
    record {
      bytes = refl;
      filler = refl;
      account = from_le_bytes-to_le_bytes_8 r.account f.account;
      percentage = from_le_bytes-to_le_bytes_4 r.percentage f.percentage;
      savings = from_le_bytes-to_le_bytes_2 r.savings f.savings;
      class = refl;
      size = size_of_letter r.size;
      kind = kind_of_letter r.kind;
      state = state_of_byte r.state;
      held = from_le_bytes-to_le_bytes_8 r.held f.held;
      last = from_le_bytes-to_le_bytes_4 r.last f.last;
    }

-- what is answered of numbers that are in range or not
pub holds_told : (bs : List ℕ) (r : Record) (ok : Bool) → Holds bs r → ok ≡ in_range r → then_some ok r ≡ decoded bs
holds_told bs r true h e = ap (λ b. cond b (Some r) None) e ∙ sym (decoded_holds bs r h)
holds_told bs r false h e = ap (λ b. cond b (Some r) None) e ∙ sym (decoded_holds bs r h)

pub decoded_encoded : (r : Record) → in_range r ≡ true → decoded (encoded r) ≡ Some r
decoded_encoded r h = decoded_holds (encoded r) r (holds_encoded r h) ∙ cond-true (in_range r) (Some r) None h

module _ (bs : List ℕ) (r : Record) (n : length bs ≡ 36) (w : part 30 6 bs ≡ replicate 6 0) where
  from_marked : (z : Option Size) (k : Option Kind) (s : Option State) → size_of (get_or bs 15 0) ≡ z → kind_of (get_or bs 16 0) ≡ k → state_of (get_or bs 17 0) ≡ s → marked z k s bs ≡ Some r → Holds bs r
  from_marked None k s ez ek es e = absurd (none-some r e)
  from_marked (Some z) None s ez ek es e = absurd (none-some r e)
  from_marked (Some z) (Some k) None ez ek es e = absurd (none-some r e)
  from_marked (Some z) (Some k) (Some s) ez ek es e =
      let f : fields z k s bs ≡ r = (cond_some _ _ _ e).1 in
      record {
        bytes = n;
        filler = w;
        account = ap (λ x. x.account) f;
        percentage = ap (λ x. x.percentage) f;
        savings = ap (λ x. x.savings) f;
        class = ap (λ x. x.class) f;
        size = ez ∙ ap (λ x. Some x.size) f;
        kind = ek ∙ ap (λ x. Some x.kind) f;
        state = es ∙ ap (λ x. Some x.state) f;
        held = ap (λ x. x.held) f;
        last = ap (λ x. x.last) f;
      }

pub holds_decoded : (bs : List ℕ) (r : Record) → decoded bs ≡ Some r → Holds bs r
unfolding fields_in
holds_decoded bs r =
    cond_both (framed bs) (marked (size_of (get_or bs 15 0)) (kind_of (get_or bs 16 0)) (state_of (get_or bs 17 0)) bs) None (λ o. o ≡ Some r → Holds bs r)
    (λ t e.
    let p = and_parts (eqb (length bs) 36) (bytes_eq (part 30 6 bs) (replicate 6 0)) t in
    from_marked bs r (eqb-true (length bs) 36 p.0) ((bytes_eq-Decides (part 30 6 bs) (replicate 6 0)).0 p.1) (size_of (get_or bs 15 0)) (kind_of (get_or bs 16 0)) (state_of (get_or bs 17 0)) refl refl refl e)
    (λ _ e. absurd (none-some r e))

-- bytes are below 256 wherever they are read
pub below : (xs : List ℕ) → All (λ b. b < 256) xs → (i : ℕ) → get_or xs i 0 < 256
below xs small i =
    ⊎_elim (λ h. small i 0 h) (λ h. let e = get_or_past xs i 0 h in omega arith) (cases_lt i (length xs))

-- a part of bytes before the rest
joined : (bs : List ℕ) (at width : ℕ) (xs rest : List ℕ) → xs ≡ part at width bs → rest ≡ drop (at + width) bs → xs ++ rest ≡ drop at bs
joined bs at width xs rest e f =
    let s = take-append-drop width (drop at bs) in
    let d = drop-drop width at bs in
    cc

marks_at : (bs : List ℕ) (c z k s : ℕ) (rest : List ℕ) → length bs ≡ 36 → c ≡ get_or bs 14 0 → z ≡ get_or bs 15 0 → k ≡ get_or bs 16 0 → s ≡ get_or bs 17 0 → rest ≡ drop 18 bs → c ∷ z ∷ k ∷ s ∷ rest ≡ drop 14 bs
marks_at bs c z k s rest n ec ez ek es e =
    let dc : drop 14 bs ≡ get_or bs 14 0 ∷ drop 15 bs = drop_more bs 14 0 (omega arith) in
    let dz : drop 15 bs ≡ get_or bs 15 0 ∷ drop 16 bs = drop_more bs 15 0 (omega arith) in
    let dk : drop 16 bs ≡ get_or bs 16 0 ∷ drop 17 bs = drop_more bs 16 0 (omega arith) in
    let ds : drop 17 bs ≡ get_or bs 17 0 ∷ drop 18 bs = drop_more bs 17 0 (omega arith) in
    rw (ec, ez, ek, es, e, dc, dz, dk, ds)

module _ (bs : List ℕ) (small : All (λ b. b < 256) bs) where
  part_small : (at width i : ℕ) → get_or (part at width bs) i 0 < 256
  part_small at width i = below (part at width bs) (All-take (λ b. b < 256) width (drop at bs) (All-drop (λ b. b < 256) at bs small)) i

  part_length : (at width : ℕ) → at + width ≤ length bs → length (part at width bs) ≡ width
  part_length at width h = let d = length-drop at bs in length-take-le width (drop at bs) (omega arith)

  -- no other bytes decode to a record
  pub encoded_from : (r : Record) → Holds bs r → encoded r ≡ bs
  unfolding encoded
  encoded_from r h =
      let n = h.bytes in
      let z = size_letter_of (get_or bs 15 0) r.size h.size in
      let k = kind_letter_of (get_or bs 16 0) r.kind h.kind in
      let s = state_number_of (get_or bs 17 0) r.state h.state in
      let f = joined bs 30 6 (replicate 6 0) [] (sym h.filler) (sym (drop_all 36 bs (omega arith))) in
      let l = joined bs 26 4 (to_le_bytes w32 r.last) _ (le_bytes_4 (part 26 4 bs) r.last (part_length 26 4 (omega arith)) (part_small 26 4) (sym h.last)) f in
      let u = joined bs 18 8 (to_le_bytes w64 r.held) _ (le_bytes_8 (part 18 8 bs) r.held (part_length 18 8 (omega arith)) (part_small 18 8) (sym h.held)) l in
      let m = marks_at bs r.class (size_letter r.size) (kind_letter r.kind) (state_number r.state) _ n (sym h.class) z k s u in
      let v = joined bs 12 2 (to_le_bytes w16 r.savings) _ (le_bytes_2 (part 12 2 bs) r.savings (part_length 12 2 (omega arith)) (part_small 12 2) (sym h.savings)) m in
      let p = joined bs 8 4 (to_le_bytes w32 r.percentage) _ (le_bytes_4 (part 8 4 bs) r.percentage (part_length 8 4 (omega arith)) (part_small 8 4) (sym h.percentage)) v in
      joined bs 0 8 (to_le_bytes w64 r.account) _ (le_bytes_8 (part 0 8 bs) r.account (part_length 0 8 (omega arith)) (part_small 0 8) (sym h.account)) p

-- what decodes is in range
pub in_range_decoded : (bs : List ℕ) (r : Record) → decoded bs ≡ Some r → in_range r ≡ true
in_range_decoded bs r e = (cond_some _ _ _ (sym (decoded_holds bs r (holds_decoded bs r e)) ∙ e)).0

pub length_encoded : (r : Record) → length (encoded r) ≡ 36
unfolding encoded
length_encoded r = refl

-- no other bytes decode to a record
pub only_encoded : (r : Record) (bs : List ℕ) → All (λ b. b < 256) bs → decoded bs ≡ Some r → bs ≡ encoded r
only_encoded r bs small e = sym (encoded_from bs small r (holds_decoded bs r e))

pub ruleset inverse = (decoded_encoded, only_encoded)
