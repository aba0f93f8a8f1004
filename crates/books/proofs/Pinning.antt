-- The whole memory that is lent to a book, told by its records and by what was behind them.
use Rattle.std.proofs.Common.{◌≡◌, ℕ, zero, suc, ◌+◌, ◌<◌, ◌≤◌, eqb, List, [], ◌∷◌, ◌++◌, length, take, drop, sym, refl, ap, ◌∙◌, append_assoc, append-nil, ⊎_elim, arith}
use Rattle.std.proofs.Math.Seq.{take-add}
use Rattle.std.proofs.lemmas.Bool.{cases_eq, cond-true, cond-false, eq-eqb}
use Rattle.std.proofs.lemmas.Bool.Decides.{nat_tests}
use Rattle.std.proofs.lemmas.List.{take-append-drop, length-take-le}
use Rattle.std.proofs.lemmas.List.Elements.{All-take, All-drop}
use Rattle.std.proofs.lemmas.Nat.{le_bytes_4}
use Rattle.std.specs.Int.{w32, to_le_bytes, from_le_bytes}
use Rattle.std.specs.List.{All}
use Rattle.accounts.specs.declared.record.Record.{Record}
use Rattle.books.specs.declared.image.ImageBook.{ImageBook}
use Rattle.books.specs.declared.table.TableBook.{TableBook}
use Rattle.books.specs.Bytes.{part}
use Rattle.books.specs.Codec.{encoded, decoded}
use Rattle.books.specs.Holding as image
use Rattle.books.specs.Images.{start_of, slot, held, bytes_of, image_with}
use Rattle.books.specs.Tables as table
use Rattle.books.proofs.ImagePlaces.{some_of, held_more}
use Rattle.books.proofs.Inverse.{below, only_encoded}
use Rattle.books.proofs.Opening.{Open, open_of}

-- a list whose front is known
split_at : {X : Type 0} (n : ℕ) (front xs ys : List X) → take n xs ≡ front → drop n xs ≡ drop n ys → xs ≡ front ++ drop n ys
split_at n front xs ys f g = sym (take-append-drop n xs) ∙ (ap (λ zs. zs ++ drop n xs) f ∙ ap (λ zs. front ++ zs) g)

pub table_pinned : (old new : TableBook) → table.Pinned old new
table_pinned old new rs left =
    let t = new.table.now in
    let l = length-take-le new.count t left.kept.stays.within in
    let n : new.count ≡ length rs = sym l ∙ ap length left.list in
    split_at new.count rs t old.table.now left.list left.kept.beyond.past ∙ ap (λ i. rs ++ drop i old.table.now) n

pub table_stays_whole : (b : TableBook) → table.Sound b → table.StaysWhole b
table_stays_whole old s new left =
    let t = old.table.now in
    let rs = table.records_of old in
    let l = length-take-le old.count t s.within in
    table_pinned old new rs left ∙ (ap (λ i. rs ++ drop i t) l ∙ take-append-drop old.count t)

bytes_push : (rs : List Record) (r : Record) → bytes_of (rs ++ r ∷ []) ≡ bytes_of rs ++ encoded r
bytes_push [] r = simp append-nil
bytes_push (x ∷ rs) r = ap (λ bs. encoded x ++ bs) (bytes_push rs r) ∙ sym (append_assoc (encoded x) (bytes_of rs) (encoded r))

-- the front of an image that opens
module _ (bs : List ℕ) (small : All (λ b. b < 256) bs) (n room : ℕ) (o : Open bs n room) where
  part_bytes : (at width : ℕ) → All (λ b. b < 256) (part at width bs)
  part_bytes at width = All-take (λ b. b < 256) width (drop at bs) (All-drop (λ b. b < 256) at bs small)

  count_bytes : take 4 bs ≡ to_le_bytes w32 n
  count_bytes =
      let long = o.long in
      let c : n ≡ from_le_bytes w32 (take 4 bs) = sym o.count in
      sym (le_bytes_4 (take 4 bs) n (length-take-le 4 bs long) (below (take 4 bs) (part_bytes 0 4)) c)

  -- up to a place
  front : (i : ℕ) → i ≤ n → take (start_of i) bs ≡ to_le_bytes w32 n ++ bytes_of (held i bs)
  unfolding held
  front zero h = count_bytes ∙ sym (simp append-nil)
  front (suc i) h =
      let k : start_of (suc i) ≡ start_of i + 36 = omega arith in
      let s = some_of (decoded (slot i bs)) (o.legible i (omega arith)) in
      let e = only_encoded s.0 (slot i bs) (part_bytes (start_of i) 36) s.1 in
      let more = ap bytes_of (held_more bs i s.0 s.1) ∙ bytes_push (held i bs) s.0 in
      ap (λ m. take m bs) k
      ∙ (take-add (start_of i) 36 bs
      ∙ (ap (λ zs. zs ++ slot i bs) (front i (omega arith))
      ∙ (ap (λ zs. (to_le_bytes w32 n ++ bytes_of (held i bs)) ++ zs) e
      ∙ (append_assoc (to_le_bytes w32 n) (bytes_of (held i bs)) (encoded s.0) ∙ ap (λ zs. to_le_bytes w32 n ++ zs) (sym more)))))

  -- and the whole, where another image has the same bytes behind the last record
  whole : (rs : List Record) (other : List ℕ) → held n bs ≡ rs → length rs ≡ n → drop (start_of n) bs ≡ drop (start_of n) other → bs ≡ image_with rs other
  whole rs other e l past =
      split_at (start_of n) (to_le_bytes w32 n ++ bytes_of (held n bs)) bs other (front n (omega arith)) past
      ∙ (append_assoc (to_le_bytes w32 n) (bytes_of (held n bs)) (drop (start_of n) other)
      ∙ (ap (λ zs. to_le_bytes w32 n ++ (bytes_of zs ++ drop (start_of n) other)) e
      ∙ ap (λ i. to_le_bytes w32 i ++ (bytes_of rs ++ drop (start_of i) other)) (sym l)))

pub image_pinned : (old new : ImageBook) → image.Pinned old new
image_pinned old new rs left small =
    let xs = old.image.now in
    let ys = new.image.now in
    let t = left.kept.stays in
    let rest = left.kept.beyond in
    ⊎_elim
    (λ none. rest.roomless none ∙ sym (cond-true (eqb old.room 0) xs (image_with rs xs) (eq-eqb old.room 0 none)))
    (λ full.
    let o = open_of ys new.count new.room t.same_count t.same_room (omega (arith, rest.same_room)) in
    let l : length rs ≡ new.count = sym (ap length left.list) ∙ t.whole in
    whole ys small new.count new.room o rs xs left.list l rest.past ∙ sym (cond-false (eqb old.room 0) xs (image_with rs xs) (grind (arith, nat_tests))))
    (cases_eq old.room 0)

pub image_stays_whole : (b : ImageBook) → image.Sound b → image.StaysWhole b
image_stays_whole old s new left small small' =
    let xs = old.image.now in
    let rs = image.records_of old in
    ⊎_elim
    left.kept.beyond.roomless
    (λ full.
    let o = open_of xs old.count old.room s.same_count s.same_room (omega arith) in
    image_pinned old new rs left small'
    ∙ (cond-false (eqb old.room 0) xs (image_with rs xs) (grind (arith, nat_tests)) ∙ sym (whole xs small old.count old.room o rs xs refl s.whole refl)))
    (cases_eq old.room 0)
