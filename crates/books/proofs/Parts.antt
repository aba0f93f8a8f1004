-- Parts of an image, before and after a write.
use Rattle.std.proofs.Common.{◌≡◌, ℕ, ◌+◌, ◌≤◌, List, ◌++◌, length, take, drop, sym, refl, ap, ◌∙◌, arith}
use borrow.Rule.Slice.PartMut.{put_mid}
use Rattle.std.proofs.lemmas.List.{length-append, length-take-le, length-drop, drop-drop, drop_at, take_at, drop-take}
use Rattle.std.proofs.lemmas.Slice.{take-put_mid_below, drop-put_mid}
use Rattle.books.specs.Bytes.{part, written}

module _ (at : ℕ) (new bs : List ℕ) (fits : at + length new ≤ length bs) where
  front : length (take at bs) ≡ at
  front = length-take-le at bs (omega arith)

  -- the same bytes in a word of std
  as_put : written at new bs ≡ put_mid at (length new) bs new
  as_put = ap (λ rest. take at bs ++ (new ++ rest)) (sym (drop-drop (length new) at bs))

  pub length_written : length (written at new bs) ≡ length bs
  length_written =
      let f = front in
      let a = length-append (take at bs) (new ++ drop (at + length new) bs) in
      let b = length-append new (drop (at + length new) bs) in
      let d = length-drop (at + length new) bs in
      omega arith

  pub part_same : part at (length new) (written at new bs) ≡ new
  part_same =
      ap (take (length new)) (drop_at (take at bs) (new ++ drop (at + length new) bs) at front)
      ∙ take_at new (drop (at + length new) bs) (length new) refl

  pub part_before : (at' width : ℕ) → at' + width ≤ at → part at' width (written at new bs) ≡ part at' width bs
  part_before at' width h =
      sym (drop-take at' width (written at new bs))
      ∙ (ap (drop at') (ap (take (at' + width)) as_put ∙ take-put_mid_below at (length new) bs new (at' + width) h (omega arith))
      ∙ drop-take at' width bs)

  pub past_written : (at' : ℕ) → at + length new ≤ at' → drop at' (written at new bs) ≡ drop at' bs
  past_written at' h = ap (drop at') as_put ∙ drop-put_mid at (length new) bs new at' h (omega arith) refl

  pub part_after : (at' width : ℕ) → at + length new ≤ at' → part at' width (written at new bs) ≡ part at' width bs
  part_after at' width h = ap (take width) (past_written at' h)
