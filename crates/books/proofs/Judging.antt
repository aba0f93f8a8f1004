-- What an image is refused for.
use Rattle.std.proofs.Common.{◌≡◌, ℕ, ◌≤◌, false, ltb, List, length, Some, Option, option_map, ap, ◌∙◌}
use Rattle.std.proofs.lemmas.Bool.{cond-false, or_parts, or_from, ltb-false, le-ltb}
use Rattle.books.specs.Images.{count_in, capacity_of}
use Rattle.books.specs.ImageRefusals.{lacks_room, first_unfit, open_refusal}
use Rattle.books.specs.declared.checks.ImageRefusal.TheVariants.{NoRoom, UnfitRecord}

module _ (bs : List ℕ) where
  pub judged : lacks_room bs ≡ false → (o : Option ℕ) → first_unfit (count_in bs) 0 bs ≡ o → open_refusal bs ≡ option_map UnfitRecord o
  judged h o e = cond-false (lacks_room bs) (Some NoRoom) (option_map UnfitRecord (first_unfit (count_in bs) 0 bs)) h ∙ ap (option_map UnfitRecord) e

  pub room_parts : lacks_room bs ≡ false → (4 ≤ length bs) × (count_in bs ≤ capacity_of bs)
  room_parts h =
      let p = or_parts (ltb (length bs) 4) (ltb (capacity_of bs) (count_in bs)) h in
      (ltb-false (length bs) 4 p.0, ltb-false (capacity_of bs) (count_in bs) p.1)

  pub room_from : 4 ≤ length bs → count_in bs ≤ capacity_of bs → lacks_room bs ≡ false
  room_from l c = or_from (ltb (length bs) 4) (ltb (capacity_of bs) (count_in bs)) (le-ltb (length bs) 4 l) (le-ltb (capacity_of bs) (count_in bs) c)
