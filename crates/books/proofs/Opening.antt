-- An image that opens, and the book that it holds.
use Rattle.std.proofs.Common.{◌≡◌, ℕ, ◌<◌, ◌≤◌, Bool, true, false, cond, List, length, is_some, is_err, Some, None, Ok, Err, Option, Result, option_map, sym, refl, ap, ◌∙◌, arith}
use Rattle.std.proofs.lemmas.Bool.{cond_both, cond-true}
use Rattle.std.proofs.lemmas.Option.{none-some}
use Rattle.std.specs.Result.{result_err}
use Rattle.accounts.specs.Books.{accounts, distinct, Proper}
use Rattle.books.specs.Images.{count_in, capacity_of, held}
use Rattle.books.specs.ImageRefusals.{lacks_room, start_refusal, unfit, first_unfit, open_refusal}
use Rattle.books.specs.Reading.{Legible, opened_count, opened_room, Reads}
use Rattle.books.specs.declared.checks.ImageRefusal.{ImageRefusal}
use Rattle.books.specs.declared.checks.ImageRefusal.TheVariants.{NoRoom, UnfitRecord}
use Rattle.books.proofs.ImagePlaces.{length_held, every_held, distinct_fit, legible_fit, fit_each, fit_none, none_fit}
use Rattle.books.proofs.Judging.{judged, room_parts, room_from}

pub record Open (bs : List ℕ) (n room : ℕ) : Type 0 where
  pub long : 4 ≤ length bs
  pub count : count_in bs ≡ n
  pub whole : capacity_of bs ≡ room
  pub fits : n ≤ room
  pub legible : Legible n bs
  pub apart : distinct (accounts (held n bs)) ≡ true

unfit_none : (o : Option ℕ) → option_map UnfitRecord o ≡ None → o ≡ None
unfit_none None e = refl
unfit_none (Some i) e = absurd (none-some (UnfitRecord i) (sym e))

module _ (bs : List ℕ) where
  pub open_none : (n room : ℕ) → Open bs n room → open_refusal bs ≡ None
  open_none n room o =
      let c = o.count in
      let f = fit_none bs n 0 (λ j _ h. fit_each bs n o.legible o.apart j (omega arith)) in
      judged bs (room_from bs o.long (omega arith)) None (ap (λ k. first_unfit k 0 bs) c ∙ f)

  pub none_open : open_refusal bs ≡ None → Open bs (count_in bs) (capacity_of bs)
  none_open e =
      cond_both (lacks_room bs) (Some NoRoom) (option_map UnfitRecord (first_unfit (count_in bs) 0 bs)) (λ o. o ≡ None → Open bs (count_in bs) (capacity_of bs))
      (λ _ f. absurd (none-some NoRoom (sym f)))
      (λ h f.
      let p = room_parts bs h in
      let fit : (j : ℕ) → j < count_in bs → unfit j bs ≡ false = λ j k. none_fit bs (count_in bs) 0 (unfit_none (first_unfit (count_in bs) 0 bs) f) j (omega arith) (omega arith) in
      record {
        long = p.0;
        count = refl;
        whole = refl;
        fits = p.1;
        legible = legible_fit bs (count_in bs) fit;
        apart = distinct_fit bs (count_in bs) fit;
      })
      e

  pub count_open : (n room : ℕ) → Open bs n room → n ≡ opened_count bs
  count_open n room o = sym (ap (λ r. cond (is_some r) 0 (count_in bs)) (open_none n room o) ∙ o.count)

  pub room_open : (n room : ℕ) → Open bs n room → room ≡ opened_room bs
  room_open n room o = sym (ap (λ r. cond (is_some r) 0 (capacity_of bs)) (open_none n room o) ∙ o.whole)

  pub proper_open : (n room : ℕ) → Open bs n room → Proper (held n bs) room
  proper_open n room o =
      let l = length_held bs n o.legible in
      let w = o.whole in
      record {
        ranged = every_held bs n o.legible;
        apart = o.apart;
        fits = omega (arith, o.fits);
        bounded = omega arith;
      }

  open_by : (o : Option ImageRefusal) → open_refusal bs ≡ o → (n room : ℕ) → n ≡ cond (is_some o) 0 (count_in bs) → room ≡ cond (is_some o) 0 (capacity_of bs) → 0 < room → Open bs n room
  open_by None e n room a b h = rw (a, b) (none_open e)
  open_by (Some x) e n room a b h = absurd (omega arith)

  -- a book with room in it has an image that opens
  pub open_of : (n room : ℕ) → n ≡ opened_count bs → room ≡ opened_room bs → 0 < room → Open bs n room
  open_of n room a b h = open_by (open_refusal bs) refl n room a b h

  legible_by : (o : Option ImageRefusal) → open_refusal bs ≡ o → (n : ℕ) → n ≡ cond (is_some o) 0 (count_in bs) → Legible n bs × (n ≤ capacity_of bs)
  legible_by None e n a = let p = none_open e in rw a (p.legible, p.fits)
  legible_by (Some x) e n a = ((λ i h. absurd (omega arith)), omega arith)

  pub legible_opened : (n : ℕ) → n ≡ opened_count bs → Legible n bs × (n ≤ capacity_of bs)
  legible_opened n a = legible_by (open_refusal bs) refl n a

-- what a check before a start answers
err_some : (r : Result (Unit {0}) ImageRefusal) → is_err r ≡ is_some (result_err r)
err_some (Ok x) = refl
err_some (Err e) = refl

pub start_err : (bs : List ℕ) (r : Result (Unit {0}) ImageRefusal) (t : Bool) → t ≡ is_err r → result_err r ≡ start_refusal bs → t ≡ lacks_room bs
start_err bs r t e f =
    e
    ∙ (err_some r
    ∙ (ap is_some f ∙ cond_both (lacks_room bs) (Some NoRoom) None (λ o. is_some o ≡ lacks_room bs) (λ e. sym e) (λ e. sym e)))

module _ (bs : List ℕ) where
  proper_none : Proper (held 0 bs) 0
  unfolding held
  proper_none = record { ranged = refl; apart = refl; fits = omega arith; bounded = omega arith }

  pub reads_open : (n room : ℕ) → Open bs n room → Reads bs n room
  reads_open n room o = record {
    proper = proper_open bs n room o;
    whole = length_held bs n o.legible;
    same_count = count_open bs n room o;
    same_room = room_open bs n room o;
  }

  reads_none : is_some (open_refusal bs) ≡ true → Reads bs 0 0
  unfolding held
  reads_none h = record {
    proper = proper_none;
    whole = refl;
    same_count = sym (cond-true (is_some (open_refusal bs)) 0 (count_in bs) h);
    same_room = sym (cond-true (is_some (open_refusal bs)) 0 (capacity_of bs) h);
  }

  -- an image that opens, or one that is refused
  reads_by : (o : Option ImageRefusal) → open_refusal bs ≡ o → (n room : ℕ) → n ≡ cond (is_some o) 0 (count_in bs) → room ≡ cond (is_some o) 0 (capacity_of bs) → Reads bs n room
  reads_by None e n room a b = rw (a, b) (reads_open (count_in bs) (capacity_of bs) (none_open bs e))
  reads_by (Some x) e n room a b = rw (a, b) (reads_none (ap is_some e))

  pub reads_opened : (n room : ℕ) → n ≡ opened_count bs → room ≡ opened_room bs → Reads bs n room
  reads_opened n room a b = reads_by (open_refusal bs) refl n room a b

  -- an image that lacks the room opens as nothing
  pub reads_lacking : true ≡ lacks_room bs → Reads bs 0 0
  reads_lacking h = reads_none (ap is_some (cond-true (lacks_room bs) (Some NoRoom) (option_map UnfitRecord (first_unfit (count_in bs) 0 bs)) (sym h)))
