-- A loop over the records of a reading.
use Rattle.std.proofs.Common.{◌≡◌, ℕ, ◌+◌, ◌*◌, ◌<◌, ◌≤◌, Bool, true, false, ltb, List, ◌∷◌, drop, None, Some, sym, ap, ◌∙◌, subst, mul-add, arith, sum_by}
use Rattle.std.proofs.lemmas.Bool.{cond-true, or_parts}
use Rattle.std.proofs.lemmas.List.Folds.{list_any_at}
use Rattle.std.proofs.lemmas.List.Sums.{sum_by-cons}
use Rattle.std.proofs.lemmas.Option.{get_or_from_slice_get, slice_get_within}
use Rattle.std.proofs.lemmas.List.{drop_more}
use Rattle.std.proofs.lemmas.Bool.Decides.{nat_tests}
use Rattle.std.specs.List.{list_any, slice_get}
use Rattle.accounts.specs.declared.record.Record.{Record}
use Rattle.accounts.specs.Ranges.{in_range}
use Rattle.sharing.specs.Shares.{gaining}
use Rattle.sharing.specs.Shares.{share}
use Rattle.sharing.specs.Shares.{shares, foreign_to_reading, all_shares}

-- shares rounded down are within their percentages of the reading
pub shared_within : (units percentages shared percentage gain : ℕ) → gain ≡ share units percentage → shared * 100000 ≤ units * percentages → (shared + gain) * 100000 ≤ units * (percentages + percentage)
shared_within units percentages shared percentage gain e h = omega (arith, mul-add units percentages percentage)

-- what a place has is the first of what is left from it on
drop_nth : {X : Type 0} (xs : List X) (i : ℕ) (x : X) → slice_get xs i ≡ Some x → drop i xs ≡ x ∷ drop (i + 1) xs
drop_nth xs i x e = drop_more xs i x (slice_get_within xs i x e) ∙ ap (λ y. y ∷ drop (i + 1) xs) (get_or_from_slice_get xs i x x e)

-- an account would pass the units that it may hold
abbrev pub overfull : ℕ → Record → Bool
overfull units r = ltb 1000000000000 (r.held + share units r.percentage)

-- the sums so far and those of the records left are those of all; no record so far would be overfull
pub record LeftToShare (units percentages shared : ℕ) (rs left : List Record) : Type 0 where
  pub percents : percentages + sum_by (λ r. r.percentage) left ≡ sum_by (λ r. r.percentage) rs
  pub gains : shared + shares units left ≡ shares units rs
  pub full : list_any (overfull units) left ≡ list_any (overfull units) rs

module _ (units percentages shared : ℕ) (rs : List Record) (i : ℕ) where
  abbrev pub LeftAt : Type 0
  LeftAt = LeftToShare units percentages shared rs (drop i rs)

  at_record : (r : Record) → slice_get rs i ≡ Some r → LeftAt → LeftToShare units percentages shared rs (r ∷ drop (i + 1) rs)
  at_record r e h = subst (LeftToShare units percentages shared rs) (drop_nth rs i r e) h

  pub share_more : (r : Record) → slice_get rs i ≡ Some r → LeftAt → overfull units r ≡ false → LeftToShare units (percentages + r.percentage) (shared + share units r.percentage) rs (drop (i + 1) rs)
  share_more r e h o =
      let k = at_record r e h in
      let percents = sum_by-cons (λ (x : Record). x.percentage) r (drop (i + 1) rs) in
      let gains = sum_by-cons (λ (x : Record). share units x.percentage) r (drop (i + 1) rs) in
      record {
        percents = omega (arith, k.percents);
        gains = omega (arith, k.gains);
        full = grind arith;
      }

  pub past_whole : (r : Record) → slice_get rs i ≡ Some r → LeftAt → 100000 < percentages + r.percentage → foreign_to_reading units rs ≡ true
  past_whole r e h o =
      let k = at_record r e h in
      let percents = sum_by-cons (λ (x : Record). x.percentage) r (drop (i + 1) rs) in
      grind (arith, nat_tests)

  pub past_holding : (r : Record) → slice_get rs i ≡ Some r → LeftAt → overfull units r ≡ true → foreign_to_reading units rs ≡ true
  past_holding r e h o = let k = at_record r e h in grind arith

-- where the book is the ledger's own, no account passes what it may hold
not_overfull : (units : ℕ) (rs : List Record) (i : ℕ) (r : Record) → list_any (overfull units) rs ≡ false → slice_get rs i ≡ Some r → overfull units r ≡ false
not_overfull units rs i r h e =
    let here = get_or_from_slice_get rs i r r e in
    let any = list_any_at (overfull units) rs i r (slice_get_within rs i r e) in
    grind arith

pub gains_in_range : (units : ℕ) (rs : List Record) (i : ℕ) (r : Record) → foreign_to_reading units rs ≡ false → slice_get rs i ≡ Some r → in_range r ≡ true → in_range (gaining units r) ≡ true
gains_in_range units rs i r h e k =
    let o = not_overfull units rs i r (or_parts _ (list_any (overfull units) rs) h).1 e in
    grind (arith, nat_tests)

-- the book of another ledger has no shares
pub foreign_shares : (units : ℕ) (rs : List Record) → foreign_to_reading units rs ≡ true → None ≡ all_shares units rs
foreign_shares units rs h = sym (cond-true (foreign_to_reading units rs) None (Some (shares units rs)) h)
