-- The first rate out of range is found, and where there is none all rates are in range.
use Rattle.std.proofs.Common.{◌≡◌, ℕ, ◌≤◌, true, not, eqb, List, length, get_or, position, Some, None, sym, refl, arith, eq-eqb}
use Rattle.std.proofs.lemmas.Bool.{and_parts, leb-true, not-false, not-true}
use Rattle.std.proofs.lemmas.Grind.{common_steps}
use Rattle.std.proofs.lemmas.List.Quantifiers.{position-Some}
use Rattle.std.proofs.lemmas.List.Sums.{fails_before_first}
use Rattle.std.specs.List.{position_or_len}
use Rattle.crediting.specs.Limits.{most_rate, rate_count}
use Rattle.crediting.specs.Refusals.{FirstOutOfRange}
use Rattle.crediting.specs.Worths.{RatesInRange, rate_in_range}
use Rattle.crediting.proofs.rates.judge.Goals as goal

first : (rs : List ℕ) (p : ℕ) → position (λ r. not (rate_in_range r)) rs ≡ Some p → FirstOutOfRange rs p
first rs p e =
    let at = position-Some (λ r. not (rate_in_range r)) rs p 0 e in
    record { within = at.0; out = not-true _ at.1; earlier = λ i h. not-false _ (at.2 i h) }

all : (rs : List ℕ) → length rs ≡ rate_count → position (λ r. not (rate_in_range r)) rs ≡ None → RatesInRange rs
all rs count e =
    let past : length rs ≤ position_or_len (λ r. not (rate_in_range r)) rs = grind (arith, common_steps) in
    (count, λ i h. let t = and_parts _ _ (not-false _ (fails_before_first (λ r. not (rate_in_range r)) rs i 0 (omega arith))) in (leb-true 1 (get_or rs i 0) t.0, leb-true (get_or rs i 0) most_rate t.1))

pub returns-in-Some-clause-meaning : goal.returns-in-Some-clause-meaning
returns-in-Some-clause-meaning c =
    let count : eqb (length c.args.rates.now) rate_count ≡ true = eq-eqb _ _ c.if-rates-ne-RATES.false in
    (refl, rw count (first c.args.rates.now c.in-Some.place (sym c.in-Some.ensures)))

pub returns-in-None-clause-meaning : goal.returns-in-None-clause-meaning
returns-in-None-clause-meaning c = all c.args.rates.now c.if-rates-ne-RATES.false (sym c.in-None.ensures)
