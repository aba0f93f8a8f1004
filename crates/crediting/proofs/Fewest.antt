-- By a lawful worth, the smallest number of units worth an amount is within the units held, and the only one that meets
-- the rule.
use Rattle.std.specs.Prelude.{◌≡◌, ℕ, zero, suc, ◌<◌, ◌≤◌, min, true, false, nat_le}
use Rattle.std.proofs.Common.{arith, refl, sym, ◌∙◌, ap, ⊎_elim}
use Rattle.std.proofs.Math.Nat.{min-le_left, min-le_right}
use Rattle.std.proofs.lemmas.Bool.{leb-true, leb-false, and_parts, both_ways, cases_lt, cond_both, cond-false, cond-true}
use Rattle.base.specs.Limits.{most_bill, most_units}
use Rattle.crediting.specs.Credits.{Credited, Lawful, TheCredit, Within, applied_credit, smallest, units_used, worth_of}
use Rattle.crediting.specs.Limits.{most_worth}
use Rattle.crediting.specs.Ranges.{has_worth, in_ranges, is_class}

-- what a lawful method answers for units is worth at most the most
pub worth_most : (W : ℕ → ℕ → ℕ) (k u : ℕ) → (is_class k ≡ true → Lawful (W k)) → worth_of W k u ≤ most_worth
worth_most W k u law =
    cond_both (has_worth k u) (W k u) 0 (λ x. x ≤ most_worth)
    (λ ok. (law (and_parts (is_class k) _ ok).0).bounded u (leb-true u most_units (and_parts (is_class k) _ ok).1))
    (λ _. omega arith)

-- never more than there are
pub smallest_within : (W : ℕ → ℕ) (c u : ℕ) → smallest W c u ≤ u
unfolding smallest
smallest_within W c zero = omega arith
smallest_within W c (suc n) =
    cond_both (nat_le c (W n)) (smallest W c n) (suc n) (λ x. x ≤ suc n) (λ _. omega (arith, smallest_within W c n)) (λ _. omega arith)

-- the units used are at most the units held
pub used_within : (W : ℕ → ℕ → ℕ) (k u b : ℕ) → units_used W k u b ≤ u
unfolding units_used
used_within W k u b =
    cond_both (in_ranges k u b) (smallest (W k) (min b (W k u)) u) 0 (λ x. x ≤ u) (λ _. smallest_within (W k) _ u) (λ _. omega arith)

-- the applied credit is at most the bill
pub applied_within : (W : ℕ → ℕ → ℕ) (k u b : ℕ) → applied_credit W k u b ≤ b
unfolding applied_credit
applied_within W k u b =
    cond_both (in_ranges k u b) (min b (W k u)) 0 (λ x. x ≤ b) (λ _. min-le_left b (W k u)) (λ _. omega arith)

-- it is worth the amount where all units are
pub smallest_enough : (W : ℕ → ℕ) (c u : ℕ) → c ≤ W u → c ≤ W (smallest W c u)
unfolding smallest
smallest_enough W c zero all = all
smallest_enough W c (suc n) all =
    cond_both (nat_le c (W n)) (smallest W c n) (suc n) (λ x. c ≤ W x) (λ e. smallest_enough W c n (leb-true c (W n) e)) (λ _. all)

-- and every other number that is worth it is larger
pub smallest_fewest : (W : ℕ → ℕ) (c u w : ℕ) → ((i j : ℕ) → i ≤ j → j ≤ u → W i ≤ W j) → c ≤ W w → smallest W c u ≤ w
unfolding smallest
smallest_fewest W c zero w rises enough = omega arith
smallest_fewest W c (suc n) w rises enough =
    cond_both (nat_le c (W n)) (smallest W c n) (suc n) (λ x. x ≤ w)
    (λ _. smallest_fewest W c n w (λ i j a b. rises i j a (omega arith)) enough)
    (λ e. ⊎_elim (λ (h : n < w). h) (λ (h : w ≤ n). omega (arith, rises w n h (omega arith), leb-false c (W n) e)) (cases_lt n w))

-- so a number of units that is worth the amount, where no smaller is, is this one
pub smallest_is : (W : ℕ → ℕ) (c u w : ℕ) → ((i j : ℕ) → i ≤ j → j ≤ u → W i ≤ W j) → w ≤ u → c ≤ W w → ((v : ℕ) → c ≤ W v → w ≤ v) → smallest W c u ≡ w
smallest_is W c u w rises within enough fewest =
    let all : c ≤ W u = omega (arith, enough, rises w u within (omega arith)) in
    omega (arith, smallest_fewest W c u w rises enough, fewest (smallest W c u) (smallest_enough W c u all))

-- so by a lawful worth it meets the rule
credited : (W : ℕ → ℕ) (u b : ℕ) → Lawful W → u ≤ most_units → Credited W u b (min b (W u)) (smallest W (min b (W u)) u)
credited W u b law top =
    record {
      lesser = refl;
      enough = smallest_enough W (min b (W u)) u (min-le_right b (W u));
      fewest = λ w h. smallest_fewest W (min b (W u)) u w (λ i j a z. law.rises i j a (omega arith)) h;
    }

-- two answers to one bill are equal
pub one_credit : (W : ℕ → ℕ) (u b c w d v : ℕ) → Credited W u b c w → Credited W u b d v → (c ≡ d) × (w ≡ v)
one_credit W u b c w d v p q =
    let same : c ≡ d = p.lesser ∙ sym q.lesser in
    (same, omega (arith, p.fewest v (omega (arith, q.enough)), q.fewest w (omega (arith, p.enough))))

-- what is in the ranges has a class,
class_inside : (k u b : ℕ) → in_ranges k u b ≡ true → is_class k ≡ true
class_inside k u b ok = (and_parts (is_class k) _ (and_parts (has_worth k u) _ ok).0).0

-- at most the most units
units_inside : (k u b : ℕ) → in_ranges k u b ≡ true → u ≤ most_units
units_inside k u b ok = leb-true u most_units (and_parts (is_class k) _ (and_parts (has_worth k u) _ ok).0).1

-- and at most the largest bill
pub bill_inside : (k u b : ℕ) → in_ranges k u b ≡ true → b ≤ most_bill
bill_inside k u b ok = leb-true b most_bill (and_parts (has_worth k u) _ ok).1

-- the applied credit inside the ranges and outside
pub applied_inside : (W : ℕ → ℕ → ℕ) (k u b : ℕ) → in_ranges k u b ≡ true → applied_credit W k u b ≡ min b (W k u)
unfolding applied_credit
applied_inside W k u b ok = cond-true (in_ranges k u b) (min b (W k u)) 0 ok

pub applied_outside : (W : ℕ → ℕ → ℕ) (k u b : ℕ) → in_ranges k u b ≡ false → applied_credit W k u b ≡ 0
unfolding applied_credit
applied_outside W k u b out = cond-false (in_ranges k u b) (min b (W k u)) 0 out

-- the units used likewise
used_inside : (W : ℕ → ℕ → ℕ) (k u b : ℕ) → in_ranges k u b ≡ true → units_used W k u b ≡ smallest (W k) (min b (W k u)) u
unfolding units_used
used_inside W k u b ok = cond-true (in_ranges k u b) (smallest (W k) (min b (W k u)) u) 0 ok

pub used_outside : (W : ℕ → ℕ → ℕ) (k u b : ℕ) → in_ranges k u b ≡ false → units_used W k u b ≡ 0
unfolding units_used
used_outside W k u b out = cond-false (in_ranges k u b) (smallest (W k) (min b (W k u)) u) 0 out

-- the lesser of the bill and the units' worth is the applied credit
pub applied_lesser : (W : ℕ → ℕ → ℕ) (k u b x : ℕ) → in_ranges k u b ≡ true → x ≡ worth_of W k u → min b x ≡ applied_credit W k u b
applied_lesser W k u b x ok is =
    ap (λ v. min b v) (is ∙ cond-true (has_worth k u) (W k u) 0 (and_parts (has_worth k u) _ ok).0) ∙ sym (applied_inside W k u b ok)

-- units that meet the rule are the units used
pub used_is : (W : ℕ → ℕ → ℕ) (k u b c w : ℕ) → Lawful (W k) → in_ranges k u b ≡ true → Credited (W k) u b c w → w ≡ units_used W k u b
used_is W k u b c w law ok p =
    (one_credit (W k) u b c w _ _ p (credited (W k) u b law (units_inside k u b ok))).1 ∙ sym (used_inside W k u b ok)

-- what a credit of c cents for w units is
pub record Uses (W : ℕ → ℕ → ℕ) (k u b c w : ℕ) : Type 0 where
  pub value : w ≡ units_used W k u b
  pub within : Within u b c w
  pub meaning : in_ranges k u b ≡ true → TheCredit (W k) u b c w

-- it follows from the two numbers, for any lawful worth
pub meant : (W : ℕ → ℕ → ℕ) (k u b c w : ℕ) → (is_class k ≡ true → Lawful (W k)) → c ≡ applied_credit W k u b → w ≡ units_used W k u b → Uses W k u b c w
meant W k u b c w law applied used =
    record {
      value = used;
      within = record { units = omega (arith, used, used_within W k u b); cents = omega (arith, applied, applied_within W k u b) };
      meaning = λ ok.
          let p : Credited (W k) u b c w = rw (applied ∙ applied_inside W k u b ok, used ∙ used_inside W k u b ok) (credited (W k) u b (law (class_inside k u b ok)) (units_inside k u b ok)) in
          (p, λ d v q. one_credit (W k) u b d v c w q p);
    }

-- inside the ranges, of units that meet the rule
pub uses_inside : (W : ℕ → ℕ → ℕ) (k u b c w : ℕ) → Lawful (W k) → in_ranges k u b ≡ true → Credited (W k) u b c w → Uses W k u b c w
uses_inside W k u b c w law ok p =
    meant W k u b c w (λ _. law) (p.lesser ∙ sym (applied_inside W k u b ok)) (used_is W k u b c w law ok p)

-- and outside, of none, for any worth
pub uses_outside : (W : ℕ → ℕ → ℕ) (k u b c : ℕ) → c ≡ applied_credit W k u b → in_ranges k u b ≡ false → Uses W k u b c 0
uses_outside W k u b c is out =
    record {
      value = sym (used_outside W k u b out);
      within = record { units = omega arith; cents = omega (arith, is, applied_within W k u b) };
      meaning = λ ok. absurd (both_ways _ out ok);
    }
