-- Quotients rounded up, and the smallest number of units that a rate makes worth an amount.
use Rattle.std.specs.Prelude.{◌≡◌, ℕ, ◌+◌, ◌*◌, ◌/◌, ◌%◌, ◌<◌, ◌≤◌, min, true, false, List}
use Rattle.std.proofs.Common.{arith, add-mul, le-div_iff_mul-le, mod-lt, mul-le-mul_right, one-mul, sym, ◌∙◌, ⊎_elim}
use Rattle.std.proofs.lemmas.Nat.{div-add-mod'}
use Rattle.std.proofs.lemmas.Bool.{and_parts, cases_Bool, cases_lt}
use Rattle.crediting.proofs.Fewest.{Uses, applied_inside, applied_outside, meant, used_is, used_outside}
use Rattle.crediting.specs.Credits.{Credited, applied_credit, units_used}
use Rattle.crediting.specs.Lawfulness.{by_rates_lawful, cents_lawful, class_rate}
use Rattle.crediting.specs.Limits.{one_cent}
use Rattle.crediting.specs.Ranges.{has_worth, in_ranges}
use Rattle.crediting.specs.Worths.{RatesInRange, by_rates, cents, rate_of}

-- x / r rounded up, times r, is at least x
pub up_enough : (x r : ℕ) → 0 < r → x ≤ (x / r + min 1 (x % r)) * r
up_enough x r pos =
    rw add-mul
    (⊎_elim
    (λ (h : 0 < x % r). let e : min 1 (x % r) ≡ 1 = omega arith in rw (e, one-mul) (omega (arith, div-add-mod' x r, mod-lt x pos)))
    (λ (h : x % r ≤ 0). omega (arith, div-add-mod' x r))
    (cases_lt 0 (x % r)))

-- and it is the smallest such number
pub up_fewest : (x r w : ℕ) → 0 < r → x ≤ w * r → x / r + min 1 (x % r) ≤ w
up_fewest x r w pos h =
    ⊎_elim
    (λ (l : w < x / r + min 1 (x % r)).
    ⊎_elim
    (λ (m : w < x / r). omega (arith, div-add-mod' x r, add-mul w 1 r, one-mul r, mul-le-mul_right {m = w + 1} {n = x / r} r (omega arith)))
    (λ (m : x / r ≤ w). omega (arith, div-add-mod' x r, mul-le-mul_right {m = w} {n = x / r} r (omega arith)))
    (cases_lt w (x / r)))
    (λ (l : x / r + min 1 (x % r) ≤ w). l)
    (cases_lt w (x / r + min 1 (x % r)))

-- by a rate of at least 1, the units used are the applied credit over the rate, rounded up
pub by_rate : (r u b c : ℕ) → 0 < r → c ≡ min b (u * r / one_cent) → Credited (λ v. v * r / one_cent) u b c (c * one_cent / r + min 1 (c * one_cent % r))
by_rate r u b c pos e =
    record {
      lesser = e;
      enough = (le-div_iff_mul-le (omega arith)).1 (up_enough (c * one_cent) r pos);
      fewest = λ w h. up_fewest (c * one_cent) r w pos ((le-div_iff_mul-le (omega arith)).0 h);
    }

-- the units used in range, by the class's rate
pub used_rated : (rs : List ℕ) (k u b c r w : ℕ) → RatesInRange rs → in_ranges k u b ≡ true → r ≡ rate_of rs k → c ≡ applied_credit (by_rates rs) k u b → w ≡ c * one_cent / r + min 1 (c * one_cent % r) → w ≡ units_used (by_rates rs) k u b
used_rated rs k u b c r w all ok is pays rounds =
    let worth : has_worth k u ≡ true = (and_parts _ _ ok).0 in
    let class = (and_parts _ _ worth).0 in
    let p : Credited (by_rates rs k) u b c w = rw (rounds, is) (by_rate (rate_of rs k) u b c (class_rate rs k all class).0 (pays ∙ applied_inside (by_rates rs) k u b ok)) in
    used_is (by_rates rs) k u b c w (by_rates_lawful rs k all class) ok p

-- so a credit of so many units uses what it should
pub uses_rated : (rs : List ℕ) (k u b c r w : ℕ) → RatesInRange rs → in_ranges k u b ≡ true → r ≡ rate_of rs k → c ≡ applied_credit (by_rates rs) k u b → w ≡ c * one_cent / r + min 1 (c * one_cent % r) → Uses (by_rates rs) k u b c w
uses_rated rs k u b c r w all ok is pays rounds =
    meant (by_rates rs) k u b c w (λ class. by_rates_lawful rs k all class) pays (used_rated rs k u b c r w all ok is pays rounds)

-- a unit that is a cent pays one cent
pub used_cents : (k u b c : ℕ) → c ≡ applied_credit cents k u b → c ≡ units_used cents k u b
used_cents k u b c pays =
    ⊎_elim
    (λ (ok : in_ranges k u b ≡ true). used_is cents k u b c c (cents_lawful k) ok (record { lesser = pays ∙ applied_inside cents k u b ok; enough = omega arith; fewest = λ w h. h }))
    (λ (out : in_ranges k u b ≡ false). pays ∙ (applied_outside cents k u b out ∙ sym (used_outside cents k u b out)))
    (cases_Bool (in_ranges k u b))
