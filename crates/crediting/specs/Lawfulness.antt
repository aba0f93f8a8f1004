-- Lemmas, which need not be believed: the worth of each method is lawful. The methods' law `lawful` cites them.
use Rattle.std.specs.Prelude.{◌≡◌, ℕ, ◌*◌, ◌-◌, ◌/◌, ◌≤◌, true, List, nat_le}
use Rattle.std.proofs.Common.{arith, mul-le-mul, mul-le-mul_right, refl, zero-mul}
use Rattle.std.proofs.lemmas.Bool.{and_parts, leb-true}
use Rattle.base.specs.Limits.{classes}
use Rattle.crediting.specs.Credits.{Lawful}
use Rattle.crediting.specs.Limits.{most_rate, one_cent}
use Rattle.crediting.specs.Ranges.{is_class}
use Rattle.crediting.specs.Worths.{RatesInRange, by_rates, cents, rate_of}

-- a unit that is a cent has a lawful worth
pub cents_lawful : (k : ℕ) → Lawful (cents k)
cents_lawful k = record { nothing = refl; rises = λ u v h _. h; bounded = λ u h. omega arith }

-- the rate of each class is in range
pub class_rate : (rs : List ℕ) (k : ℕ) → RatesInRange rs → is_class k ≡ true → (1 ≤ rate_of rs k) × (rate_of rs k ≤ most_rate)
class_rate rs k all is =
    let low : 1 ≤ k = leb-true 1 k (and_parts (nat_le 1 k) (nat_le k classes) is).0 in
    let high : k ≤ classes = leb-true k classes (and_parts (nat_le 1 k) (nat_le k classes) is).1 in
    all.1 (k - 1) (omega arith)

-- the worth by a rate of at most the most is lawful
pub rate_lawful : (r : ℕ) → r ≤ most_rate → Lawful (λ v. v * r / one_cent)
rate_lawful r top =
    record {
      nothing = omega (arith, zero-mul r);
      rises = λ u v h _. omega (arith, mul-le-mul_right {m = u} {n = v} r h);
      bounded = λ u h. omega (arith, mul-le-mul h top);
    }

-- so that by rates in range is
pub by_rates_lawful : (rs : List ℕ) (k : ℕ) → RatesInRange rs → is_class k ≡ true → Lawful (by_rates rs k)
by_rates_lawful rs k all is = rate_lawful (rate_of rs k) (class_rate rs k all is).1
