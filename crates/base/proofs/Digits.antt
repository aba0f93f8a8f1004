-- Amounts digit by digit.
use Rattle.std.specs.Prelude.{◌≡◌, ℕ, ◌+◌, ◌-◌, ◌/◌, ◌%◌, ◌^◌, ◌<◌, ◌≤◌, ◌∷◌, ◌++◌, length, decimal}
use Rattle.std.proofs.Common.{refl, ⊎_elim, arith}
use Rattle.std.proofs.lemmas.Bool.{cases_lt}
use Rattle.std.proofs.lemmas.Fmt.{decimal_digit, decimal_step_wide}
use Rattle.std.proofs.lemmas.List.{append_assoc, length_push, replicate_more}
use Rattle.base.specs.Amounts.{dollars, padded, percent}

one : (m : ℕ) → m < 10 → padded 1 m ≡ decimal m
one m small = rw (decimal_digit m small) refl

module _ (k m : ℕ) where
  few : m < 10 → padded (k + 2) m ≡ padded (k + 1) (m / 10) ++ decimal (m % 10)
  few small =
      let front : m / 10 ≡ 0 = omega arith in
      let last : m % 10 ≡ m = omega arith in
      let zeros : k + 2 - 1 ≡ k + 1 = omega arith in
      let less : k + 1 - 1 ≡ k = omega arith in
      rw (front, last, decimal_digit m small, decimal_digit 0 (omega arith), zeros, less, ← replicate_more {X = ℕ} k 48) refl

  many : m < 10 ^ 64 → 10 ≤ m → padded (k + 2) m ≡ padded (k + 1) (m / 10) ++ decimal (m % 10)
  many h large =
      let zeros : k + 2 - (length (decimal (m / 10)) + 1) ≡ k + 1 - length (decimal (m / 10)) = omega arith in
      rw (decimal_step_wide m large h, decimal_digit (m % 10) (omega arith), length_push (decimal (m / 10)) (48 + m % 10), zeros, append_assoc) refl

  -- the last digit stands behind the others
  behind : m < 10 ^ 64 → padded (k + 2) m ≡ padded (k + 1) (m / 10) ++ decimal (m % 10)
  behind h = ⊎_elim few (many h) (cases_lt m 10)

-- dollars, tens of cents, cents
pub dollars_digits : (c : ℕ) → dollars c ≡ decimal (c / 100) ++ (46 ∷ (decimal (c / 10 % 10) ++ decimal (c % 10)))
dollars_digits c =
    let tens : c % 100 / 10 ≡ c / 10 % 10 = omega arith in
    let ones : c % 100 % 10 ≡ c % 10 = omega arith in
    rw (behind 0 (c % 100) (omega arith), tens, ones, one (c / 10 % 10) (omega arith)) refl

-- percent, tenths, hundredths, thousandths
pub percent_digits : (p : ℕ) → percent p ≡ decimal (p / 1000) ++ (46 ∷ (decimal (p / 100 % 10) ++ (decimal (p / 10 % 10) ++ decimal (p % 10))))
percent_digits p =
    let front : p % 1000 / 10 ≡ p / 10 % 100 = omega arith in
    let last : p % 1000 % 10 ≡ p % 10 = omega arith in
    let tenths : p / 10 % 100 / 10 ≡ p / 100 % 10 = omega arith in
    let hundredths : p / 10 % 100 % 10 ≡ p / 10 % 10 = omega arith in
    rw (behind 1 (p % 1000) (omega arith), front, last, behind 0 (p / 10 % 100) (omega arith), tenths, hundredths, one (p / 100 % 10) (omega arith), append_assoc) refl
