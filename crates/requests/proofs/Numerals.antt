-- The number that digits write, digit by digit.
use Rattle.std.proofs.Common.{◌≡◌, ℕ, zero, suc, ◌+◌, ◌^◌, ◌<◌, ◌≤◌, true, false, List, get_or, inl, inr, pow-suc, arith}
use native.Mathlib.Nat.{pow-le-pow_right}
use Rattle.std.proofs.lemmas.Bool.{and_left, and_right, cases_order}
use Rattle.std.proofs.lemmas.Bool.Decides.{nat_tests}
use Rattle.requests.specs.Form.{all_digits, number, is_digit}

-- the bytes of digits
pub digit_true : (b : ℕ) → 48 ≤ b → b ≤ 57 → is_digit b ≡ true
digit_true b low high = grind (arith, nat_tests)

-- one byte that is no digit spoils a number
pub not_digit : (bs : List ℕ) (at w i : ℕ) → i < w → is_digit (get_or bs (at + i) 0) ≡ false → all_digits bs at w ≡ false
unfolding all_digits
not_digit bs at zero i l e = absurd (omega arith)
not_digit bs at (suc w) i l e =
    let here = is_digit (get_or bs (at + w) 0) in
    elim (cases_order i w) [
      | inl same ↦ and_right (all_digits bs at w) here (rw (← same) e)
      | inr (inl less) ↦ and_left (all_digits bs at w) here (not_digit bs at w i less e)
      | inr (inr more) ↦ absurd (omega arith)
    ]

-- w digits write a number below ten to the w
pub number_lt : (bs : List ℕ) (at w : ℕ) → all_digits bs at w ≡ true → number bs at w < 10 ^ w
unfolding number all_digits
number_lt bs at zero h = omega arith
number_lt bs at (suc w) h =
    let before : all_digits bs at w ≡ true = grind (arith, nat_tests) in
    let high : get_or bs (at + w) 0 ≤ 57 = grind (arith, nat_tests) in
    omega (arith, pow-suc 10 w, number_lt bs at w before)

-- up to 18 digits there is room for one more
pub number_room : (bs : List ℕ) (at w : ℕ) → all_digits bs at w ≡ true → w < 18 → number bs at w < 10 ^ 18
number_room bs at w h l =
    let p : 10 ^ w ≤ 10 ^ 18 = pow-le-pow_right {n = 10} (omega arith) {i = w} {j = 18} (omega arith) in
    omega (arith, number_lt bs at w h)
