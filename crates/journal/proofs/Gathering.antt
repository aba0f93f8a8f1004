-- Digits behind a number, with a most.
use Rattle.std.proofs.Common.{◌≡◌, ℕ, ◌+◌, ◌-◌, ◌*◌, ◌^◌, ◌<◌, ◌≤◌, min, true, false, List, [], ◌∷◌, length, get_or, drop, Some, None, arith}
use Rattle.std.proofs.lemmas.List.{drop_all, drop_more}
use Rattle.std.specs.Char.{is_ascii_digit}
use Rattle.journal.specs.Numbers.{digits_after, number_of}

-- past the most, how far does not matter
pub past : (most m n : ℕ) (bs : List ℕ) → most ≤ m → most ≤ n → digits_after most m bs ≡ digits_after most n bs
unfolding digits_after
past most m n [] h k = grind arith
past most m n (b ∷ bs) h k = grind (arith, past most (m * 10 + (b - 48)) (n * 10 + (b - 48)) bs (omega arith) (omega arith))

pub capped : (most n : ℕ) (bs : List ℕ) → digits_after most (min n most) bs ≡ digits_after most n bs
capped most n bs = grind (arith, past most (min n most) n bs)

pub digit_next : (most n i : ℕ) (bs : List ℕ) → i < length bs → is_ascii_digit (get_or bs i 0) ≡ true → most < 2 ^ 64 → digits_after most n (drop i bs) ≡ digits_after most (min (min (min (n * 10) (2 ^ 64 - 1) + (get_or bs i 0 - 48)) (2 ^ 64 - 1)) most) (drop (i + 1) bs)
unfolding digits_after
digit_next most n i bs h d f = grind (arith, drop_more bs i 0 h, capped most (n * 10 + (get_or bs i 0 - 48)) (drop (i + 1) bs))

pub other_next : (most n i : ℕ) (bs : List ℕ) → i < length bs → is_ascii_digit (get_or bs i 0) ≡ false → digits_after most n (drop i bs) ≡ None
unfolding digits_after
other_next most n i bs h d = grind (arith, drop_more bs i 0 h)

pub ended : (most n i : ℕ) (bs : List ℕ) → length bs ≤ i → n ≤ most → digits_after most n (drop i bs) ≡ Some n
unfolding digits_after
ended most n i bs h k = grind (arith, drop_all i bs h)

pub some_digits : (most : ℕ) (bs : List ℕ) → 0 < length bs → digits_after most 0 bs ≡ number_of most bs
some_digits most bs h = grind arith

pub ruleset digits = (digit_next, other_next, ended, some_digits)
