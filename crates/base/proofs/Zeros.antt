-- A number with zeros in front, and the ones of a decimal.
use Rattle.std.proofs.Common.{◌≡◌, ℕ, zero, suc, ◌-◌, ◌^◌, ◌<◌, eqb, false, length, refl, arith}
use Rattle.std.proofs.lemmas.Bool.{ne_eqb}
use Rattle.std.proofs.lemmas.List.{append-nil}
use Rattle.std.proofs.Math.Nat.{div-eq_of_lt, mod-eq_of_lt}
use Rattle.std.specs.Fmt.{char_count, decimal, format_spec, padded_integral, styled_decimal}
use Rattle.base.specs.Amounts.{padded}

-- what a hole with a width and zeros writes
pub hole : (w n : ℕ) → styled_decimal (format_spec 32 0 4 w (2 ^ 64 - 1)) n ≡ padded w n
unfolding char_count padded_integral
hole zero n = let none : 0 - length (decimal n) ≡ 0 = omega arith in rw none refl
hole (suc w) n =
    let some : eqb (suc w) 0 ≡ false = ne_eqb _ _ (omega arith) in
    let gap : suc w - length (decimal n) - 0 - 0 ≡ suc w - length (decimal n) = omega arith in
    rw (some, gap) (simp append-nil)

pub one_pos : (k : ℕ) → 0 < 10 ^ k
one_pos zero = omega arith
one_pos (suc k) = grind (arith, one_pos k)

pub ruleset decimal_steps = (hole, one_pos, div-eq_of_lt, mod-eq_of_lt)
