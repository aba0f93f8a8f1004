-- Spaces, as a hole with nothing in it writes them.
use Rattle.std.proofs.Common.{◌≡◌, ℕ, zero, suc, ◌-◌, ◌^◌, eqb, false, [], ◌∷◌, replicate, refl, ap, arith}
use Rattle.std.proofs.lemmas.Bool.{ne_eqb}
use Rattle.std.specs.Fmt.{char_count, format_spec, padded, styled_text, take_chars}
use Rattle.std.specs.Char.{encode_utf8}
use Rattle.std.specs.List.{repeat}

one_by_one : (n : ℕ) → repeat n (encode_utf8 32) ≡ replicate n 32
unfolding encode_utf8
one_by_one zero = refl
one_by_one (suc n) = ap (λ x. 32 ∷ x) (one_by_one n)

pub spaces : (n : ℕ) → styled_text (format_spec 32 0 0 n (2 ^ 64 - 1)) [] ≡ replicate n 32
unfolding padded char_count take_chars
spaces zero = refl
spaces (suc n) =
    let some : eqb (suc n) 0 ≡ false = ne_eqb _ _ (omega arith) in
    let all : suc n - 0 - 0 ≡ suc n = omega arith in
    rw (some, all) (one_by_one (suc n))
