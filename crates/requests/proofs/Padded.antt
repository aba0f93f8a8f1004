-- A number is printed in its field with leading zeros.
use Rattle.std.proofs.Common.{◌≡◌, ℕ, zero, suc, ◌+◌, ◌-◌, ◌/◌, ◌%◌, ◌^◌, ◌<◌, ◌≤◌, true, false, List, [], ◌∷◌, ◌++◌, length, replicate, codes, decimal, refl, add-one, pow-suc, arith}
use Rattle.std.specs.Fmt.{padded_integral, format_spec, char_count}
use Rattle.std.proofs.lemmas.Fmt.{decimal_by_steps}
use Rattle.std.proofs.lemmas.List.{append_assoc, append-nil, length_push, replicate_more}
use Rattle.accounts.specs.declared.record.Line.{Line}
use Rattle.accounts.specs.declared.record.Size.{Size}
use Rattle.accounts.specs.declared.record.Size.TheVariants.{Small, Large}
use Rattle.accounts.specs.declared.record.Kind.{Kind}
use Rattle.accounts.specs.declared.record.Kind.TheVariants.{Member, Anchor}
use Rattle.accounts.specs.Marks.{size_letter, size_text, kind_letter, kind_text}
use Rattle.requests.specs.Packing.{digits, form, holds}
use Rattle.requests.proofs.Fields.{widths}

-- what `{n:0w}` writes
abbrev pub padded : ℕ → ℕ → List ℕ
padded w n = padded_integral (format_spec 32 0 4 w (2 ^ 64 - 1)) false [] (decimal n)

-- a zero is written in zeros
zeros : (w : ℕ) → digits w 0 ≡ replicate w 48
unfolding digits
zeros zero = refl
zeros (suc w) = rw (zeros w, replicate_more) (rw add-one refl)

-- a number in its width is its digits with zeros in front
abbrev Filled : ℕ → List ℕ → Type 0
Filled n ds = (w : ℕ) → 0 < w → n < 10 ^ w → digits w n ≡ replicate (w - length ds) 48 ++ ds

-- so is a number of one digit
one : (n : ℕ) → n < 10 → Filled n ((48 + n) ∷ [])
unfolding digits
one n h zero some fits = absurd (omega arith)
one n h (suc w) some fits =
    let none : n / 10 ≡ 0 = omega arith in
    let last : n % 10 ≡ n = omega arith in
    let left : suc w - 1 ≡ w = omega arith in
    rw (none, last, zeros w, left)

-- and a number of one digit more
more : (n : ℕ) (ds : List ℕ) → 10 ≤ n → Filled (n / 10) ds → Filled n (ds ++ (48 + n % 10) ∷ [])
unfolding digits
more n ds h ih zero some fits = absurd (omega arith)
more n ds h ih (suc zero) some fits = absurd (omega arith)
more n ds h ih (suc (suc w)) some fits =
    let front = ih (suc w) (omega arith) (omega (arith, pow-suc 10 (suc w))) in
    let left : suc (suc w) - (length ds + 1) ≡ suc w - length ds = omega arith in
    rw (front, length_push, left) (append_assoc _ ds _)

-- digits by their definition are those of the number, with zeros in front
digits_filled : (w n : ℕ) → 0 < w → n < 10 ^ w → n < 2 ^ 64 → digits w n ≡ replicate (w - length (decimal n)) 48 ++ decimal n
digits_filled w n some fits small = decimal_by_steps Filled one more n small w some fits

-- what is printed in a width are those digits
pub padded_digits : (w n : ℕ) → 0 < w → n < 10 ^ w → n < 2 ^ 64 → padded w n ≡ digits w n
unfolding padded_integral char_count
padded_digits w n some fits small =
    let even : w - length (decimal n) - 0 - 0 ≡ w - length (decimal n) = omega arith in
    rw (even, append-nil, digits_filled w n some fits small)

-- the letters of size and kind as they are printed
letters : (s : Size) (k : Kind) → size_text s ++ (codes " " ++ kind_text k) ≡ size_letter s ∷ 32 ∷ kind_letter k ∷ []
letters Small Member = refl
letters Small Anchor = refl
letters Large Member = refl
letters Large Anchor = refl

-- what the fields of a line are printed as
pub form_padded : (l : Line) → holds l ≡ true → padded 11 l.account ++ (codes " " ++ (padded 6 l.percentage ++ (codes " " ++ (padded 4 l.savings ++ (codes " " ++ (padded 2 l.class ++ (codes " " ++ (size_text l.size ++ (codes " " ++ kind_text l.kind))))))))) ≡ form l
unfolding form
form_padded l h =
    let w = widths l h in
    rw (padded_digits 11 l.account (omega arith) w.account (omega arith), padded_digits 6 l.percentage (omega arith) w.percentage (omega arith), padded_digits 4 l.savings (omega arith) w.savings (omega arith), padded_digits 2 l.class (omega arith) w.class (omega arith), letters l.size l.kind)
    (simp append_assoc)
