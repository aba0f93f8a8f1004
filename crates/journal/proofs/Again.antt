-- A text of words with a space between two of them has these words, and a number's digits give the number.
use Rattle.std.proofs.Common.{◌≡◌, ℕ, ◌+◌, ◌-◌, ◌*◌, ◌^◌, ◌<◌, ◌≤◌, min, true, not, ltb, List, [], ◌∷◌, ◌++◌, length, Some, decimal, sym, refl, ap, append_assoc, append-nil, arith, rules}
use Rattle.std.proofs.lemmas.Fmt.{digits_decimal, digits_value-decimal, decimal_nonempty}
use Rattle.std.proofs.lemmas.Str.Parse.{IsNumeralModel, numerals_by_fold}
use Rattle.std.proofs.lemmas.Bool.{and_parts}
use Rattle.std.proofs.lemmas.Bool.Decides.{nat_tests}
use Rattle.std.specs.Char.{is_ascii_digit}
use Rattle.std.specs.Str.{all_ascii_digits}
use Rattle.journal.specs.Numbers.{digits_after, number_of}
use Rattle.journal.specs.Texts.{no_space, is_word}
use Rattle.journal.specs.Words.{is_space, closed, words_from, words}
use Rattle.journal.proofs.Cutting.{closed_some}
use Rattle.journal.proofs.Gathering.{some_digits}

-- a word so far, with the bytes of a word behind it and then a space
joins : (v w bs : List ℕ) → no_space w ≡ true → words_from v (w ++ 32 ∷ bs) ≡ closed (v ++ w) (words bs)
unfolding words_from
joins v [] bs h = ap (λ x. closed x (words bs)) (sym (append-nil v))
joins v (b ∷ w) bs h =
    let p = and_parts (not (is_space b)) (no_space w) h in
    grind (arith, p, joins (v ++ b ∷ []) w bs p.1, append_assoc)

-- and then the line's end
ends : (v w : List ℕ) → no_space w ≡ true → words_from v w ≡ closed (v ++ w) []
unfolding words_from
ends v [] h = ap (λ x. closed x []) (sym (append-nil v))
ends v (b ∷ w) h =
    let p = and_parts (not (is_space b)) (no_space w) h in
    grind (arith, p, ends (v ++ b ∷ []) w p.1, append_assoc)

-- words with a space between two of them
abbrev pub joined : List (List ℕ) → List ℕ
joined [] = []
joined (w ∷ []) = w
joined (w ∷ v ∷ ws) = w ++ 32 ∷ joined (v ∷ ws)

abbrev pub AreWords : List (List ℕ) → Type 0
AreWords [] = Unit {0}
AreWords (w ∷ ws) = (is_word w ≡ true) × AreWords ws

pub words_joined : (ws : List (List ℕ)) → AreWords ws → words (joined ws) ≡ ws
unfolding words_from
words_joined [] h = refl
words_joined (w ∷ []) h =
    let p = and_parts (ltb 0 (length w)) (no_space w) h.0 in
    grind (arith, p, ends [] w p.1, closed_some)
words_joined (w ∷ v ∷ ws) h =
    let p = and_parts (ltb 0 (length w)) (no_space w) h.0 in
    grind (arith, p, joins [] w (joined (v ∷ ws)) p.1, closed_some, words_joined (v ∷ ws) h.1)

-- decimal digits
abbrev read_on : ℕ → List ℕ → ℕ
read_on n [] = n
read_on n (c ∷ cs) = read_on (n * 10 + (c - 48)) cs

own : IsNumeralModel (λ ds. all_ascii_digits ds ≡ true) (read_on 0)
own = numerals_by_fold _ (search rules) read_on (search rules)

digit_solid : (b : ℕ) → is_ascii_digit b ≡ true → not (is_space b) ≡ true
digit_solid b h = grind (arith, nat_tests)

solid : (ds : List ℕ) → all_ascii_digits ds ≡ true → no_space ds ≡ true
solid [] h = refl
solid (b ∷ ds) h =
    let p = and_parts (is_ascii_digit b) (all_ascii_digits ds) h in
    grind (arith, digit_solid b p.0, solid ds p.1)

gathers : (most n : ℕ) (ds : List ℕ) → all_ascii_digits ds ≡ true → digits_after most n ds ≡ Some (min (read_on n ds) most)
unfolding digits_after
gathers most n [] h = refl
gathers most n (b ∷ ds) h =
    let p = and_parts (is_ascii_digit b) (all_ascii_digits ds) h in
    grind (arith, p, gathers most (n * 10 + (b - 48)) ds p.1)

pub decimal_word : (n : ℕ) → n < 2 ^ 64 → is_word (decimal n) ≡ true
decimal_word n h = grind (arith, decimal_nonempty n h, solid (decimal n) (digits_decimal own n h))

pub number_decimal : (most n : ℕ) → n < 2 ^ 64 → n ≤ most → number_of most (decimal n) ≡ Some n
number_decimal most n h k =
    grind (arith, some_digits most (decimal n) (decimal_nonempty n h), gathers most 0 (decimal n) (digits_decimal own n h), digits_value-decimal own n h)
