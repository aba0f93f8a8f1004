-- The fields of a line that was written read back as they were.
use Rattle.std.proofs.Common.{◌≡◌, ℕ, zero, suc, ◌+◌, ◌/◌, ◌%◌, ◌^◌, ◌<◌, true, List, [], ◌∷◌, ◌++◌, length, get_or, drop, Ok, sym, refl, subst, pow-suc, zero-add, arith}
use Rattle.std.proofs.lemmas.List.{append_assoc, get_or_at}
use Rattle.std.proofs.lemmas.Bool.{lt-ltb}
use Rattle.std.proofs.lemmas.Bool.Decides.{nat_tests}
use Rattle.accounts.specs.declared.record.Line.{Line}
use Rattle.accounts.specs.declared.record.Size.{Size}
use Rattle.accounts.specs.declared.record.Size.TheVariants.{Small, Large}
use Rattle.accounts.specs.declared.record.Kind.{Kind}
use Rattle.accounts.specs.declared.record.Kind.TheVariants.{Member, Anchor}
use Rattle.requests.specs.Form.{all_digits, number, number_at, letter, remark_space, line_of}
use Rattle.accounts.specs.Marks.{size_of, size_letter, kind_of, kind_letter}
use Rattle.requests.proofs.Numerals.{digit_true}
use Rattle.requests.specs.Packing.{Item, digits, form, text, holds}
use Rattle.requests.proofs.Texts.{length_digits}

-- the digits of a number that they hold write that number
digits_back : (w n : ℕ) (rest : List ℕ) → n < 10 ^ w → (all_digits (digits w n ++ rest) 0 w ≡ true) × (number (digits w n ++ rest) 0 w ≡ n)
unfolding digits all_digits number
digits_back zero n rest h = (refl, omega arith)
digits_back (suc w) n rest h =
    let d = 48 + n % 10 in
    let front = digits_back w (n / 10) (d ∷ rest) (omega (arith, pow-suc 10 w)) in
    let last = get_or_at (digits w (n / 10)) d rest 0 w (length_digits w (n / 10)) in
    let split : digits (suc w) n ++ rest ≡ digits w (n / 10) ++ d ∷ rest = append_assoc (digits w (n / 10)) (d ∷ []) rest in
    subst (λ bs. (all_digits bs 0 (suc w) ≡ true) × (number bs 0 (suc w) ≡ n)) (sym split)
    (rw (zero-add w, last, front.0, front.1) (digit_true d (omega arith) (omega arith), omega arith))

-- a number that was written reads as it was
number_back : (w n : ℕ) (rest : List ℕ) → n < 10 ^ w → number_at (digits w n ++ rest) 0 w ≡ Ok n
number_back w n rest h = let d = digits_back w n rest h in rw (d.0, d.1)

-- the letter of a size reads as that size
size_back : (s : Size) → letter (size_of (size_letter s)) ≡ Ok s
size_back Small = refl
size_back Large = refl

-- the letter of a kind reads as that kind
kind_back : (k : Kind) → letter (kind_of (kind_letter k)) ≡ Ok k
kind_back Member = refl
kind_back Anchor = refl

-- the widths of the fields of a line that a file can hold
pub record Widths (l : Line) : Type 0 where
  pub account : l.account < 10 ^ 11
  pub percentage : l.percentage < 10 ^ 6
  pub savings : l.savings < 10 ^ 4
  pub class : l.class < 10 ^ 2

-- what the test of the numbers says of each
pub widths : (l : Line) → holds l ≡ true → Widths l
widths l h = record {
  account = grind (arith, nat_tests);
  percentage = grind (arith, nat_tests);
  savings = grind (arith, nat_tests);
  class = grind (arith, nat_tests);
}

-- the numbers of a line, where they stand
numbers : (e : Item) → Widths e.0 → (number_at (text e) 0 11 ≡ Ok e.0.account) × (number_at (text e) 12 6 ≡ Ok e.0.percentage) × (number_at (text e) 19 4 ≡ Ok e.0.savings) × (number_at (text e) 24 2 ≡ Ok e.0.class)
unfolding text form digits all_digits number
numbers e h = (
  number_back 11 e.0.account (drop 11 (text e)) h.account,
  number_back 6 e.0.percentage (drop 18 (text e)) h.percentage,
  number_back 4 e.0.savings (drop 23 (text e)) h.savings,
  number_back 2 e.0.class (drop 26 (text e)) h.class,
)

-- the bytes between and behind them
bytes : (e : Item) → (get_or (text e) 11 0 ≡ 32) × (get_or (text e) 18 0 ≡ 32) × (get_or (text e) 23 0 ≡ 32) × (get_or (text e) 26 0 ≡ 32) × (get_or (text e) 27 0 ≡ size_letter e.0.size) × (get_or (text e) 28 0 ≡ 32) × (get_or (text e) 29 0 ≡ kind_letter e.0.kind)
unfolding text form digits
bytes e = (refl, refl, refl, refl, refl, refl, refl)

-- behind the fields of a line stands nothing, or a space and the remark
remark_back : (l : Line) (r : List ℕ) → remark_space (text (l, r)) ≡ Ok tt
unfolding text form digits
remark_back l [] = refl
remark_back l (b ∷ r) = rw (lt-ltb 30 (length (text (l, b ∷ r))) (omega arith))

-- a line that was written reads as it was
pub text_back : (e : Item) → holds e.0 ≡ true → line_of (text e) ≡ Ok e.0
text_back e h =
    let n = numbers e (widths e.0 h) in
    let b = bytes e in
    rw (n.0, b.0, n.1, b.1, n.2, b.2, n.3, b.3, b.4, size_back e.0.size, b.5, b.6, kind_back e.0.kind, remark_back e.0 e.1)
