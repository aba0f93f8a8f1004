-- The form of a line of a request file, as `20010000001 010000 1000 02 S M`, with or without a remark.
use Rattle.std.specs.Prelude.{ℕ, zero, suc, ◌+◌, ◌-◌, ◌*◌, Bool, true, cond, ◌&&◌, List, length, Option, Ok, Err, Result, ◌==◌, nat_le, nat_lt, slice_index}
use Rattle.std.specs.Option.{ok_or}
use Rattle.accounts.specs.declared.record.Line.{Line}
use Rattle.accounts.specs.Marks.{size_of, kind_of}
use Rattle.requests.specs.Limits.{field_bytes, account_digits, percentage_digits, savings_digits, class_digits}
use Rattle.requests.specs.declared.fault.FieldFault.{FieldFault}
use Rattle.requests.specs.declared.fault.FieldFault.TheVariants.{NotDigit, NotSpace, NotLetter}

-- what follows where the first part is in order; otherwise the first part's fault stands
abbrev pub then : {A B E : Type 0} → Result A E → (A → Result B E) → Result B E
then (Ok a) f = f a
then (Err e) f = Err e

-- `0` to `9` are the bytes 48 to 57
abbrev pub is_digit : ℕ → Bool
is_digit b = nat_le 48 b && nat_le b 57

-- whether the w bytes from `at` on are digits
unfoldable pub all_digits : List ℕ → ℕ → ℕ → Bool
all_digits bs at zero = true
all_digits bs at (suc w) = all_digits bs at w && is_digit (slice_index bs (at + w))

-- a number with one digit more behind it
abbrev pub and_digit : ℕ → ℕ → ℕ
and_digit n b = n * 10 + (b - 48)

-- The number that the w bytes from `at` on write in decimal. Read from the left, a further digit goes behind the number
-- so far; no digit writes 0.
unfoldable pub number : List ℕ → ℕ → ℕ → ℕ
number bs at zero = 0
number bs at (suc w) = and_digit (number bs at w) (slice_index bs (at + w))

-- the number field of w bytes from `at` on
abbrev pub number_at : List ℕ → ℕ → ℕ → Result ℕ FieldFault
number_at bs at w = cond (all_digits bs at w) (Ok (number bs at w)) (Err NotDigit)

-- a number with one byte more, which has to be a digit
abbrev pub with_digit : ℕ → ℕ → Result ℕ FieldFault
with_digit n b = cond (is_digit b) (Ok (and_digit n b)) (Err NotDigit)

-- a space is the byte 32
abbrev pub space_at : List ℕ → ℕ → Result (Unit {0}) FieldFault
space_at bs at = cond (slice_index bs at == 32) (Ok tt) (Err NotSpace)

-- a mark, or the fault where there is none
abbrev pub letter : {A : Type 0} → Option A → Result A FieldFault
letter mark = ok_or mark NotLetter

-- a line longer than its fields has a space before the remark
abbrev pub remark_space : List ℕ → Result (Unit {0}) FieldFault
remark_space bs = cond (nat_lt field_bytes (length bs)) (space_at bs field_bytes) (Ok tt)

-- The fields of a line in their order, single spaces between them, or the first that is wrong: account, percentage,
-- savings rate and class in digits, and the letters of size and kind.
abbrev pub line_of : List ℕ → Result Line FieldFault
line_of bs =
    then (number_at bs 0 account_digits) (λ account.
    then (space_at bs 11) (λ _.
    then (number_at bs 12 percentage_digits) (λ percentage.
    then (space_at bs 18) (λ _.
    then (number_at bs 19 savings_digits) (λ savings.
    then (space_at bs 23) (λ _.
    then (number_at bs 24 class_digits) (λ class.
    then (space_at bs 26) (λ _.
    then (letter (size_of (slice_index bs 27))) (λ size.
    then (space_at bs 28) (λ _.
    then (letter (kind_of (slice_index bs 29))) (λ kind.
    then (remark_space bs) (λ _.
    Ok (record {
      account = account;
      percentage = percentage;
      savings = savings;
      class = class;
      size = size;
      kind = kind;
    })))))))))))))
