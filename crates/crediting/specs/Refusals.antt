-- Why a list of rates is refused.
use Rattle.std.specs.Prelude.{◌≡◌, ℕ, ◌<◌, Bool, true, false, cond, not, List, length, position, Some, None, Option, Ok, Err, MatchBool, codes, Result, ◌==◌, slice_index}
use Rattle.crediting.specs.declared.rates.RatesRefusal.{RatesRefusal}
use Rattle.crediting.specs.declared.rates.RatesRefusal.TheVariants.{WrongCount, OutOfRange}
use Rattle.crediting.specs.Limits.{rate_count}
use Rattle.crediting.specs.Worths.{RatesInRange, rate_in_range}

-- Each case's number,
abbrev pub number : RatesRefusal → ℕ
number WrongCount = 8
number (OutOfRange p) = 8

-- the place of the rate at fault, 0 where there is none,
abbrev pub place : RatesRefusal → ℕ
place WrongCount = 0
place (OutOfRange p) = p

-- whether a refusal is about a rate,
abbrev pub names_place : RatesRefusal → Bool
names_place WrongCount = false
names_place (OutOfRange p) = true

-- and why, in words.
abbrev pub reason : RatesRefusal → List ℕ
reason WrongCount = codes "there are not sixteen rates"
reason (OutOfRange p) = codes "the rate is not 1 to 1000000"

-- Rates are refused where there is not one for each class, or else for the first that is out of range.
abbrev pub unless_out_of_range : Option ℕ → Result (Unit {0}) RatesRefusal
unless_out_of_range None = Ok tt
unless_out_of_range (Some place) = Err (OutOfRange place)

abbrev pub judged : List ℕ → Result (Unit {0}) RatesRefusal
judged rs =
    cond (length rs == rate_count) (unless_out_of_range (position (λ r. not (rate_in_range r)) rs)) (Err WrongCount)

-- Place p is that of the first rate out of range.
pub record FirstOutOfRange (rs : List ℕ) (p : ℕ) : Type 0 where
  pub within : p < length rs
  pub out : rate_in_range (slice_index rs p) ≡ false
  pub earlier : (i : ℕ) → i < p → rate_in_range (slice_index rs i) ≡ true

-- What an answer to a list of rates means: rates that are accepted are one for each class, each in range; a refusal has
-- the number 8, and the place 0 for a wrong number of rates and else that of the first out of range.
abbrev pub Judges : List ℕ → Result (Unit {0}) RatesRefusal → Type 0
Judges rs (Ok _) = RatesInRange rs
Judges rs (Err e) =
    (number e ≡ 8) × MatchBool (length rs == rate_count) (FirstOutOfRange rs (place e)) (place e ≡ 0)

-- A list of rates is refused at one place and no other.
abbrev pub OnePlace : List ℕ → Type 0
OnePlace rs = (e f : RatesRefusal) → Judges rs (Err e) → Judges rs (Err f) → place e ≡ place f
