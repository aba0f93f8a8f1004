-- What units are worth by each method.
use Rattle.std.specs.Prelude.{◌≡◌, ℕ, ◌-◌, ◌*◌, ◌/◌, ◌<◌, ◌≤◌, Bool, ◌&&◌, List, length, nat_le, slice_index}
use Rattle.crediting.specs.Limits.{one_cent, most_rate, rate_count}

-- The mark of a method's unit is a letter: `C` for cents, `K` for kilowatt-hours.
abbrev pub cents_mark : ℕ
cents_mark = 67

abbrev pub kilowatt_hours_mark : ℕ
kilowatt_hours_mark = 75

-- Value Stack: a unit is a cent in every class.
abbrev pub cents : ℕ → ℕ → ℕ
cents k u = u

-- Volumetric: a rate is a number of ten-thousandths of a cent for a kilowatt-hour, from 1 on.
abbrev pub rate_in_range : ℕ → Bool
rate_in_range r = nat_le 1 r && nat_le r most_rate

-- One rate for each class, each in range.
abbrev pub RatesInRange : List ℕ → Type 0
RatesInRange rs =
    (length rs ≡ rate_count)
    × ((i : ℕ) → i < rate_count → (1 ≤ slice_index rs i) × (slice_index rs i ≤ most_rate))

-- The rate of a class; the first is that of class 1.
abbrev pub rate_of : List ℕ → ℕ → ℕ
rate_of rs k = slice_index rs (k - 1)

-- Units times the rate of their class, in cents and rounded down.
abbrev pub by_rates : List ℕ → ℕ → ℕ → ℕ
by_rates rs k u = u * rate_of rs k / one_cent
