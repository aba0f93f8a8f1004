-- For which classes, units and bills a crediting method answers.
use Rattle.std.specs.Prelude.{ℕ, Bool, ◌&&◌, nat_le}
use Rattle.base.specs.Limits.{classes, most_units, most_bill}

-- a service class: a number from 1 on
abbrev pub is_class : ℕ → Bool
is_class k = nat_le 1 k && nat_le k classes

-- a class and units that have a worth
abbrev pub has_worth : ℕ → ℕ → Bool
has_worth k u = is_class k && nat_le u most_units

-- a class, units and a bill in cents that are credited
abbrev pub in_ranges : ℕ → ℕ → ℕ → Bool
in_ranges k u b = has_worth k u && nat_le b most_bill
