-- What units are worth, and how a method credits a bill with them.
use Rattle.std.specs.Prelude.{◌≡◌, ℕ, zero, suc, ◌≤◌, min, cond, nat_le}
use Rattle.base.specs.Limits.{most_units}
use Rattle.crediting.specs.Limits.{most_worth}
use Rattle.crediting.specs.Ranges.{has_worth, in_ranges}

-- What makes W the worth in cents of a class's units: no units are worth nothing, more units are never worth less, and
-- no number of units in range is worth more than the most.
pub record Lawful (W : ℕ → ℕ) : Type 0 where
  pub nothing : W 0 ≡ 0
  pub rises : (u v : ℕ) → u ≤ v → v ≤ most_units → W u ≤ W v
  pub bounded : (u : ℕ) → u ≤ most_units → W u ≤ most_worth

-- The credit against a bill of b cents for an account that holds u units of worth W. The applied credit is the lesser
-- of the bill and the worth. The units used are worth at least the applied credit, and every other number of units
-- worth that much is larger.
pub record Credited (W : ℕ → ℕ) (u b applied used : ℕ) : Type 0 where
  pub lesser : applied ≡ min b (W u)
  pub enough : applied ≤ W used
  pub fewest : (w : ℕ) → applied ≤ W w → used ≤ w

-- It is the only credit of which this can be said.
abbrev pub TheCredit : (ℕ → ℕ) → ℕ → ℕ → ℕ → ℕ → Type 0
TheCredit W u b applied used =
    Credited W u b applied used × ((c w : ℕ) → Credited W u b c w → (c ≡ applied) × (w ≡ used))

-- No more is used than is held, and no more is credited than is billed.
pub record Within (u b applied used : ℕ) : Type 0 where
  pub units : used ≤ u
  pub cents : applied ≤ b

-- The smallest number of units up to u that is worth at least c cents, by a count down from u.
unfoldable pub smallest : (ℕ → ℕ) → ℕ → ℕ → ℕ
smallest W c zero = zero
smallest W c (suc n) = cond (nat_le c (W n)) (smallest W c n) (suc n)

-- The answers of a method whose worth is W: the worth of u units of class k,
abbrev pub worth_of : (ℕ → ℕ → ℕ) → ℕ → ℕ → ℕ
worth_of W k u = cond (has_worth k u) (W k u) 0

-- the applied credit against a bill of b cents,
unfoldable pub applied_credit : (ℕ → ℕ → ℕ) → ℕ → ℕ → ℕ → ℕ
applied_credit W k u b = cond (in_ranges k u b) (min b (W k u)) 0

-- and the units used. Outside the ranges each is 0.
unfoldable pub units_used : (ℕ → ℕ → ℕ) → ℕ → ℕ → ℕ → ℕ
units_used W k u b = cond (in_ranges k u b) (smallest (W k) (min b (W k u)) u) 0
