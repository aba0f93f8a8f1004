-- What a phase holds: the period's members' applied credits and subscription fees, both 0 between periods.
use Rattle.std.specs.Prelude.{ℕ}
use Rattle.ledger.specs.declared.phase.Phase.{Phase}
use Rattle.ledger.specs.declared.phase.Phase.TheVariants.{Between, InPeriod}

abbrev pub applied_in : Phase → ℕ
applied_in Between = 0
applied_in (InPeriod applied fees) = applied

abbrev pub fees_in : Phase → ℕ
fees_in Between = 0
fees_in (InPeriod applied fees) = fees

-- how many periods are open
abbrev pub open_periods : Phase → ℕ
open_periods Between = 0
open_periods (InPeriod applied fees) = 1
