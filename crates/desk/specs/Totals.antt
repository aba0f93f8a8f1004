-- What the calls of a journal come to together.
use Rattle.std.specs.Prelude.{ℕ, List, Result}
use Rattle.desk.specs.declared.totals.CentTotals.{CentTotals}
use Rattle.desk.specs.declared.totals.UnitTotals.{UnitTotals}
use Rattle.ledger.specs.declared.call.Call.{Call}
use Rattle.ledger.specs.declared.answer.Done.{Done}
use Rattle.ledger.specs.declared.refusal.Refusal.{Refusal}
use Rattle.desk.specs.Amounts.{sum_of}
use Rattle.desk.specs.declared.amounts.Amount.TheVariants.{Read, Used, Forfeited, Applied, Net, Paid, Utility}

-- units by the calls and their answers, and those in the bank and held
abbrev pub units_of : {M : Type 0} → ℕ → ℕ → List (Call M) → List (Result Done Refusal) → UnitTotals
units_of bank held calls answers =
    record {
      read = sum_of Read calls answers;
      used = sum_of Used calls answers;
      forfeited = sum_of Forfeited calls answers;
      bank = bank;
      held = held;
    }

-- cents by the calls and their answers, and the fees of the open period
abbrev pub cents_of : {M : Type 0} → ℕ → List (Call M) → List (Result Done Refusal) → CentTotals
cents_of fees calls answers =
    record {
      applied = sum_of Applied calls answers;
      net = sum_of Net calls answers;
      paid = sum_of Paid calls answers;
      utility = sum_of Utility calls answers;
      «open» = fees;
    }
