-- What each call with its answer adds to a total.
use Rattle.std.specs.Prelude.{ℕ, List, Ok, Err, Result, sum_by, zip}
use Rattle.accounts.specs.declared.record.Record.{Record}
use Rattle.ledger.specs.declared.call.Call.{Call}
use Rattle.ledger.specs.declared.call.Call.TheVariants as call
use Rattle.ledger.specs.declared.answer.Done.{Done}
use Rattle.ledger.specs.declared.answer.Done.TheVariants as done
use Rattle.ledger.specs.declared.answer.Posting.{Posting}
use Rattle.ledger.specs.declared.refusal.Refusal.{Refusal}
use Rattle.ledger.specs.declared.answer.Settlement.{Settlement}
use Rattle.desk.specs.declared.amounts.Amount.{Amount}
use Rattle.desk.specs.declared.amounts.Amount.TheVariants.{Read, Used, Forfeited, Applied, Net, Paid, Utility}

-- a bill, and the units that it forfeits if it is final
abbrev pub of_bill : Amount → Posting → ℕ → ℕ
of_bill Read p forfeited = 0
of_bill Used p forfeited = p.used
of_bill Forfeited p forfeited = forfeited
of_bill Applied p forfeited = p.applied
of_bill Net p forfeited = p.net
of_bill Paid p forfeited = 0
of_bill Utility p forfeited = 0

-- a close
abbrev pub of_close : Amount → Settlement → ℕ
of_close Read s = 0
of_close Used s = 0
of_close Forfeited s = 0
of_close Applied s = 0
of_close Net s = 0
of_close Paid s = s.payment
of_close Utility s = s.utility

-- a lapse, and the units that it forfeits
abbrev pub of_lapse : Amount → ℕ → ℕ
of_lapse Read forfeited = 0
of_lapse Used forfeited = 0
of_lapse Forfeited forfeited = forfeited
of_lapse Applied forfeited = 0
of_lapse Net forfeited = 0
of_lapse Paid forfeited = 0
of_lapse Utility forfeited = 0

-- a reading, and its units
abbrev pub of_reading : Amount → ℕ → ℕ
of_reading Read units = units
of_reading Used units = 0
of_reading Forfeited units = 0
of_reading Applied units = 0
of_reading Net units = 0
of_reading Paid units = 0
of_reading Utility units = 0

-- a call itself, once it is accepted
abbrev pub of_call : {M : Type 0} → Amount → Call M → ℕ
of_call a (call.Enrol _) = 0
of_call a (call.Reading units) = of_reading a units
of_call a (call.Bill _ _ _) = 0
of_call a (call.FinalBill _ _ _) = 0
of_call a (call.Disburse _ _) = 0
of_call a call.Lapse = 0
of_call a call.Close = 0

-- a declined call adds nothing
abbrev pub amount : {M : Type 0} → Amount → Call M → Result Done Refusal → ℕ
amount a c (Err _) = 0
amount a c (Ok (done.Enrolled _)) = 0
amount a c (Ok (done.Opened _)) = of_call a c
amount a c (Ok (done.Billed p)) = of_bill a p 0
amount a c (Ok (done.FinallyBilled p forfeited)) = of_bill a p forfeited
amount a c (Ok (done.Disbursed _)) = 0
amount a c (Ok (done.Lapsed forfeited)) = of_lapse a forfeited
amount a c (Ok (done.Closed s)) = of_close a s

-- calls in order with their answers
abbrev pub sum_of : {M : Type 0} → Amount → List (Call M) → List (Result Done Refusal) → ℕ
sum_of a cs rs = sum_by (λ p. amount a p.0 p.1) (zip cs rs)

-- the units held by all accounts
abbrev pub held_in : List Record → ℕ
held_in rs = sum_by (λ r. r.held) rs
