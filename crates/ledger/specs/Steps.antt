-- What each call does to a ledger and its book, and what it answers.
use Rattle.std.specs.Prelude.{ℕ, ◌+◌, ◌-◌, cond, ◌||◌, List, map, Some, None, Ok, Err, vec_items, Option, Result, ◌==◌, nat_le, nat_lt}
use Rattle.base.specs.Limits.{most_bill, most_periods, most_reading, most_units}
use Rattle.accounts.specs.declared.project.Project.{Project}
use Rattle.accounts.specs.declared.record.Line.{Line}
use Rattle.accounts.specs.declared.record.Record.{Record}
use Rattle.accounts.specs.Records.{record_of, put, is_closed, holding}
use Rattle.crediting.specs.Credits.{applied_credit, units_used}
use Rattle.sharing.specs.Shares.{gaining, shares, foreign_to_reading}
use Rattle.ledger.specs.declared.call.Call.{Call}
use Rattle.ledger.specs.declared.call.Call.TheVariants.{Enrol, Reading, Bill, FinalBill, Disburse, Lapse, Close}
use Rattle.ledger.specs.declared.answer.Done.TheVariants.{Enrolled, Opened, Billed, FinallyBilled, Disbursed, Lapsed, Closed}
use Rattle.ledger.specs.declared.answer.Posting.{Posting}
use Rattle.ledger.specs.declared.answer.Settlement.{Settlement}
use Rattle.ledger.specs.declared.refusal.Refusal.{Refusal}
use Rattle.ledger.specs.declared.refusal.Refusal.TheVariants as why
use Rattle.ledger.specs.declared.phase.Phase.{Phase}
use Rattle.ledger.specs.declared.phase.Phase.TheVariants.{Between, InPeriod}
use Rattle.ledger.specs.Limits.{most_applied, most_read}
use Rattle.ledger.specs.Lines.{judge_lines, enrolled}
use Rattle.ledger.specs.Records.{billed, ended}
use Rattle.ledger.specs.Rules.{net_credit, subscription_fee, counted, utility_fee}
use Rattle.ledger.specs.States.{State, Outcome, accepted, declined}

-- Open: a ledger of a project on a book, between periods, all numbers 0
abbrev pub opened : Project → ℕ → List Record → State
opened project room rs =
    record {
      smallest = project.smallest;
      farm = project.farm;
      phase = Between;
      closed = 0;
      bank = 0;
      read = 0;
      room = room;
      records = rs;
    }

-- why a ledger is not opened on a book of so many records, if it is not
abbrev pub judge_open : ℕ → ℕ → Option Refusal
judge_open smallest count =
    cond (smallest == 1 || smallest == 10) (cond (count == 0) None (Some why.BookHasRecords)) (Some why.WrongSmallest)

-- the answer of an opening, and the state that it leaves: a refused one leaves the ledger's place as it was
abbrev pub open_answer : Option Refusal → Result (Unit {0}) Refusal
open_answer None = Ok tt
open_answer (Some refusal) = Err refusal

abbrev pub open_leaves : Option Refusal → State → State → State
open_leaves None before new = new
open_leaves (Some refusal) before new = before

-- Enrol
abbrev pub enrol_judged : State → List Line → Result ℕ Refusal → Outcome
enrol_judged s ls (Err refusal) = declined s refusal
enrol_judged s ls (Ok new) = accepted (record s { records = enrolled s.records ls }) (Enrolled new)

abbrev pub enrol : State → List Line → Outcome
enrol s ls = enrol_judged s ls (judge_lines s.smallest s.farm s.room s.records ls)

-- Reading: each satellite gains its share, and the host bank the rest
abbrev pub shared_out : State → ℕ → State
shared_out s units =
    record s {
      phase = InPeriod 0 0;
      bank = s.bank + (units - shares units s.records);
      read = s.read + units;
      records = map (gaining units) s.records;
    }

abbrev pub reading : State → ℕ → Outcome
reading s units =
    cond (nat_le most_periods s.closed) (declined s why.PeriodsOver)
    (cond (nat_lt most_reading units) (declined s why.ReadingTooLarge)
    (cond (nat_lt most_read (s.read + units)) (declined s why.ReadingsPass)
    (cond (foreign_to_reading units s.records) (declined s why.ForeignBook)
    (accepted (shared_out s units) (Opened (s.closed + 1))))))

-- Bill: what a record's bill comes to, by the worth of its class's units
abbrev pub posting : (ℕ → ℕ → ℕ) → Record → ℕ → Posting
posting worth r cents =
    let applied = applied_credit worth r.class r.held cents in
    record {
      applied = applied;
      used = units_used worth r.class r.held cents;
      net = net_credit r.kind r.savings applied;
      fee = subscription_fee r.kind r.savings applied;
    }

-- the record that is billed in this period, or the first refusal that applies
abbrev pub judge_record : (ℕ → ℕ → ℕ) → ℕ → ℕ → ℕ → Option Record → Result Record Refusal
judge_record worth period applied cents None = Err why.NoOpenAccount
judge_record worth period applied cents (Some r) =
    cond (is_closed r.state) (Err why.NoOpenAccount)
    (cond (r.last == period) (Err why.BilledAlready)
    (cond (nat_lt most_applied (applied + counted r.kind (posting worth r cents).applied)) (Err why.ForeignBook) (Ok r)))

abbrev pub judge_cents : (ℕ → ℕ → ℕ) → ℕ → ℕ → ℕ → ℕ → List Record → Result Record Refusal
judge_cents worth period applied account cents rs =
    cond (nat_lt most_bill cents) (Err why.BillTooLarge) (judge_record worth period applied cents (record_of account rs))

abbrev pub judge_bill : (ℕ → ℕ → ℕ) → State → ℕ → ℕ → ℕ → Result Record Refusal
judge_bill worth s applied account cents = judge_cents worth (s.closed + 1) applied account cents s.records

-- the period's applied credits and fees with one posting more
abbrev pub raised : ℕ → ℕ → Record → Posting → Phase
raised applied fees r p = InPeriod (applied + counted r.kind p.applied) (fees + p.fee)

-- with one posting more, and another record in the place of the account's
abbrev pub posted : State → ℕ → ℕ → Record → Posting → Record → State
posted s applied fees r p new = record s { phase = raised applied fees r p; records = put new s.records }

abbrev pub bill_judged : (ℕ → ℕ → ℕ) → State → ℕ → ℕ → ℕ → Result Record Refusal → Outcome
bill_judged worth s applied fees cents (Err refusal) = declined s refusal
bill_judged worth s applied fees cents (Ok r) =
    let p = posting worth r cents in
    accepted (posted s applied fees r p (billed (s.closed + 1) p.used r)) (Billed p)

abbrev pub bill : (ℕ → ℕ → ℕ) → State → ℕ → ℕ → ℕ → ℕ → Outcome
bill worth s applied fees account cents = bill_judged worth s applied fees cents (judge_bill worth s applied account cents)

-- Final bill: a bill, after which the units left are forfeited and the account is closed
abbrev pub final_judged : (ℕ → ℕ → ℕ) → State → ℕ → ℕ → ℕ → Result Record Refusal → Outcome
final_judged worth s applied fees cents (Err refusal) = declined s refusal
final_judged worth s applied fees cents (Ok r) =
    let p = posting worth r cents in
    accepted (posted s applied fees r p (ended (s.closed + 1) r)) (FinallyBilled p (r.held - p.used))

abbrev pub final_bill : (ℕ → ℕ → ℕ) → State → ℕ → ℕ → ℕ → ℕ → Outcome
final_bill worth s applied fees account cents =
    final_judged worth s applied fees cents (judge_bill worth s applied account cents)

-- Disburse: units from the host bank to an account
abbrev pub moved : State → ℕ → Record → State
moved s units r = record s { bank = s.bank - units; records = put (holding (r.held + units) r) s.records }

abbrev pub disburse_to : State → ℕ → Option Record → Outcome
disburse_to s units None = declined s why.NoOpenAccount
disburse_to s units (Some r) =
    cond (is_closed r.state) (declined s why.NoOpenAccount)
    (cond (units == 0 || nat_lt s.bank units) (declined s why.NotInBank)
    (cond (nat_lt most_units (r.held + units)) (declined s why.ForeignBook)
    (accepted (moved s units r) (Disbursed (s.bank - units)))))

abbrev pub disburse : State → ℕ → ℕ → Outcome
disburse s account units = disburse_to s units (record_of account s.records)

-- Lapse: the whole bank is forfeited
abbrev pub lapse : State → Outcome
lapse s = accepted (record s { bank = 0 }) (Lapsed s.bank)

-- Close: the host is paid the fees less the utility fee
abbrev pub settlement : ℕ → ℕ → Settlement
settlement applied fees =
    record {
      applied = applied;
      fees = fees;
      utility = utility_fee applied;
      payment = fees - utility_fee applied;
    }

abbrev pub close : State → ℕ → ℕ → Outcome
close s applied fees = accepted (record s { phase = Between; closed = s.closed + 1 }) (Closed (settlement applied fees))

-- Each call is judged together with the phase: enrolment, readings, disbursements and lapses belong between periods,
-- bills and the close in a period.
module _ {M : Type 0} (worth : M → ℕ → ℕ → ℕ) where
  abbrev pub at_phase : State → Phase → Call M → Outcome
  at_phase s Between (Enrol ls) = enrol s (vec_items ls)
  at_phase s Between (Reading units) = reading s units
  at_phase s Between (Bill m account cents) = declined s why.BetweenPeriods
  at_phase s Between (FinalBill m account cents) = declined s why.BetweenPeriods
  at_phase s Between (Disburse account units) = disburse s account units
  at_phase s Between Lapse = lapse s
  at_phase s Between Close = declined s why.BetweenPeriods
  at_phase s (InPeriod applied fees) (Enrol ls) = declined s why.InPeriod
  at_phase s (InPeriod applied fees) (Reading units) = declined s why.InPeriod
  at_phase s (InPeriod applied fees) (Bill m account cents) = bill (worth m) s applied fees account cents
  at_phase s (InPeriod applied fees) (FinalBill m account cents) = final_bill (worth m) s applied fees account cents
  at_phase s (InPeriod applied fees) (Disburse account units) = declined s why.InPeriod
  at_phase s (InPeriod applied fees) Lapse = declined s why.InPeriod
  at_phase s (InPeriod applied fees) Close = close s applied fees

  abbrev pub step : State → Call M → Outcome
  step s call = at_phase s s.phase call
