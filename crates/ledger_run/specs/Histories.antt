-- A history: what was called and answered since the ledger was opened, the newest first. It says nothing of how the
-- ledger is kept: what an account had is computed from the readings, requests, disbursements and bills alone.
use Rattle.std.specs.Prelude.{ℕ, ◌+◌, cond, List, [], ◌∷◌, Ok, Err, vec_items, Result, Vec, ◌==◌}
use Rattle.std.specs.declared.alloc.Global.{Global}
use Rattle.accounts.specs.declared.record.Line.{Line}
use Rattle.sharing.specs.Shares.{share}
use Rattle.ledger.specs.declared.call.Call.{Call}
use Rattle.ledger.specs.declared.call.Call.TheVariants as call
use Rattle.ledger.specs.declared.answer.Done.{Done}
use Rattle.ledger.specs.declared.answer.Done.TheVariants as done
use Rattle.ledger.specs.declared.answer.Posting.{Posting}
use Rattle.ledger.specs.declared.refusal.Refusal.{Refusal}
use Rattle.ledger.specs.declared.answer.Settlement.{Settlement}

-- a call with its answer, a case for each kind of accepted call, and one for a call that was declined
pub data Event (M : Type 0) : Type 0 where
  enrolled : Vec Line Global → (new : ℕ) → Event M
  opened : (units period : ℕ) → Event M
  billed : M → (account cents : ℕ) → Posting → Event M
  finally_billed : M → (account cents : ℕ) → Posting → (forfeited : ℕ) → Event M
  disbursed : (account units bank : ℕ) → Event M
  lapsed : (forfeited : ℕ) → Event M
  closed : Settlement → Event M
  declined : Call M → Refusal → Event M

abbrev pub History : Type 0 → Type 0
History M = List (Event M)

module _ {M : Type 0} where
  abbrev pub call_of : Event M → Call M
  call_of (enrolled ls new) = call.Enrol ls
  call_of (opened units period) = call.Reading units
  call_of (billed m account cents p) = call.Bill m account cents
  call_of (finally_billed m account cents p forfeited) = call.FinalBill m account cents
  call_of (disbursed account units bank) = call.Disburse account units
  call_of (lapsed forfeited) = call.Lapse
  call_of (closed s) = call.Close
  call_of (declined c why) = c

  abbrev pub answer_of : Event M → Result Done Refusal
  answer_of (enrolled ls new) = Ok (done.Enrolled new)
  answer_of (opened units period) = Ok (done.Opened period)
  answer_of (billed m account cents p) = Ok (done.Billed p)
  answer_of (finally_billed m account cents p forfeited) = Ok (done.FinallyBilled p forfeited)
  answer_of (disbursed account units bank) = Ok (done.Disbursed bank)
  answer_of (lapsed forfeited) = Ok (done.Lapsed forfeited)
  answer_of (closed s) = Ok (done.Closed s)
  answer_of (declined c why) = Err why

-- the percentage on an account's line of a request, 0 without one
abbrev pub percentage_on : ℕ → List Line → ℕ
percentage_on a [] = 0
percentage_on a (l ∷ ls) = cond (l.account == a) l.percentage (percentage_on a ls)

-- the class on an account's line of a request, without one the class that it had
abbrev pub class_on : ℕ → ℕ → List Line → ℕ
class_on a before [] = before
class_on a before (l ∷ ls) = cond (l.account == a) l.class (class_on a before ls)

-- n, if it is of the account that is asked for
abbrev pub of_account : ℕ → ℕ → ℕ → ℕ
of_account a account n = cond (account == a) n 0

module _ {M : Type 0} where
  -- an account's percentage: that of its line in the last accepted request, 0 without one or after its final bill
  unfoldable pub percentage_of : ℕ → History M → ℕ
  percentage_of a [] = 0
  percentage_of a (enrolled ls new ∷ h) = percentage_on a (vec_items ls)
  percentage_of a (finally_billed m account cents p forfeited ∷ h) = cond (account == a) 0 (percentage_of a h)
  percentage_of a (_ ∷ h) = percentage_of a h

  -- an account's class: that of its last accepted line
  unfoldable pub class_of : ℕ → History M → ℕ
  class_of a [] = 0
  class_of a (enrolled ls new ∷ h) = class_on a (class_of a h) (vec_items ls)
  class_of a (_ ∷ h) = class_of a h

  -- an account's shares of all accepted readings, each by its percentage at that reading
  unfoldable pub shares_of : ℕ → History M → ℕ
  shares_of a [] = 0
  shares_of a (opened units period ∷ h) = share units (percentage_of a h) + shares_of a h
  shares_of a (_ ∷ h) = shares_of a h

  -- the units disbursed to an account
  unfoldable pub disbursed_to : ℕ → History M → ℕ
  disbursed_to a [] = 0
  disbursed_to a (disbursed account units bank ∷ h) = of_account a account units + disbursed_to a h
  disbursed_to a (_ ∷ h) = disbursed_to a h

  -- the units that an account's bills used
  unfoldable pub used_by : ℕ → History M → ℕ
  used_by a [] = 0
  used_by a (billed m account cents p ∷ h) = of_account a account p.used + used_by a h
  used_by a (finally_billed m account cents p forfeited ∷ h) = of_account a account p.used + used_by a h
  used_by a (_ ∷ h) = used_by a h

  -- all that an account was given: its shares and disbursements
  abbrev pub given : ℕ → History M → ℕ
  given a h = shares_of a h + disbursed_to a h

  -- what one call adds to each sum; a declined call adds to none
  abbrev pub units_read : Event M → ℕ
  units_read (opened units period) = units
  units_read _ = 0

  abbrev pub units_forfeited : Event M → ℕ
  units_forfeited (finally_billed m account cents p forfeited) = forfeited
  units_forfeited (lapsed forfeited) = forfeited
  units_forfeited _ = 0

  -- a bill is a bill or a final bill: a number of its posting, 0 for other calls
  abbrev pub of_bill : (Posting → ℕ) → Event M → ℕ
  of_bill f (billed m account cents p) = f p
  of_bill f (finally_billed m account cents p forfeited) = f p
  of_bill f _ = 0

  -- a number of a close's settlement, 0 for other calls
  abbrev pub of_close : (Settlement → ℕ) → Event M → ℕ
  of_close f (closed s) = f s
  of_close f _ = 0
