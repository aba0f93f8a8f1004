-- What an event of a history says of the state ahead of it and of the one behind it: why its call was performed, and what that
-- changed. A declined call changed nothing, and was not declined because the book is another ledger's.
use Rattle.std.proofs.Common.{◌≡◌, ℕ, ◌+◌, ◌-◌, ◌≤◌, false, eqb, ◌≢◌, List, Some, vec_items}
use Rattle.base.specs.Limits.{most_bill}
use Rattle.accounts.specs.declared.record.Line.{Line}
use Rattle.accounts.specs.declared.record.Record.{Record}
use Rattle.accounts.specs.Records.{is_closed, record_of}
use Rattle.ledger.specs.declared.answer.Posting.{Posting}
use Rattle.ledger.specs.declared.answer.Settlement.{Settlement}
use Rattle.ledger.specs.declared.refusal.Refusal.{Refusal}
use Rattle.ledger.specs.declared.phase.Phase.TheVariants.{Between, InPeriod}
use Rattle.ledger.specs.Limits.{most_read}
use Rattle.ledger.specs.Lines.{enrolled}
use Rattle.ledger.specs.Records.{billed, ended}
use Rattle.ledger.specs.Refusals.{number}
use Rattle.ledger.specs.States.{State}
use Rattle.ledger.specs.Steps.{moved, posted, posting, settlement, shared_out}
use Rattle.ledger.proofs.Requests.{Accepted}
use Rattle.ledger_run.specs.Histories as history
use Rattle.ledger_run.specs.Histories.{Event}

pub record Enrols (ls : List Line) (s t : State) : Type 0 where
  pub between : s.phase ≡ Between
  pub ok : Accepted s.room s.records ls
  pub is : t ≡ record s { records = enrolled s.records ls }

pub record Reads (units : ℕ) (s t : State) : Type 0 where
  pub between : s.phase ≡ Between
  pub small : s.read + units ≤ most_read
  pub is : t ≡ shared_out s units

-- the record that a bill is of: its account open, not yet billed in the period, and the bill in range
pub record Billable (account cents period : ℕ) (rs : List Record) (r : Record) : Type 0 where
  pub found : record_of account rs ≡ Some r
  pub unclosed : is_closed r.state ≡ false
  pub unbilled : eqb r.last period ≡ false
  pub small : cents ≤ most_bill

-- a bill or a final bill: `make` is what becomes of the record, `Loses` what is said of the units that it forfeits
pub record Posts (worth : ℕ → ℕ → ℕ) (account cents : ℕ) (p : Posting) (make : Record → Record) (Loses : Record → Type 0) (s t : State) : Type 0 where
  pub applied : ℕ
  pub fees : ℕ
  pub r : Record
  pub at : s.phase ≡ InPeriod applied fees
  pub billable : Billable account cents (s.closed + 1) s.records r
  pub comes : p ≡ posting worth r cents
  pub loses : Loses r
  pub is : t ≡ posted s applied fees r p (make r)

pub record Disburses (account units : ℕ) (s t : State) : Type 0 where
  pub r : Record
  pub between : s.phase ≡ Between
  pub found : record_of account s.records ≡ Some r
  pub unclosed : is_closed r.state ≡ false
  pub enough : units ≤ s.bank
  pub is : t ≡ moved s units r

pub record Lapses (forfeited : ℕ) (s t : State) : Type 0 where
  pub all : forfeited ≡ s.bank
  pub is : t ≡ record s { bank = 0 }

pub record Closes (x : Settlement) (s t : State) : Type 0 where
  pub applied : ℕ
  pub fees : ℕ
  pub at : s.phase ≡ InPeriod applied fees
  pub comes : x ≡ settlement applied fees
  pub is : t ≡ record s { phase = Between; closed = s.closed + 1 }

pub record Declines (why : Refusal) (s t : State) : Type 0 where
  pub own : number why ≢ 27
  pub is : t ≡ s

module _ {M : Type 0} (worth : M → ℕ → ℕ → ℕ) where
  abbrev pub Moves : Event M → State → State → Type 0
  Moves (history.enrolled ls new) s t = Enrols (vec_items ls) s t
  Moves (history.opened units period) s t = Reads units s t
  Moves (history.billed m account cents p) s t =
      Posts (worth m) account cents p (billed (s.closed + 1) p.used) (λ r. Unit {0}) s t
  Moves (history.finally_billed m account cents p forfeited) s t =
      Posts (worth m) account cents p (ended (s.closed + 1)) (λ r. forfeited ≡ r.held - p.used) s t
  Moves (history.disbursed account units bank) s t = Disburses account units s t
  Moves (history.lapsed forfeited) s t = Lapses forfeited s t
  Moves (history.closed x) s t = Closes x s t
  Moves (history.declined c why) s t = Declines why s t
