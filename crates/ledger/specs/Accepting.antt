-- What the ledger knows of an account and of a bill that it accepts, before anything is written.
use Rattle.std.specs.Prelude.{◌≡◌, ℕ, cond, List, Some, None, Ok, Err, Option, Result}
use Rattle.accounts.specs.declared.record.Record.{Record}
use Rattle.accounts.specs.declared.entry.Entry.{Entry}
use Rattle.accounts.specs.Records.{Located, is_closed, record_of}
use Rattle.ledger.specs.declared.bill.Bill.{Bill}
use Rattle.ledger.specs.declared.refusal.Refusal.{Refusal}
use Rattle.ledger.specs.declared.refusal.Refusal.TheVariants.{NoOpenAccount}
use Rattle.ledger.specs.Steps.{judge_cents, posting}

-- an account's record, if the account is open
abbrev pub open_of : Option Record → Option Record
open_of None = None
open_of (Some r) = cond (is_closed r.state) None (Some r)

-- the record of an open account and where it stands, or that there is none
abbrev pub OpenAccount : List Record → ℕ → Result Entry Refusal → Type 0
OpenAccount rs account (Ok x) = (open_of (record_of account rs) ≡ Some x.holder) × Located rs account x.place x.holder
OpenAccount rs account (Err why) = (open_of (record_of account rs) ≡ None) × (why ≡ NoOpenAccount)

-- the account's record, where it stands and what the bill comes to
pub record Bills (worth : ℕ → ℕ → ℕ) (period applied account cents : ℕ) (rs : List Record) (x : Bill) : Type 0 where
  pub judged : judge_cents worth period applied account cents rs ≡ Ok x.account.holder
  pub posted : x.posting ≡ posting worth x.account.holder cents
  pub place : Located rs account x.account.place x.account.holder

-- or the refusal
abbrev pub Judged : (ℕ → ℕ → ℕ) → ℕ → ℕ → ℕ → ℕ → List Record → Result Bill Refusal → Type 0
Judged worth period applied account cents rs (Ok x) = Bills worth period applied account cents rs x
Judged worth period applied account cents rs (Err why) = judge_cents worth period applied account cents rs ≡ Err why
