-- A ledger with the records of its book, apart from how either is kept.
use Rattle.std.specs.Prelude.{ℕ, Bool, List, Ok, Err, Result}
use Rattle.accounts.specs.declared.record.Record.{Record}
use Rattle.ledger.specs.declared.answer.Done.{Done}
use Rattle.ledger.specs.declared.refusal.Refusal.{Refusal}
use Rattle.ledger.specs.declared.phase.Phase.{Phase}

pub record State : Type 0 where
  -- the smallest number of lines that a request may have
  pub smallest : ℕ
  -- the farm mark: accounts of large size may have more than 40 percent together
  pub farm : Bool
  pub phase : Phase
  -- closed periods
  pub closed : ℕ
  -- units in the host's bank
  pub bank : ℕ
  -- units of all accepted readings
  pub read : ℕ
  -- how many records the book has room for
  pub room : ℕ
  pub records : List Record

-- what a call leaves, and its answer
pub record Outcome : Type 0 where
  pub state : State
  pub answer : Result Done Refusal

-- a refused call changes nothing
abbrev pub declined : State → Refusal → Outcome
declined s why = record { state = s; answer = Err why }

-- a call that is performed, with what it leaves
abbrev pub accepted : State → Done → Outcome
accepted left done = record { state = left; answer = Ok done }
