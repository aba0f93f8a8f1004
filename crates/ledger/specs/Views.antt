-- A ledger and the records of its book as one state.
use Rattle.std.specs.Prelude.{◌≡◌, length, Option, Result}
use Rattle.accounts.specs.declared.project.Project.{Project}
use Rattle.accounts.specs.Books.{Contents}
use Rattle.ledger.specs.declared.answer.Done.{Done}
use Rattle.ledger.specs.declared.refusal.Refusal.{Refusal}
use Rattle.ledger.specs.declared.ledger.Ledger.{Ledger}
use Rattle.ledger.specs.States.{State, Outcome}
use Rattle.ledger.specs.Steps.{judge_open, open_leaves, opened}

abbrev pub view : Ledger → Contents → State
view l b =
    record {
      smallest = l.project.smallest;
      farm = l.project.farm;
      phase = l.phase;
      closed = l.closed;
      bank = l.bank;
      read = l.read;
      room = b.room;
      records = b.records;
    }

abbrev pub outcome : Ledger → Contents → Result Done Refusal → Outcome
outcome l b answer = record { state = view l b; answer = answer }

-- The book interface's members `sound` and `contents`.
module _ {B : Type 0} (sound : B → Type 0) (contents : B → Contents) where
  -- what a call makes of a ledger and a proper book, and its answer, are what a definition makes of the two as one state
  abbrev pub Performs : Ledger → Ledger → B → B → Result Done Refusal → (State → Outcome) → Type 0
  Performs old new book left answer by = sound book → outcome new (contents left) answer ≡ by (view old (contents book))

-- why a project is not opened on a book with these contents, if it is not
abbrev pub open_refusal : Project → Contents → Option Refusal
open_refusal project b = judge_open project.smallest (length b.records)

-- a refused opening leaves the ledger's place; after any other a new ledger stands there
abbrev pub Opens : Project → Contents → Ledger → Ledger → Type 0
Opens project b old new =
    view new b ≡ open_leaves (open_refusal project b) (view old b) (opened project b.room b.records)
