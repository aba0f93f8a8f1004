-- What a run answers and leaves.
use Rattle.std.specs.Prelude.{◌≡◌, ℕ, List, Some, None, Ok, Err, vec_items, Option, Result, Vec}
use Rattle.std.specs.declared.alloc.Global.{Global}
use Rattle.accounts.specs.declared.project.Project.{Project}
use Rattle.accounts.specs.Books.{Contents}
use Rattle.ledger.specs.declared.call.Call.{Call}
use Rattle.ledger.specs.declared.answer.Done.{Done}
use Rattle.ledger.specs.declared.ledger.Ledger.{Ledger}
use Rattle.ledger.specs.declared.refusal.Refusal.{Refusal}
use Rattle.ledger.specs.States.{State}
use Rattle.ledger.specs.Steps.{opened}
use Rattle.ledger.specs.Views.{open_refusal, view}
use Rattle.ledger_run.specs.declared.refusal.RunRefusal.{RunRefusal}
use Rattle.ledger_run.specs.declared.refusal.RunRefusal.TheVariants.{NotOpened, NoMemory}
use Rattle.ledger_run.specs.Laws.{Ran}

-- what a run answers: the answer of each call, or why there is none
abbrev pub Answers : Type 0
Answers = Result (Vec (Result Done Refusal) Global) RunRefusal

-- `refusal` is why the ledger is not opened, if it is not; a run that is declined leaves ledger and book as they were
abbrev pub RunOutcome : {M : Type 0} → (M → ℕ → ℕ → ℕ) → Option Refusal → State → State → List (Call M) → Answers → State → Type 0
RunOutcome worth refusal before start calls (Ok answers) end = (refusal ≡ None) × Ran worth start calls (vec_items answers) end
RunOutcome worth refusal before start calls (Err (NotOpened why)) end = (refusal ≡ Some why) × (end ≡ before)
RunOutcome worth refusal before start calls (Err NoMemory) end = end ≡ before

-- The members `sound` and `contents` of the book, and the method's `worth`.
module _ {B M : Type 0} (sound : B → Type 0) (contents : B → Contents) (worth : M → ℕ → ℕ → ℕ) where
  -- on a proper book, a ledger opened for a project and then these calls
  abbrev pub Runs : Project → List (Call M) → Ledger → Ledger → B → B → Answers → Type 0
  Runs project calls old new book left answers =
      sound book
      → RunOutcome worth (open_refusal project (contents book)) (view old (contents book))
      (opened project (contents book).room (contents book).records) calls answers (view new (contents left))
