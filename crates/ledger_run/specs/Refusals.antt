-- The text of each reason why a run is declined.
use Rattle.std.specs.Prelude.{ℕ, List, codes}
use Rattle.ledger.specs.Refusals.{reason}
use Rattle.ledger_run.specs.declared.refusal.RunRefusal.{RunRefusal}
use Rattle.ledger_run.specs.declared.refusal.RunRefusal.TheVariants.{NotOpened, NoMemory}

abbrev pub run_reason : RunRefusal → List ℕ
run_reason (NotOpened why) = reason why
run_reason NoMemory = codes "there is no memory for the answers"
