use Rattle.ledger_run.proofs.Told as shown
use Rattle.ledger_run.proofs.worked.worked_history.Goals as goal

pub returns-clause-history : goal.returns-clause-history
returns-clause-history c = shown.history
