use Rattle.ledger_run.proofs.WorkedPosted as shown
use Rattle.ledger_run.proofs.worked.worked_postings.Goals as goal

pub returns-clause-cases : goal.returns-clause-cases
returns-clause-cases c = shown.worked
