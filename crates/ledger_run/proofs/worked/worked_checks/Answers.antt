use Rattle.ledger_run.proofs.Checked as shown
use Rattle.ledger_run.proofs.worked.worked_checks.Goals as goal

pub returns-clause-checks : goal.returns-clause-checks
returns-clause-checks c = shown.checks
