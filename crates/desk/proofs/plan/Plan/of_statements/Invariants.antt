use Rattle.std.proofs.Common.{◌≡◌, map, take}
use Rattle.journal.specs.JournalLines.{content_of}
use Rattle.desk.specs.Plans.{seen, begun, planned}
use Rattle.desk.proofs.plan.Plan.of_statements.Given as goal

abbrev pub invariant-loop-stated : goal.invariant-loop-stated
invariant-loop-stated g l =
    seen g.M.CreditMethod.worth l.plan
    ≡ planned g.M.Rated.worths begun (map content_of (take l.stated-index l.statements))
