use Rattle.std.proofs.Common.{refl, rules, tests}
use Rattle.ledger.specs.Records.{unallocated}
use Rattle.ledger.proofs.Entering.{unallocated_in_range}
use Rattle.ledger.proofs.enrolment.clear_percentages.Goals as goal

pub returns : goal.returns
returns g c s =
    c.replace_each.ensures unallocated (record {
      computed = λ x new k. search (rules, tests);
      whose = λ r. refl;
      ranged = λ i r e k. unallocated_in_range r k;
    }) s
