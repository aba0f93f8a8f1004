use Rattle.crediting.proofs.Fewest.{meant}
use Rattle.crediting.proofs.Rounding.{used_cents}
use Rattle.crediting.specs.Lawfulness.{cents_lawful}
use Rattle.crediting.specs.Worths.{cents}
use Rattle.crediting.proofs.value_stack.ValueStackCreditMethod.credit.Goals as goal

pub returns : goal.returns
returns c =
    let applied = c.applied_credit-applied.ensures cents c.worth.ensures.value in
    let used = used_cents c.args.class c.args.units c.args.bill _ applied in
    let m = meant cents c.args.class c.args.units c.args.bill _ _ (λ is. cents_lawful c.args.class) applied used in
    record { applied = applied; used = used; within = m.within; meaning = m.meaning }
