use Rattle.crediting.proofs.Fewest.{meant}
use Rattle.crediting.specs.Lawfulness.{by_rates_lawful}
use Rattle.crediting.specs.Worths.{by_rates}
use Rattle.crediting.proofs.volumetric.VolumetricCreditMethod.credit.Goals as goal

pub returns : goal.returns
returns c =
    let s = c.args.self.now in
    let applied = c.applied_credit-applied.ensures (by_rates s.rates) c.worth.ensures.value in
    let used = c.units_used-used.ensures in
    let m = meant (by_rates s.rates) c.args.class c.args.units c.args.bill _ _ (by_rates_lawful s.rates c.args.class s.in_range) applied used in
    record { applied = applied; used = used; within = m.within; meaning = m.meaning }
