use Rattle.std.proofs.Common.{◌++◌, codes, ap, ◌∙◌, arith}
use Rattle.std.proofs.lemmas.List.{take_all}
use Rattle.std.specs.List.{flat_map}
use Rattle.journal.specs.Meanings.{some_rates}
use Rattle.journal.specs.Texts.{rate_text}
use Rattle.journal.proofs.Rewriting.{written, every_at}
use Rattle.journal.proofs.write.write_rates.Goals as goal

pub returns : goal.returns
returns c =
    let fits = every_at c.args.rates.now (λ i. omega (arith, c.type_inv.rates i)) in
    written (some_rates c.args.rates.now) _ fits (c.loop-rate.invariant ∙ ap (λ rs. codes "rates" ++ flat_map rate_text rs) (take_all c.loop-rate.rate-index c.args.rates.now c.loop-rate-test.false))
