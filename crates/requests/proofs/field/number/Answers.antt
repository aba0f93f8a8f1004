use Rattle.std.proofs.Common.{refl, arith, rules}
use Rattle.std.proofs.lemmas.Grind.{common_steps}
use Rattle.requests.specs.Form.{number, all_digits}
use Rattle.requests.proofs.Numerals.{not_digit, number_lt, number_room}
use Rattle.requests.proofs.field.number.Goals as goal

pub loop-byte-init : goal.loop-byte-init
unfolding number all_digits
loop-byte-init c = (refl, refl)

pub with_digit-requires : goal.with_digit-requires
with_digit-requires c =
    omega (arith, number_room c.args.line.now c.args.at c.loop-byte.byte-index c.loop-byte.invariant.1 (search rules))

pub returns-in_err-gathered-clause-value : goal.returns-in_err-gathered-clause-value
returns-in_err-gathered-clause-value c =
    let none = not_digit c.args.line.now c.args.at c.args.width c.loop-byte.byte-index (search rules) in
    grind (arith, common_steps)

pub loop-byte-preserved : goal.loop-byte-preserved
unfolding number all_digits
loop-byte-preserved c = grind (arith, common_steps)

pub returns-clause-bound : goal.returns-clause-bound
returns-clause-bound c = search (rules, number_lt)
