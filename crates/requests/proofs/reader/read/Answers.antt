use Rattle.std.proofs.Common.{sym, arith}
use Rattle.std.proofs.lemmas.Grind.{common_steps}
use Rattle.std.proofs.lemmas.Bool.Decides.{nat_tests}
use Rattle.requests.proofs.Readings.{length_lines_of}
use Rattle.requests.proofs.reader.read.Goals as goal

pub write-requires : goal.write-requires
write-requires c =
    let long = length_lines_of _ _ _ (sym c.in_ok-request.ensures.lines) in
    omega arith

pub returns-clause-answer : goal.returns-clause-answer
returns-clause-answer c =
    let long = length_lines_of _ _ _ (sym c.in_ok-request.ensures.lines) in
    grind (arith, common_steps, nat_tests)
