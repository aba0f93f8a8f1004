use Rattle.std.proofs.Common.{sym, arith}
use Rattle.requests.proofs.Readings.{count_ok, passed}
use Rattle.requests.proofs.Judged.{pairs_placed}
use Rattle.requests.proofs.file.RequestFile.judge.Goals as goal

pub check_pairs-requires : goal.check_pairs-requires
check_pairs-requires c = (count_ok _ _ c.requires).within

pub check_lines-requires-clause-within : goal.check_lines-requires-clause-within
check_lines-requires-clause-within c = (count_ok _ _ c.requires).within

pub check_lines-requires-clause-placed : goal.check_lines-requires-clause-placed
check_lines-requires-clause-placed c =
    λ place h. pairs_placed _ _ _ _ _ (sym c.in_ok-check_pairs.ensures) (omega arith) (omega arith)

pub invariant_of-result : goal.invariant_of-result
invariant_of-result c =
    let known = passed c.args.bytes.now c.args.lines c.requires c.in_ok-check_pairs.ensures c.in_ok-check_lines.ensures in
    record { in_order = known.ok; counted = known.counts }

pub returns-clause-lines : goal.returns-clause-lines
returns-clause-lines c =
    let known = passed c.args.bytes.now c.args.lines c.requires c.in_ok-check_pairs.ensures c.in_ok-check_lines.ensures in
    sym known.lines
