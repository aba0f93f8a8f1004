use Rattle.std.proofs.Common.{map, inl, arith, rules}
use Rattle.requests.specs.Packing.{item, Refuses}
use Rattle.requests.proofs.Holding.{refused_unheld}
use Rattle.requests.proofs.Trips.{reads_back}
use Rattle.requests.proofs.writer.write.Goals as goal

pub returns-in_err-size-clause-only : goal.returns-in_err-size-clause-only
returns-in_err-size-clause-only c =
    let es = map item c.args.lines.now in
    let e = c.in_err-size.field-0.0 in
    let why : Refuses es e = inl (grind arith) in
    let unheld = refused_unheld es e why in
    search rules

pub returns-clause-reads_back : goal.returns-clause-reads_back
returns-clause-reads_back c = reads_back _ _ c.in_ok-file.ensures
