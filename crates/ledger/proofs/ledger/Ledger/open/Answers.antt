use Rattle.std.proofs.Common.{rules}
use Rattle.ledger.proofs.ledger.Ledger.open.Goals as goal

pub returns-clause-state : goal.returns-clause-state
returns-clause-state g c s =
    let e = c.opened.ensures (g.B.AccountBook.contents c.args.book.now) in
    let n = c.count.ensures s in
    search rules
