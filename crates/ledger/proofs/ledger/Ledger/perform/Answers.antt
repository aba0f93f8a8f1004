use Rattle.std.proofs.Common.{rules}
use Rattle.ledger.proofs.ledger.Ledger.perform.Goals as goal

pub returns-in-Between-Lapse-clause-performs : goal.returns-in-Between-Lapse-clause-performs
returns-in-Between-Lapse-clause-performs g c s =
    let e = c.lapse.ensures (g.B.AccountBook.contents c.args.book.now) in
    search rules

pub returns-in-InPeriod-Close-clause-performs : goal.returns-in-InPeriod-Close-clause-performs
returns-in-InPeriod-Close-clause-performs g c s =
    let e = c.close.ensures (g.B.AccountBook.contents c.args.book.now) in
    search rules
