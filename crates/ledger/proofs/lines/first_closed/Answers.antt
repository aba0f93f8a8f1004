use Rattle.std.proofs.Common.{◌∙◌, rules, tests}
use Rattle.std.proofs.lemmas.Iterator.{YieldsList-from_slice}
use Rattle.std.proofs.lemmas.Iterator.Adapters.{position_from-zero}
use Rattle.std.proofs.lemmas.Iterator.Search.{position_from_yields_List}
use Rattle.ledger.specs.Lines.{names_closed}
use Rattle.ledger.proofs.lines.first_closed.Goals as goal

pub returns : goal.returns
returns g c s =
    let closed = names_closed (g.B.AccountBook.contents c.args.book.now).records in
    position_from_yields_List closed _ _ c.position.result c.position.ensures.ran (YieldsList-from_slice c.args.lines.now cc) (λ x b q k. search (rules, tests))
    ∙ position_from-zero closed c.args.lines.now
