use Rattle.std.proofs.Common.{◌∙◌, rules, tests}
use Rattle.std.proofs.lemmas.Iterator.{YieldsList-from_slice}
use Rattle.std.proofs.lemmas.Iterator.Adapters.{position_from-zero}
use Rattle.std.proofs.lemmas.Iterator.Consumers.{YieldsList-from_enumerate}
use Rattle.std.proofs.lemmas.Iterator.Search.{position_from_yields_List}
use Rattle.std.specs.List.{enumerate_from}
use Rattle.ledger.proofs.Scanning.{first_is_repeated, repeats}
use Rattle.ledger.proofs.lines.first_repeated.Goals as goal

pub returns : goal.returns
returns c =
    let ls = c.args.lines.now in
    position_from_yields_List (repeats ls) _ _ c.position.result c.position.ensures.ran (YieldsList-from_enumerate (YieldsList-from_slice ls cc) (cc)) (λ x b q k. search (rules, tests))
    ∙ position_from-zero (repeats ls) (enumerate_from 0 ls)
    ∙ first_is_repeated ls
