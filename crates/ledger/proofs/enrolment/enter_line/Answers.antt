use Rattle.std.proofs.Common.{true, sym, ap, ◌∙◌}
use Rattle.accounts.specs.Books.{takes, added}
use Rattle.ledger.specs.Lines.{enter}
use Rattle.ledger.proofs.Entering.{absent, takes_joining}
use Rattle.accounts.proofs.Locating.{missing}
use Rattle.accounts.proofs.Leaving.{left_as}
use Rattle.ledger.proofs.enrolment.enter_line.Goals as goal

pub returns-in-None : goal.returns-in-None
returns-in-None g c k fits s =
    let b = g.B.AccountBook in
    let rs = (b.contents c.args.book.now).records in
    let room = (b.contents c.args.book.now).room in
    let l = c.args.line.now in
    let none = sym (c.search.ensures s) ∙ c.in-None.is in
    let taken = c.add.ensures.answer s ∙ ap (takes rs room) c.joining.ensures ∙ takes_joining rs room l k fits (absent l.account rs none) in
    left_as (c.add.ensures.after s) (ap (λ a. added a rs c.joining.result) taken ∙ ap (added true rs) c.joining.ensures ∙ sym (ap (λ o. enter o rs l) (missing l.account rs none)))
